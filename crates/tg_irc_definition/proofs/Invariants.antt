-- What holds of every state of a round.
use Rattle.std.proofs.Common.{◌≡◌, ◌≢◌, ℕ, ◌<◌, Bool, true, false, not, ◌&&◌, ◌||◌, ◌⊎◌, inl, inr, refl, sym, subst}
use Rattle.std.proofs.Common.{◌∙◌, arith, ⊎_elim, length}
use Rattle.std.specs.Prelude.{nat_lt, ◌==◌, if◌then◌else◌}
use Rattle.std.proofs.lemmas.Bool.{ltb-true, lt-ltb}
use Rattle.tg_irc_definition.specs.declared.steps.Step.{Step}
use Rattle.tg_irc_definition.specs.declared.steps.Step.TheVariants.{Simplify, Same, Constrain, Coalesce, Freeze, Spill}
use Rattle.tg_irc_definition.specs.declared.moves.MoveState.{MoveState}
use Rattle.tg_irc_definition.specs.declared.moves.MoveState.TheVariants.{Coalesced, Constrained}
use Rattle.tg_irc_definition.specs.Graphs.{colour_count, is_register, Pairs, count, without, merged, IsGraph}
use Rattle.tg_irc_definition.specs.States.{Problem, RoundState, start, low, remains, to, from, is_unsettled, touches}
use Rattle.tg_irc_definition.specs.Steps.{briggs, george, passes, is_same, is_constrained, is_safe, stands_under, can, after, settle, freeze, take_out}
use Rattle.tg_irc_definition.specs.laws.Laws.{AreNodes, IsSound}
use Rattle.tg_irc_definition.proofs.Deciding.{clash, both, and_true, either, or_left, or_right, or_swap, neither, tells, never}
use Rattle.tg_irc_definition.proofs.Deciding.{not_true, from_false, and_false, same_node, same_test}
use Rattle.tg_irc_definition.proofs.Counting.{count_le, stays_in}
use Rattle.tg_irc_definition.proofs.Settling.{frozen_is, settled_at, elsewhere, not_touched, unrelated}

module _ (g : Problem) where
  pub sound_at_start : IsGraph g.graph → AreNodes g → IsSound g (start g)
  sound_at_start h nodes = record {
    symmetric = h.symmetric;
    irreflexive = h.irreflexive;
    to_remains = λ i u. let l = (nodes i (record { to = 0; from = 0 }) (inside i u)).0 in (l, lt-ltb _ _ l);
    from_remains = λ i u. let l = (nodes i (record { to = 0; from = 0 }) (inside i u)).1 in (l, lt-ltb _ _ l);
  }
    where
      inside : (i : ℕ) → is_unsettled g (start g) i ≡ true → i < length g.moves
      inside i u = ltb-true i (length g.moves) (both (nat_lt i (length g.moves)) _ u).0

  -- what a Coalesce step is known to merge
  pub record Merges (s : RoundState) (kept gone : ℕ) : Type 0 where
    pub kept_node : kept < g.graph.nodes
    pub kept_in : s.remaining kept ≡ true
    pub gone_node : gone < g.graph.nodes
    pub gone_in : s.remaining gone ≡ true
    pub differ : kept ≢ gone
    pub no_pair : s.pairs kept gone ≡ false
    pub gone_temporary : is_register gone ≡ false
    pub test : passes g s kept gone ≡ true

  swapped_briggs : (s : RoundState) (x y : ℕ) → briggs g s x y ≡ true → briggs g s y x ≡ true
  swapped_briggs s x y h =
      let l = ltb-true _ colour_count h in
      let c = count_le (λ z. s.remaining z && (s.pairs y z || s.pairs x z) && not (low g s z))
      (λ z. s.remaining z && (s.pairs x z || s.pairs y z) && not (low g s z)) g.graph.nodes
      (λ z l t. let o = both (s.remaining z && (s.pairs y z || s.pairs x z)) (not (low g s z)) t in
      let q = both (s.remaining z) (s.pairs y z || s.pairs x z) o.0 in
      and_true (and_true q.0 (or_swap (s.pairs y z) (s.pairs x z) q.1)) o.1) in
      lt-ltb (count (λ z. s.remaining z && (s.pairs y z || s.pairs x z) && not (low g s z)) g.graph.nodes) colour_count
      (omega arith)

  swapped_test : (s : RoundState) (x y : ℕ) → (is_register x && is_register y) ≡ false → passes g s x y ≡ true →
      passes g s y x ≡ true
  swapped_test s x y apart h = by (is_register x) (is_register y) apart h
    where
      by : (a b : Bool) → (a && b) ≡ false →
          (if a then george g s x y else if b then george g s y x else briggs g s x y) ≡ true →
          (if b then george g s y x else if a then george g s x y else briggs g s y x) ≡ true
      by true true e h = cc
      by true false e h = h
      by false true e h = h
      by false false e h = swapped_briggs s x y h

  pub merges : (s : RoundState) (j kept gone : ℕ) (b : Bool) → IsSound g s → can g s (Coalesce j kept gone b) ≡ true →
      Merges s kept gone
  merges s j kept gone b sound c =
      by (⊎_elim (λ p. let q = both (to g s j == kept) (from g s j == gone) p in
      inl (same_node _ _ q.0, same_node _ _ q.1)) (λ p. let q = both (to g s j == gone) (from g s j == kept) p in
      inr (same_node _ _ q.1, same_node _ _ q.0))
      (either (to g s j == kept && from g s j == gone) (to g s j == gone && from g s j == kept) c2.1))
    where
      x : ℕ
      x = to g s j

      y : ℕ
      y = from g s j

      c1 : ((is_unsettled g s j && is_safe g s j && ((x == kept && y == gone) || (x == gone && y == kept))) ≡ true) ×
          (stands_under g s kept gone ≡ true)
      c1 = both _ (stands_under g s kept gone) (both _ _ c).0

      c2 : ((is_unsettled g s j && is_safe g s j) ≡ true) ×
          (((x == kept && y == gone) || (x == gone && y == kept)) ≡ true)
      c2 = both (is_unsettled g s j && is_safe g s j) _ c1.0

      c3 : (is_unsettled g s j ≡ true) × (is_safe g s j ≡ true)
      c3 = both (is_unsettled g s j) (is_safe g s j) c2.0

      c4 : ((not (is_same g s j) && not (is_constrained g s j)) ≡ true) × (passes g s x y ≡ true)
      c4 = both (not (is_same g s j) && not (is_constrained g s j)) (passes g s x y) c3.1

      c5 : (not (is_same g s j) ≡ true) × (not (is_constrained g s j) ≡ true)
      c5 = both (not (is_same g s j)) (not (is_constrained g s j)) c4.0

      free : (s.pairs x y ≡ false) × ((is_register x && is_register y) ≡ false)
      free =
          neither (s.pairs x y) (is_register x && is_register y)
          (and_false (not (is_same g s j)) _ (not_true c5.1) c5.0)

      temporary : (is_register kept && is_register gone) ≡ false → is_register gone ≡ false
      temporary e =
          never (λ h. ⊎_elim (λ p. clash (and_true p h) e)
          (λ p. clash h (not_true (both (not (is_register gone)) _ p).0)) (either (is_register kept) _ c1.1))

      apart : x ≢ y
      apart e = clash (same_test x y e) (not_true c5.0)

      temporary_from : x ≡ kept → y ≡ gone → is_register y ≡ false
      temporary_from e f =
          subst (λ w. is_register w ≡ false) (sym f)
          (temporary (subst (λ w. (is_register w && is_register gone) ≡ false) e
          (subst (λ w. (is_register x && is_register w) ≡ false) f free.1)))

      swap_false : (p q : Bool) → (p && q) ≡ false → (q && p) ≡ false
      swap_false true true e = e
      swap_false true false e = refl
      swap_false false true e = refl
      swap_false false false e = refl

      temporary_to : y ≡ kept → x ≡ gone → is_register x ≡ false
      temporary_to e f =
          subst (λ w. is_register w ≡ false) (sym f)
          (temporary (subst (λ w. (is_register w && is_register gone) ≡ false) e
          (subst (λ w. (is_register y && is_register w) ≡ false) f
          (swap_false (is_register x) (is_register y) free.1))))

      by : ((x ≡ kept) × (y ≡ gone)) ⊎ ((y ≡ kept) × (x ≡ gone)) → Merges s kept gone
      by (inl e) =
          subst (λ k. Merges s k gone) e.0 (subst (λ w. Merges s x w) e.1 (record {
            kept_node = (sound.to_remains j c3.0).0;
            kept_in = (sound.to_remains j c3.0).1;
            gone_node = (sound.from_remains j c3.0).0;
            gone_in = (sound.from_remains j c3.0).1;
            differ = apart;
            no_pair = free.0;
            gone_temporary = temporary_from e.0 e.1;
            test = c4.1;
          }))
      by (inr e) =
          subst (λ k. Merges s k gone) e.0 (subst (λ w. Merges s y w) e.1 (record {
            kept_node = (sound.from_remains j c3.0).0;
            kept_in = (sound.from_remains j c3.0).1;
            gone_node = (sound.to_remains j c3.0).0;
            gone_in = (sound.to_remains j c3.0).1;
            differ = λ d. apart (sym d);
            no_pair = sound.symmetric y x ∙ free.0;
            gone_temporary = temporary_to e.0 e.1;
            test = swapped_test s x y free.1 c4.1;
          }))

  -- what holds of every state goes on to hold
  merged_symmetric : (kept gone : ℕ) (e : Pairs) → ((x y : ℕ) → e x y ≡ e y x) → (x y : ℕ) →
      merged kept gone e x y ≡ true → merged kept gone e y x ≡ true
  merged_symmetric kept gone e sym_e x y h =
      ⊎_elim (λ p. ⊎_elim (λ q. or_left _ _ (or_left _ _ (sym_e y x ∙ q)))
      (λ q. let o = both (x == kept) (e gone y) q in or_right _ _ (and_true o.0 (sym_e y gone ∙ o.1)))
      (either (e x y) (x == kept && e gone y) p)) (λ p. let o = both (y == kept) (e x gone) p in
      or_left _ _ (or_right _ _ (and_true o.0 (sym_e gone x ∙ o.1))))
      (either (e x y || (x == kept && e gone y)) (y == kept && e x gone) h)

  same_tests : (p q : Bool) → (p ≡ true → q ≡ true) → (q ≡ true → p ≡ true) → p ≡ q
  same_tests true q f h = sym (f refl)
  same_tests false true f h = h refl
  same_tests false false f h = refl

  sound_merged : (s : RoundState) (j kept gone : ℕ) (b : Bool) → IsSound g s → Merges s kept gone →
      IsSound g (after g s (Coalesce j kept gone b))
  sound_merged s j kept gone b sound m = record {
    symmetric = λ x y. same_tests _ _ (merged_symmetric kept gone s.pairs sound.symmetric x y)
        (merged_symmetric kept gone s.pairs sound.symmetric y x);
    irreflexive = λ x. never
        (λ h. ⊎_elim (λ p. ⊎_elim (λ q. clash q (sound.irreflexive x))
        (λ q. let o = both (x == kept) (s.pairs gone x) q in
        clash (subst (λ w. s.pairs gone w ≡ true) (same_node _ _ o.0) o.1) (sound.symmetric gone kept ∙ m.no_pair))
        (either (s.pairs x x) (x == kept && s.pairs gone x) p))
        (λ p. let o = both (x == kept) (s.pairs x gone) p in
        clash (subst (λ w. s.pairs w gone ≡ true) (same_node _ _ o.0) o.1) m.no_pair)
        (either (s.pairs x x || (x == kept && s.pairs gone x)) (x == kept && s.pairs x gone) h));
    to_remains = λ i u. moved (to g s i) (sound.to_remains i (settled_at g s j i Coalesced refl u));
    from_remains = λ i u. moved (from g s i) (sound.from_remains i (settled_at g s j i Coalesced refl u));
  }
    where
      moved : (c : ℕ) → (c < g.graph.nodes) × (s.remaining c ≡ true) →
          ((if c == gone then kept else c) < g.graph.nodes) ×
          (without gone s.remaining (if c == gone then kept else c) ≡ true)
      moved c h = by (tells (c == gone))
        where
          by : ((c == gone) ≡ true) ⊎ ((c == gone) ≡ false) → ((if c == gone then kept else c) < g.graph.nodes) ×
              (without gone s.remaining (if c == gone then kept else c) ≡ true)
          by (inl e) =
              subst (λ t. ((if t then kept else c) < g.graph.nodes) ×
              (without gone s.remaining (if t then kept else c) ≡ true)) (sym e)
              (m.kept_node, stays_in gone kept s.remaining m.differ m.kept_in)
          by (inr e) =
              subst (λ t. ((if t then kept else c) < g.graph.nodes) ×
              (without gone s.remaining (if t then kept else c) ≡ true)) (sym e) (h.0, and_true (from_false e) h.1)

  keeps_ends : (s : RoundState) (x c : ℕ) → c ≢ x → (c < g.graph.nodes) × (s.remaining c ≡ true) → (c < g.graph.nodes) ×
      (without x s.remaining c ≡ true)
  keeps_ends s x c d h = (h.0, stays_in x c s.remaining d h.1)

  -- a step that settles moves and does no more
  sound_settled : (s : RoundState) (states : ℕ → MoveState) → IsSound g s →
      ((i : ℕ) → is_unsettled g (record s { states = states }) i ≡ true → is_unsettled g s i ≡ true) →
      IsSound g (record s { states = states })
  sound_settled s states k was = record {
    symmetric = k.symmetric;
    irreflexive = k.irreflexive;
    to_remains = λ i u. k.to_remains i (was i u);
    from_remains = λ i u. k.from_remains i (was i u);
  }

  -- a node taken out that no unsettled move touches
  sound_taken_out : (s : RoundState) (x : ℕ) → IsSound g s →
      ((i : ℕ) → is_unsettled g s i ≡ true → touches g s x i ≡ false) → IsSound g (take_out g s x)
  sound_taken_out s x k alone = record {
    symmetric = k.symmetric;
    irreflexive = k.irreflexive;
    to_remains = λ i u. keeps_ends s x (to g s i) (elsewhere g s x i u (alone i u)).0 (k.to_remains i u);
    from_remains = λ i u. keeps_ends s x (from g s i) (elsewhere g s x i u (alone i u)).1 (k.from_remains i u);
  }

  sound_frozen : (s : RoundState) (x : ℕ) → IsSound g s → IsSound g (freeze g s x)
  sound_frozen s x k = sound_settled s (freeze g s x).states k (frozen_is g s x)

  pub sound_after : (s : RoundState) (step : Step) → IsSound g s → can g s step ≡ true → IsSound g (after g s step)
  sound_after s (Simplify x) k c =
      sound_taken_out s x k (λ i u. unrelated g s x i (not_true (both (remains g s x && low g s x) _ c).1))
  sound_after s (Spill x) k c = sound_taken_out (freeze g s x) x (sound_frozen s x k) (λ i u. never
      (λ t. clash (and_true (frozen_is g s x i u) (both (is_unsettled g (freeze g s x) i) _ t).1)
      (not_touched g s x i u)))
  sound_after s (Coalesce j kept gone b) k c = sound_merged s j kept gone b k (merges s j kept gone b k c)
  sound_after s (Same j) k c =
      sound_settled s (settle g s j Coalesced).states k (λ i u. settled_at g s j i Coalesced refl u)
  sound_after s (Constrain j) k c =
      sound_settled s (settle g s j Constrained).states k (λ i u. settled_at g s j i Constrained refl u)
  sound_after s (Freeze x) k c = sound_frozen s x k
