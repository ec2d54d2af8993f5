-- The classes of every state of a round, and the nodes that were taken out.
use Rattle.std.proofs.Common.{◌≡◌, ◌≢◌, ℕ, ◌<◌, Bool, true, false, not, ◌&&◌, ◌||◌, ◌⊎◌, inl, inr, refl, sym, ap, subst}
use Rattle.std.proofs.Common.{◌∙◌, ⊎_elim, List, [], ◌∷◌}
use Rattle.std.specs.Prelude.{nat_lt, nat_eq, ◌==◌, if◌then◌else◌}
use Rattle.std.proofs.lemmas.Bool.{ltb-true, lt-ltb}
use Rattle.std.proofs.lemmas.Bool.Decides.{eqb_tells}
use Rattle.tg_irc_definition.specs.declared.steps.Step.{Step}
use Rattle.tg_irc_definition.specs.declared.steps.Step.TheVariants.{Simplify, Same, Constrain, Coalesce, Freeze, Spill}
use Rattle.tg_irc_definition.specs.declared.moves.MoveState.{MoveState}
use Rattle.tg_irc_definition.specs.declared.moves.MoveState.TheVariants.{Coalesced, Constrained}
use Rattle.tg_irc_definition.specs.Graphs.{IsGraph, is_register, Pairs, without, merged}
use Rattle.tg_irc_definition.specs.States.{Problem, RoundState, start, low, remains}
use Rattle.tg_irc_definition.specs.Steps.{can, settle, freeze, take_out, after, after_all, AreTaken}
use Rattle.tg_irc_definition.specs.laws.Laws.{AreNodes, IsSound, HasClasses, is_stacked, PairsAreOfClasses}
use Rattle.tg_irc_definition.proofs.Deciding.{clash, both, and_true, either, or_left, or_right, tells, never, not_true}
use Rattle.tg_irc_definition.proofs.Deciding.{same_node, same_test}
use Rattle.tg_irc_definition.proofs.Counting.{stays_in, was_in}
use Rattle.tg_irc_definition.proofs.Invariants.{Merges, merges, sound_at_start, sound_after}

module _ (g : Problem) where
  pub classes_at_start : HasClasses g (start g)
  classes_at_start = record {
    remaining_is_own = λ x l r. refl;
    register_remains = λ x l r. lt-ltb _ _ l;
    alias_is_own = λ z. refl;
    alias_is_node = λ z l. l;
    alias_is_placed = λ z l. inl (lt-ltb _ _ l);
    stacked_is_gone = λ d h. cc;
    stacked_is_temporary = λ d h. cc;
    stacked_is_own = λ d h. refl;
  }

  classes_taken : (s : RoundState) (x : ℕ) → HasClasses g s → remains g s x ≡ true → HasClasses g (take_out g s x)
  classes_taken s x k r = record {
    remaining_is_own = λ y l h. k.remaining_is_own y l (was_in x y s.remaining h).1;
    register_remains = λ y l h. stays_in x y s.remaining (λ d. clash (subst (λ w. is_register w ≡ true) d h) temp)
        (k.register_remains y l h);
    alias_is_own = k.alias_is_own;
    alias_is_node = k.alias_is_node;
    alias_is_placed = λ z l. ⊎_elim
        (λ h. ⊎_elim (λ d. inr (or_left (x == s.alias z) _ (same_test x (s.alias z) (sym d.1))))
        (λ d. inl (stays_in x (s.alias z) s.remaining d.1 h)) (eqb_tells (s.alias z) x))
        (λ h. inr (or_right (x == s.alias z) _ h)) (k.alias_is_placed z l);
    stacked_is_gone = λ d h. ⊎_elim (λ e. never (λ t. (was_in x d s.remaining t).0 (sym (same_node x d e))))
        (λ e. never (λ t. clash (was_in x d s.remaining t).1 (k.stacked_is_gone d e)))
        (either (x == d) (is_stacked s d) h);
    stacked_is_temporary = λ d h. ⊎_elim (λ e. subst (λ w. is_register w ≡ false) (same_node x d e) temp)
        (λ e. k.stacked_is_temporary d e) (either (x == d) (is_stacked s d) h);
    stacked_is_own = λ d h. ⊎_elim
        (λ e. subst (λ w. s.alias w ≡ w) (same_node x d e) (k.remaining_is_own x here.0 here.1))
        (λ e. k.stacked_is_own d e) (either (x == d) (is_stacked s d) h);
  }
    where
      parts : ((nat_lt x g.graph.nodes && s.remaining x) ≡ true) × (not (is_register x) ≡ true)
      parts = both (nat_lt x g.graph.nodes && s.remaining x) (not (is_register x)) r

      temp : is_register x ≡ false
      temp = not_true parts.1

      here : (x < g.graph.nodes) × (s.remaining x ≡ true)
      here = let o = both (nat_lt x g.graph.nodes) (s.remaining x) parts.0 in (ltb-true x g.graph.nodes o.0, o.1)

  module _ (s : RoundState) (kept gone : ℕ) (sound : IsSound g s) (k : HasClasses g s) (m : Merges g s kept gone) where
    into : ℕ → ℕ
    into c = if c == gone then kept else c

    into_gone : (c : ℕ) → c ≡ gone → into c ≡ kept
    unfolding into
    into_gone c e = ap (λ t. if t then kept else c) (same_test c gone e)

    into_other : (c : ℕ) → c ≢ gone → into c ≡ c
    unfolding into
    into_other c d = ap (λ t. if t then kept else c) (never (λ h. d (same_node c gone h)))

    into_kept : into kept ≡ kept
    into_kept = into_other kept m.differ

    abbrev after_pairs : Pairs
    after_pairs = merged kept gone s.pairs

    -- a pair stays one
    into_pair : (a b : ℕ) → s.pairs a b ≡ true → after_pairs (into a) (into b) ≡ true
    into_pair a b h = by (eqb_tells a gone) (eqb_tells b gone)
      where
        by : ((nat_eq a gone ≡ true) × (a ≡ gone)) ⊎ ((nat_eq a gone ≡ false) × (a ≢ gone)) →
            ((nat_eq b gone ≡ true) × (b ≡ gone)) ⊎ ((nat_eq b gone ≡ false) × (b ≢ gone)) →
            after_pairs (into a) (into b) ≡ true
        by (inl e) (inl f) = absurd
            (clash (subst (λ w. s.pairs w gone ≡ true) e.1 (subst (λ w. s.pairs a w ≡ true) f.1 h))
            (sound.irreflexive gone))
        by (inl e) (inr f) =
            subst (λ w. after_pairs w (into b) ≡ true) (sym (into_gone a e.1))
            (subst (λ w. after_pairs kept w ≡ true) (sym (into_other b f.1))
            (or_left _ _ (or_right _ _
            (and_true (same_test kept kept refl) (subst (λ w. s.pairs w b ≡ true) e.1 h)))))
        by (inr e) (inl f) =
            subst (λ w. after_pairs w (into b) ≡ true) (sym (into_other a e.1))
            (subst (λ w. after_pairs a w ≡ true) (sym (into_gone b f.1))
            (or_right _ _ (and_true (same_test kept kept refl) (subst (λ w. s.pairs a w ≡ true) f.1 h))))
        by (inr e) (inr f) =
            subst (λ w. after_pairs w (into b) ≡ true) (sym (into_other a e.1))
            (subst (λ w. after_pairs a w ≡ true) (sym (into_other b f.1)) (or_left _ _ (or_left _ _ h)))

    classes_merged : (j : ℕ) (b : Bool) → HasClasses g (after g s (Coalesce j kept gone b))
    unfolding into
    classes_merged j b = record {
      remaining_is_own = λ x l h. let o = was_in gone x s.remaining h in let e = k.remaining_is_own x l o.1 in
          into_other (s.alias x) (λ d. o.0 (sym e ∙ d)) ∙ e;
      register_remains = λ x l h. stays_in gone x s.remaining
          (λ d. clash (subst (λ w. is_register w ≡ true) d h) m.gone_temporary) (k.register_remains x l h);
      alias_is_own = λ z. ⊎_elim
          (λ d. ap (λ w. into (s.alias w)) (into_gone (s.alias z) d.1) ∙
          (ap into (k.remaining_is_own kept m.kept_node m.kept_in) ∙ (into_kept ∙ sym (into_gone (s.alias z) d.1))))
          (λ d. ap (λ w. into (s.alias w)) (into_other (s.alias z) d.1) ∙ ap into (k.alias_is_own z))
          (eqb_tells (s.alias z) gone);
      alias_is_node = λ z l. ⊎_elim (λ d. subst (λ w. w < g.graph.nodes) (sym (into_gone (s.alias z) d.1)) m.kept_node)
          (λ d. subst (λ w. w < g.graph.nodes) (sym (into_other (s.alias z) d.1)) (k.alias_is_node z l))
          (eqb_tells (s.alias z) gone);
      alias_is_placed = λ z l. ⊎_elim
          (λ d. inl (subst (λ w. without gone s.remaining w ≡ true) (sym (into_gone (s.alias z) d.1))
          (stays_in gone kept s.remaining m.differ m.kept_in)))
          (λ d. ⊎_elim (λ h. inl
          (subst (λ w. without gone s.remaining w ≡ true) (sym (into_other (s.alias z) d.1))
          (stays_in gone (s.alias z) s.remaining d.1 h)))
          (λ h. inr (subst (λ w. is_stacked s w ≡ true) (sym (into_other (s.alias z) d.1)) h)) (k.alias_is_placed z l))
          (eqb_tells (s.alias z) gone);
      stacked_is_gone = λ d h. never (λ t. clash (was_in gone d s.remaining t).1 (k.stacked_is_gone d h));
      stacked_is_temporary = k.stacked_is_temporary;
      stacked_is_own = λ d h. let e = k.stacked_is_own d h in
          into_other (s.alias d)
          (λ q. clash m.gone_in (subst (λ w. s.remaining w ≡ false) (sym e ∙ q) (k.stacked_is_gone d h))) ∙ e;
    }

  -- nothing of this rests on the moves
  with_states : (s : RoundState) (states : ℕ → MoveState) → HasClasses g s → HasClasses g (record s { states = states })
  with_states s states k = record {
    remaining_is_own = k.remaining_is_own;
    register_remains = k.register_remains;
    alias_is_own = k.alias_is_own;
    alias_is_node = k.alias_is_node;
    alias_is_placed = k.alias_is_placed;
    stacked_is_gone = k.stacked_is_gone;
    stacked_is_temporary = k.stacked_is_temporary;
    stacked_is_own = k.stacked_is_own;
  }

  pub classes_after : (s : RoundState) (step : Step) → IsSound g s → HasClasses g s → can g s step ≡ true →
      HasClasses g (after g s step)
  classes_after s (Simplify x) d k c = classes_taken s x k
      (both (remains g s x) _ (both (remains g s x && low g s x) _ c).0).0
  classes_after s (Spill x) d k c = classes_taken (freeze g s x) x (with_states s (freeze g s x).states k)
      (both (remains g s x) _ c).0
  classes_after s (Coalesce j kept gone b) d k c = classes_merged s kept gone d k (merges g s j kept gone b d c) j b
  classes_after s (Same j) d k c = with_states s (settle g s j Coalesced).states k
  classes_after s (Constrain j) d k c = with_states s (settle g s j Constrained).states k
  classes_after s (Freeze x) d k c = with_states s (freeze g s x).states k

  -- a node that was taken out gets no member more
  pub no_more : (s : RoundState) (step : Step) (x y : ℕ) → IsSound g s → can g s step ≡ true → s.remaining x ≡ false →
      (after g s step).alias y ≡ x → (s.alias y ≡ x) × ((after g s step).remaining x ≡ false)
  no_more s (Simplify z) x y d c r e = (e, never (λ t. clash (was_in z x s.remaining t).1 r))
  no_more s (Spill z) x y d c r e = (e, never (λ t. clash (was_in z x s.remaining t).1 r))
  no_more s (Same j) x y d c r e = (e, r)
  no_more s (Constrain j) x y d c r e = (e, r)
  no_more s (Freeze z) x y d c r e = (e, r)
  no_more s (Coalesce j kept gone b) x y d c r e =
      let m = merges g s j kept gone b d c in
      (by m (tells (s.alias y == gone)), never (λ t. clash (was_in gone x s.remaining t).1 r))
    where
      by : Merges g s kept gone → ((s.alias y == gone) ≡ true) ⊎ ((s.alias y == gone) ≡ false) → s.alias y ≡ x
      by m (inl q) =
          absurd (clash m.kept_in
          (subst (λ w. s.remaining w ≡ false) (sym (subst (λ t. (if t then kept else s.alias y) ≡ x) q e)) r))
      by m (inr q) = subst (λ t. (if t then kept else s.alias y) ≡ x) q e

  pub none_joins : (s : RoundState) (steps : List Step) (x y : ℕ) → IsSound g s → AreTaken g s steps →
      s.remaining x ≡ false → (after_all g s steps).alias y ≡ x → s.alias y ≡ x
  none_joins s [] x y d t r e = e
  none_joins s (step ∷ steps) x y d t r e =
      let out : (after g s step).remaining x ≡ false = stays_out s step x r in
      (no_more s step x y d t.0.possible r
      (none_joins (after g s step) steps x y (sound_after g s step d t.0.possible) t.1 out e)).0
    where
      stays_out : (s : RoundState) (step : Step) (x : ℕ) → s.remaining x ≡ false → (after g s step).remaining x ≡ false
      stays_out s (Simplify z) x r = never (λ t. clash (was_in z x s.remaining t).1 r)
      stays_out s (Spill z) x r = never (λ t. clash (was_in z x s.remaining t).1 r)
      stays_out s (Coalesce j kept gone b) x r = never (λ t. clash (was_in gone x s.remaining t).1 r)
      stays_out s (Same j) x r = r
      stays_out s (Constrain j) x r = r
      stays_out s (Freeze z) x r = r

  -- what is stacked stays so
  stays_stacked : (s : RoundState) (step : Step) (x : ℕ) → is_stacked s x ≡ true → is_stacked (after g s step) x ≡ true
  stays_stacked s (Simplify z) x h = or_right (z == x) _ h
  stays_stacked s (Spill z) x h = or_right (z == x) _ h
  stays_stacked s (Coalesce j kept gone b) x h = h
  stays_stacked s (Same j) x h = h
  stays_stacked s (Constrain j) x h = h
  stays_stacked s (Freeze z) x h = h

  pub stacked_to_end : (s : RoundState) (steps : List Step) (x : ℕ) → is_stacked s x ≡ true →
      is_stacked (after_all g s steps) x ≡ true
  stacked_to_end s [] x h = h
  stacked_to_end s (step ∷ steps) x h = stacked_to_end (after g s step) steps x (stays_stacked s step x h)

  -- two nodes that interfere at the start are of classes that do
  abbrev Keeps : RoundState → Type 0
  Keeps s =
      (y z : ℕ) → y < g.graph.nodes → z < g.graph.nodes → g.graph.pairs y z ≡ true →
      s.pairs (s.alias y) (s.alias z) ≡ true

  keeps_after : (s : RoundState) (step : Step) → IsSound g s → HasClasses g s → can g s step ≡ true → Keeps s →
      Keeps (after g s step)
  unfolding into
  keeps_after s (Coalesce j kept gone b) d k c keeps = merged_keeps
    where
      m : Merges g s kept gone
      m = merges g s j kept gone b d c

      merged_keeps : Keeps (after g s (Coalesce j kept gone b))
      merged_keeps y z ly lz h = into_pair s kept gone d k m (s.alias y) (s.alias z) (keeps y z ly lz h)
  keeps_after s (Simplify x) d k c keeps = keeps
  keeps_after s (Spill x) d k c keeps = keeps
  keeps_after s (Same j) d k c keeps = keeps
  keeps_after s (Constrain j) d k c keeps = keeps
  keeps_after s (Freeze x) d k c keeps = keeps

  -- all this together
  pub record Holds (s : RoundState) : Type 0 where
    pub sound : IsSound g s
    pub classes : HasClasses g s
    pub keeps : Keeps s

  pub holds_at_start : IsGraph g.graph → AreNodes g → Holds (start g)
  holds_at_start graph nodes =
      record { sound = sound_at_start g graph nodes; classes = classes_at_start; keeps = λ y z ly lz h. h }

  pub holds_after : (s : RoundState) (step : Step) → Holds s → can g s step ≡ true → Holds (after g s step)
  holds_after s step h c = record {
    sound = sound_after g s step h.sound c;
    classes = classes_after s step h.sound h.classes c;
    keeps = keeps_after s step h.sound h.classes c h.keeps;
  }

  pub holds_all : (s : RoundState) (steps : List Step) → Holds s → AreTaken g s steps → Holds (after_all g s steps)
  holds_all s [] h t = h
  holds_all s (step ∷ steps) h t = holds_all (after g s step) steps (holds_after s step h t.0.possible) t.1

  pub holds_from_start : IsGraph g.graph → AreNodes g → (steps : List Step) → AreTaken g (start g) steps →
      Holds (after_all g (start g) steps)
  holds_from_start graph nodes steps t = holds_all (start g) steps (holds_at_start graph nodes) t

  -- a pair of the merged graph comes from a pair of the start
  record IsExact (s : RoundState) : Type 0 where
    comes : (a b : ℕ) → a < g.graph.nodes → b < g.graph.nodes → s.pairs a b ≡ true → (y z : ℕ) × (y < g.graph.nodes) ×
        (z < g.graph.nodes) × (s.alias y ≡ s.alias a) × (s.alias z ≡ s.alias b) × (g.graph.pairs y z ≡ true)

  exact_merged : (s : RoundState) (j kept gone : ℕ) (b : Bool) → HasClasses g s → Merges g s kept gone → IsExact s →
      IsExact (after g s (Coalesce j kept gone b))
  exact_merged s j kept gone b k m e = record { comes = comes }
    where
      into : ℕ → ℕ
      into c = if c == gone then kept else c

      at_gone : into (s.alias gone) ≡ into (s.alias kept)
      at_gone =
          ap into (k.remaining_is_own gone m.gone_node m.gone_in) ∙
          (ap (λ t. if t then kept else gone) (same_test gone gone refl) ∙ sym
          (ap into (k.remaining_is_own kept m.kept_node m.kept_in) ∙ ap (λ t. if t then kept else kept)
          (never (λ h. m.differ (same_node kept gone h)))))

      comes : (a c : ℕ) → a < g.graph.nodes → c < g.graph.nodes → merged kept gone s.pairs a c ≡ true → (y z : ℕ) ×
          (y < g.graph.nodes) × (z < g.graph.nodes) × (into (s.alias y) ≡ into (s.alias a)) ×
          (into (s.alias z) ≡ into (s.alias c)) × (g.graph.pairs y z ≡ true)
      comes a c la lc h =
          ⊎_elim (λ p. ⊎_elim (λ q. let r = e.comes a c la lc q in (r.0, r.1, r.2, r.3, ap into r.4, ap into r.5, r.6))
          (λ q. let o = both (a == kept) (s.pairs gone c) q in let r = e.comes gone c m.gone_node lc o.1 in (
            r.0,
            r.1,
            r.2,
            r.3,
            ap into r.4 ∙ (at_gone ∙ ap (λ w. into (s.alias w)) (sym (same_node a kept o.0))),
            ap into r.5,
            r.6,
          )) (either (s.pairs a c) (a == kept && s.pairs gone c) p))
          (λ p. let o = both (c == kept) (s.pairs a gone) p in let r = e.comes a gone la m.gone_node o.1 in (
            r.0,
            r.1,
            r.2,
            r.3,
            ap into r.4,
            ap into r.5 ∙ (at_gone ∙ ap (λ w. into (s.alias w)) (sym (same_node c kept o.0))),
            r.6,
          ))
          (either (s.pairs a c || (a == kept && s.pairs gone c)) (c == kept && s.pairs a gone) h)

  exact_after : (s : RoundState) (step : Step) → Holds s → can g s step ≡ true → IsExact s → IsExact (after g s step)
  exact_after s (Coalesce j kept gone b) h c e =
      exact_merged s j kept gone b h.classes (merges g s j kept gone b h.sound c) e
  exact_after s (Simplify x) h c e = record { comes = e.comes }
  exact_after s (Spill x) h c e = record { comes = e.comes }
  exact_after s (Same j) h c e = record { comes = e.comes }
  exact_after s (Constrain j) h c e = record { comes = e.comes }
  exact_after s (Freeze x) h c e = record { comes = e.comes }

  exact_all : (s : RoundState) (steps : List Step) → Holds s → AreTaken g s steps → IsExact s → IsExact (after_all g s steps)
  exact_all s [] h t e = e
  exact_all s (step ∷ steps) h t e =
      exact_all (after g s step) steps (holds_after s step h t.0.possible) t.1 (exact_after s step h t.0.possible e)

pub pairs_are_of_classes : PairsAreOfClasses
pairs_are_of_classes g steps graph nodes t =
    record {
      keeps = (holds_from_start g graph nodes steps t).keeps;
      exact = (exact_all g (start g) steps (holds_at_start g graph nodes) t
          (record { comes = λ a b la lb h. (a, b, la, lb, refl, refl, h) })).comes;
    }
