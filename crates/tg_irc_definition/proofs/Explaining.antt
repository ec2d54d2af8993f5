-- What becomes of each move of a round.
use Rattle.std.proofs.Common.{◌≡◌, ℕ, ◌<◌, Bool, true, false, not, ◌&&◌, ◌||◌, ◌⊎◌, inl, inr, refl, sym, ap, subst, ◌∙◌}
use Rattle.std.proofs.Common.{arith, ⊎_elim, List, [], ◌∷◌, length, Some}
use Rattle.std.specs.Prelude.{nat_lt, ◌==◌, if◌then◌else◌, slice_get}
use Rattle.std.specs.Bool.{beq}
use Rattle.std.proofs.lemmas.Bool.{lt-ltb}
use Rattle.std.proofs.lemmas.Option.{slice_get_within, get_or_from_slice_get}
use Rattle.tg_irc_definition.specs.declared.steps.Step.{Step}
use Rattle.tg_irc_definition.specs.declared.steps.Step.TheVariants.{Simplify, Same, Constrain, Coalesce, Freeze, Spill}
use Rattle.tg_irc_definition.specs.declared.moves.MoveState.{MoveState}
use Rattle.tg_irc_definition.specs.declared.moves.MoveState.TheVariants.{Coalesced, Constrained, Frozen}
use Rattle.tg_irc_definition.specs.Graphs.{is_register, some}
use Rattle.tg_irc_definition.specs.States.{Problem, RoundState, start, is_ready_or_waiting, remains, move_at, to, from, is_unsettled}
use Rattle.tg_irc_definition.specs.States.{touches}
use Rattle.tg_irc_definition.specs.Steps.{passes, is_same, is_constrained, is_safe, can, can_move, kind, settle}
use Rattle.tg_irc_definition.specs.Steps.{freeze, after, after_all, IsTaken, AreTaken}
use Rattle.tg_irc_definition.specs.Selection.{select}
use Rattle.tg_irc_definition.specs.laws.Laws.{IsFrozenAtLast, MovesAreExplained}
use Rattle.tg_irc_definition.proofs.Deciding.{clash, both, and_true, either, or_left, or_right, neither, tells, never, not_true}
use Rattle.tg_irc_definition.proofs.Deciding.{and_false, same_node, same_test, some_is}
use Rattle.tg_irc_definition.specs.laws.Laws.{StandsWell}
use Rattle.tg_irc_definition.proofs.Standing.{stands_at_start, stands_after, stands_either}
use Rattle.tg_irc_definition.proofs.Answering.{the_same, is_coloured, state_of}

module _ (g : Problem) where
  -- a step that settles the move, where one is possible
  record Settles (s : RoundState) : Type 0 where
    step : Step
    of_kind : kind g step ≡ 1
    possible : can g s step ≡ true

  flag : (b : Bool) → beq b b ≡ true
  flag true = refl
  flag false = refl

  some_move : (s : RoundState) → StandsWell g s → (i : ℕ) → can_move g s i ≡ true → Settles s
  some_move s w i h = by (both (is_unsettled g s i) _ h)
    where
      fixed : Bool
      fixed = not (is_register (to g s i) || is_register (from g s i))

      fixed_back : Bool
      fixed_back = not (is_register (from g s i) || is_register (to g s i))

      merging : is_unsettled g s i ≡ true → is_safe g s i ≡ true → Settles s
      merging u e =
          let differ = not (is_same g s i) in
          let c = both differ (not (is_constrained g s i))
          (both (differ && not (is_constrained g s i)) (passes g s (to g s i) (from g s i)) e).0 in
          let fixed_both = is_register (to g s i) && is_register (from g s i) in
          let a = not_true {b = is_constrained g s i} c.1 in
          let d = (neither (s.pairs (to g s i) (from g s i)) fixed_both
          (and_false differ (s.pairs (to g s i) (from g s i) || fixed_both) a c.0)).1 in
          ⊎_elim (λ k. record {
            step = Coalesce i (to g s i) (from g s i) fixed;
            of_kind = refl;
            possible = and_true (and_true
                (and_true (and_true u e)
                (or_left _ _ (and_true (same_test (to g s i) _ refl) (same_test (from g s i) _ refl)))) k) (flag fixed);
          }) (λ k. record {
            step = Coalesce i (from g s i) (to g s i) fixed_back;
            of_kind = refl;
            possible = and_true (and_true
                (and_true (and_true u e)
                (or_right _ _ (and_true (same_test (to g s i) _ refl) (same_test (from g s i) _ refl)))) k)
                (flag fixed_back);
          }) (stands_either g s w (to g s i) (from g s i) d)

      by : (is_unsettled g s i ≡ true) × ((is_same g s i || is_constrained g s i || is_safe g s i) ≡ true) → Settles s
      by p =
          ⊎_elim (λ q. ⊎_elim (λ e. record { step = Same i; of_kind = refl; possible = and_true p.0 e })
          (λ e. record { step = Constrain i; of_kind = refl; possible = and_true p.0 e }) (either _ _ q))
          (λ e. merging p.0 e) (either _ _ p.1)

  -- at a Freeze or a Spill no move passes its test
  none_moves : (s : RoundState) (step : Step) → StandsWell g s → IsTaken g s step → 1 < kind g step → (i : ℕ) →
      can_move g s i ≡ false
  none_moves s step w t l i =
      never (λ h. let m = some_move s w i h in let k = m.of_kind in clash m.possible (t.first m.step (omega arith)))

  -- which move a step settles
  settled_which : (s : RoundState) (j i : ℕ) (state : MoveState) → is_unsettled g s i ≡ true →
      is_unsettled g (settle g s j state) i ≡ false → i ≡ j
  settled_which s j i state u v =
      by (tells (i == j))
    where
      inside : nat_lt i (length g.moves) ≡ true
      inside = (both (nat_lt i (length g.moves)) (is_ready_or_waiting (s.states i)) u).0

      by : ((i == j) ≡ true) ⊎ ((i == j) ≡ false) → i ≡ j
      by (inl e) = same_node i j e
      by (inr e) =
          absurd (clash (and_true inside
          (subst (λ t. is_ready_or_waiting (if t then state else s.states i) ≡ true) (sym e)
          (both (nat_lt i (length g.moves)) (is_ready_or_waiting (s.states i)) u).1)) v)

  settled_as : (s : RoundState) (j i : ℕ) (state : MoveState) → i ≡ j → (settle g s j state).states i ≡ state
  settled_as s j i state e = ap (λ t. if t then state else s.states i) (same_test i j e)

  frozen_which : (s : RoundState) (x i : ℕ) → is_unsettled g s i ≡ true → is_unsettled g (freeze g s x) i ≡ false →
      (freeze g s x).states i ≡ Frozen
  frozen_which s x i u v = by (tells (touches g s x i))
    where
      p : (nat_lt i (length g.moves) ≡ true) × (is_ready_or_waiting (s.states i) ≡ true)
      p = both (nat_lt i (length g.moves)) (is_ready_or_waiting (s.states i)) u

      by : (touches g s x i ≡ true) ⊎ (touches g s x i ≡ false) → (freeze g s x).states i ≡ Frozen
      by (inl e) = ap (λ t. if t then Frozen else s.states i) e
      by (inr e) =
          absurd (clash (and_true p.0
          (subst (λ t. is_ready_or_waiting (if t then Frozen else s.states i) ≡ true) (sym e) p.1)) v)

  data Settled (s : RoundState) (step : Step) (i : ℕ) : Type 0 where
    as_same : to g (after g s step) i ≡ from g (after g s step) i → Settled s step i
    as_constrained : (after g s step).states i ≡ Constrained → Settled s step i
    as_frozen : (after g s step).states i ≡ Frozen → 1 < kind g step → Settled s step i

  merged_ends : (kept gone a b : ℕ) → ((a == kept && b == gone) || (a == gone && b == kept)) ≡ true →
      (if a == gone then kept else a) ≡ (if b == gone then kept else b)
  merged_ends kept gone a b h =
      ⊎_elim (λ p. let q = both (a == kept) (b == gone) p in at_kept a (same_node _ _ q.0) ∙ sym (at_gone b q.1))
      (λ p. let q = both (a == gone) (b == kept) p in at_gone a q.0 ∙ sym (at_kept b (same_node _ _ q.1)))
      (either _ _ h)
    where
      at_gone : (c : ℕ) → (c == gone) ≡ true → (if c == gone then kept else c) ≡ kept
      at_gone c e = ap (λ t. if t then kept else c) e

      at_kept : (c : ℕ) → c ≡ kept → (if c == gone then kept else c) ≡ kept
      at_kept c e = by (c == gone)
        where
          by : (t : Bool) → (if t then kept else c) ≡ kept
          by true = refl
          by false = e

  settled_by : (s : RoundState) (step : Step) (i : ℕ) → can g s step ≡ true → is_unsettled g s i ≡ true →
      is_unsettled g (after g s step) i ≡ false → Settled s step i
  settled_by s (Simplify x) i c u v = absurd (clash u v)
  settled_by s (Same j) i c u v =
      let e = settled_which s j i Coalesced u v in
      as_same (subst (λ k. to g s k ≡ from g s k) (sym e)
      (same_node _ _ (both (is_unsettled g s j) (is_same g s j) c).1))
  settled_by s (Constrain j) i c u v = as_constrained
      (settled_as s j i Constrained (settled_which s j i Constrained u v))
  settled_by s (Coalesce j kept gone b) i c u v =
      let e = settled_which s j i Coalesced u v in
      let ends = (both (is_unsettled g s j && is_safe g s j) _ (both _ _ (both _ _ c).0).0).1 in
      as_same (subst (λ k. to g (after g s (Coalesce j kept gone b)) k ≡ from g (after g s (Coalesce j kept gone b)) k)
      (sym e) (merged_ends kept gone (to g s j) (from g s j) ends))
  settled_by s (Freeze x) i c u v = as_frozen (frozen_which s x i u v) (omega arith)
  settled_by s (Spill x) i c u v = as_frozen (frozen_which s x i u v) (omega arith)

  -- what is settled stays so, and what is of one class stays so
  not_settled : (s : RoundState) (j i : ℕ) (state : MoveState) → is_unsettled g s j ≡ true →
      is_ready_or_waiting (s.states i) ≡ false → (settle g s j state).states i ≡ s.states i
  not_settled s j i state u h =
      ap (λ t. if t then state else s.states i)
      (never (λ e. clash (subst (λ k. is_ready_or_waiting (s.states k) ≡ true) (sym (same_node i j e))
      (both (nat_lt j (length g.moves)) _ u).1) h))

  not_frozen : (s : RoundState) (x i : ℕ) → is_ready_or_waiting (s.states i) ≡ false → (freeze g s x).states i ≡ s.states i
  not_frozen s x i h =
      ap (λ t. if t then Frozen else s.states i)
      (never (λ e. clash (both (nat_lt i (length g.moves)) (is_ready_or_waiting (s.states i))
      (both (is_unsettled g s i) _ e).0).1 h))

  stays_settled : (s : RoundState) (step : Step) (i : ℕ) → can g s step ≡ true → is_ready_or_waiting (s.states i) ≡ false →
      (after g s step).states i ≡ s.states i
  stays_settled s (Simplify x) i c h = refl
  stays_settled s (Same j) i c h = not_settled s j i Coalesced (both (is_unsettled g s j) _ c).0 h
  stays_settled s (Constrain j) i c h = not_settled s j i Constrained (both (is_unsettled g s j) _ c).0 h
  stays_settled s (Coalesce j kept gone b) i c h =
      not_settled s j i Coalesced (both (is_unsettled g s j) _ (both _ _ (both _ _ (both _ _ c).0).0).0).0 h
  stays_settled s (Freeze x) i c h = not_frozen s x i h
  stays_settled s (Spill x) i c h = not_frozen s x i h

  stays_same : (s : RoundState) (step : Step) (x y : ℕ) → s.alias x ≡ s.alias y →
      (after g s step).alias x ≡ (after g s step).alias y
  stays_same s (Coalesce j kept gone b) x y e = ap (λ c. if c == gone then kept else c) e
  stays_same s (Simplify z) x y e = e
  stays_same s (Same j) x y e = e
  stays_same s (Constrain j) x y e = e
  stays_same s (Freeze z) x y e = e
  stays_same s (Spill z) x y e = e

  settled_to_end : (s : RoundState) (steps : List Step) (i : ℕ) → AreTaken g s steps →
      is_ready_or_waiting (s.states i) ≡ false → (after_all g s steps).states i ≡ s.states i
  settled_to_end s [] i t h = refl
  settled_to_end s (step ∷ steps) i t h =
      let e = stays_settled s step i t.0.possible h in
      settled_to_end (after g s step) steps i t.1 (subst (λ m. is_ready_or_waiting m ≡ false) (sym e) h) ∙ e

  pub same_to_end : (s : RoundState) (steps : List Step) (x y : ℕ) → s.alias x ≡ s.alias y →
      (after_all g s steps).alias x ≡ (after_all g s steps).alias y
  same_to_end s [] x y e = e
  same_to_end s (step ∷ steps) x y e = same_to_end (after g s step) steps x y (stays_same s step x y e)

  -- what becomes of an unsettled move
  data Fate (s : RoundState) (steps : List Step) (i : ℕ) : Type 0 where
    left_open : is_unsettled g (after_all g s steps) i ≡ true → Fate s steps i
    one_class : to g (after_all g s steps) i ≡ from g (after_all g s steps) i → Fate s steps i
    constrained : (after_all g s steps).states i ≡ Constrained → Fate s steps i
    frozen : IsFrozenAtLast g s steps i → Fate s steps i

  later : (s : RoundState) (step : Step) (steps : List Step) (i : ℕ) → Fate (after g s step) steps i →
      Fate s (step ∷ steps) i
  later s step steps i (left_open h) = left_open h
  later s step steps i (one_class h) = one_class h
  later s step steps i (constrained h) = constrained h
  later s step steps i (frozen f) =
      frozen (record {
        earlier = step ∷ f.earlier;
        step = f.step;
        later = f.later;
        whole = ap (λ l. step ∷ l) f.whole;
        unsettled_before = f.unsettled_before;
        frozen_after = f.frozen_after;
        no_simplify = f.no_simplify;
        no_move = f.no_move;
      })

  fate : (s : RoundState) (steps : List Step) (i : ℕ) → StandsWell g s → AreTaken g s steps → is_unsettled g s i ≡ true →
      Fate s steps i
  fate s [] i w t u = left_open u
  fate s (step ∷ steps) i w t u =
      by (tells (is_unsettled g (after g s step) i))
      (fate (after g s step) steps i (stands_after g s step w t.0.possible) t.1)
    where
      closed : is_unsettled g (after g s step) i ≡ false → is_ready_or_waiting ((after g s step).states i) ≡ false
      closed v = and_false (nat_lt i (length g.moves)) _ v
          (both (nat_lt i (length g.moves)) (is_ready_or_waiting (s.states i)) u).0

      settled : is_unsettled g (after g s step) i ≡ false → Settled s step i → Fate s (step ∷ steps) i
      settled v (as_same e) = one_class (same_to_end (after g s step) steps (move_at g s i).to (move_at g s i).from e)
      settled v (as_constrained e) = constrained (settled_to_end (after g s step) steps i t.1 (closed v) ∙ e)
      settled v (as_frozen e l) =
          frozen (record {
            earlier = [];
            step = step;
            later = steps;
            whole = refl;
            unsettled_before = u;
            frozen_after = e;
            no_simplify = λ x. t.0.first (Simplify x) (omega arith);
            no_move = none_moves s step w t.0 l;
          })

      by : (is_unsettled g (after g s step) i ≡ true) ⊎ (is_unsettled g (after g s step) i ≡ false) →
          (is_unsettled g (after g s step) i ≡ true → Fate (after g s step) steps i) → Fate s (step ∷ steps) i
      by (inl v) r = later s step steps i (r v)
      by (inr v) r = settled v (settled_by s step i t.0.possible u v)

pub moves_are_explained : MovesAreExplained
moves_are_explained g round nodes r i a b m at ca cb differ =
    by (fate g (start g) round.steps i (stands_at_start g) r.steps (and_true (lt-ltb i (length g.moves) inside) refl))
  where
    end : RoundState
    end = after_all g (start g) round.steps

    inside : i < length g.moves
    inside = slice_get_within g.moves i m at

    is_move : move_at g end i ≡ m
    is_move = get_or_from_slice_get g.moves i m (record { to = 0; from = 0 }) at

    ends : (m.to < g.graph.nodes) × (m.from < g.graph.nodes)
    ends = subst (λ k. (k.to < g.graph.nodes) × (k.from < g.graph.nodes)) is_move
        (nodes i (record { to = 0; from = 0 }) inside)

    by : Fate g (start g) round.steps i → (slice_get round.states i ≡ Some Constrained) ⊎
        IsFrozenAtLast g (start g) round.steps i
    by (left_open h) = absurd
        (clash (or_right (some (remains g end) g.graph.nodes) _
        ((some_is (is_unsettled g end) (length g.moves)).1 (i, inside, h))) (not_true r.over))
    by (one_class h) =
        absurd (differ (the_same
        (sym (is_coloured g round r m.to a ends.0 ca) ∙
        (ap (select g end).colour (subst (λ k. end.alias k.to ≡ end.alias k.from) is_move h) ∙
        is_coloured g round r m.from b ends.1 cb))))
    by (constrained h) = inl
        (state_of g round r i inside ∙ ap Some h)
    by (frozen f) = inr f
