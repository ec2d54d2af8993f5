-- Each step of a round leaves less to do.
use Rattle.std.proofs.Common.{◌≡◌, ℕ, ◌<◌, ◌≤◌, Bool, true, false, not, ◌&&◌, refl, subst, arith, length}
use Rattle.std.specs.Prelude.{nat_lt, ◌==◌, if◌then◌else◌}
use Rattle.std.proofs.lemmas.Bool.{ltb-true}
use Rattle.tg_irc_definition.specs.declared.steps.Step.{Step}
use Rattle.tg_irc_definition.specs.declared.steps.Step.TheVariants.{Simplify, Same, Constrain, Coalesce, Freeze, Spill}
use Rattle.tg_irc_definition.specs.declared.moves.MoveState.{MoveState}
use Rattle.tg_irc_definition.specs.declared.moves.MoveState.TheVariants.{Coalesced, Constrained, Frozen}
use Rattle.tg_irc_definition.specs.Graphs.{is_register, count, without}
use Rattle.tg_irc_definition.specs.States.{Problem, RoundState, is_ready_or_waiting, low, remains, is_unsettled, touches}
use Rattle.tg_irc_definition.specs.States.{is_move_related}
use Rattle.tg_irc_definition.specs.Steps.{is_safe, can, settle, freeze, take_out, after}
use Rattle.tg_irc_definition.specs.laws.Laws.{work_left, StepsShrink}
use Rattle.tg_irc_definition.proofs.Deciding.{clash, both, and_true, never, same_test, some_is}
use Rattle.tg_irc_definition.proofs.Counting.{count_le, was_in, count_less}

module _ (g : Problem) (s : RoundState) where
  fewer_remain : (x : ℕ) → remains g s x ≡ true → count (remains g (take_out g s x)) g.graph.nodes < count
      (remains g s) g.graph.nodes
  fewer_remain x r =
      count_less (remains g s) (remains g (take_out g s x)) x g.graph.nodes inside r
      (never (λ h. (was_in x x s.remaining
      (both (nat_lt x g.graph.nodes) _ (both (nat_lt x g.graph.nodes && without x s.remaining x) _ h).0).1).0 refl))
      (λ y l h. let a = both (nat_lt y g.graph.nodes && without x s.remaining y) (not (is_register y)) h in
      let b = both (nat_lt y g.graph.nodes) (without x s.remaining y) a.0 in
      and_true (and_true b.0 (was_in x y s.remaining b.1).1) a.1)
    where
      inside : x < g.graph.nodes
      inside = ltb-true x g.graph.nodes
          (both (nat_lt x g.graph.nodes) (s.remaining x) (both (nat_lt x g.graph.nodes && s.remaining x) _ r).0).0

  still_open : (i j : ℕ) (state : MoveState) → is_ready_or_waiting state ≡ false →
      is_unsettled g (settle g s i state) j ≡ true → is_unsettled g s j ≡ true
  still_open i j state e h = let p = both (nat_lt j (length g.moves)) _ h in and_true p.0 (by (j == i) p.1)
    where
      by : (b : Bool) → is_ready_or_waiting (if b then state else s.states j) ≡ true →
          is_ready_or_waiting (s.states j) ≡ true
      by true h = absurd (clash h e)
      by false h = h

  fewer_open : (i : ℕ) (state : MoveState) → is_ready_or_waiting state ≡ false → is_unsettled g s i ≡ true →
      count (is_unsettled g (settle g s i state)) (length g.moves) < count (is_unsettled g s) (length g.moves)
  fewer_open i state e u =
      count_less (is_unsettled g s) (is_unsettled g (settle g s i state)) i (length g.moves)
      (ltb-true i (length g.moves) (both (nat_lt i (length g.moves)) _ u).0) u
      (never (λ h. clash (subst (λ t. is_ready_or_waiting (if t then state else s.states i) ≡ true)
      (same_test i i refl) (both (nat_lt i (length g.moves)) _ h).1) e)) (λ j l h. still_open i j state e h)

  not_frozen : (x j : ℕ) → is_unsettled g (freeze g s x) j ≡ true → is_unsettled g s j ≡ true
  not_frozen x j h = let p = both (nat_lt j (length g.moves)) _ h in and_true p.0 (by (touches g s x j) p.1)
    where
      by : (b : Bool) → is_ready_or_waiting (if b then Frozen else s.states j) ≡ true →
          is_ready_or_waiting (s.states j) ≡ true
      by true h = absurd (clash h refl)
      by false h = h

  no_more_open : (x : ℕ) → count (is_unsettled g (freeze g s x)) (length g.moves) ≤ count (is_unsettled g s)
      (length g.moves)
  no_more_open x = count_le (is_unsettled g (freeze g s x)) (is_unsettled g s) (length g.moves)
      (λ j l h. not_frozen x j h)

  fewer_frozen : (x : ℕ) → is_move_related g s x ≡ true →
      count (is_unsettled g (freeze g s x)) (length g.moves) < count (is_unsettled g s) (length g.moves)
  fewer_frozen x h =
      let found = (some_is (touches g s x) (length g.moves)).0 h in
      let i = found.0 in
      count_less (is_unsettled g s) (is_unsettled g (freeze g s x)) i (length g.moves) found.1
      (both (is_unsettled g s i) _ found.2).0
      (never (λ q. clash (subst (λ t. is_ready_or_waiting (if t then Frozen else s.states i) ≡ true) found.2
      (both (nat_lt i (length g.moves)) _ q).1) refl)) (λ j l q. not_frozen x j q)

  no_more_remain : (gone : ℕ) → count (λ y. nat_lt y g.graph.nodes && without gone s.remaining y && not (is_register y))
      g.graph.nodes ≤ count (remains g s) g.graph.nodes
  no_more_remain gone =
      count_le (λ y. nat_lt y g.graph.nodes && without gone s.remaining y && not (is_register y))
      (remains g s) g.graph.nodes
      (λ y l h. let a = both (nat_lt y g.graph.nodes && without gone s.remaining y) (not (is_register y)) h in
      let b = both (nat_lt y g.graph.nodes) (without gone s.remaining y) a.0 in
      and_true (and_true b.0 (was_in gone y s.remaining b.1).1) a.1)

  shrinks : (step : Step) → can g s step ≡ true → work_left g (after g s step) < work_left g s
  shrinks (Simplify x) c =
      let a = fewer_remain x (both (remains g s x) (low g s x) (both (remains g s x && low g s x) _ c).0).0 in
      omega arith
  shrinks (Spill x) c =
      let a = fewer_remain x (both (remains g s x) _ c).0 in
      let b = no_more_open x in
      omega arith
  shrinks (Freeze x) c = let a = fewer_frozen x (both (remains g s x && low g s x) _ c).1 in omega arith
  shrinks (Same i) c = let a = fewer_open i Coalesced refl (both (is_unsettled g s i) _ c).0 in omega arith
  shrinks (Constrain i) c = let a = fewer_open i Constrained refl (both (is_unsettled g s i) _ c).0 in omega arith
  shrinks (Coalesce i kept gone b) c =
      let u = (both (is_unsettled g s i) _
      (both (is_unsettled g s i && is_safe g s i) _ (both _ _ (both _ _ c).0).0).0).0 in
      let a = fewer_open i Coalesced refl u in
      let d = no_more_remain gone in
      omega arith

pub steps_shrink : StepsShrink
steps_shrink g s step c = shrinks g s step c
