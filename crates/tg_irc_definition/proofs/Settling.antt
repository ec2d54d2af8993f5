-- What settling and freezing make of other moves.
use Rattle.std.proofs.Common.{◌≡◌, ◌≢◌, ℕ, Bool, true, false, refl, subst, length}
use Rattle.std.specs.Prelude.{nat_lt, ◌==◌, if◌then◌else◌}
use Rattle.std.proofs.lemmas.Bool.{ltb-true}
use Rattle.tg_irc_definition.specs.declared.moves.MoveState.{MoveState}
use Rattle.tg_irc_definition.specs.declared.moves.MoveState.TheVariants.{Frozen}
use Rattle.tg_irc_definition.specs.States.{Problem, RoundState, is_ready_or_waiting, to, from, is_unsettled, touches}
use Rattle.tg_irc_definition.specs.States.{is_move_related}
use Rattle.tg_irc_definition.specs.Steps.{settle, freeze}
use Rattle.tg_irc_definition.proofs.Deciding.{clash, both, and_true, neither, never, and_false, same_test, some_is}

module _ (g : Problem) where
  -- a settled move isn't unsettled
  pub settled_is : (i j : ℕ) (state old : MoveState) → is_ready_or_waiting state ≡ false →
      is_ready_or_waiting (if j == i then state else old) ≡ true → is_ready_or_waiting old ≡ true
  settled_is i j state old e h = by (j == i) h
    where
      by : (b : Bool) → is_ready_or_waiting (if b then state else old) ≡ true → is_ready_or_waiting old ≡ true
      by true h = absurd (clash h e)
      by false h = h

  -- a spill freezes the moves that touch the node
  pub frozen_is : (s : RoundState) (x i : ℕ) → is_unsettled g (freeze g s x) i ≡ true → is_unsettled g s i ≡ true
  frozen_is s x i h = let p = both (nat_lt i (length g.moves)) _ h in and_true p.0 (by (touches g s x i) p.1)
    where
      by : (b : Bool) → is_ready_or_waiting (if b then Frozen else s.states i) ≡ true →
          is_ready_or_waiting (s.states i) ≡ true
      by true h = absurd (clash h refl)
      by false h = h

  pub settled_at : (s : RoundState) (i j : ℕ) (state : MoveState) → is_ready_or_waiting state ≡ false →
      is_unsettled g (settle g s i state) j ≡ true → is_unsettled g s j ≡ true
  settled_at s i j state e h = let p = both (nat_lt j (length g.moves)) _ h in
      and_true p.0 (settled_is i j state (s.states j) e p.1)

  -- a move that isn't settled has its ends elsewhere
  pub elsewhere : (s : RoundState) (x i : ℕ) → is_unsettled g s i ≡ true → touches g s x i ≡ false → (to g s i ≢ x) ×
      (from g s i ≢ x)
  elsewhere s x i u h =
      let p = neither (to g s i == x) (from g s i == x) (and_false (is_unsettled g s i) _ h u) in
      (λ e. clash (same_test (to g s i) x e) p.0, λ e. clash (same_test (from g s i) x e) p.1)

  pub not_touched : (s : RoundState) (x i : ℕ) → is_unsettled g (freeze g s x) i ≡ true → touches g s x i ≡ false
  not_touched s x i u =
      never (λ h. clash (subst (λ t. is_ready_or_waiting (if t then Frozen else s.states i) ≡ true) h
      (both (nat_lt i (length g.moves)) (is_ready_or_waiting (if touches g s x i then Frozen else s.states i)) u).1)
      refl)

  pub unrelated : (s : RoundState) (x i : ℕ) → is_move_related g s x ≡ false → touches g s x i ≡ false
  unrelated s x i h =
      never (λ t. clash ((some_is (touches g s x) (length g.moves)).1
      (i, ltb-true i (length g.moves) (both (nat_lt i (length g.moves)) _ (both (is_unsettled g s i) _ t).0).0, t))
      h)
