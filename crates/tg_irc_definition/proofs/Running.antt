-- How a run goes on, and where it is over.
use Rattle.std.proofs.Common.{◌≡◌, ℕ, ◌<◌, true, false, ◌&&◌, ◌||◌, ◌⊎◌, inl, inr, refl, [], ◌∷◌, length}
use Rattle.std.proofs.lemmas.Bool.{lt-ltb}
use Rattle.tg_irc_definition.specs.Graphs.{is_register}
use Rattle.tg_irc_definition.specs.States.{Problem, RoundState, remains, to, from, is_unsettled}
use Rattle.tg_irc_definition.specs.Steps.{is_same, is_constrained, can_move, after}
use Rattle.tg_irc_definition.specs.laws.Laws.{IsSound, RunsGoOn, NothingLeftIsOver}
use Rattle.tg_irc_definition.proofs.Deciding.{clash, and_true, or_left, or_right, tells, never, from_false, or_false, some_is}

pub runs_go_on : RunsGoOn
runs_go_on g s [] step t l = ((l, tt), refl)
runs_go_on g s (step1 ∷ steps) step t l =
    let more = runs_go_on g (after g s step1) steps step t.1 l in
    ((t.0, more.0), more.1)

module _ (g : Problem) (s : RoundState) (sound : IsSound g s) (none : (x : ℕ) → remains g s x ≡ false) where
  -- what remains is a register
  register : (x : ℕ) → (x < g.graph.nodes) × (s.remaining x ≡ true) → is_register x ≡ true
  register x r = by (tells (is_register x))
    where
      by : (is_register x ≡ true) ⊎ (is_register x ≡ false) → is_register x ≡ true
      by (inl e) = e
      by (inr e) = absurd (clash (and_true (and_true (lt-ltb x g.graph.nodes r.0) r.1) (from_false e)) (none x))

  -- so a move that isn't settled can be
  settles : (i : ℕ) → is_unsettled g s i ≡ true → can_move g s i ≡ true
  settles i u = and_true u (or_left _ _ (by (tells (is_same g s i))))
    where
      both_registers : (is_register (to g s i) && is_register (from g s i)) ≡ true
      both_registers =
          and_true (register (to g s i) (sound.to_remains i u)) (register (from g s i) (sound.from_remains i u))

      by : (is_same g s i ≡ true) ⊎ (is_same g s i ≡ false) → (is_same g s i || is_constrained g s i) ≡ true
      by (inl e) = or_left _ _ e
      by (inr e) =
          or_right _ _ (and_true (from_false e) (or_right (s.pairs (to g s i) (from g s i)) _ both_registers))

pub nothing_left_is_over : NothingLeftIsOver
nothing_left_is_over g s sound none waiting =
    from_false
    (or_false (never (λ h. let found = (some_is (remains g s) g.graph.nodes).0 h in clash found.2 (none found.0)))
    (never (λ h. let found = (some_is (is_unsettled g s) (length g.moves)).0 h in
    clash (settles g s sound none found.0 found.2) (waiting found.0))))
