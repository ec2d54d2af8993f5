-- What a round says is so: its steps are those of a run from the start to the end, and its answers
-- are those of the state that they end in.
use Rattle.std.specs.Prelude.{◌≡◌, ℕ, IsTrue, List, length, map}
use Rattle.std.specs.List.{range_with_len}
use Rattle.tg_irc_definition.specs.declared.rounds.Round.{Round}
use Rattle.tg_irc_definition.specs.States.{Problem, RoundState, start}
use Rattle.tg_irc_definition.specs.Steps.{AreTaken, after_all, is_over}
use Rattle.tg_irc_definition.specs.Selection.{select}

-- the values of a function at the numbers below n
abbrev pub listed : {A : Type 0} → ℕ → (ℕ → A) → List A
listed n f = map f (range_with_len 0 n)

module _ (g : Problem) (round : Round) where
  abbrev pub end : RoundState
  end = after_all g (start g) round.steps

  pub record IsRound : Type 0 where
    pub moves : round.moves ≡ g.moves
    pub steps : AreTaken g (start g) round.steps
    pub over : IsTrue (is_over g end)
    pub states : round.states ≡ listed (length g.moves) end.states
    pub aliases : round.aliases ≡ listed g.graph.nodes end.alias
    pub colours : round.colours ≡ listed g.graph.nodes (λ x. (select g end).colour (end.alias x))
    pub spilled : round.spilled ≡ (select g end).spilled
