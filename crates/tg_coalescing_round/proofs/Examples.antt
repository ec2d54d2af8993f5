-- Small rounds, computed by the functions that the code is proved to be.
use Rattle.std.proofs.Common.{◌≡◌, ℕ, true, false, List, [], ◌∷◌, ◌++◌, map, replicate, Option, Some, refl}
use Rattle.std.specs.Prelude.{fold}
use Rattle.std.specs.List.{range_with_len}
use Rattle.tg_irc_definition.specs.declared.candidates.NodeFacts.{NodeFacts}
use Rattle.tg_irc_definition.specs.declared.moves.Move.{Move}
use Rattle.tg_irc_definition.specs.declared.moves.MoveState.{MoveState}
use Rattle.tg_irc_definition.specs.declared.moves.MoveState.TheVariants.{Coalesced, Constrained}
use Rattle.tg_irc_definition.specs.declared.rounds.Round.{Round}
use Rattle.tg_irc_definition.specs.declared.steps.Step.{Step}
use Rattle.tg_irc_definition.specs.declared.steps.Step.TheVariants.{Simplify, Constrain, Coalesce}
use Rattle.tg_graph.specs.Interference.{Interference, bare, with_edge}
use Rattle.tg_coalescing_round.specs.glue.Works.{Work, relisted, settled, started}
use Rattle.tg_coalescing_round.specs.mirror.Steps.{bereft, taken_out, given_up, passed_edge, merged, tried, simplified}
use Rattle.tg_coalescing_round.specs.mirror.Selecting.{selected}
use Rattle.tg_coalescing_round.specs.glue.Standing.{answer_of}

-- a graph with these pairs of temporaries and of temporaries with registers
abbrev graph : ℕ → List (ℕ × ℕ) → Interference
graph n ps = fold (λ g p. with_edge g p.0 p.1) (bare n) ps

abbrev move : (to from : ℕ) → Move
move to from = record { to = to; from = from }

abbrev at_start : ℕ → List (ℕ × ℕ) → List Move → Work
at_start n ps moves =
    let facts : List NodeFacts = replicate n (record { uses = 2; made = false }) in started (graph n ps) moves facts

abbrev registers : List ℕ
registers = range_with_len 0 25

-- a round with these steps and states, and with these aliases and colours of the temporaries
abbrev round : List Move → List Step → List MoveState → List ℕ → List (Option ℕ) → List ℕ → Round
round moves steps states aliases colours spilled = record {
  moves = moves;
  steps = steps;
  states = states;
  aliases = registers ++ aliases;
  colours = map Some registers ++ colours;
  spilled = spilled;
}

-- a free move is coalesced
free_move : answer_of (simplified 25 (tried 0 (at_start 27 [] (move 25 26 ∷ [])))) ≡
    round (move 25 26 ∷ []) (Coalesce 0 25 26 true ∷ Simplify 25 ∷ []) (Coalesced ∷ []) (25 ∷ 25 ∷ [])
    (Some 0 ∷ Some 0 ∷ []) []
unfolding relisted settled started bereft taken_out given_up passed_edge merged tried selected
free_move = refl

-- one between neighbours is constrained
held_move :
    answer_of (simplified 26 (simplified 25 (tried 0 (at_start 27 ((25, 26) ∷ []) (move 25 26 ∷ []))))) ≡
    round (move 25 26 ∷ []) (Constrain 0 ∷ Simplify 25 ∷ Simplify 26 ∷ []) (Constrained ∷ []) (25 ∷ 26 ∷ [])
    (Some 1 ∷ Some 0 ∷ []) []
unfolding relisted settled started bereft taken_out given_up passed_edge merged tried selected
held_move = refl

-- one from a register is coalesced
fixed_move : answer_of (tried 0 (at_start 26 [] (move 25 2 ∷ []))) ≡
    round (move 25 2 ∷ []) (Coalesce 0 2 25 false ∷ []) (Coalesced ∷ []) (2 ∷ []) (Some 2 ∷ []) []
unfolding relisted settled started bereft taken_out given_up passed_edge merged tried selected
fixed_move = refl
