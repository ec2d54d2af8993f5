-- That each step of the code is one of the definition, where it is taken: what the loop over steps
-- rests on.
use Rattle.std.specs.Prelude.{◌≡◌, ℕ, ◌+◌, ◌<◌, ◌≤◌, ◌^◌, All, IsTrue, List, [], length, map, sum}
use Rattle.std.specs.Prelude.{Some}
use Rattle.std.specs.Prelude.{slice_get}
use Rattle.tg_graph.specs.Interference.{Interference, IsGraph, colours, most_nodes}
use Rattle.tg_irc_definition.specs.declared.candidates.NodeFacts.{NodeFacts}
use Rattle.tg_irc_definition.specs.declared.moves.Move.{Move}
use Rattle.tg_irc_definition.specs.Policies.{Rule, candidate_at}
use Rattle.tg_irc_definition.specs.Rounds.{IsRound}
use Rattle.tg_irc_definition.specs.States.{Problem, problem}
use Rattle.tg_coalescing_round.specs.mirror.Steps.{simplified, tried, frozen, spilled, candidates}
use Rattle.tg_coalescing_round.specs.glue.Works.{Work, started}
use Rattle.tg_coalescing_round.specs.glue.Standing.{graph_of, IsOrderly, IsRunOf, left_to_do}
use Rattle.tg_coalescing_round.specs.glue.Standing.{is_done}
use Rattle.tg_coalescing_round.specs.glue.Standing.{answer_of}

-- the work goes on in order, and less is left to do
pub record WorkGoesOn (w v : Work) : Type 0 where
  pub orderly : IsOrderly v
  pub less : left_to_do v < left_to_do w

-- and so does every run that it is of
pub record Advances (w v : Work) : Type 0 where
  pub on : WorkGoesOn w v
  pub run : (g : Problem) → IsRunOf g w → IsRunOf g v

-- the first temporary that may be simplified
abbrev pub SimplifyAdvances : Type 0
SimplifyAdvances =
    (x : ℕ) (w : Work) →
    IsOrderly w →
    slice_get w.lists.simplify 0 ≡ Some x →
    Advances w (simplified x w)

-- where there is none, the first move to be tried
abbrev pub TryAdvances : Type 0
TryAdvances =
    (i : ℕ) (w : Work) →
    IsOrderly w →
    w.lists.simplify ≡ [] →
    slice_get w.moves.ready 0 ≡ Some i →
    Advances w (tried i w)

-- where there is none, the first temporary that may be frozen
abbrev pub FreezeAdvances : Type 0
FreezeAdvances =
    (x : ℕ) (w : Work) →
    IsOrderly w →
    w.lists.simplify ≡ [] →
    w.moves.ready ≡ [] →
    slice_get w.lists.freeze 0 ≡ Some x →
    Advances w (frozen x w)

-- where there is none, a candidate that the rule allows
pub record Spills (w v : Work) (place : ℕ) : Type 0 where
  pub on : WorkGoesOn w v
  pub run : (g : Problem) → IsTrue (g.rule (candidates w) place) → IsRunOf g w → IsRunOf g v

abbrev pub SpillAdvances : Type 0
SpillAdvances =
    (place : ℕ) (w : Work) →
    IsOrderly w →
    w.lists.simplify ≡ [] →
    w.moves.ready ≡ [] →
    w.lists.freeze ≡ [] →
    place < length (candidates w) →
    Spills w (spilled ((candidate_at (candidates w) place).temp + colours) w) place

-- what each of these makes of the work, and of every run by this rule that it is of
pub record Progresses (rule : Rule) (w v : Work) : Type 0 where
  pub on : WorkGoesOn w v
  pub run : (g : Problem) → g.rule ≡ rule → IsRunOf g w → IsRunOf g v

-- what a round is given: a graph, moves between its nodes, and the facts of each node
pub record IsGiven (g : Interference) (moves : List Move) (facts : List NodeFacts) : Type 0 where
  pub some : colours ≤ g.nodes
  pub few : g.nodes ≤ most_nodes
  pub graph : IsGraph g
  pub sized : length facts ≡ g.nodes
  pub ends : All (λ m. (m.to < g.nodes) × (m.from < g.nodes)) moves
  pub few_moves : length moves < 2 ^ 32
  pub few_uses : sum (map (λ m. m.uses) facts) < 2 ^ 32

-- of this the work begins in order, as that of a run that has taken no step
abbrev pub StartIsOrderly : Type 0
StartIsOrderly =
    (g : Interference) (moves : List Move) (facts : List NodeFacts) →
    IsGiven g moves facts →
    IsOrderly (started g moves facts)

abbrev pub StartIsRun : Type 0
StartIsRun =
    (g : Interference) (moves : List Move) (facts : List NodeFacts) (rule : Rule) →
    IsGiven g moves facts →
    IsRunOf (problem (graph_of g) moves facts rule) (started g moves facts)

-- what is left in order at the end is a round
abbrev pub DoneIsRound : Type 0
DoneIsRound =
    (g : Problem) (w : Work) →
    IsOrderly w →
    IsRunOf g w →
    IsTrue (is_done w) →
    IsRound g (answer_of w)
