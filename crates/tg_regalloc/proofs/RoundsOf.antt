-- A round on what a code's passes answer is a round of the code.
use Rattle.std.proofs.Common.{ℕ, ◌≡◌, ◌<◌, ◌+◌, List, subst, sym, ◌∙◌}
use Rattle.std.specs.Prelude.{All}
use Rattle.std.proofs.lemmas.List.Elements.{All-weaker}
use Rattle.tg_instr.specs.declared.codes.Code.{Code}
use Rattle.tg_graph.specs.Interference.{Interference}
use Rattle.tg_irc_definition.specs.declared.moves.Move.{Move}
use Rattle.tg_irc_definition.specs.declared.candidates.NodeFacts.{NodeFacts}
use Rattle.tg_irc_definition.specs.declared.rounds.Round.{Round}
use Rattle.tg_irc_definition.specs.Policies.{Rule}
use Rattle.tg_irc_definition.specs.States.{problem}
use Rattle.tg_irc_definition.specs.Rounds.{IsRound}
use Rattle.tg_irc_definition.specs.laws.Laws.{IsTemporary, RoundsAreOfNodes}
use Rattle.tg_interference.specs.Pairs.{IsInterference}
use Rattle.tg_interference.specs.Moves.{moves_of}
use Rattle.tg_interference.specs.Facts.{facts_of_nodes}
use Rattle.tg_coalescing_round.specs.glue.Standing.{graph_of}
use Rattle.tg_regalloc.specs.Rounds.{IsOfTemps, IsRoundOf, stage_of}
use Rattle.tg_regalloc.proofs.Sizes.{AreEnds}

pub round_of : (rule : Rule) (originals slots : ℕ) (code : Code) (graph : Interference) (moves : List Move) (facts : List NodeFacts) (round : Round) →
    IsInterference code.list code.temps graph → moves ≡ moves_of code.list → facts ≡ facts_of_nodes code.list code.temps originals →
    IsRound (problem (graph_of graph) moves facts rule) round → IsRoundOf rule originals (stage_of code slots) round
round_of rule originals slots code graph moves facts round exact e d h =
    record {
      graph = graph;
      exact = exact;
      run =
          subst (λ (ms : List NodeFacts). IsRound (problem (graph_of graph) (moves_of code.list) ms rule) round) d
          (subst (λ (ms : List Move). IsRound (problem (graph_of graph) ms facts rule) round) e h);
    }

-- what it answers of nodes
pub of_temps : (rule : Rule) (temps : ℕ) (graph : Interference) (moves : List Move) (facts : List NodeFacts) (round : Round) → RoundsAreOfNodes →
    graph.nodes ≡ 25 + temps → All (AreEnds (25 + temps)) moves → IsRound (problem (graph_of graph) moves facts rule) round → IsOfTemps temps round
of_temps rule temps graph moves facts round law e ends h =
    let p = problem (graph_of graph) moves facts rule in
    let o = law p round (subst (λ (n : ℕ). All (AreEnds n) moves) (sym e) ends) h in
    record {
      each_alias = o.each_alias ∙ e;
      each_colour = o.each_colour ∙ e;
      aliases = subst (λ (n : ℕ). All (λ x. x < n) round.aliases) e o.aliases;
      spilled = subst (λ (n : ℕ). All (λ x. x < n) round.spilled) e (All-weaker (IsTemporary p) (λ x. x < graph.nodes) (λ x t. t.1) round.spilled o.spilled);
    }
