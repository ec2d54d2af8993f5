use Rattle.std.proofs.Common.{ℕ, ◌≡◌, ◌+◌, List, length, ap, sym, ◌∙◌, subst, arith}
use Rattle.std.specs.Prelude.{All}
use Rattle.std.specs.List.{sum_by}
use Rattle.std.proofs.lemmas.List.FromFn.{length-map-range_with_len}
use Rattle.std.proofs.lemmas.List.Sums.{sum-map}
use Rattle.std.proofs.lemmas.Result.{IfOk-weaker}
use Rattle.tg_irc_definition.specs.declared.moves.Move.{Move}
use Rattle.tg_irc_definition.specs.declared.candidates.NodeFacts.{NodeFacts}
use Rattle.tg_interference.specs.Facts.{facts_of, facts_of_nodes}
use Rattle.tg_interference.specs.Moves.{moves_of}
use Rattle.tg_regalloc.proofs.Sizes.{AreEnds, uses_few, moves_few, moves_below}
use Rattle.tg_regalloc.proofs.RoundsOf.{round_of, of_temps}
use Rattle.tg_regalloc.proofs.stages.color_code.Goals as goal

pub color-requires-clause-facts : goal.color-requires-clause-facts
color-requires-clause-facts g c =
    let code = c.args.code.now in
    ap length (c.as_slice-2.ensures ∙ c.in_ok-facts.ensures)
    ∙ (length-map-range_with_len (facts_of code.list c.args.originals) 0 (25 + code.temps) ∙ sym c.in_ok-graph.ensures.nodes)

pub color-requires-clause-ends : goal.color-requires-clause-ends
color-requires-clause-ends g c =
    let code = c.args.code.now in
    let e : c.as_slice.result.now ≡ moves_of code.list = c.as_slice.ensures ∙ c.in_ok-moves.ensures in
    subst (λ (n : ℕ). All (AreEnds n) c.as_slice.result.now) (sym c.in_ok-graph.ensures.nodes)
    (subst (λ (ms : List Move). All (AreEnds (25 + code.temps)) ms) (sym e) (moves_below code.temps code.list code.temps_below))

pub color-requires-clause-few_moves : goal.color-requires-clause-few_moves
color-requires-clause-few_moves g c =
    let code = c.args.code.now in
    let e : c.as_slice.result.now ≡ moves_of code.list = c.as_slice.ensures ∙ c.in_ok-moves.ensures in
    let few = moves_few code.list in
    let size = ap length e in
    let all = c.in_ok-check_size.ensures.instructions in
    omega (arith, few, size, all)

pub color-requires-clause-few_uses : goal.color-requires-clause-few_uses
color-requires-clause-few_uses g c =
    let code = c.args.code.now in
    let e : c.as_slice-2.result.now ≡ facts_of_nodes code.list code.temps c.args.originals = c.as_slice-2.ensures ∙ c.in_ok-facts.ensures in
    let few = uses_few code.list code.temps c.args.originals in
    let sum = sum-map (λ (m : NodeFacts). m.uses) c.as_slice-2.result.now in
    let same = ap (λ (ms : List NodeFacts). sum_by (λ (m : NodeFacts). m.uses) ms) e in
    let all = c.in_ok-check_size.ensures.instructions in
    omega (arith, few, sum, same, all)

pub returns-clause-round : goal.returns-clause-round
returns-clause-round g c =
    IfOk-weaker c.color.result _ _
    (λ round h. round_of _ c.args.originals 0 c.args.code.now c.in_ok-graph.graph _ _ round c.in_ok-graph.ensures
    (c.as_slice.ensures ∙ c.in_ok-moves.ensures) (c.as_slice-2.ensures ∙ c.in_ok-facts.ensures) h)
    c.color.ensures.round

pub returns-clause-nodes : goal.returns-clause-nodes
returns-clause-nodes g c =
    let code = c.args.code.now in
    let e : c.as_slice.result.now ≡ moves_of code.list = c.as_slice.ensures ∙ c.in_ok-moves.ensures in
    IfOk-weaker c.color.result _ _
    (λ round h. of_temps _ code.temps c.in_ok-graph.graph c.as_slice.result.now _ round c.rounds_are_of_nodes.ensures c.in_ok-graph.ensures.nodes
    (subst (λ (ms : List Move). All (AreEnds (25 + code.temps)) ms) (sym e) (moves_below code.temps code.list code.temps_below)) h)
    c.color.ensures.round
