use Rattle.std.proofs.Common.{◌≤◌, ◌+◌, ◌-◌, ◌||◌, List, take, ap, ◌∙◌, arith}
use Rattle.std.specs.List.{list_all}
use Rattle.std.proofs.lemmas.Bool.{and_parts}
use Rattle.std.proofs.lemmas.List.{take_all}
use Rattle.tg_instr.specs.declared.operands.Opnd.{Opnd}
use Rattle.tg_instr.specs.Operands.{is_same}
use Rattle.tg_instr.specs.Uses.{uses_of, defs_of}
use Rattle.tg_instr.specs.Codes.{is_below}
use Rattle.tg_graph.specs.Interference.{interferes}
use Rattle.tg_interference.specs.Nodes.{operand_at}
use Rattle.tg_interference.specs.Pairs.{has, joins_both}
use Rattle.tg_interference.proofs.Operands.{all_read, temps_below_more}
use Rattle.tg_interference.proofs.Joining.{joined_more, defined_more, has_more}
use Rattle.tg_interference.proofs.edges.join_definitions.Goals as goal

pub move_of-moved-requires : goal.move_of-moved-requires
move_of-moved-requires c =
    let n = c.args.graph.now.nodes in
    let l : n - 25 ≤ 16777216 = omega (arith, c.requires.few) in
    temps_below_more (n - 25) 16777216 c.args.one.now l c.requires.temps

pub join_definition-requires-clause-temps : goal.join_definition-requires-clause-temps
join_definition-requires-clause-temps c =
    let n = c.args.graph.now.nodes in
    let one = c.args.one.now in
    let below = and_parts (list_all (is_below (n - 25)) (uses_of one)) (list_all (is_below (n - 25)) (defs_of
    one)) c.requires.temps in
    ap (λ k. is_below (k - 25) c.definition-item.result) c.loop-definition.invariant.nodes
    ∙ all_read (is_below (n - 25)) c.as_slice-definition-items.result.now c.loop-definition.definition-index
    c.definition-item.result c.loop-definition-test.true c.definition-item.is
    (ap (list_all (is_below (n - 25))) (c.as_slice-definition-items.ensures ∙ c.defs-defs.ensures) ∙ below.1)

pub loop-definition-preserved : goal.loop-definition-preserved
loop-definition-preserved c =
    let items = c.as_slice-definition-items.result.now in
    let i = c.loop-definition.definition-index in
    record {
      nodes = c.in_ok-join_definition.ensures.nodes ∙ c.loop-definition.invariant.nodes;
      pairs = λ x y. joined_more _ _ _ _ _ _ (c.in_ok-join_definition.ensures.pairs x y)
          (c.loop-definition.invariant.pairs x y)
          (defined_more c.move_of-moved.result (has (take (i + 1) items)) (has (take i items))
          (λ n. is_same (operand_at n) c.definition-item.result) (has c.args.live.now)
          (has_more items i c.definition-item.result c.loop-definition-test.true c.definition-item.is) x y);
    }

pub returns-clause-pairs : goal.returns-clause-pairs
returns-clause-pairs c = λ x y.
    let items = c.as_slice-definition-items.result.now in
    let old = interferes c.args.graph.now x y in
    c.loop-definition.invariant.pairs x y
    ∙ (ap (λ (list : List Opnd). joins_both c.move_of-moved.result (has list) (has c.args.live.now) x y || old)
    (take_all c.loop-definition.definition-index items c.loop-definition-test.false
    ∙ (c.as_slice-definition-items.ensures ∙ c.defs-defs.ensures))
    ∙ ap (λ m. joins_both m (has (defs_of c.args.one.now)) (has c.args.live.now) x y || old) c.move_of-moved.ensures)
