use Rattle.std.proofs.Common.{◌+◌, drop, sym, ap, ◌∙◌}
use Rattle.std.proofs.lemmas.List.{at_drop_all}
use Rattle.tg_redundancy.specs.mirror.Facts.{forget_each}
use Rattle.tg_redundancy.proofs.FactWalks.{forget_turn}
use Rattle.tg_redundancy.proofs.facts.forget_each.Goals as goal

pub loop-operand-preserved : goal.loop-operand-preserved
loop-operand-preserved c =
    let operands = c.args.operands.now in
    ap (forget_each (drop (c.loop-operand.operand-index + 1) operands)) c.forget.ensures
    ∙ (sym (forget_turn c.loop-operand.list.items operands c.loop-operand.operand-index c.operand-item.result c.loop-operand-test.true c.operand-item.is)
    ∙ c.loop-operand.invariant)

pub returns : goal.returns
returns c =
    sym (at_drop_all (λ rest. forget_each rest c.loop-operand.list.items) c.args.operands.now c.loop-operand.operand-index c.loop-operand-test.false)
    ∙ c.loop-operand.invariant
