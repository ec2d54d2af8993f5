use Rattle.tg_tree.specs.glue.Lists.{stms_of, code_of}
use Rattle.tg_tree.specs.glue.Plain.{plain_ts}
use Rattle.tg_trace_schedule.specs.glue.Plains.{plain_blocks}
use Rattle.tg_compile.proofs.Chain.{flattens}
use Rattle.tg_compile.proofs.bodies.flatten.Goals as goal

pub returns : goal.returns
returns c =
    let hoisted = c.in_ok-statements.ensures in
    flattens c.args.frame.now c.linearize.new.frame (plain_ts c.args.body) (stms_of c.in_ok-statements.statements.items)
    (plain_blocks c.in_ok-cut.cut) (code_of c.in_ok-trace.field-0.items) hoisted.statements hoisted.label hoisted.params
    hoisted.slots hoisted.out c.in_ok-cut.ensures c.in_ok-trace.ensures
