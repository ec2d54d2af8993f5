use Rattle.tg_tree.specs.glue.Lists.{stms_of, code_of}
use Rattle.tg_tree.specs.glue.Plain.{plain_ts}
use Rattle.tg_trace_schedule.specs.glue.Plains.{plain_blocks}
use Rattle.tg_compile.proofs.Chain.{flattens}
use Rattle.tg_stages.proofs.Told.{flat_told}
use Rattle.tg_stages.proofs.functions.put_flat.Goals as goal

pub returns-clause-flat : goal.returns-clause-flat
returns-clause-flat c =
    let hoisted = c.in_ok-statements.ensures in
    flattens c.args.frame.now c.linearize.new.frame (plain_ts c.args.body) (stms_of c.in_ok-statements.statements.items)
    (plain_blocks c.in_ok-cut.cut) (code_of c.in_ok-flat.flat.items) hoisted.statements hoisted.label hoisted.params
    hoisted.slots hoisted.out c.in_ok-cut.ensures c.in_ok-flat.ensures

pub returns-clause-text : goal.returns-clause-text
returns-clause-text c =
    flat_told c.args.frame.now (plain_ts c.args.body) (stms_of c.in_ok-statements.statements.items) c.linearize.new.frame.temps
    (plain_blocks c.in_ok-cut.cut) (code_of c.in_ok-flat.flat.items) _ _ _ _ c.in_ok-statements.ensures.statements
    c.in_ok-cut.ensures c.in_ok-flat.ensures (rw c.deref.ensures.value at c.in_ok-put_canonical.ensures)
    (rw c.as_slice.ensures at c.in_ok-put_blocks.ensures) (rw c.deref-2.ensures.value at c.in_ok-put_traces.ensures)
