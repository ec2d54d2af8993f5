use Rattle.std.proofs.Common.{◌≡◌, ap, ◌∙◌, ◌++◌, ◌+◌, length, arith}
use Rattle.std.specs.Prelude.{slice_index, slice_get, slice_set}
use Rattle.std.specs.Vec.{with_items}
use Rattle.std.proofs.lemmas.List.{with_items_is}
use Rattle.tg_tree.specs.glue.Lists.{code_of}
use Rattle.tg_trace_schedule.specs.glue.Plains.{plain_blocks}
use Rattle.tg_trace_schedule.specs.mirror.Laying as laying
use Rattle.tg_trace_schedule.proofs.Rests.{emit_step}
use Rattle.tg_trace_schedule.proofs.traces.emit.Goals as goal

pub loop-at-preserved : goal.loop-at-preserved
loop-at-preserved c =
    let order = c.args.order.now in
    let at = c.loop-at.at in
    let p = slice_index order at in
    let len : length c.put_next.new.blocks ≡ c.loop-at.blocks.len = omega (arith, c.put_next.auto.blocks, c.deref_mut.ensures.len) in
    let same : (with_items c.loop-at.blocks c.put_next.new.blocks).items ≡ c.put_next.new.blocks = with_items_is c.loop-at.blocks c.put_next.new.blocks len in
    emit_step (code_of c.loop-at.code.items) (code_of c.put_next.new.code.items) order at (plain_blocks c.loop-at.blocks.items)
    (plain_blocks (with_items c.loop-at.blocks c.put_next.new.blocks).items) c.loop-at-test.true
    (c.in_ok-put_next.ensures.code ∙ ap (λ bs. code_of c.loop-at.code.items ++ laying.block_code p (slice_get order (at + 1))
    (laying.block_at (plain_blocks bs) p)) c.deref_mut.ensures.value)
    (ap plain_blocks same ∙ (c.in_ok-put_next.ensures.blocks ∙ ap (λ bs. slice_set (plain_blocks bs) p laying.no_block) c.deref_mut.ensures.value))
    ∙ c.loop-at.invariant
