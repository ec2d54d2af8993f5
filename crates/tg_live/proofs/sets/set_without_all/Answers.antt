use Rattle.std.proofs.Common.{◌+◌, drop, sym, ap, ◌∙◌}
use Rattle.tg_live.specs.glue.LiveChanges.{set_without_all}
use Rattle.tg_live.proofs.Changing.{without_more}
use Rattle.tg_live.proofs.sets.set_without_all.Goals as goal

pub loop-one-preserved : goal.loop-one-preserved
loop-one-preserved c =
    let goes = c.args.goes.now in
    let i = c.loop-one.one-index in
    ap (set_without_all (drop (i + 1) goes)) c.leave_out.ensures
    ∙ (sym (without_more goes c.loop-one.set.items i c.one-item.result c.loop-one-test.true c.one-item.is)
    ∙ c.loop-one.invariant)
