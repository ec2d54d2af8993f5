use Rattle.std.proofs.Common.{◌+◌, drop, sym, ap, ◌∙◌}
use Rattle.tg_live.specs.glue.LiveChanges.{all_put_in_order}
use Rattle.tg_live.proofs.Changing.{put_more}
use Rattle.tg_live.proofs.sets.all_put_in_order.Goals as goal

pub loop-one-preserved : goal.loop-one-preserved
loop-one-preserved c =
    let comes = c.args.comes.now in
    let i = c.loop-one.one-index in
    ap (all_put_in_order (drop (i + 1) comes)) c.in_ok-put_in_order.ensures
    ∙ (sym (put_more comes c.loop-one.set.items i c.one-item.result c.loop-one-test.true c.one-item.is)
    ∙ c.loop-one.invariant)
