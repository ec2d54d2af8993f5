use Rattle.std.proofs.Common.{◌≡◌, ◌+◌, suc, ap, ◌∙◌, arith}
use Rattle.tg_live.specs.glue.LiveChanges.{set_before}
use Rattle.tg_live.proofs.sets.set_out_of.Goals as goal

pub loop-place-preserved : goal.loop-place-preserved
loop-place-preserved c =
    let next : suc c.loop-place.place ≡ c.loop-place.place + 1 = omega arith in
    c.in_ok-advance.ensures ∙ ap (set_before c.args.live.now) next
