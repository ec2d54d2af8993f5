use Rattle.std.proofs.Common.{◌≡◌, drop}
use Rattle.tg_live.specs.glue.LiveChanges.{all_put_in_order}
use Rattle.tg_live.proofs.sets.all_put_in_order.Given as goal

abbrev pub invariant-loop-one : goal.invariant-loop-one
invariant-loop-one l =
    all_put_in_order (drop l.one-index l.comes) l.set.items ≡ all_put_in_order l.comes l.fn.set.items
