use Rattle.std.proofs.Common.{◌≡◌, drop}
use Rattle.tg_live.specs.glue.LiveChanges.{set_without_all}
use Rattle.tg_live.proofs.sets.set_without_all.Given as goal

abbrev pub invariant-loop-one : goal.invariant-loop-one
invariant-loop-one l =
    set_without_all (drop l.one-index l.goes) l.set.items ≡ set_without_all l.goes l.fn.set.items
