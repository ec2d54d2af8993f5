use Rattle.std.proofs.Common.{◌≡◌, ◌+◌, drop}
use Rattle.tg_live.specs.glue.LiveChanges.{lower_count}
use Rattle.tg_live.proofs.rising.lower_count.Given as goal

abbrev pub invariant-loop-at : goal.invariant-loop-at
invariant-loop-at l = lower_count l.one l.set ≡ l.at + lower_count l.one (drop l.at l.set)
