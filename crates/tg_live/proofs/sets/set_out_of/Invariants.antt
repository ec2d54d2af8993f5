use Rattle.std.proofs.Common.{◌≡◌}
use Rattle.tg_live.specs.glue.LiveChanges.{set_before}
use Rattle.tg_live.proofs.sets.set_out_of.Given as goal

abbrev pub invariant-loop-place : goal.invariant-loop-place
invariant-loop-place l = l.set.items ≡ set_before l.live l.place
