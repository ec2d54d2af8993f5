use Rattle.std.proofs.Common.{◌≡◌}
use Rattle.tg_regalloc.specs.mirror.InFrame.{locations_from}
use Rattle.tg_regalloc.proofs.frames.locations.Given as goal

abbrev pub invariant-loop-temp : goal.invariant-loop-temp
invariant-loop-temp l = l.locations.items ≡ locations_from l.base l.temp
