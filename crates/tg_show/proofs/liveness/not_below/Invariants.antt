use Rattle.std.proofs.Common.{◌≡◌, drop}
use Rattle.tg_show.specs.Live.{not_below}
use Rattle.tg_show.proofs.liveness.not_below.Given as goal

abbrev pub invariant-loop-at : goal.invariant-loop-at
invariant-loop-at l = not_below l.one l.list ≡ not_below l.one (drop l.at l.list)
