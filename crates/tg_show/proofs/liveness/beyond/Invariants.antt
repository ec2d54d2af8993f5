use Rattle.std.proofs.Common.{◌≡◌, ◌++◌, drop}
use Rattle.tg_show.specs.Live.{beyond}
use Rattle.tg_show.proofs.liveness.beyond.Given as goal

abbrev pub invariant-loop-one : goal.invariant-loop-one
invariant-loop-one l = beyond l.list l.other ≡ l.left.items ++ beyond (drop l.one-index l.list) l.rest
