use Rattle.std.proofs.Common.{take}
use Rattle.tg_live.specs.mirror.Search.{AreEntered, has}
use Rattle.tg_live.proofs.searches.Search.enter_all.Given as goal

abbrev pub invariant-loop-place : goal.invariant-loop-place
invariant-loop-place l = AreEntered l.list l.one l.stamp (has (take l.place-index l.places)) l.fn.self l.self
