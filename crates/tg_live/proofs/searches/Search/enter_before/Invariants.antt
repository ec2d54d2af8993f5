use Rattle.std.proofs.Common.{take}
use Rattle.std.specs.List.{list_any}
use Rattle.tg_live.specs.Flow.{goes_on}
use Rattle.tg_live.specs.mirror.Search.{AreEntered}
use Rattle.tg_live.proofs.searches.Search.enter_before.Given as goal

abbrev pub invariant-loop-place : goal.invariant-loop-place
invariant-loop-place l =
    AreEntered l.list l.one l.stamp (λ q. list_any (goes_on l.list q) (take l.place-index l.sites)) l.fn.self l.self
