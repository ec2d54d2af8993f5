use Rattle.std.proofs.Common.{◌-◌}
use Rattle.tg_live.proofs.Searched.{IsSearching, room}
use Rattle.tg_live.proofs.searches.Search.run.Given as goal

abbrev pub invariant-loop-done : goal.invariant-loop-done
invariant-loop-done l = IsSearching l.list l.one l.stamp l.fn.self.marks l.self l.done

abbrev pub decreases-loop-done : goal.decreases-loop-done
decreases-loop-done l = room l.list l.one l.stamp l.self - l.done
