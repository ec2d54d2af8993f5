use Rattle.tg_live.proofs.Collected.{AreCollected}
use Rattle.tg_live.proofs.liveness.live_by.Given as goal

abbrev pub invariant-loop-number : goal.invariant-loop-number
invariant-loop-number l = AreCollected l.fn.list l.number l.search.marks l.changes.comes l.changes.goes
