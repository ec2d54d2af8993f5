use Rattle.std.proofs.Common.{◌≤◌, ◌-◌}
use Rattle.tg_machine.proofs.Reached.{Reached}
use Rattle.tg_machine.proofs.cores.Core.run.Given as goal

abbrev pub invariant-loop-made : goal.invariant-loop-made
invariant-loop-made g l =
    (l.made ≤ l.steps)
    × Reached g.I.Source.left g.I.Source.faults g.O.Sink.taken g.O.Sink.faults l.made l.fn.self l.self l.fn.input l.input l.fn.out l.out l.fn.written l.written l.fn.ended l.ended

abbrev pub decreases-loop-made : goal.decreases-loop-made
decreases-loop-made g l = l.steps - l.made
