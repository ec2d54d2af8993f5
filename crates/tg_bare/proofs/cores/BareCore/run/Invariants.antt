use Rattle.std.proofs.Common.{◌≤◌, ◌-◌}
use Rattle.tg_bare.specs.glue.Inside.{machine_of}
use Rattle.tg_bare.proofs.Reached.{Reached}
use Rattle.tg_bare.proofs.cores.BareCore.run.Given as goal

abbrev pub invariant-loop-made : goal.invariant-loop-made
invariant-loop-made g l =
    (l.made ≤ l.steps)
    × Reached g.I.Source.left g.I.Source.faults g.O.Sink.taken g.O.Sink.faults l.made (machine_of l.fn.self) (machine_of l.self) l.fn.input l.input l.fn.out
    l.out l.fn.written l.written l.fn.ended l.ended

abbrev pub decreases-loop-made : goal.decreases-loop-made
decreases-loop-made g l = l.steps - l.made
