use Rattle.tg_page.proofs.StopLemmas.{SoFar}
use Rattle.tg_page.proofs.stopping.run_to_stop.Given as goal

abbrev pub invariant-loop-made : goal.invariant-loop-made
invariant-loop-made g l =
    SoFar g.I.Source.left g.I.Source.faults g.O.Sink.taken g.O.Sink.faults l.stops.passing l.stops.breakpoints.now l.made l.fn.machine l.machine
    l.fn.input l.input l.fn.out l.out l.fn.counts l.counts
