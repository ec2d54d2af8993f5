use Rattle.std.proofs.Common.{◌≤◌, ◌<◌, arith, refl}
use Rattle.tg_profiler.proofs.Telling.{lines_none, lines_more, lines_failed, lines_all}
use Rattle.tg_profiler.proofs.reporting.write_report.Goals as goal

pub loop-at-init : goal.loop-at-init
loop-at-init g c = λ seen code stood. lines_none g.E.Sink.taken g.E.Sink.faults c.args.err.now _

pub returns-in_err-write_line-in-Some : goal.returns-in_err-write_line-in-Some
returns-in_err-write_line-in-Some g c = λ seen code stood.
    lines_failed g.E.Sink.taken g.E.Sink.faults _ _ _ _ c.from_residual.result _ _ c.in-Some.size _ (c.loop-at.invariant seen code stood)
    (c.in-Some.ensures.line seen code stood) refl c.from_residual.ensures.0 c.in_err-write_line-in-Some.ensures

pub returns-in-None : goal.returns-in-None
returns-in-None g c = λ seen code stood.
    lines_all g.E.Sink.taken g.E.Sink.faults _ _ tt _ c.loop-at.at (c.loop-at.invariant seen code stood) (c.in-None.ensures.line seen code stood)

pub loop-at-preserved : goal.loop-at-preserved
loop-at-preserved g c = λ seen code stood.
    lines_more g.E.Sink.taken g.E.Sink.faults _ _ _ _ c.in_ok-write_line-in-Some.field-0 _ _ c.in-Some.size _ (c.loop-at.invariant seen code stood)
    (c.in-Some.ensures.line seen code stood) (c.in-Some.ensures.few seen code stood) refl c.in_ok-write_line-in-Some.ensures

pub returns : goal.returns
returns g c = λ seen code stood.
    let so_far = c.loop-at.invariant seen code stood in
    let some : 0 < c.loop-at.at = omega (arith, c.loop-at-test.false) in
    let few = so_far.few some in
    lines_all g.E.Sink.taken g.E.Sink.faults _ _ tt _ c.loop-at.at so_far (omega (arith, few, c.loop-at-test.false))
