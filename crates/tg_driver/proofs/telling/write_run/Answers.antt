use Rattle.std.proofs.Common.{◌++◌, ℕ, List, refl, sym, subst}
use Rattle.tg_profiler.specs.Telling.{HasTold}
use Rattle.tg_profiler.proofs.Telling.{told_failed, told_more, told_so_far}
use Rattle.tg_driver.specs.Endings.{end_line}
use Rattle.tg_driver.proofs.telling.write_run.Goals as goal

pub returns-in_err-write_reports : goal.returns-in_err-write_reports
returns-in_err-write_reports g c = λ reports tell.
    let last = end_line c.args.end ++ c.args.explanation.now in
    subst (λ (text : List ℕ). HasTold g.E.Sink.taken g.E.Sink.faults c.args.err.now c.write_reports.new.err c.from_residual.result (text ++ last))
    (sym tell.reports_are)
    (told_failed g.E.Sink.taken g.E.Sink.faults _ _ _ c.from_residual.result _ last refl c.from_residual.ensures.0
    (c.in_err-write_reports.ensures tell.seen tell.code tell.stand))

pub returns : goal.returns
returns g c = λ reports tell.
    let last = end_line c.args.end ++ c.args.explanation.now in
    subst (λ (text : List ℕ). HasTold g.E.Sink.taken g.E.Sink.faults c.args.err.now c.write_end_lines.new.err c.write_end_lines.result (text ++ last))
    (sym tell.reports_are)
    (told_more g.E.Sink.taken g.E.Sink.faults _ _ _ c.write_end_lines.result _ last
    (told_so_far g.E.Sink.taken g.E.Sink.faults _ _ _ _ (c.in_ok-write_reports.ensures tell.seen tell.code tell.stand))
    c.write_end_lines.ensures)
