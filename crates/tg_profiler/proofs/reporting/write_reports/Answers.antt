use Rattle.std.proofs.Common.{◌≤◌, ◌<◌, arith, length, refl, sym, subst}
use Rattle.tg_profiler.proofs.Telling.{told_none, report_told, report_failed, reports_all, told_so_far}
use Rattle.tg_profiler.proofs.reporting.write_reports.Goals as goal

pub loop-watcher-init : goal.loop-watcher-init
loop-watcher-init g c = λ seen code stand. told_none g.E.Sink.taken g.E.Sink.faults c.args.err.now

pub write_report-requires : goal.write_report-requires
write_report-requires g c =
    let lt : c.loop-watcher.watcher-index < length c.args.watchers.now = c.loop-watcher-test.true in
    let stood = c.requires.2 c.loop-watcher.watcher-index c.watcher-item.result lt in (
      c.requires.0,
      c.requires.1,
      subst (λ b. (goal.Watcher-dyn g (b.vtable, b.value)).stands b.value c.requires.0 c.requires.1) (sym c.watcher-item.is) stood,
    )

pub returns-in_err-write_report : goal.returns-in_err-write_report
returns-in_err-write_report g c = λ seen code stand.
    let lt : c.loop-watcher.watcher-index < length c.args.watchers.now = c.loop-watcher-test.true in
    let stood = subst (λ b. (goal.Watcher-dyn g (b.vtable, b.value)).stands b.value seen code) (sym c.watcher-item.is)
    (stand c.loop-watcher.watcher-index c.watcher-item.result lt) in
    report_failed g.E.Sink.taken g.E.Sink.faults (λ b. (goal.Watcher-dyn g (b.vtable, b.value)).report b.value) c.args.watchers.now seen code _ _ _ _
    c.from_residual.result c.loop-watcher.watcher-index c.watcher-item.result lt c.watcher-item.is refl c.from_residual.ensures.0
    (c.loop-watcher.invariant seen code stand) (c.in_err-write_report.ensures seen code stood)

pub loop-watcher-preserved : goal.loop-watcher-preserved
loop-watcher-preserved g c = λ seen code stand.
    let lt : c.loop-watcher.watcher-index < length c.args.watchers.now = c.loop-watcher-test.true in
    let stood = subst (λ b. (goal.Watcher-dyn g (b.vtable, b.value)).stands b.value seen code) (sym c.watcher-item.is)
    (stand c.loop-watcher.watcher-index c.watcher-item.result lt) in
    told_so_far g.E.Sink.taken g.E.Sink.faults _ _ c.in_ok-write_report.field-0 _
    (report_told g.E.Sink.taken g.E.Sink.faults (λ b. (goal.Watcher-dyn g (b.vtable, b.value)).report b.value) c.args.watchers.now seen code _ _ _ _
    c.loop-watcher.watcher-index c.watcher-item.result lt c.watcher-item.is (c.loop-watcher.invariant seen code stand)
    (c.in_ok-write_report.ensures seen code stood))

pub returns : goal.returns
returns g c = λ seen code stand.
    let le : length c.args.watchers.now ≤ c.loop-watcher.watcher-index = c.loop-watcher-test.false in
    reports_all g.E.Sink.taken g.E.Sink.faults (λ b. (goal.Watcher-dyn g (b.vtable, b.value)).report b.value) c.args.watchers.now seen code _ _ tt
    c.loop-watcher.watcher-index le (c.loop-watcher.invariant seen code stand)
