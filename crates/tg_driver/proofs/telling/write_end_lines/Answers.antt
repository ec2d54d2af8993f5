use Rattle.std.proofs.Common.{refl}
use Rattle.tg_profiler.proofs.Telling.{told_failed, told_more, told_piece, told_so_far}
use Rattle.tg_driver.specs.Endings.{end_line}
use Rattle.tg_driver.proofs.telling.write_end_lines.Goals as goal

pub returns-in_err-write_end : goal.returns-in_err-write_end
returns-in_err-write_end g c =
    told_failed g.E.Sink.taken g.E.Sink.faults _ _ _ _ (end_line c.args.end) c.args.explanation.now refl c.from_residual.ensures.0 (record {
      bytes = c.in_err-write_end.ensures.line;
      cause = c.in_err-write_end.ensures.cause;
      some = c.in_err-write_end.ensures.some;
      empty = c.in_err-write_end.ensures.empty;
    })

pub returns : goal.returns
returns g c =
    told_more g.E.Sink.taken g.E.Sink.faults _ _ _ c.write_all.result (end_line c.args.end) c.args.explanation.now
    (told_so_far g.E.Sink.taken g.E.Sink.faults _ _ _ (end_line c.args.end) (record {
      bytes = c.in_ok-write_end.ensures.line;
      cause = c.in_ok-write_end.ensures.cause;
      some = c.in_ok-write_end.ensures.some;
      empty = c.in_ok-write_end.ensures.empty;
    }))
    (told_piece g.E.Sink.taken g.E.Sink.faults _ _ c.write_all.result c.args.explanation.now c.write_all.ensures.bytes c.write_all.ensures.cause
    c.write_all.ensures.empty)
