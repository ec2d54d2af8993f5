use Rattle.std.proofs.Common.{refl}
use Rattle.tg_profiler.proofs.Telling.{told_failed, told_more, told_piece, told_so_far}
use Rattle.tg_driver.proofs.telling.write_lines.Goals as goal

pub returns-in_err-write_all : goal.returns-in_err-write_all
returns-in_err-write_all g c =
    told_failed g.E.Sink.taken g.E.Sink.faults _ _ _ _ c.args.line.now c.args.explanation.now refl c.from_residual.ensures.0
    (told_piece g.E.Sink.taken g.E.Sink.faults _ _ _ c.args.line.now
    (rw c.as_bytes.ensures.value at c.in_err-write_all.ensures.bytes) c.in_err-write_all.ensures.cause
    (rw c.as_bytes.ensures.value at c.in_err-write_all.ensures.empty))

pub returns : goal.returns
returns g c =
    told_more g.E.Sink.taken g.E.Sink.faults _ _ _ c.write_all-2.result c.args.line.now c.args.explanation.now
    (told_so_far g.E.Sink.taken g.E.Sink.faults _ _ _ c.args.line.now
    (told_piece g.E.Sink.taken g.E.Sink.faults _ _ _ c.args.line.now
    (rw c.as_bytes.ensures.value at c.in_ok-write_all.ensures.bytes) c.in_ok-write_all.ensures.cause
    (rw c.as_bytes.ensures.value at c.in_ok-write_all.ensures.empty)))
    (told_piece g.E.Sink.taken g.E.Sink.faults _ _ c.write_all-2.result c.args.explanation.now c.write_all-2.ensures.bytes c.write_all-2.ensures.cause
    c.write_all-2.ensures.empty)
