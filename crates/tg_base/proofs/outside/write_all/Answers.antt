use Rattle.std.proofs.Common.{arith, ◌≤◌, ◌+◌, sym, take, drop, length}
use Rattle.std.proofs.lemmas.Grind.{common_steps}
use Rattle.std.proofs.lemmas.List.{take-append-drop}
use Rattle.std.proofs.lemmas.Result.{err_from_is_err_and}
use Rattle.tg_base.proofs.KnownLemmas.{appends_more, appends_kept}
use Rattle.tg_base.proofs.outside.write_all.Goals as goal

pub returns-in_err-done-clause-bytes : goal.returns-in_err-done-clause-bytes
returns-in_err-done-clause-bytes g c =
    let p = err_from_is_err_and c.from_residual.result c.from_residual.ensures.1 in
    let piece = c.args.piece.now in
    let done = c.loop-done.done in
    rw p.1 (take done piece, drop done piece, sym (take-append-drop done piece), appends_kept _ _ _ _ c.loop-done.invariant.2 c.in_err-done.ensures.bytes)

pub loop-done-preserved : goal.loop-done-preserved
loop-done-preserved g c =
    let piece = c.args.piece.now in
    let written = c.in_ok-done.ensures in
    let fits : c.loop-done.done + c.in_ok-done.field-0 ≤ length piece = grind (arith, common_steps, written.some) in (
      omega (arith, c.loop-done.invariant.0, c.write.ensures.cause.later),
      fits,
      appends_more _ _ _ piece c.loop-done.done c.in_ok-done.field-0 fits c.loop-done.invariant.2 written.bytes,
      λ e. absurd (omega (arith, e)),
    )
