use Rattle.std.proofs.Common.{arith, ◌≤◌, ◌+◌, ◌<◌}
use Rattle.std.proofs.lemmas.Grind.{common_steps}
use Rattle.std.proofs.lemmas.Result.{err_from_is_err_and, IfOk-at_ok}
use Rattle.tg_machine.proofs.Texts.{chunk_more, chunk_failed, if_ok, text_loads}
use Rattle.tg_machine.proofs.cores.Core.write_text.Goals as goal

pub write_piece-requires-clause-loads : goal.write_piece-requires-clause-loads
write_piece-requires-clause-loads g c = λ k lt.
    let below : c.loop-done.done + k < c.args.size = grind (arith, common_steps) in
    text_loads _ _ c.args.size c.loop-done.done k c.requires.0 c.requires.1 below

pub returns-in_err-write_piece-clause-bytes : goal.returns-in_err-write_piece-clause-bytes
returns-in_err-write_piece-clause-bytes g c =
    let p = err_from_is_err_and c.from_residual.result c.from_residual.ensures.1 in
    let text = c.requires.0 in
    let is = c.requires.1 in
    let taken = c.in_err-write_piece.ensures.bytes in
    let fits : c.loop-done.done + c.min-more.result ≤ c.args.size = omega arith in
    if_ok _ _ text is.found
    (rw p.1 (chunk_failed _ _ _ c.args.self.now c.args.address c.args.size c.loop-done.done c.min-more.result text taken.0 is
    fits taken.1.0 taken.1.1 (IfOk-at_ok _ is.found c.loop-done.invariant.2) taken.2))

pub loop-done-preserved : goal.loop-done-preserved
loop-done-preserved g c =
    let text = c.requires.0 in
    let is = c.requires.1 in
    let taken = c.in_ok-write_piece.ensures.bytes in
    let fits : c.loop-done.done + c.min-more.result ≤ c.args.size = omega arith in (
      omega (arith, c.loop-done.invariant.0, c.write_piece.ensures.cause.later),
      omega arith,
      if_ok _ _ text is.found (chunk_more _ _ _ c.args.self.now c.args.address c.args.size c.loop-done.done c.min-more.result
          text taken.0 is fits taken.1.0 taken.1.1 (IfOk-at_ok _ is.found c.loop-done.invariant.2) taken.2),
    )
