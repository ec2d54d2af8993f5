use Rattle.std.proofs.Common.{◌++◌, take, get_or, ap, sym, ◌∙◌}
use Rattle.std.proofs.lemmas.List.{take_more}
use Rattle.tg_regalloc.specs.mirror.InFrame.{code_in_frame, instruction_in_frame}
use Rattle.tg_instr.proofs.Tests.{all_at}
use Rattle.tg_instr.specs.Codes.{has_temps_below}
use Rattle.tg_regalloc.proofs.Making.{code_more}
use Rattle.tg_regalloc.proofs.frames.instructions.Goals as goal

pub loop-one-preserved : goal.loop-one-preserved
loop-one-preserved c =
    let list = c.args.code.now in
    let front = take c.loop-one.one-index list in
    let one = get_or list c.loop-one.one-index c.one-item.result in
    let h = c.loop-one-test.true in
    c.in_ok-put.ensures ∙ (ap (λ l. l ++ instruction_in_frame c.args.base c.one-item.result) c.loop-one.invariant
    ∙ (ap (λ x. code_in_frame c.args.base front ++ instruction_in_frame c.args.base x) c.one-item.is
    ∙ (sym (code_more c.args.base front one) ∙ ap (code_in_frame c.args.base)
    (sym (take_more list c.loop-one.one-index c.one-item.result c.loop-one-test.true)))))

pub put-requires-clause-below : goal.put-requires-clause-below
put-requires-clause-below c = rw c.one-item.is (all_at (has_temps_below c.args.temps) c.args.code.now c.loop-one.one-index
    c.one-item.result c.loop-one-test.true c.requires.below)
