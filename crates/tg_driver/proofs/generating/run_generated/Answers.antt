use Rattle.tg_compile_proof.specs.Builds.{Builds}
use Rattle.tg_driver.specs.Calls.{stream_of}
use Rattle.tg_driver.proofs.AnswerLemmas.{sums_up_by}
use Rattle.tg_driver.proofs.Typings.{builds, has_image}
use Rattle.tg_driver.proofs.generating.run_generated.Goals as goal

pub image_of-requires : goal.image_of-requires
image_of-requires g c = rw c.deref.ensures.value (has_image _ _ _ _ _ c.in-Ok.ensures.compiled)

pub returns-in-Ok-image_of-clause-due : goal.returns-in-Ok-image_of-clause-due
returns-in-Ok-image_of-clause-due g c =
    let out = stream_of g.O.Sink.taken g.O.Sink.faults c.args.out.now c.execute_generated.new.out in
    let command = c.args.command.now in
    sums_up_by (Builds _ _) out command.number c.args.text.now c.in-Ok.compiled.text.items c.in-Ok-image_of.image command.heap command.stack command.steps
    c.execute_generated.result (builds _ _ _ _ _ (rw c.passes_of.ensures at c.in-Ok.ensures.compiled))
    (rw c.deref.ensures.value at c.in-Ok-image_of.ensures.image)
    c.execute_generated.ensures.due
