use Rattle.tg_compile_proof.specs.Builds.{Builds}
use Rattle.tg_driver.specs.Calls.{stream_of}
use Rattle.tg_correctness.specs.Sources.{IsSource}
use Rattle.tg_driver.proofs.AnswerLemmas.{in_number}
use Rattle.tg_driver.proofs.generating.answer_gen.Goals as goal

pub run_generated-requires-clause-source : goal.run_generated-requires-clause-source
run_generated-requires-clause-source g c =
    let is : IsSource _ = c.generated_is_accepted.ensures c.args.command.now.number c.requires.number.least c.requires.number.most in
    rw (c.deref.ensures.value, c.in-Ok.ensures) is

pub returns-in-Ok-clause-due : goal.returns-in-Ok-clause-due
returns-in-Ok-clause-due g c =
    let out = stream_of g.O.Sink.taken g.O.Sink.faults c.args.out.now c.run_generated.new.out in
    in_number (Builds _ _) out _ _ _ _ _ _ c.run_generated.result c.in-Ok.ensures (rw c.deref.ensures.value at c.run_generated.ensures.due)
