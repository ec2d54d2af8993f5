use Rattle.tg_driver.specs.Calls.{stream_of}
use Rattle.tg_driver.specs.glue.Texts.{wanted_text}
use Rattle.tg_driver.proofs.AnswerLemmas.{taken_text, started_stays}
use Rattle.tg_driver.proofs.writing.write_compiled.Goals as goal

pub returns-in-Ok-clause-takes : goal.returns-in-Ok-clause-takes
returns-in-Ok-clause-takes g c =
    let out = stream_of g.O.Sink.taken g.O.Sink.faults c.args.out.now c.write_text.new.out in
    let written = wanted_text c.args.wanted c.args.compiled.allocations.items c.args.compiled.text.items in
    taken_text out written c.write_text.result (rw c.in-Ok.ensures at rw c.deref.ensures.value at c.write_text.ensures.takes)

pub returns-in-Ok-clause-before_start : goal.returns-in-Ok-clause-before_start
returns-in-Ok-clause-before_start g c =
    let out = stream_of g.O.Sink.taken g.O.Sink.faults c.args.out.now c.write_text.new.out in
    started_stays out c.write_text.result c.write_text.ensures.started
