use Rattle.std.proofs.Common.{refl}
use Rattle.tg_driver.specs.Calls.{stream_of}
use Rattle.tg_driver.specs.glue.Texts.{wanted_text, writes_of}
use Rattle.tg_driver.proofs.AnswerLemmas.{written_of_refused, refused_stays, writes_text}
use Rattle.tg_driver.proofs.Typings.{writes_wanted}
use Rattle.tg_driver.proofs.writing.write_source.Goals as goal

pub returns-in-Ok-clause-due : goal.returns-in-Ok-clause-due
returns-in-Ok-clause-due g c =
    let out = stream_of g.O.Sink.taken g.O.Sink.faults c.args.out.now c.write_compiled.new.out in
    let rule = (goal.SpillPolicy-dyn g c.args.policy.now).rule c.args.policy.now.1 in
    let allocations = c.in-Ok.compiled.allocations.items in
    let assembly = c.in-Ok.compiled.text.items in
    let written = wanted_text c.args.wanted allocations assembly in
    writes_text out (writes_of c.args.wanted c.args.passes rule) c.args.text.now written c.write_compiled.result
    (writes_wanted c.args.wanted c.args.passes rule c.args.text.now allocations assembly c.in-Ok.ensures.compiled) c.write_compiled.ensures.takes

pub returns-in-Err-clause-due : goal.returns-in-Err-clause-due
returns-in-Err-clause-due g c =
    let out = stream_of g.O.Sink.taken g.O.Sink.faults c.args.out.now c.args.out.now in
    written_of_refused out _ _ c.refused.result c.refused.ensures

pub returns-in-Err-clause-before_start : goal.returns-in-Err-clause-before_start
returns-in-Err-clause-before_start g c =
    let out = stream_of g.O.Sink.taken g.O.Sink.faults c.args.out.now c.args.out.now in
    refused_stays out _ c.refused.result c.refused.ensures refl
