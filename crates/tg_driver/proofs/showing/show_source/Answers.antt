use Rattle.std.proofs.Common.{refl}
use Rattle.tg_driver.specs.Calls.{stream_of}
use Rattle.tg_driver.specs.ShowMode.{Shows}
use Rattle.tg_driver.proofs.AnswerLemmas.{written_of_refused, refused_stays, writes_text, taken_text, started_stays}
use Rattle.tg_driver.proofs.showing.show_source.Goals as goal

pub returns-in-Ok-clause-due : goal.returns-in-Ok-clause-due
returns-in-Ok-clause-due g c =
    let out = stream_of g.O.Sink.taken g.O.Sink.faults c.args.out.now c.write_text.new.out in
    let rule = (goal.SpillPolicy-dyn g c.args.policy.now).rule c.args.policy.now.1 in
    let shown = c.in-Ok.shown.items in
    writes_text out (Shows c.args.passes rule) c.args.text.now shown c.write_text.result c.in-Ok.ensures
    (taken_text out shown c.write_text.result (rw c.deref.ensures.value at c.write_text.ensures.takes))

pub returns-in-Ok-clause-before_start : goal.returns-in-Ok-clause-before_start
returns-in-Ok-clause-before_start g c =
    let out = stream_of g.O.Sink.taken g.O.Sink.faults c.args.out.now c.write_text.new.out in
    started_stays out c.write_text.result c.write_text.ensures.started

pub returns-in-Err-clause-due : goal.returns-in-Err-clause-due
returns-in-Err-clause-due g c =
    let out = stream_of g.O.Sink.taken g.O.Sink.faults c.args.out.now c.args.out.now in
    written_of_refused out _ _ c.refused.result c.refused.ensures

pub returns-in-Err-clause-before_start : goal.returns-in-Err-clause-before_start
returns-in-Err-clause-before_start g c =
    let out = stream_of g.O.Sink.taken g.O.Sink.faults c.args.out.now c.args.out.now in
    refused_stays out _ c.refused.result c.refused.ensures refl
