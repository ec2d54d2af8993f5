use Rattle.std.proofs.Common.{refl}
use Rattle.tg_bare_compile_proof.specs.Builds.{BuildsDelayed}
use Rattle.tg_driver.specs.Calls.{stream_of}
use Rattle.tg_driver.proofs.AnswerLemmas.{refused_stays, taken_text, started_stays}
use Rattle.tg_driver.proofs.BareAnswers.{bare_of_refused, bare_of_large, large_stays, writes_bare}
use Rattle.tg_driver.proofs.delaying.delay_source.Goals as goal

pub too_large-requires : goal.too_large-requires
too_large-requires g c = rw c.in-Ok-TooLarge.field-0-is at c.in-Ok-TooLarge.ensures

pub returns-in-Ok-Text-clause-due : goal.returns-in-Ok-Text-clause-due
returns-in-Ok-Text-clause-due g c =
    let out = stream_of g.O.Sink.taken g.O.Sink.faults c.args.out.now c.write_text.new.out in
    let rule = (goal.SpillPolicy-dyn g c.args.policy.now).rule c.args.policy.now.1 in
    let delayed = c.in-Ok-Text.delayed.items in
    writes_bare out (BuildsDelayed c.args.passes rule) c.args.text.now delayed c.write_text.result
    (rw c.in-Ok-Text.field-0-is at c.in-Ok-Text.ensures)
    (taken_text out delayed c.write_text.result (rw c.deref.ensures.value at c.write_text.ensures.takes))

pub returns-in-Ok-Text-clause-before_start : goal.returns-in-Ok-Text-clause-before_start
returns-in-Ok-Text-clause-before_start g c =
    let out = stream_of g.O.Sink.taken g.O.Sink.faults c.args.out.now c.write_text.new.out in
    started_stays out c.write_text.result c.write_text.ensures.started

pub returns-in-Ok-TooLarge-clause-due : goal.returns-in-Ok-TooLarge-clause-due
returns-in-Ok-TooLarge-clause-due g c =
    let out = stream_of g.O.Sink.taken g.O.Sink.faults c.args.out.now c.args.out.now in
    let it = c.too_large.ensures in
    bare_of_large out _ _ c.too_large.result it.0 it.1 it.2

pub returns-in-Ok-TooLarge-clause-before_start : goal.returns-in-Ok-TooLarge-clause-before_start
returns-in-Ok-TooLarge-clause-before_start g c =
    let out = stream_of g.O.Sink.taken g.O.Sink.faults c.args.out.now c.args.out.now in
    let it = c.too_large.ensures in
    large_stays out c.too_large.result it.0 it.1 refl

pub returns-in-Err-clause-due : goal.returns-in-Err-clause-due
returns-in-Err-clause-due g c =
    let out = stream_of g.O.Sink.taken g.O.Sink.faults c.args.out.now c.args.out.now in
    bare_of_refused out _ _ c.refused.result c.refused.ensures

pub returns-in-Err-clause-before_start : goal.returns-in-Err-clause-before_start
returns-in-Err-clause-before_start g c =
    let out = stream_of g.O.Sink.taken g.O.Sink.faults c.args.out.now c.args.out.now in
    refused_stays out _ c.refused.result c.refused.ensures refl
