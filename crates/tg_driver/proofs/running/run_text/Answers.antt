use Rattle.std.proofs.Common.{refl}
use Rattle.tg_command.specs.Commands.{asked_of}
use Rattle.tg_compile_proof.specs.Builds.{Builds}
use Rattle.tg_driver.specs.Calls.{stream_of, streams_of}
use Rattle.tg_driver.specs.glue.Watched.{HasWatchedRun}
use Rattle.tg_driver.proofs.AnswerLemmas.{run_of_refused, refused_untouched, ends_by}
use Rattle.tg_driver.proofs.Typings.{builds, has_image}
use Rattle.tg_driver.proofs.running.run_text.Goals as goal

pub run_assembly-requires-clause-image : goal.run_assembly-requires-clause-image
run_assembly-requires-clause-image g c = rw c.deref.ensures.value (has_image _ _ _ _ _ c.in-Ok.ensures.compiled)

pub returns-in-Ok-clause-due : goal.returns-in-Ok-clause-due
returns-in-Ok-clause-due g c =
    let streams = streams_of
    (stream_of g.I.Source.left g.I.Source.faults c.args.streams.input.now c.run_assembly.new.streams.0)
    (stream_of g.O.Sink.taken g.O.Sink.faults c.args.streams.out.now c.run_assembly.new.streams.1.0) in
    let runs = HasWatchedRun (λ b. (goal.Watcher-dyn g (b.vtable, b.value)).stands b.value) (λ b. (goal.Watcher-dyn g (b.vtable, b.value)).report b.value)
    c.args.watchers.now.items c.run_assembly.new.watchers.items streams in
    ends_by (Builds _ _) runs (asked_of c.args.command.now) _ _ c.run_assembly.result (builds _ _ _ _ _ (rw c.passes_of.ensures at c.in-Ok.ensures.compiled))
    (rw c.deref.ensures.value at c.run_assembly.ensures.runs)

pub returns-in-Err-clause-due : goal.returns-in-Err-clause-due
returns-in-Err-clause-due g c =
    let streams = streams_of
    (stream_of g.I.Source.left g.I.Source.faults c.args.streams.input.now c.args.streams.input.now)
    (stream_of g.O.Sink.taken g.O.Sink.faults c.args.streams.out.now c.args.streams.out.now) in
    let runs = HasWatchedRun (λ b. (goal.Watcher-dyn g (b.vtable, b.value)).stands b.value) (λ b. (goal.Watcher-dyn g (b.vtable, b.value)).report b.value)
    c.args.watchers.now.items c.args.watchers.now.items streams in
    run_of_refused (Builds _ _) runs (asked_of c.args.command.now) _ c.refused.result c.refused.ensures

pub returns-in-Err-clause-before_start : goal.returns-in-Err-clause-before_start
returns-in-Err-clause-before_start g c =
    let streams = streams_of
    (stream_of g.I.Source.left g.I.Source.faults c.args.streams.input.now c.args.streams.input.now)
    (stream_of g.O.Sink.taken g.O.Sink.faults c.args.streams.out.now c.args.streams.out.now) in
    refused_untouched streams _ c.refused.result c.refused.ensures (refl, refl)
