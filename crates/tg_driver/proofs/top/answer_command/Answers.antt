use Rattle.std.proofs.Common.{refl}
use Rattle.tg_command.specs.declared.modes.Mode.TheVariants.{Check, Build, Run, Exec, Alloc, Show, Gen, Format, Bare}
use Rattle.tg_command.specs.Commands.{asked_of}
use Rattle.tg_driver.specs.Calls.{shelf_of, stream_of, streams_of}
use Rattle.tg_compile_proof.specs.Builds.{Builds}
use Rattle.tg_bare_compile_proof.specs.Builds.{BuildsDelayed}
use Rattle.tg_driver.specs.AllocMode.{Lists}
use Rattle.tg_driver.specs.ShowMode.{Shows}
use Rattle.tg_driver.specs.Compiled.{texts_compiled}
use Rattle.tg_driver.specs.Watching.{if_watched}
use Rattle.tg_driver.specs.glue.Watched.{HasWatchedRunBy}
use Rattle.tg_driver.proofs.AnswerLemmas.{by_check, by_writing, by_run, by_exec, by_gen, by_format, in_mode, no_gen}
use Rattle.tg_driver.proofs.BareAnswers.{by_bare}
use Rattle.tg_driver.proofs.Watched.{run_by_flag}
use Rattle.tg_driver.proofs.GivenTexts.{gives_executed, gives_generated}
use Rattle.tg_driver.proofs.top.answer_command.Goals as goal

pub returns-in-Check-clause-due : goal.returns-in-Check-clause-due
returns-in-Check-clause-due g c =
    let shelf = shelf_of g.H.Shelf.files g.H.Shelf.faults c.args.shelf.now c.answer_check.new.shelf in
    let streams = streams_of
    (stream_of g.I.Source.left g.I.Source.faults c.args.streams.input.now c.args.streams.input.now)
    (stream_of g.O.Sink.taken g.O.Sink.faults c.args.streams.out.now c.args.streams.out.now) in
    let asked = asked_of c.args.command.now in
    let texts = texts_compiled ((goal.SpillPolicy-dyn g c.args.policy.now).rule c.args.policy.now.1) in
    let runs = HasWatchedRunBy (λ b. (goal.Watcher-dyn g (b.vtable, b.value)).stands b.value) (λ b. (goal.Watcher-dyn g (b.vtable, b.value)).report b.value)
    c.args.command.now.flags.bare (if_watched c.args.command.now.flags c.args.watchers.now.items) c.keep_asked.new.watchers.items streams in
    in_mode texts runs Check shelf streams asked c.answer_check.result (no_gen Check tt) c.in-Check.is
    (by_check shelf streams asked c.answer_check.result (refl, refl) c.answer_check.ensures.due)

pub returns-in-Build-clause-due : goal.returns-in-Build-clause-due
returns-in-Build-clause-due g c =
    let shelf = shelf_of g.H.Shelf.files g.H.Shelf.faults c.args.shelf.now c.answer_written.new.shelf in
    let streams = streams_of
    (stream_of g.I.Source.left g.I.Source.faults c.args.streams.input.now c.answer_written.new.streams.0)
    (stream_of g.O.Sink.taken g.O.Sink.faults c.args.streams.out.now c.answer_written.new.streams.1.0) in
    let asked = asked_of c.args.command.now in
    let texts = texts_compiled ((goal.SpillPolicy-dyn g c.args.policy.now).rule c.args.policy.now.1) in
    let runs = HasWatchedRunBy (λ b. (goal.Watcher-dyn g (b.vtable, b.value)).stands b.value) (λ b. (goal.Watcher-dyn g (b.vtable, b.value)).report b.value)
    c.args.command.now.flags.bare (if_watched c.args.command.now.flags c.args.watchers.now.items) c.keep_asked.new.watchers.items streams in
    in_mode texts runs Build shelf streams asked c.answer_written.result (no_gen Build tt) c.in-Build.is
    (by_writing shelf streams (Builds _ _) asked c.answer_written.result c.answer_written.ensures.unread
    c.answer_written.ensures.before_start c.answer_written.ensures.due)

pub returns-in-Run-clause-due : goal.returns-in-Run-clause-due
returns-in-Run-clause-due g c =
    let shelf = shelf_of g.H.Shelf.files g.H.Shelf.faults c.args.shelf.now c.answer_run.new.shelf in
    let streams = streams_of
    (stream_of g.I.Source.left g.I.Source.faults c.args.streams.input.now c.answer_run.new.streams.0)
    (stream_of g.O.Sink.taken g.O.Sink.faults c.args.streams.out.now c.answer_run.new.streams.1.0) in
    let asked = asked_of c.args.command.now in
    let texts = texts_compiled ((goal.SpillPolicy-dyn g c.args.policy.now).rule c.args.policy.now.1) in
    let runs = HasWatchedRunBy (λ b. (goal.Watcher-dyn g (b.vtable, b.value)).stands b.value) (λ b. (goal.Watcher-dyn g (b.vtable, b.value)).report b.value)
    c.args.command.now.flags.bare (if_watched c.args.command.now.flags c.args.watchers.now.items) c.answer_run.new.watchers.items streams in
    in_mode texts runs Run shelf streams asked c.answer_run.result (no_gen Run tt) c.in-Run.is
    (by_run (Builds _ _) runs shelf streams asked c.answer_run.result c.answer_run.ensures.before_start
    (run_by_flag (λ b. (goal.Watcher-dyn g (b.vtable, b.value)).stands b.value) (λ b. (goal.Watcher-dyn g (b.vtable, b.value)).report b.value)
    (if_watched c.args.command.now.flags c.args.watchers.now.items) c.answer_run.new.watchers.items (Builds _ _) shelf streams asked.mode asked
    c.answer_run.result c.in-Run.is c.requires.flags (rw c.keep_asked.ensures at c.answer_run.ensures.due)))

pub returns-in-Exec-clause-due : goal.returns-in-Exec-clause-due
returns-in-Exec-clause-due g c =
    let shelf = shelf_of g.H.Shelf.files g.H.Shelf.faults c.args.shelf.now c.answer_exec.new.shelf in
    let streams = streams_of
    (stream_of g.I.Source.left g.I.Source.faults c.args.streams.input.now c.answer_exec.new.streams.0)
    (stream_of g.O.Sink.taken g.O.Sink.faults c.args.streams.out.now c.answer_exec.new.streams.1.0) in
    let asked = asked_of c.args.command.now in
    let texts = texts_compiled ((goal.SpillPolicy-dyn g c.args.policy.now).rule c.args.policy.now.1) in
    let runs = HasWatchedRunBy (λ b. (goal.Watcher-dyn g (b.vtable, b.value)).stands b.value) (λ b. (goal.Watcher-dyn g (b.vtable, b.value)).report b.value)
    c.args.command.now.flags.bare (if_watched c.args.command.now.flags c.args.watchers.now.items) c.answer_exec.new.watchers.items streams in
    in_mode texts runs Exec shelf streams asked c.answer_exec.result (no_gen Exec tt) c.in-Exec.is
    (by_exec runs shelf streams asked c.answer_exec.result c.answer_exec.ensures.before_start (rw c.keep_asked.ensures at c.answer_exec.ensures.due))

pub returns-in-Alloc-clause-due : goal.returns-in-Alloc-clause-due
returns-in-Alloc-clause-due g c =
    let shelf = shelf_of g.H.Shelf.files g.H.Shelf.faults c.args.shelf.now c.answer_written-in-Alloc.new.shelf in
    let streams = streams_of
    (stream_of g.I.Source.left g.I.Source.faults c.args.streams.input.now c.answer_written-in-Alloc.new.streams.0)
    (stream_of g.O.Sink.taken g.O.Sink.faults c.args.streams.out.now c.answer_written-in-Alloc.new.streams.1.0) in
    let asked = asked_of c.args.command.now in
    let texts = texts_compiled ((goal.SpillPolicy-dyn g c.args.policy.now).rule c.args.policy.now.1) in
    let runs = HasWatchedRunBy (λ b. (goal.Watcher-dyn g (b.vtable, b.value)).stands b.value) (λ b. (goal.Watcher-dyn g (b.vtable, b.value)).report b.value)
    c.args.command.now.flags.bare (if_watched c.args.command.now.flags c.args.watchers.now.items) c.keep_asked.new.watchers.items streams in
    in_mode texts runs Alloc shelf streams asked c.answer_written-in-Alloc.result (no_gen Alloc tt) c.in-Alloc.is
    (by_writing shelf streams (Lists _ _) asked c.answer_written-in-Alloc.result c.answer_written-in-Alloc.ensures.unread
    c.answer_written-in-Alloc.ensures.before_start c.answer_written-in-Alloc.ensures.due)

pub returns-in-Show-clause-due : goal.returns-in-Show-clause-due
returns-in-Show-clause-due g c =
    let shelf = shelf_of g.H.Shelf.files g.H.Shelf.faults c.args.shelf.now c.answer_show.new.shelf in
    let streams = streams_of
    (stream_of g.I.Source.left g.I.Source.faults c.args.streams.input.now c.answer_show.new.streams.0)
    (stream_of g.O.Sink.taken g.O.Sink.faults c.args.streams.out.now c.answer_show.new.streams.1.0) in
    let asked = asked_of c.args.command.now in
    let texts = texts_compiled ((goal.SpillPolicy-dyn g c.args.policy.now).rule c.args.policy.now.1) in
    let runs = HasWatchedRunBy (λ b. (goal.Watcher-dyn g (b.vtable, b.value)).stands b.value) (λ b. (goal.Watcher-dyn g (b.vtable, b.value)).report b.value)
    c.args.command.now.flags.bare (if_watched c.args.command.now.flags c.args.watchers.now.items) c.keep_asked.new.watchers.items streams in
    in_mode texts runs Show shelf streams asked c.answer_show.result (no_gen Show tt) c.in-Show.is
    (by_writing shelf streams (Shows _ _) asked c.answer_show.result c.answer_show.ensures.unread
    c.answer_show.ensures.before_start c.answer_show.ensures.due)

pub returns-in-Format-clause-due : goal.returns-in-Format-clause-due
returns-in-Format-clause-due g c =
    let shelf = shelf_of g.H.Shelf.files g.H.Shelf.faults c.args.shelf.now c.answer_format.new.shelf in
    let streams = streams_of
    (stream_of g.I.Source.left g.I.Source.faults c.args.streams.input.now c.answer_format.new.streams.0)
    (stream_of g.O.Sink.taken g.O.Sink.faults c.args.streams.out.now c.answer_format.new.streams.1.0) in
    let asked = asked_of c.args.command.now in
    let texts = texts_compiled ((goal.SpillPolicy-dyn g c.args.policy.now).rule c.args.policy.now.1) in
    let runs = HasWatchedRunBy (λ b. (goal.Watcher-dyn g (b.vtable, b.value)).stands b.value) (λ b. (goal.Watcher-dyn g (b.vtable, b.value)).report b.value)
    c.args.command.now.flags.bare (if_watched c.args.command.now.flags c.args.watchers.now.items) c.keep_asked.new.watchers.items streams in
    in_mode texts runs Format shelf streams asked c.answer_format.result (no_gen Format tt) c.in-Format.is
    (by_format shelf streams asked c.answer_format.result c.answer_format.ensures.unread c.answer_format.ensures.before_start c.answer_format.ensures.due)

pub returns-in-Bare-clause-due : goal.returns-in-Bare-clause-due
returns-in-Bare-clause-due g c =
    let shelf = shelf_of g.H.Shelf.files g.H.Shelf.faults c.args.shelf.now c.answer_bare.new.shelf in
    let streams = streams_of
    (stream_of g.I.Source.left g.I.Source.faults c.args.streams.input.now c.answer_bare.new.streams.0)
    (stream_of g.O.Sink.taken g.O.Sink.faults c.args.streams.out.now c.answer_bare.new.streams.1.0) in
    let asked = asked_of c.args.command.now in
    let texts = texts_compiled ((goal.SpillPolicy-dyn g c.args.policy.now).rule c.args.policy.now.1) in
    let runs = HasWatchedRunBy (λ b. (goal.Watcher-dyn g (b.vtable, b.value)).stands b.value) (λ b. (goal.Watcher-dyn g (b.vtable, b.value)).report b.value)
    c.args.command.now.flags.bare (if_watched c.args.command.now.flags c.args.watchers.now.items) c.keep_asked.new.watchers.items streams in
    in_mode texts runs Bare shelf streams asked c.answer_bare.result (no_gen Bare tt) c.in-Bare.is
    (by_bare shelf streams (BuildsDelayed _ _) asked c.answer_bare.result c.answer_bare.ensures.unread
    c.answer_bare.ensures.before_start c.answer_bare.ensures.due)

pub returns-in-Gen-clause-due : goal.returns-in-Gen-clause-due
returns-in-Gen-clause-due g c =
    let shelf = shelf_of g.H.Shelf.files g.H.Shelf.faults c.args.shelf.now c.args.shelf.now in
    let streams = streams_of
    (stream_of g.I.Source.left g.I.Source.faults c.args.streams.input.now c.generate_to.new.streams.0)
    (stream_of g.O.Sink.taken g.O.Sink.faults c.args.streams.out.now c.generate_to.new.streams.1.0) in
    let asked = asked_of c.args.command.now in
    let texts = texts_compiled ((goal.SpillPolicy-dyn g c.args.policy.now).rule c.args.policy.now.1) in
    let runs = HasWatchedRunBy (λ b. (goal.Watcher-dyn g (b.vtable, b.value)).stands b.value) (λ b. (goal.Watcher-dyn g (b.vtable, b.value)).report b.value)
    c.args.command.now.flags.bare (if_watched c.args.command.now.flags c.args.watchers.now.items) c.keep_asked.new.watchers.items streams in
    in_mode texts runs Gen shelf streams asked c.generate_to.result (λ _. refl) c.in-Gen.is
    (by_gen (Builds _ _) shelf streams asked c.generate_to.result refl c.generate_to.ensures.unread c.generate_to.ensures.before_start c.generate_to.ensures.due)

pub generate_to-requires-clause-number : goal.generate_to-requires-clause-number
generate_to-requires-clause-number g c = c.requires.number c.in-Gen.is

pub returns-in-Exec-clause-source : goal.returns-in-Exec-clause-source
returns-in-Exec-clause-source g c =
    let shelf = shelf_of g.H.Shelf.files g.H.Shelf.faults c.args.shelf.now c.answer_exec.new.shelf in
    let asked = asked_of c.args.command.now in
    gives_executed shelf asked.file _ asked c.args.source.now.items c.answer_exec.result c.answer_exec.ensures.due

pub returns-in-Gen-clause-source : goal.returns-in-Gen-clause-source
returns-in-Gen-clause-source g c =
    let shelf = shelf_of g.H.Shelf.files g.H.Shelf.faults c.args.shelf.now c.args.shelf.now in
    let asked = asked_of c.args.command.now in
    gives_generated shelf asked.file (Builds _ _) _ asked c.args.source.now.items c.generate_to.result c.generate_to.ensures.due
