use Rattle.std.proofs.Common.{◌≡◌, ℕ, List, [], ap, ◌∙◌}
use Rattle.tg_base.specs.PlainBytes.{PlainBytes}
use Rattle.tg_driver.specs.Calls.{stream_of}
use Rattle.tg_driver.specs.glue.PrivateCalls.{SumsUpRun}
use Rattle.tg_driver.proofs.AnswerLemmas.{or_memory, started_stays}
use Rattle.tg_driver.proofs.generating.execute_generated.Goals as goal

pub returns-in-Ok-clause-due : goal.returns-in-Ok-clause-due
returns-in-Ok-clause-due g c =
    let out = stream_of g.O.Sink.taken g.O.Sink.faults c.args.out.now c.run_and_sum_up.new.out in
    let input : List ℕ → PlainBytes = λ l. record { left = l; calls = 0 } in
    let empty : c.new-input.result ≡ input [] = c.new-input.ensures ∙ ap input c.new.ensures.items in
    let due = c.run_and_sum_up.ensures.sums_up c.args.image.now c.args.command.now.heap c.args.command.now.stack c.in-Ok.ensures empty in
    or_memory (SumsUpRun out c.args.command.now.number c.args.bytes c.args.image.now c.args.command.now.heap
    c.args.command.now.stack c.args.command.now.steps) c.run_and_sum_up.result due

pub returns-in-Ok-clause-before_start : goal.returns-in-Ok-clause-before_start
returns-in-Ok-clause-before_start g c =
    let out = stream_of g.O.Sink.taken g.O.Sink.faults c.args.out.now c.run_and_sum_up.new.out in
    started_stays out c.run_and_sum_up.result c.run_and_sum_up.ensures.started
