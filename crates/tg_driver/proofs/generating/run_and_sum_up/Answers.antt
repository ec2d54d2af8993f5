use Rattle.tg_driver.proofs.AnswerLemmas.{ran_and_summed}
use Rattle.tg_driver.proofs.generating.run_and_sum_up.Goals as goal

pub returns-clause-sums_up : goal.returns-clause-sums_up
returns-clause-sums_up g c = λ image heap stack is empty.
    ran_and_summed g.O.Sink.taken g.O.Sink.faults c.args.out.now c.run-end.new.out c.sum_up.new.out _ _ _ c.args.machine
    c.run-end.new.self c.args.input c.run-end.new.input image heap stack c.run-end.result c.sum_up.result is empty
    c.run-end.ensures.run (rw c.written.ensures at c.sum_up.ensures.sums_up)
