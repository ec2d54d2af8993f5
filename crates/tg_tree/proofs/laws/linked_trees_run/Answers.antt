use Rattle.tg_tree.proofs.Linked.{linked_own, linked_stays_over, linked_is_trees}
use Rattle.tg_tree.proofs.laws.linked_trees_run.Goals as goal

pub returns-clause-step : goal.returns-clause-step
returns-clause-step c = λ stage code size floor room level p n. linked_own stage code size floor room level p n

pub returns-clause-over : goal.returns-clause-over
returns-clause-over c = λ stage code size floor room level body input i j le o. linked_stays_over stage code size floor room level body input i j le o

pub returns-clause-runs : goal.returns-clause-runs
returns-clause-runs c = λ stage code size floor room level body input n ne. linked_is_trees stage code size floor room level body input n ne
