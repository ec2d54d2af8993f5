use Rattle.tg_tree.proofs.TreeRuns.{trees_step, trees_stay_over, trees_only_go_on}
use Rattle.tg_tree.proofs.laws.trees_run.Goals as goal

pub returns-clause-step : goal.returns-clause-step
returns-clause-step c = λ stage code size floor room p n. trees_step stage code size floor room p n

pub returns-clause-over : goal.returns-clause-over
returns-clause-over c = λ stage code size floor room body input i j le o. trees_stay_over stage code size floor room body input i j le o

pub returns-clause-on : goal.returns-clause-on
returns-clause-on c = λ stage code size floor room body input i j le. trees_only_go_on stage code size floor room body input i j le
