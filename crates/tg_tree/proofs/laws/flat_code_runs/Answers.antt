use Rattle.tg_tree.proofs.FlatRuns.{flat_code_steps, flat_code_stays_over, flat_code_only_goes_on}
use Rattle.tg_tree.proofs.laws.flat_code_runs.Goals as goal

pub returns-clause-step : goal.returns-clause-step
returns-clause-step c = λ code size floor room p n. flat_code_steps code size floor room p n

pub returns-clause-over : goal.returns-clause-over
returns-clause-over c = λ code size floor room body input i j le o. flat_code_stays_over code size floor room body input i j le o

pub returns-clause-on : goal.returns-clause-on
returns-clause-on c = λ code size floor room body input i j le. flat_code_only_goes_on code size floor room body input i j le
