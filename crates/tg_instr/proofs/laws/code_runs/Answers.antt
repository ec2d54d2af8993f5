use Rattle.tg_instr.proofs.CodeRuns.{code_steps, code_stays_over, code_only_goes_on}
use Rattle.tg_instr.proofs.laws.code_runs.Goals as goal

pub returns-clause-step : goal.returns-clause-step
returns-clause-step c = code_steps

pub returns-clause-over : goal.returns-clause-over
returns-clause-over c = code_stays_over

pub returns-clause-on : goal.returns-clause-on
returns-clause-on c = code_only_goes_on
