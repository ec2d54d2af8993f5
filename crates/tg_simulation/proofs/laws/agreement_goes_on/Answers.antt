use Rattle.tg_simulation.proofs.Agreeing.{agreement_goes_on, full_stack_goes_on}
use Rattle.tg_simulation.proofs.laws.agreement_goes_on.Goals as goal

pub returns-clause-agrees : goal.returns-clause-agrees
returns-clause-agrees c = λ a b k l d e f agrees keeps stays. agreement_goes_on a b k l d e f agrees keeps stays

pub returns-clause-full : goal.returns-clause-full
returns-clause-full c = λ stack k l d e f h keeps. full_stack_goes_on stack k l d e f h keeps
