use Rattle.tg_semantics.proofs.MoreFuel.{more_is_idle, more_goes_on, one_outcome}
use Rattle.tg_semantics.proofs.laws.fuel_is_a_bound.Goals as goal

pub returns-clause-idle : goal.returns-clause-idle
returns-clause-idle c = more_is_idle

pub returns-clause-on : goal.returns-clause-on
returns-clause-on c = more_goes_on

pub returns-clause-one : goal.returns-clause-one
returns-clause-one c = one_outcome
