use Rattle.tg_semantics.proofs.Unfolding.{fuel_unfolds, program_unfolds}
use Rattle.tg_semantics.proofs.laws.fuel_unfolds.Goals as goal

pub returns-clause-jobs : goal.returns-clause-jobs
returns-clause-jobs c = fuel_unfolds

pub returns-clause-programs : goal.returns-clause-programs
returns-clause-programs c = program_unfolds
