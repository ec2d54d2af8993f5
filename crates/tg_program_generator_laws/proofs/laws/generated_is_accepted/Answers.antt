use Rattle.tg_program_generator_laws.proofs.Accepted.{generated_is_accepted}
use Rattle.tg_program_generator_laws.proofs.laws.generated_is_accepted.Goals as goal

pub returns : goal.returns
returns c = generated_is_accepted
