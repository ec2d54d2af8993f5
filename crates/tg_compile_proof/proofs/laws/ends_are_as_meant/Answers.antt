use Rattle.tg_compile_proof.proofs.Ending.{ended_is_meant, running_is_meant}
use Rattle.tg_compile_proof.proofs.laws.ends_are_as_meant.Goals as goal

pub returns-clause-ended : goal.returns-clause-ended
returns-clause-ended c = ended_is_meant c.ends_tell.ensures

pub returns-clause-running : goal.returns-clause-running
returns-clause-running c = running_is_meant c.ends_tell.ensures
