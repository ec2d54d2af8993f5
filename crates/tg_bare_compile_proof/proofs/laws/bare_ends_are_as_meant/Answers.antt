use Rattle.tg_bare_compile_proof.proofs.Ending.{bare_ended_is_meant, bare_running_is_meant}
use Rattle.tg_bare_compile_proof.proofs.laws.bare_ends_are_as_meant.Goals as goal

pub returns : goal.returns
returns c = record { ended = bare_ended_is_meant; running = bare_running_is_meant }
