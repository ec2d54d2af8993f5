use Rattle.tg_runtime_proof.proofs.Running.{linked_are_served}
use Rattle.tg_runtime_proof.proofs.laws.linked_are_served.Goals as goal

pub returns : goal.returns
returns c = linked_are_served
