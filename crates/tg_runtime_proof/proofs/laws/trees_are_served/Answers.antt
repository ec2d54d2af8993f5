use Rattle.tg_runtime_proof.proofs.Running.{trees_are_served}
use Rattle.tg_runtime_proof.proofs.laws.trees_are_served.Goals as goal

pub returns : goal.returns
returns c = trees_are_served
