use Rattle.tg_translate_proof.proofs.invariant.Activations as activations
use Rattle.tg_translate_proof.proofs.laws.assignments_find_their_activation.Goals as goal

pub returns : goal.returns
returns c = record {
  frames = activations.assignments_find_their_activation;
  temporaries = activations.temporaries_are_own;
}
