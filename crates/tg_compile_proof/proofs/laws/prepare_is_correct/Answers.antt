use Rattle.tg_compile_proof.proofs.Preparing as preparing
use Rattle.tg_compile_proof.proofs.laws.prepare_is_correct.Goals as goal

pub returns : goal.returns
returns c = record {
  programs = preparing.prepare_is_correct c.fold_is_correct.ensures.programs;
  following = preparing.following_goes_on;
}
