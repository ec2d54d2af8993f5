use Rattle.tg_fold_laws.proofs.Accesses.{folded_within}
use Rattle.tg_fold_laws.proofs.Depths.{folded_shallow}
use Rattle.tg_fold_laws.proofs.Frames.{folded_frames_are_small}
use Rattle.tg_fold_laws.proofs.laws.depth_and_accesses_stay.Goals as goal

pub returns : goal.returns
returns c = record {
  accesses = folded_within;
  depth = folded_shallow;
  checked = folded_frames_are_small c.fold_is_bounded.ensures.functions c.translate_is_bounded.ensures.checked;
}
