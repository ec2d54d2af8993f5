use Rattle.tg_translate_laws.proofs.Bounding.{checked_frames_are_small}
use Rattle.tg_translate_laws.proofs.Measured as measured
use Rattle.tg_translate_laws.proofs.laws.translate_is_bounded.Goals as goal

pub returns : goal.returns
returns c = record {
  slots = measured.slots_are_few;
  within = measured.functions_are_within;
  checked = checked_frames_are_small c.checked_has_type.ensures;
}
