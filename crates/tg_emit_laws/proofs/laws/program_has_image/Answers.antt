use Rattle.tg_emit_laws.proofs.Soundness.{program_is_code, program_is_sound, program_has_image, program_enters_body}
use Rattle.tg_emit_laws.proofs.laws.program_has_image.Goals as goal

pub returns : goal.returns
returns c = record {
  code = program_is_code;
  sound = program_is_sound;
  image = program_has_image;
  entry = program_enters_body;
}
