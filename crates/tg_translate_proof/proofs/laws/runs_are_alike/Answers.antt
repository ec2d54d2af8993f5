use Rattle.tg_translate_proof.proofs.program.Consequences.{links_are_right, sizes_tell_nothing, go_on_alike}
use Rattle.tg_translate_proof.proofs.laws.runs_are_alike.Goals as goal

pub returns : goal.returns
returns c = record {
  links = links_are_right c.translate_is_correct.ensures;
  sizes = sizes_tell_nothing c.translate_is_correct.ensures;
  onward = go_on_alike c.translate_is_correct.ensures;
}
