use Rattle.tg_translate_laws.proofs.Shaping as shaping
use Rattle.tg_translate_laws.proofs.laws.bodies_are_closed.Goals as goal

pub returns : goal.returns
returns c = record {
  text = shaping.bodies_are_closed;
  checked = shaping.checked_bodies_are_closed c.checked_has_type.ensures;
}
