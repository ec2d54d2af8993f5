use Rattle.tg_translate_laws.proofs.Shaping as shaping
use Rattle.tg_translate_laws.proofs.laws.temporaries_are_drawn.Goals as goal

pub returns : goal.returns
returns c = record {
  text = shaping.temporaries_are_drawn;
  reaches = shaping.checked_reaches c.checked_has_type.ensures c.notes_are_found.ensures;
  checked = shaping.checked_temporaries_are_drawn c.checked_has_type.ensures c.notes_are_found.ensures;
}
