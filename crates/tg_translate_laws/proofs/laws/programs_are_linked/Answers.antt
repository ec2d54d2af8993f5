use Rattle.tg_translate_laws.proofs.Shaping as shaping
use Rattle.tg_translate_laws.proofs.laws.programs_are_linked.Goals as goal

pub returns : goal.returns
returns c = record {
  linked = shaping.programs_are_linked c.routines_are_closed.ensures.labels c.routines_are_closed.ensures.routines;
  above = shaping.labels_are_above;
}
