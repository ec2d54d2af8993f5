use Rattle.tg_translate_laws.proofs.Shaping as shaping
use Rattle.tg_translate_laws.proofs.laws.literals_are_strings.Goals as goal

pub returns : goal.returns
returns c = record { strings = shaping.literals_are_strings; short = shaping.literals_are_short }
