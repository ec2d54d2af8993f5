use Rattle.std.proofs.Common.{arith}
use Rattle.tg_translate_laws.proofs.Bounding.{checked_constants_are_words}
use Rattle.tg_translate_laws.proofs.WordWalk.{constants_are_words}
use Rattle.tg_translate_laws.proofs.laws.constants_are_words.Goals as goal

pub returns : goal.returns
returns c = record {
  text = λ findings e fields o l. constants_are_words findings fields e o (omega (arith, l));
  checked = checked_constants_are_words c.checked_has_type.ensures;
}
