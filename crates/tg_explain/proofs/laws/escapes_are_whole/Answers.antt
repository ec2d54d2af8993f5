use Rattle.tg_explain.proofs.Escapes.{whole_escapes}
use Rattle.tg_explain.proofs.laws.escapes_are_whole.Goals as goal

pub returns : goal.returns
returns c = whole_escapes
