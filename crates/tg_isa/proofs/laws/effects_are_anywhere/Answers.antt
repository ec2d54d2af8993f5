use Rattle.tg_isa.proofs.Anywhere.{effects_are_anywhere}
use Rattle.tg_isa.proofs.laws.effects_are_anywhere.Goals as goal

pub returns : goal.returns
returns c = effects_are_anywhere
