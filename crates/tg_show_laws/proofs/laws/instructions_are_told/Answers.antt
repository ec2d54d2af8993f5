use Rattle.tg_show_laws.proofs.InstructionTexts.{instructions_are_told}
use Rattle.tg_show_laws.proofs.laws.instructions_are_told.Goals as goal

pub returns : goal.returns
returns c = instructions_are_told
