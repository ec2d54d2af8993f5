use Rattle.tg_asm_text.proofs.TextLines.{lines_have_image}
use Rattle.tg_asm_text.proofs.laws.lines_have_image.Goals as goal

pub returns : goal.returns
returns c = lines_have_image
