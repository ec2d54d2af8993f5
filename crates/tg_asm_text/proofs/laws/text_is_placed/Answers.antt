use Rattle.tg_asm_text.proofs.PlacedTexts.{readings_have_image}
use Rattle.tg_asm_text.proofs.laws.text_is_placed.Goals as goal

pub returns : goal.returns
returns c = record { image = readings_have_image }
