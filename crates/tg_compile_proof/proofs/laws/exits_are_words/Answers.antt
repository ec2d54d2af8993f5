use Rattle.tg_compile_proof.proofs.ExitCodes as codes
use Rattle.tg_compile_proof.proofs.laws.exits_are_words.Goals as goal

pub returns : goal.returns
returns c = codes.exits_are_words c.trees_are_of_words.ensures c.strings_fit_text.ensures.short
