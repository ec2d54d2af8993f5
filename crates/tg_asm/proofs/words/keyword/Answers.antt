use Rattle.tg_asm.proofs.Keywords.{keyword_spelled, keyword_none}
use Rattle.tg_asm.proofs.words.keyword.Goals as goal

pub returns-in-Some : goal.returns-in-Some
returns-in-Some c = keyword_spelled _ _ c.in-Some.ensures

pub returns-in-None : goal.returns-in-None
returns-in-None c = keyword_none _ c.in-None.ensures
