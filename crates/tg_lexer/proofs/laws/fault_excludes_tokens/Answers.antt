use Rattle.tg_lexer.proofs.Excludes.{fault_excludes}
use Rattle.tg_lexer.proofs.laws.fault_excludes_tokens.Goals as goal

pub returns : goal.returns
returns c = λ text rule at f le names tokens l. fault_excludes f le names tokens l
