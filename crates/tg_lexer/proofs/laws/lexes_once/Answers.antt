use Rattle.tg_lexer.proofs.Onces.{lexes_once}
use Rattle.tg_lexer.proofs.laws.lexes_once.Goals as goal

pub returns : goal.returns
returns c = λ names text one other d l k. lexes_once names d l other k
