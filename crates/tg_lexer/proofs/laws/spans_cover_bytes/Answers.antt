use Rattle.tg_lexer.proofs.Spelled.{tokens_spelled}
use Rattle.tg_lexer.proofs.laws.spans_cover_bytes.Goals as goal

pub returns : goal.returns
returns c names text tokens l = tokens_spelled l
