use Rattle.tg_formatter_laws.proofs.Written.{same_tokens}
use Rattle.tg_formatter_laws.proofs.laws.same_tokens.Goals as goal

pub returns : goal.returns
returns c = same_tokens
