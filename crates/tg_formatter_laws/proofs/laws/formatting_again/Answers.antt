use Rattle.tg_formatter_laws.proofs.Written.{formatting_again}
use Rattle.tg_formatter_laws.proofs.laws.formatting_again.Goals as goal

pub returns : goal.returns
returns c = formatting_again
