use Rattle.tg_simulation.proofs.Agreeing.{passes_compose}
use Rattle.tg_simulation.proofs.laws.passes_compose.Goals as goal

pub returns : goal.returns
returns c = λ a b k l d e g h j. passes_compose a b k l d e g h j
