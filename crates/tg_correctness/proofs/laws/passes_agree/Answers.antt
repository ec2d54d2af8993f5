use Rattle.tg_correctness.proofs.Composing.{passes_agree}
use Rattle.tg_correctness.proofs.laws.passes_agree.Goals as goal

pub returns : goal.returns
returns c = passes_agree
