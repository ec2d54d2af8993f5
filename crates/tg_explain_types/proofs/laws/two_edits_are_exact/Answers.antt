use Rattle.tg_explain_types.proofs.Distances.{two_edits}
use Rattle.tg_explain_types.proofs.laws.two_edits_are_exact.Goals as goal

pub returns : goal.returns
returns c = two_edits
