use Rattle.tg_explain_types.proofs.Distances.{one_edit}
use Rattle.tg_explain_types.proofs.laws.one_edit_is_exact.Goals as goal

pub returns : goal.returns
returns c = one_edit
