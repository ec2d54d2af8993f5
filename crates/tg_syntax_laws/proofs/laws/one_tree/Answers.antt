use Rattle.tg_syntax_laws.proofs.Complete.{one_tree}
use Rattle.tg_syntax_laws.proofs.laws.one_tree.Goals as goal

pub returns : goal.returns
returns c = one_tree
