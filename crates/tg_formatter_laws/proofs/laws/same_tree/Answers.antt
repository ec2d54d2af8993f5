use Rattle.tg_formatter_laws.proofs.Nesting.{same_nesting}
use Rattle.tg_formatter_laws.proofs.Trees.{same_tree}
use Rattle.tg_formatter_laws.proofs.laws.same_tree.Goals as goal

pub returns : goal.returns
returns c = record { tree = same_tree; nesting = same_nesting }
