use Rattle.std.proofs.Common.{refl}
use Rattle.tg_tree.specs.declared.operators.Rel.TheVariants.{NotEqual}
use Rattle.tg_munch.proofs.Writing.{same_branch}
use Rattle.tg_munch.proofs.comparing.unless_equal.Goals as goal

pub returns : goal.returns
returns c = same_branch NotEqual c.args.left c.args.right _ refl c.args.mark
