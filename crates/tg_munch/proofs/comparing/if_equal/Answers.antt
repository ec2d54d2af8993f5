use Rattle.std.proofs.Common.{refl}
use Rattle.tg_tree.specs.declared.operators.Rel.TheVariants.{Equal}
use Rattle.tg_munch.proofs.Writing.{same_branch}
use Rattle.tg_munch.proofs.comparing.if_equal.Goals as goal

pub returns : goal.returns
returns c = same_branch Equal c.args.left c.args.right _ refl c.args.mark
