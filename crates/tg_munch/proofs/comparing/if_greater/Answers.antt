use Rattle.std.proofs.Common.{refl}
use Rattle.tg_tree.specs.declared.operators.Rel.TheVariants.{Greater}
use Rattle.tg_instr.specs.declared.operands.Opnd.TheVariants.{Reg}
use Rattle.tg_munch.proofs.Writing.{same_branch}
use Rattle.tg_munch.proofs.comparing.if_greater.Goals as goal

pub returns : goal.returns
returns c = same_branch Greater c.args.left (Reg 0) _ refl c.args.mark
