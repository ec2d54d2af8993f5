use Rattle.std.proofs.Common.{arith}
use Rattle.std.proofs.lemmas.Grind.{common_steps}
use Rattle.tg_typecheck.proofs.TreeSteps.{count_is}
use Rattle.tg_typecheck.proofs.trees.are_as_many.Goals as goal

pub returns : goal.returns
returns c = grind (arith, common_steps, count_is c.args.arguments.now)
