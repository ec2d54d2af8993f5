use Rattle.std.proofs.Common.{arith}
use Rattle.std.proofs.lemmas.Grind.{common_steps}
use Rattle.tg_syntax.proofs.SizeLemmas.{functions_size-plain_functions}
use Rattle.tg_syntax.proofs.measures.functions_nodes.Goals as goal

pub returns : goal.returns
returns c = rw (functions_size-plain_functions c.args.functions.now) (grind (arith, common_steps))
