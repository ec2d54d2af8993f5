use Rattle.std.proofs.Common.{arith}
use Rattle.std.proofs.lemmas.Grind.{common_steps}
use Rattle.tg_syntax.specs.glue.Plain.{plain}
use Rattle.tg_syntax.proofs.FunctionLaws.{program_size_is}
use Rattle.tg_syntax.proofs.programs.program_nodes.Goals as goal

pub returns : goal.returns
returns c = rw (program_size_is (plain c.args.program.now.body)) (grind (arith, common_steps))
