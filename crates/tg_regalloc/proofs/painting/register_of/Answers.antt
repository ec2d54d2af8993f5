use Rattle.std.proofs.Common.{arith}
use Rattle.tg_regalloc.proofs.Painted.{past_colours}
use Rattle.tg_regalloc.proofs.painting.register_of.Goals as goal

pub returns-in_default : goal.returns-in_default
returns-in_default c = past_colours c.args.colour (omega arith)
