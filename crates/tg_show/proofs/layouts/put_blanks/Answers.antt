use Rattle.std.proofs.Common.{arith}
use Rattle.std.proofs.lemmas.Grind.{common_steps}
use Rattle.tg_show.proofs.Blanks.{blanks_more}
use Rattle.tg_show.proofs.layouts.put_blanks.Goals as goal

pub loop-level-preserved : goal.loop-level-preserved
loop-level-preserved c = grind (arith, common_steps, blanks_more)
