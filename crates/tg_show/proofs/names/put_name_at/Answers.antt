use Rattle.std.proofs.Common.{arith}
use Rattle.std.proofs.lemmas.Grind.{common_steps}
use Rattle.tg_show.proofs.Naming.{name_behind, name_within}
use Rattle.tg_show.proofs.names.put_name_at.Goals as goal

pub loop-at-preserved : goal.loop-at-preserved
loop-at-preserved c = grind (arith, common_steps, name_behind)

pub returns : goal.returns
returns c = grind (arith, common_steps, name_within)
