use Rattle.std.proofs.Common.{arith}
use Rattle.std.proofs.lemmas.Grind.{common_steps}
use Rattle.tg_show.proofs.Nodes.{lines_step, lines_end}
use Rattle.tg_show.proofs.graphs.put_node_lines.Goals as goal

pub loop-node-preserved : goal.loop-node-preserved
loop-node-preserved c = grind (arith, common_steps, lines_step)

pub returns : goal.returns
returns c = grind (arith, common_steps, lines_end)
