use Rattle.tg_graph.proofs.Partitions.{start_parts, moved_parts, moved_tells}
use Rattle.tg_graph.proofs.laws.lists_stay_apart.Goals as goal

pub returns-clause-start : goal.returns-clause-start
returns-clause-start c = start_parts

pub returns-clause-moves : goal.returns-clause-moves
returns-clause-moves c = moved_parts

pub returns-clause-told : goal.returns-clause-told
returns-clause-told c = moved_tells
