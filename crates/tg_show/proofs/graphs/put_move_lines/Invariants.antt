use Rattle.std.proofs.Common.{◌≡◌, ◌++◌, drop}
use Rattle.tg_show.specs.Graph.{move_lines}
use Rattle.tg_show.proofs.graphs.put_move_lines.Given as goal

abbrev pub invariant-loop-one : goal.invariant-loop-one
invariant-loop-one l =
    l.initial.text.items ++ move_lines l.names l.moves ≡ l.text.items ++ move_lines l.names (drop l.one-index l.moves)
