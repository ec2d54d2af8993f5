use Rattle.std.proofs.Common.{◌≡◌}
use Rattle.tg_coalescing_round_tests.proofs.drawing.join_registers.Given as goal

abbrev pub invariant-loop-register : goal.invariant-loop-register
invariant-loop-register l = l.graph.nodes ≡ l.initial.graph.nodes
