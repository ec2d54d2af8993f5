use Rattle.std.proofs.Common.{◌≡◌, length}
use Rattle.tg_graph.specs.Interference.{neighbours}
use Rattle.tg_coalescing_round.proofs.TakingOut.{out_to}
use Rattle.tg_coalescing_round.proofs.states.Coalescer.take_out.Given as goal

abbrev pub invariant-loop-place : goal.invariant-loop-place
invariant-loop-place l = record {
  size : l.place-end ≡ length (neighbours l.fn.self.graph l.node);
  so_far : l.self ≡ out_to l.node l.fn.self l.place;
}
