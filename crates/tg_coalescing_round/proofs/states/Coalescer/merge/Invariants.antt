use Rattle.std.proofs.Common.{◌≡◌, length}
use Rattle.tg_graph.specs.Interference.{neighbours}
use Rattle.tg_coalescing_round.proofs.Uniting.{CanMerge, one_to}
use Rattle.tg_coalescing_round.proofs.states.Coalescer.merge.Given as goal

abbrev pub invariant-loop-place : goal.invariant-loop-place
invariant-loop-place l = record {
  merges : CanMerge l.kept l.gone l.fn.self;
  size : l.place-end ≡ length (neighbours l.fn.self.graph l.gone);
  so_far : l.self ≡ one_to l.kept l.gone l.fn.self l.place;
}
