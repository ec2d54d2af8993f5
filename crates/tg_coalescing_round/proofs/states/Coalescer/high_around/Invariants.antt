use Rattle.std.proofs.Common.{◌≡◌, ◌<◌, take}
use Rattle.std.specs.Prelude.{count_by}
use Rattle.tg_graph.specs.Interference.{neighbours}
use Rattle.tg_coalescing_round.specs.glue.Works.{is_high}
use Rattle.tg_coalescing_round.proofs.states.Coalescer.high_around.Given as goal

abbrev pub invariant-loop-other : goal.invariant-loop-other
invariant-loop-other l = record {
  counted : l.count ≡ count_by (is_high l.self.lists) (take l.other-index (neighbours l.self.graph l.node));
  below : l.count < l.limit;
}
