use Rattle.std.proofs.Common.{◌≡◌, ◌-◌}
use Rattle.std.specs.Prelude.{fold}
use Rattle.std.specs.List.{range_with_len}
use Rattle.tg_graph.specs.Interference.{colours}
use Rattle.tg_coalescing_round.specs.glue.Works.{relisted, unlisted}
use Rattle.tg_coalescing_round.proofs.states.Coalescer.new.Given as goal

abbrev pub invariant-loop-node : goal.invariant-loop-node
invariant-loop-node l = record {
  nodes : l.work.graph.nodes ≡ l.nodes;
  so_far : l.work ≡
      fold (λ w x. relisted x w) (unlisted l.fn.graph l.moves l.facts) (range_with_len colours (l.node - colours));
}
