use Rattle.std.proofs.Common.{◌≡◌, [], length, reverse, take}
use Rattle.std.specs.Prelude.{fold}
use Rattle.tg_coalescing_round.specs.mirror.Selecting.{popped, precoloured}
use Rattle.tg_coalescing_round.proofs.selection.select.Given as goal

abbrev pub invariant-loop-place : goal.invariant-loop-place
invariant-loop-place l = record {
  sized : length l.selection.colours ≡ l.graph.nodes;
  so_far : l.selection ≡
      fold (popped l.graph) (record { colours = precoloured l.graph.nodes; spilled = [] })
      (take l.place (reverse l.stack));
}
