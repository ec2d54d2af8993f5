use Rattle.std.proofs.Common.{◌≡◌, ℕ, ◌-◌, ◌<◌, ◌≤◌, List, slice_index}
use Rattle.std.specs.List.{range_with_len}
use Rattle.tg_graph.specs.glue.Chains.{AreAlone, AreInverse, Relinks, joined_to}
use Rattle.tg_graph.proofs.chains.link_range.Given as goal

pub record IsLinkedTo (old next prev : List ℕ) (from node to end : ℕ) : Type 0 where
  pub inverse : AreInverse next prev
  pub alone : AreAlone next node to
  pub others : (y : ℕ) → to ≤ y → y < end → slice_index old y ≡ y → slice_index next y ≡ y
  pub lists : (n : ℕ) → to ≤ n → n ≤ end → Relinks old next n (joined_to end (range_with_len from (node - from)))

abbrev pub invariant-loop-node : goal.invariant-loop-node
invariant-loop-node l = IsLinkedTo l.fn.next l.next l.prev l.from l.node l.to l.end
