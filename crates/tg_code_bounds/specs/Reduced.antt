-- What a pass over trees makes of a function: one for the same frame that is no larger.
use Rattle.std.specs.Prelude.{◌≡◌, ◌≤◌}
use Rattle.tg_tree.specs.Tree.{Ts, Function}
use Rattle.tg_tree.specs.Sizes.{tree_length, tree_needs}
use Rattle.tg_canon_trace_proof.specs.Flattened.{MayBeFlattened}

-- A function of trees in the place of another: its frame is that one's but for temporaries, it is
-- no larger, and the passes of chapter 8 take it if they take that one.
pub record ReducesTo (before after : Function Ts) : Type 0 where
  pub label : after.label ≡ before.label
  pub params : after.params ≡ before.params
  pub slots : after.slots ≡ before.slots
  pub out : after.out ≡ before.out
  pub short : tree_length after ≤ tree_length before
  pub small : tree_needs after ≤ tree_needs before
  pub may : MayBeFlattened before → MayBeFlattened after
