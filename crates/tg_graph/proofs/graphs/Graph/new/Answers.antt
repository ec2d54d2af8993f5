use Rattle.std.proofs.Common.{◌≡◌, ◌-◌, replicate, sym, rules}
use Rattle.tg_graph.proofs.Joining.{kept_at, kept_bare}
use Rattle.tg_graph.proofs.graphs.Graph.new.Goals as goal

pub invariant_of-result : goal.invariant_of-result
invariant_of-result c =
    let n = c.args.nodes in
    let counters : c.in_ok-vec.field-0.items ≡ replicate (n - 25) 0 =
    c.in_ok-vec.ensures.items_if_clones_equal (λ y h. search rules) in
    kept_at n _ _ _ _ _ _ (sym c.in_ok-empty_lists-2.ensures) (sym c.in_ok-empty_lists.ensures) (sym counters)
    (kept_bare n c.tiles_for.result c.requires.low c.requires.high c.tiles_for.ensures)
