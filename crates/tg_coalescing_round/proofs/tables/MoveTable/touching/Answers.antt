use Rattle.std.proofs.Common.{ℕ, List, length, get_or, sym, ap, ◌∙◌, arith}
use Rattle.tg_graph.proofs.Vectors.{list_read, lists_sized}
use Rattle.tg_coalescing_round.specs.glue.Tables.{Table}
use Rattle.tg_coalescing_round.proofs.Vectors.{items_of}
use Rattle.tg_coalescing_round.proofs.tables.MoveTable.touching.Goals as goal

pub returns-clause-within : goal.returns-clause-within
returns-clause-within c =
    let inside = c.self.inside in
    let size = lists_sized items_of inside.touching.items _ (ap (λ (t : Table). length t.touching) c.self.view_is) in
    let few = ap (λ (t : Table). length t.moves) c.self.view_is in
    let read = list_read items_of inside.touching.items c.args.class c.index.result.now (omega (arith, size, c.requires))
    c.index.ensures ∙ sym c.as_slice.ensures in
    λ k d l. let below = c.self.invariant.touching_below c.args.class k d (omega (arith, ap length read, l)) in
    let same = ap (λ (xs : List ℕ). get_or xs k d) read in omega (arith, same, below, few)
