use Rattle.std.proofs.Common.{◌∙◌}
use Rattle.tg_coalescing_round.specs.glue.Tables.{started}
use Rattle.tg_coalescing_round.proofs.Tabling.{started_table, same_table}
use Rattle.tg_coalescing_round.proofs.tables.MoveTable.new.Goals as goal

pub invariant_of-result : goal.invariant_of-result
invariant_of-result c =
    let s = started c.args.moves.now c.args.nodes in
    same_table s (started_table c.args.moves.now c.args.nodes c.requires.few c.requires.ends)
    _ _ _ _ _ c.in_ok-from_slice.ensures.items c.in_ok-new.ensures (c.from.ensures.0 ∙ c.in_ok-numbers.ensures) c.in_ok-list_ends.ensures c.in_ok-count_ends.ensures
