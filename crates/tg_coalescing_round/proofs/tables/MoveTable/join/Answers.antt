use Rattle.std.proofs.Common.{◌≡◌, length, refl, ap, ◌∙◌, arith}
use Rattle.tg_coalescing_round.specs.glue.Lists.{moved_sum}
use Rattle.tg_coalescing_round.specs.glue.ShownMoves.{table_of}
use Rattle.tg_coalescing_round.specs.glue.Tables.{Table, joined}
use Rattle.tg_coalescing_round.proofs.Listing.{length_moved_sum}
use Rattle.tg_coalescing_round.proofs.Tabling.{joined_table, same_table}
use Rattle.tg_coalescing_round.proofs.Vectors.{all_written}
use Rattle.tg_coalescing_round.proofs.tables.MoveTable.join.Goals as goal

pub invariant_of-self-2 : goal.invariant_of-self-2
invariant_of-self-2 c =
    let i = c.self.inside in
    let t = table_of i in
    let size = ap (λ (v : Table). length v.touching) c.self.view_is in
    let now = joined_table t c.self.invariant c.args.kept c.args.gone (omega (arith, size, c.requires.kept))
    (omega (arith, size, c.requires.gone)) in
    let written = c.move_count.ensures ∙ ap (moved_sum c.args.kept c.args.gone) c.deref_mut.ensures.value in
    let long : length c.move_count.new.counts ≡ i.unsettled.len =
    omega (arith, ap length written, length_moved_sum c.args.kept c.args.gone i.unsettled.items, i.unsettled.ok.0) in
    same_table (joined c.args.kept c.args.gone t) now t.moves t.states t.ready _ _ refl refl refl c.in_ok-pour.ensures.ok
    (all_written i.unsettled.items c.move_count.new.counts i.unsettled.len long ∙ written)
