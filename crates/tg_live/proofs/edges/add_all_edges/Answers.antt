use Rattle.std.proofs.Common.{◌<◌, ◌≤◌, ◌+◌, length, drop, sym, ap, ◌∙◌, arith}
use Rattle.std.proofs.lemmas.List.{drop_all}
use Rattle.tg_live.specs.Flow.{successors}
use Rattle.tg_live.specs.glue.Tables.{Table, row, add_from}
use Rattle.tg_live.proofs.Turned.{length-add_to, add_from_more}
use Rattle.tg_live.proofs.Places.{length-successors}
use Rattle.tg_live.proofs.edges.add_all_edges.Goals as goal

pub loop-at-preserved : goal.loop-at-preserved
loop-at-preserved c =
    let lists = successors c.args.list.now in
    let at = c.loop-at.at in
    let l : at < length lists = omega (arith, length-successors c.args.list.now, c.loop-at-test.true) in
    record {
      added = ap (add_from (at + 1) (drop (at + 1) lists)) c.in_ok-add_edges.ensures
          ∙ (sym (add_from_more lists at c.loop-at.before l) ∙ c.loop-at.invariant.added);
      size = ap (λ (t : Table). length t) c.in_ok-add_edges.ensures
          ∙ (length-add_to at (row lists at) c.loop-at.before ∙ c.loop-at.invariant.size);
    }

pub returns : goal.returns
returns c =
    let lists = successors c.args.list.now in
    let at = c.loop-at.at in
    let l : length lists ≤ at = omega (arith, length-successors c.args.list.now, c.loop-at-test.false) in
    sym (ap (λ rest. add_from at rest c.loop-at.before) (drop_all at lists l)) ∙ c.loop-at.invariant.added
