use Rattle.std.proofs.Common.{◌<◌, not, nat_eq, ◌&&◌, length, ap, ◌∙◌, arith}
use Rattle.std.specs.List.{list_any}
use Rattle.std.proofs.lemmas.List.{take_all}
use Rattle.tg_live.specs.glue.Tables.{row}
use Rattle.tg_live.specs.mirror.Search.{has_stamp_before}
use Rattle.tg_live.proofs.Noted.{grown, noted_next, within_at}
use Rattle.tg_live.proofs.changes.add_comes.Goals as goal

pub add_start-requires-clause-within : goal.add_start-requires-clause-within
add_start-requires-clause-within c =
    let f = c.args.search.now in
    let l : c.loop-index.index < length f.firsts = omega arith in
    let w = within_at (length f.marks) f.firsts c.loop-index.index l c.requires.within in
    omega (arith, w, c.first.ensures)

pub loop-index-preserved : goal.loop-index-preserved
loop-index-preserved c =
    let f = c.args.search.now in
    let l : c.loop-index.index < length f.firsts = omega arith in
    record {
      sized = c.in_ok-add_start.ensures.sized ∙ c.loop-index.invariant.sized;
      rows = λ q. noted_next c.args.one.now (row c.args.comes.now q) (row c.loop-index.comes q)
          (row c.add_start.new.comes q) f.firsts c.loop-index.index c.first.result (nat_eq q)
          (not (has_stamp_before c.args.stamp f.marks q)) l c.first.ensures (c.requires.fresh q)
          (c.loop-index.invariant.rows q) (c.in_ok-add_start.ensures.rows q);
    }

pub returns-clause-rows : goal.returns-clause-rows
returns-clause-rows c = λ q.
    let f = c.args.search.now in
    c.loop-index.invariant.rows q
    ∙ ap (λ ks. grown (list_any (nat_eq q) ks && not (has_stamp_before c.args.stamp f.marks q)) c.args.one.now
    (row c.args.comes.now q)) (take_all c.loop-index.index f.firsts (omega arith))
