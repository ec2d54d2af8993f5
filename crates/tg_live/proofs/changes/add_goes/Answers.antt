use Rattle.std.proofs.Common.{◌<◌, suc, not, nat_eq, ◌&&◌, length, ap, ◌∙◌, arith}
use Rattle.std.specs.List.{list_any}
use Rattle.std.proofs.lemmas.List.{take_all}
use Rattle.tg_live.specs.glue.Tables.{row}
use Rattle.tg_live.specs.mirror.Search.{has_stamp}
use Rattle.tg_live.proofs.Noted.{grown, noted_next, within_at}
use Rattle.tg_live.proofs.changes.add_goes.Goals as goal

pub add_end-requires-clause-within : goal.add_end-requires-clause-within
add_end-requires-clause-within c =
    let f = c.args.search.now in
    let l : c.loop-index.index < length f.lasts = omega arith in
    let w = within_at (length f.marks) f.lasts c.loop-index.index l c.requires.within in
    omega (arith, w, c.last.ensures)

pub loop-index-preserved : goal.loop-index-preserved
loop-index-preserved c =
    let f = c.args.search.now in
    let l : c.loop-index.index < length f.lasts = omega arith in
    record {
      sized = c.in_ok-add_end.ensures.sized ∙ c.loop-index.invariant.sized;
      rows = λ q k. noted_next c.args.one.now (row c.args.goes.now q) (row c.loop-index.goes q)
          (row c.add_end.new.goes q) f.lasts c.loop-index.index c.last.result (λ p. nat_eq q (suc p))
          (not (has_stamp c.args.stamp f.marks q)) l c.last.ensures (c.requires.fresh q)
          (c.loop-index.invariant.rows q k)
          (c.in_ok-add_end.ensures.rows q (omega (arith, k, c.loop-index.invariant.sized)));
    }

pub returns-clause-rows : goal.returns-clause-rows
returns-clause-rows c = λ q k.
    let f = c.args.search.now in
    c.loop-index.invariant.rows q k
    ∙ ap (λ ks. grown (list_any (λ p. nat_eq q (suc p)) ks && not (has_stamp c.args.stamp f.marks q)) c.args.one.now
    (row c.args.goes.now q)) (take_all c.loop-index.index f.lasts (omega arith))
