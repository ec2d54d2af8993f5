use Rattle.std.proofs.Common.{arith}
use Rattle.std.proofs.lemmas.List.{at_drop_all}
use Rattle.tg_delay.specs.Filling.{branches_in}
use Rattle.tg_delay.proofs.Walking.{branches_more, branches_most}
use Rattle.tg_delay.proofs.turning.count_branches.Goals as goal

pub overflow_add-count : goal.overflow_add-count
overflow_add-count c =
    let e = branches_more c.args.lines.now c.loop-line.line-index c.line-item.result c.loop-line-test.true c.line-item.is in
    let f = c.branches_of-count.ensures.count in
    let g = c.loop-line.invariant in
    let h = branches_most c.args.lines.now in
    omega arith

pub loop-line-preserved : goal.loop-line-preserved
loop-line-preserved c =
    let e = branches_more c.args.lines.now c.loop-line.line-index c.line-item.result c.loop-line-test.true c.line-item.is in
    let f = c.branches_of-count.ensures.count in
    let g = c.loop-line.invariant in
    omega arith

pub returns : goal.returns
returns c =
    let e = at_drop_all branches_in c.args.lines.now c.loop-line.line-index c.loop-line-test.false in
    let g = c.loop-line.invariant in
    omega arith
