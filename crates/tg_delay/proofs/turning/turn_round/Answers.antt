use Rattle.std.proofs.Common.{◌++◌, sym, ◌∙◌, append-nil, arith}
use Rattle.std.proofs.lemmas.List.{at_drop_all}
use Rattle.tg_delay.specs.Filling.{turned_round}
use Rattle.tg_delay.proofs.Walking.{branches_more, turned_more}
use Rattle.tg_delay.proofs.turning.turn_round.Goals as goal

pub overflow_sub-behind : goal.overflow_sub-behind
overflow_sub-behind c =
    let e = branches_more c.args.lines.now c.loop-line.line-index c.line-item.result c.loop-line-test.true c.line-item.is in
    let f = c.branches_of-behind.ensures.count in
    let g = c.loop-line.invariant.behind in
    omega arith

pub loop-line-preserved : goal.loop-line-preserved
loop-line-preserved c =
    let lines = c.args.lines.now in
    let at = c.loop-line.line-index in
    let e = branches_more lines at c.line-item.result c.loop-line-test.true c.line-item.is in
    let f = c.branches_of-behind.ensures.count in
    let g = c.loop-line.invariant.behind in
    record {
      behind = omega arith;
      lines = turned_more lines at c.line-item.result _ c.loop-line.list.items _ c.loop-line-test.true c.line-item.is (omega arith) c.in_ok-put_turned.ensures
          ∙ c.loop-line.invariant.lines;
    }

pub returns : goal.returns
returns c =
    sym (append-nil c.loop-line.list.items)
    ∙ (sym (at_drop_all (λ l. c.loop-line.list.items ++ turned_round l) c.args.lines.now c.loop-line.line-index c.loop-line-test.false)
    ∙ c.loop-line.invariant.lines)
