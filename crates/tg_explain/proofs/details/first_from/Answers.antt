use Rattle.std.proofs.Common.{sym, arith}
use Rattle.tg_explain.proofs.Fronts.{first_here, first_more, first_none}
use Rattle.tg_explain.proofs.details.first_from.Goals as goal

pub returns-then-not-begins_before : goal.returns-then-not-begins_before
returns-then-not-begins_before c =
    first_here c.args.at c.args.tokens.now c.loop-count.count c.index-tokens-count.result c.kind_of.result c.loop-count-test.true c.index-tokens-count.is
    c.loop-count.invariant (sym c.if-not-begins_before.ensures) c.kind_of.ensures

pub loop-count-preserved : goal.loop-count-preserved
loop-count-preserved c =
    first_more c.args.at c.args.tokens.now c.loop-count.count c.index-tokens-count.result c.loop-count-test.true c.index-tokens-count.is c.loop-count.invariant
    (sym c.if-not-begins_before.ensures)

pub returns : goal.returns
returns c = first_none c.args.at c.args.tokens.now c.loop-count.count _ c.loop-count-test.false c.loop-count.invariant (omega arith)
