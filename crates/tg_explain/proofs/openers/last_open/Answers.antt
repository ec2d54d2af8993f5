use Rattle.std.proofs.Common.{arith}
use Rattle.tg_explain.proofs.Openings.{one_more, found}
use Rattle.tg_explain.proofs.openers.last_open.Goals as goal

pub loop-one-preserved : goal.loop-one-preserved
loop-one-preserved c =
    one_more c.args.tokens.now c.loop-one.one-index c.one-item.result c.loop-one.stack c.take.new.self c.loop-one-test.true c.one-item.is
    c.loop-one.invariant c.in_ok-take.ensures

pub returns : goal.returns
returns c = found c.args.tokens.now c.loop-one.one-index c.loop-one.stack c.last.result (omega arith) c.loop-one.invariant c.last.ensures
