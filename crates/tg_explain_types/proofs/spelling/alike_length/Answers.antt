use Rattle.std.proofs.Common.{sym, arith}
use Rattle.tg_explain_types.proofs.Alike.{alike_more, alike_stops, alike_ends}
use Rattle.tg_explain_types.proofs.spelling.alike_length.Goals as goal

pub returns-then-not-is_alike : goal.returns-then-not-is_alike
returns-then-not-is_alike c =
    alike_stops c.args.one.now c.args.other.now c.loop-at.at (omega arith) (omega arith) c.loop-at.invariant (sym c.if-not-is_alike.ensures)

pub loop-at-preserved : goal.loop-at-preserved
loop-at-preserved c =
    alike_more c.args.one.now c.args.other.now c.loop-at.at (omega arith) (omega arith) c.loop-at.invariant (sym c.if-not-is_alike.ensures)

pub returns : goal.returns
returns c = alike_ends c.args.one.now c.args.other.now c.loop-at.at _ (omega arith) (omega arith) c.loop-at.invariant
