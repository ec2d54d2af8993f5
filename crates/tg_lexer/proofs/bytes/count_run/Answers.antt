use Rattle.std.proofs.Common.{sym}
use Rattle.tg_lexer.proofs.Basics.{run_more, run_stops, run_ends}
use Rattle.tg_lexer.proofs.bytes.count_run.Goals as goal

pub returns-then-not-is_in : goal.returns-then-not-is_in
returns-then-not-is_in c = run_stops _ _ _ c.loop-size-test.true c.loop-size.invariant (sym c.if-not-is_in.ensures)

pub loop-size-preserved : goal.loop-size-preserved
loop-size-preserved c = run_more _ _ _ c.loop-size-test.true c.loop-size.invariant (sym c.if-not-is_in.ensures)

pub returns : goal.returns
returns c = run_ends _ _ _ c.loop-size-test.false c.loop-size.invariant
