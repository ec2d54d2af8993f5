use Rattle.std.proofs.Common.{sym, arith}
use Rattle.tg_syntax.specs.Spellings.{is_digit}
use Rattle.tg_explain.proofs.Runs.{run_more, run_stops, run_ends}
use Rattle.tg_explain.proofs.lexical.digits_length.Goals as goal

pub returns-then-not-is_digit-clause-value : goal.returns-then-not-is_digit-clause-value
returns-then-not-is_digit-clause-value c =
    run_stops is_digit c.args.text.now c.loop-length.length c.loop-length-test.true c.loop-length.invariant (sym c.if-not-is_digit.ensures)

pub loop-length-preserved : goal.loop-length-preserved
loop-length-preserved c =
    run_more is_digit c.args.text.now c.loop-length.length c.loop-length-test.true c.loop-length.invariant (sym c.if-not-is_digit.ensures)

pub returns-clause-value : goal.returns-clause-value
returns-clause-value c = run_ends is_digit c.args.text.now c.loop-length.length c.loop-length-test.false (omega arith) c.loop-length.invariant
