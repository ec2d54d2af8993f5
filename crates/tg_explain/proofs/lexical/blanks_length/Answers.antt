use Rattle.std.proofs.Common.{sym, arith}
use Rattle.tg_syntax.specs.Spellings.{is_white_space}
use Rattle.tg_explain.proofs.Runs.{run_more, run_stops, run_ends}
use Rattle.tg_explain.proofs.lexical.blanks_length.Goals as goal

pub returns-then-not-is_blank-clause-value : goal.returns-then-not-is_blank-clause-value
returns-then-not-is_blank-clause-value c =
    run_stops is_white_space c.args.text.now c.loop-length.length c.loop-length-test.true c.loop-length.invariant (sym c.if-not-is_blank.ensures)

pub loop-length-preserved : goal.loop-length-preserved
loop-length-preserved c =
    run_more is_white_space c.args.text.now c.loop-length.length c.loop-length-test.true c.loop-length.invariant (sym c.if-not-is_blank.ensures)

pub returns-clause-value : goal.returns-clause-value
returns-clause-value c = run_ends is_white_space c.args.text.now c.loop-length.length c.loop-length-test.false (omega arith) c.loop-length.invariant
