use Rattle.std.proofs.Common.{rules, ◌≡◌, length}
use Rattle.tg_profiler.proofs.RowCounts.{passed_none, passed_one, found_line, all_passed}
use Rattle.tg_profiler.proofs.profiling.counted.Goals.{then-counts-number-ne0+else-left-eq0, else-counts-number-ne0}
use Rattle.tg_profiler.proofs.profiling.counted.Goals as goal

pub returns-then-left-eq0 : goal.returns-then-left-eq0
returns-then-left-eq0 c =
    let size : length c.args.counts.now ≡ 43 = search rules in
    found_line _ _ _ _ size c.loop-number-test.true c.loop-number.invariant c.if-counts-number-ne0.true c.if-left-eq0.true

pub loop-number-preserved : goal.loop-number-preserved
loop-number-preserved c =
    let size : length c.args.counts.now ≡ 43 = search rules in
    elim c.if-counts-number-ne0.branch [
      | then-counts-number-ne0+else-left-eq0 w ↦
          rw w.left-is (passed_one _ _ _ _ size c.loop-number-test.true c.loop-number.invariant w.if-counts-number-ne0.true w.if-left-eq0.false)
      | else-counts-number-ne0 w ↦
          rw w.left-is (passed_none _ _ _ _ size c.loop-number-test.true c.loop-number.invariant w.if-counts-number-ne0.false)
    ]

pub returns : goal.returns
returns c = all_passed _ _ _ _ c.loop-number-test.false c.loop-number.invariant
