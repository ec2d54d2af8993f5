use Rattle.std.proofs.Common.{arith}
use Rattle.tg_explain.proofs.Runs.{blank_here, no_blank_here, blanks_end}
use Rattle.tg_explain.proofs.putting.words_length.Goals as goal
use Rattle.tg_explain.proofs.putting.words_length.Goals.{then-byte-eq32, else-byte-eq32}

pub loop-at-preserved : goal.loop-at-preserved
loop-at-preserved c =
    elim c.if-byte-eq32.branch [
      | then-byte-eq32 w ↦ blank_here c.args.text.now c.loop-at.at _ c.loop-at-test.true w.if-byte-eq32.true w.end-is
      | else-byte-eq32 w ↦ no_blank_here c.args.text.now c.loop-at.at c.loop-at.end _ c.loop-at-test.true w.if-byte-eq32.false c.loop-at.invariant w.end-is
    ]

pub returns : goal.returns
returns c = blanks_end c.args.text.now c.loop-at.at c.loop-at.end c.loop-at-test.false (omega arith) c.loop-at.invariant
