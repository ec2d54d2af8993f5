use Rattle.std.proofs.Common.{take, arith}
use Rattle.std.proofs.lemmas.List.{length-take-le}
use Rattle.tg_base.proofs.LineLemmas.{line_fits, column_fits, line_more_yes, line_more_no, column_more_yes, column_more_no}
use Rattle.tg_base.proofs.lines.place.Goals as goal
use Rattle.tg_base.proofs.lines.place.Goals.{then-byte-eq10, else-byte-eq10}

pub overflow_add-line : goal.overflow_add-line
overflow_add-line c =
    let short = length-take-le c.args.at c.args.text.now c.requires.within in
    let h = line_fits (take c.args.at c.args.text.now) c.loop-byte.byte-index c.loop-byte.auto.byte-index-end in
    omega (arith, short, h, c.requires.small)

pub overflow_add-column : goal.overflow_add-column
overflow_add-column c =
    let short = length-take-le c.args.at c.args.text.now c.requires.within in
    let h = column_fits (take c.args.at c.args.text.now) c.loop-byte.byte-index c.loop-byte.auto.byte-index-end in
    omega (arith, short, h, c.requires.small)

pub loop-byte-preserved : goal.loop-byte-preserved
loop-byte-preserved c =
    elim c.if-byte-eq10.branch [
      | then-byte-eq10 w ↦
          let line = line_more_yes _ _ c.loop-byte-test.true w.if-byte-eq10.true in
          let column = column_more_yes _ _ c.loop-byte-test.true w.if-byte-eq10.true in
          (omega (arith, line, w.line-is), omega (arith, column, w.column-is))
      | else-byte-eq10 w ↦
          let line = line_more_no _ _ c.loop-byte-test.true w.if-byte-eq10.false in
          let column = column_more_no _ _ c.loop-byte-test.true w.if-byte-eq10.false in
          (omega (arith, line, w.line-is), omega (arith, column, w.column-is))
    ]
