use Rattle.std.proofs.Common.{arith}
use Rattle.tg_base.proofs.LineLemmas.{line_fits, column_fits}
use Rattle.tg_variables.proofs.placing.places_of.Goals as goal

pub overflow_add-line : goal.overflow_add-line
overflow_add-line c =
    let h = line_fits c.args.text.now c.loop-byte.byte-index c.loop-byte.auto.byte-index-end in
    omega (arith, h, c.requires)

pub overflow_add-column : goal.overflow_add-column
overflow_add-column c =
    let h = column_fits c.args.text.now c.loop-byte.byte-index c.loop-byte.auto.byte-index-end in
    omega (arith, h, c.requires)
