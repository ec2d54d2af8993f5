use Rattle.std.proofs.lemmas.Result.{err_from_is_err_and}
use Rattle.tg_asm.proofs.MakingLoops.{value_bad}
use Rattle.tg_asm.proofs.making.Made.add_values.Goals as goal

pub returns-in_err-add_value : goal.returns-in_err-add_value
returns-in_err-add_value c =
    let p = err_from_is_err_and c.from_residual.result c.from_residual.ensures.1 in
    rw (p.1, p.2) (value_bad (Unit {0}) _ _ _ _ _ _ _ _ _ c.loop-operand.invariant c.loop-operand-test.true c.in_err-add_value.ensures)
