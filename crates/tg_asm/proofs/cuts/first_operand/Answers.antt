use Rattle.tg_asm.proofs.CutLoops.{run_fits, plain_operand}
use Rattle.tg_asm.proofs.cuts.first_operand.Goals as goal

pub slice_bounds-result-end : goal.slice_bounds-result-end
slice_bounds-result-end c = run_fits _ _ _ _ c.in_ok-first.ensures.cases.0 c.split.ensures.front

pub returns : goal.returns
returns c = plain_operand _ _ _ _ _ c.in_ok-first.ensures.cases.0 c.if-first-eq34.false c.split.ensures.front c.split.ensures.back
