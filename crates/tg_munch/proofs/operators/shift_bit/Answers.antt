use Rattle.tg_munch.proofs.Writing.{writes_then}
use Rattle.tg_munch.proofs.operators.shift_bit.Goals as goal

pub returns : goal.returns
returns c =
    writes_then _ c.in_ok-bit.ensures
    (writes_then _ c.in_ok-mark.ensures
    (writes_then _ (rw c.new.ensures at c.in_ok-put.ensures)
    (writes_then _ (rw c.if_zero.ensures at c.in_ok-put-2.ensures)
    (writes_then _ (rw c.shift_by.ensures at c.in_ok-put-3.ensures) c.in_ok-put-4.ensures))))
