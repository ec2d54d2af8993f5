use Rattle.tg_munch.proofs.Writing.{writes_then}
use Rattle.tg_munch.proofs.operators.shift_bits.Goals as goal

pub returns : goal.returns
returns c =
    writes_then _ c.in_ok-shift_bit.ensures
    (writes_then _ c.in_ok-shift_bit-2.ensures
    (writes_then _ c.in_ok-shift_bit-3.ensures
    (writes_then _ c.in_ok-shift_bit-4.ensures c.in_ok-shift_bit-5.ensures)))
