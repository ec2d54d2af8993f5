use Rattle.tg_munch.proofs.Writing.{writes_then, writes_none}
use Rattle.tg_munch.proofs.operators.shift.Goals as goal

pub returns : goal.returns
returns c =
    writes_then _ c.in_ok-to.ensures (writes_then _ c.in_ok-put.ensures (writes_then _ c.in_ok-shift_bits.ensures (writes_none _ _)))
