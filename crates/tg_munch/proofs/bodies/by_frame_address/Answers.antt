use Rattle.tg_munch.proofs.Writing.{writes_then}
use Rattle.tg_munch.proofs.bodies.by_frame_address.Goals as goal

pub returns : goal.returns
returns c =
    writes_then _ c.in_ok-above.ensures (writes_then _ c.in_ok-put.ensures c.in_ok-from_words.ensures)
