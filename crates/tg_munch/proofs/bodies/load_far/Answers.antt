use Rattle.tg_munch.proofs.Writing.{writes_then}
use Rattle.tg_munch.proofs.bodies.load_far.Goals as goal

pub returns : goal.returns
returns c =
    writes_then _ c.in_ok-constant.ensures
    (writes_then _ c.in_ok-put.ensures (rw c.new.ensures at c.in_ok-put-2.ensures))
