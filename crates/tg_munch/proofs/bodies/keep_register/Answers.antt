use Rattle.tg_munch.proofs.Writing.{writes_then}
use Rattle.tg_munch.proofs.bodies.keep_register.Goals as goal

pub returns : goal.returns
returns c = writes_then _ c.in_ok-to.ensures c.in_ok-put.ensures
