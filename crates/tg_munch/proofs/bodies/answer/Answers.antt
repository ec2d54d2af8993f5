use Rattle.tg_munch.proofs.Writing.{writes_then}
use Rattle.tg_munch.proofs.bodies.answer.Goals as goal

pub returns : goal.returns
returns c =
    writes_then _ c.in_ok-expression.ensures (writes_then _ c.in_ok-give_back.ensures c.in_ok-put.ensures)
