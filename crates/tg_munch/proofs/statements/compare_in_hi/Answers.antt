use Rattle.tg_munch.proofs.Writing.{writes_then}
use Rattle.tg_munch.proofs.statements.compare_in_hi.Goals as goal

pub returns : goal.returns
returns c = writes_then _ c.in_ok-first.ensures (writes_then _ c.in_ok-put.ensures c.in_ok-compare_with.ensures)
