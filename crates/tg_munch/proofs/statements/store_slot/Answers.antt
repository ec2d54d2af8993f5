use Rattle.tg_munch.proofs.Writing.{writes_then}
use Rattle.tg_munch.proofs.statements.store_slot.Goals as goal

pub returns : goal.returns
returns c = writes_then _ c.in_ok-value.ensures c.in_ok-put.ensures
