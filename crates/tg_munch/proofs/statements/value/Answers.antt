use Rattle.tg_munch.proofs.Writing.{writes_then, writes_none}
use Rattle.tg_munch.proofs.statements.value.Goals as goal

pub returns : goal.returns
returns c = rw c.requires (writes_then _ c.in_ok-expression.ensures (writes_none _ _))
