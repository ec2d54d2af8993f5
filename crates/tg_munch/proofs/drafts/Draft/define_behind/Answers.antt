use Rattle.tg_munch.proofs.Writing.{writes_then}
use Rattle.tg_munch.proofs.drafts.Draft.define_behind.Goals as goal

pub returns : goal.returns
returns c = writes_then _ c.in_ok-put.ensures c.in_ok-value.ensures
