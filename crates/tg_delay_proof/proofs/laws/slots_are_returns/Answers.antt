use Rattle.tg_delay_proof.proofs.SlotReturns.{slots_are_returns}
use Rattle.tg_delay_proof.proofs.laws.slots_are_returns.Goals as goal

pub returns : goal.returns
returns c = slots_are_returns
