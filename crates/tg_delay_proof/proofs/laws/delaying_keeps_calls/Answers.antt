use Rattle.tg_delay_proof.proofs.Delaying.{delaying_keeps_calls}
use Rattle.tg_delay_proof.proofs.laws.delaying_keeps_calls.Goals as goal

pub returns : goal.returns
returns c = delaying_keeps_calls
