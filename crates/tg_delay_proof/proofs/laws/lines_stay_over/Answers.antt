use Rattle.tg_delay_proof.proofs.StayingOver.{lines_stay_over}
use Rattle.tg_delay_proof.proofs.laws.lines_stay_over.Goals as goal

pub returns : goal.returns
returns c = lines_stay_over
