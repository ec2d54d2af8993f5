use Rattle.tg_driver.proofs.Safety.{safe}
use Rattle.tg_driver.proofs.laws.answers_are_safe.Goals as goal

pub returns : goal.returns
returns g c = safe
