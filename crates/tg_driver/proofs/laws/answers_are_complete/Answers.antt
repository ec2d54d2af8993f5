use Rattle.tg_driver.proofs.Complete.{complete}
use Rattle.tg_driver.proofs.laws.answers_are_complete.Goals as goal

pub returns : goal.returns
returns g c = complete
