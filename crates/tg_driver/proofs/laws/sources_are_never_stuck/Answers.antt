use Rattle.tg_driver.proofs.Typings.{sources_are_never_stuck}
use Rattle.tg_driver.proofs.laws.sources_are_never_stuck.Goals as goal

pub returns : goal.returns
returns c = sources_are_never_stuck
