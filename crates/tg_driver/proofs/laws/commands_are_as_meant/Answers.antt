use Rattle.tg_driver.proofs.MeantCommands.{does_as_meant}
use Rattle.tg_driver.proofs.laws.commands_are_as_meant.Goals as goal

pub returns : goal.returns
returns g c = does_as_meant c.ends_are_as_meant.ensures.ended c.ends_are_as_meant.ensures.running
