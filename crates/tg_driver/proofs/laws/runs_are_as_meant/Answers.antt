use Rattle.tg_driver.proofs.MeantEnds.{runs_are_meant, generated_are_meant, statuses_are_meant}
use Rattle.tg_driver.proofs.laws.runs_are_as_meant.Goals as goal

pub returns-clause-runs : goal.returns-clause-runs
returns-clause-runs g c = runs_are_meant c.ends_are_as_meant.ensures.ended c.ends_are_as_meant.ensures.running

pub returns-clause-generated : goal.returns-clause-generated
returns-clause-generated g c = generated_are_meant c.ends_are_as_meant.ensures.ended c.ends_are_as_meant.ensures.running

pub returns-clause-statuses : goal.returns-clause-statuses
returns-clause-statuses g c = statuses_are_meant c.exits_are_words.ensures
