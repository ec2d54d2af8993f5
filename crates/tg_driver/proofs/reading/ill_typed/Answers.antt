use Rattle.tg_driver.proofs.FaultPlaces.{checker_fault}
use Rattle.tg_driver.proofs.reading.ill_typed.Goals as goal

pub returns-in-Bad : goal.returns-in-Bad
returns-in-Bad c = λ text h. checker_fault text c.in-Bad.rule c.in-Bad.at (rw c.in-Bad.is at h)
