use Rattle.tg_driver.proofs.FaultPlaces.{parser_fault}
use Rattle.tg_driver.proofs.reading.syntactic.Goals as goal

pub returns-in-Bad : goal.returns-in-Bad
returns-in-Bad c = λ text h. record { is_of = parser_fault text c.in-Bad.rule c.in-Bad.at (rw c.in-Bad.is at h); is_untyped = tt }
