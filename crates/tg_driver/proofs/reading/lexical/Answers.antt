use Rattle.tg_driver.proofs.FaultPlaces.{lexer_fault}
use Rattle.tg_driver.proofs.reading.lexical.Goals as goal

pub returns-in-Bad : goal.returns-in-Bad
returns-in-Bad c = λ text h. record { is_of = lexer_fault text c.in-Bad.rule c.in-Bad.at (rw c.in-Bad.is at h); is_untyped = tt }
