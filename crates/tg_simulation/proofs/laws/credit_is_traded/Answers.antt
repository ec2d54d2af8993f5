use Rattle.tg_simulation.proofs.Simulations.{simulates_trading, simulates_unpaid, simulates_reworking, simulates_working_less, simulates_untraded}
use Rattle.tg_simulation.proofs.laws.credit_is_traded.Goals as goal

pub returns-clause-trading : goal.returns-clause-trading
returns-clause-trading g = λ a r s n k l c d le h. simulates_trading a r s n k l c d le h

pub returns-clause-unpaid : goal.returns-clause-unpaid
returns-clause-unpaid g = λ a r s n k c d le h. simulates_unpaid a r s n k c d le h

pub returns-clause-reworking : goal.returns-clause-reworking
returns-clause-reworking g = λ a r s n k l c d le h. simulates_reworking a r s n k l c d le h

pub returns-clause-less : goal.returns-clause-less
returns-clause-less g = λ a r n k c d h. simulates_working_less a r n k c d h

pub returns-clause-untraded : goal.returns-clause-untraded
returns-clause-untraded g = λ a r s n k l c d le h. simulates_untraded a r s n k l c d le h
