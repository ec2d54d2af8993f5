use Rattle.tg_simulation.proofs.Simulations.{simulation_preserves, simulates_stopping, simulates_writing, simulates_turn, simulates_turn_behind}
use Rattle.tg_simulation.proofs.Simulations.{simulates_paying, simulates_working, simulates_wrong, simulates_less, simulates_with_credit, simulates_along}
use Rattle.tg_simulation.proofs.Simulations.{simulates_coming}
use Rattle.tg_simulation.proofs.laws.passes_simulate.Goals as goal

pub returns-clause-preserves : goal.returns-clause-preserves
returns-clause-preserves g = λ a b c d h. simulation_preserves a b c d h

pub returns-clause-stopping : goal.returns-clause-stopping
returns-clause-stopping g = λ a r n input stop. simulates_stopping a r n input stop

pub returns-clause-writing : goal.returns-clause-writing
returns-clause-writing g = λ a r n bytes c d h. simulates_writing a r n bytes c d h

pub returns-clause-turn : goal.returns-clause-turn
returns-clause-turn g = λ a r n input c d h. simulates_turn a r n input c d h

pub returns-clause-turn_behind : goal.returns-clause-turn_behind
returns-clause-turn_behind g = λ a r n none c d h. simulates_turn_behind a r n none c d h

pub returns-clause-paying : goal.returns-clause-paying
returns-clause-paying g = λ a r n k c d h. simulates_paying a r n k c d h

pub returns-clause-working : goal.returns-clause-working
returns-clause-working g = λ a r n k c d h. simulates_working a r n k c d h

pub returns-clause-wrong : goal.returns-clause-wrong
returns-clause-wrong g = λ a r n c d h. simulates_wrong a r n c d h

pub returns-clause-less : goal.returns-clause-less
returns-clause-less g = λ a r m n c d le h. simulates_less a r m n c d le h

pub returns-clause-credit : goal.returns-clause-credit
returns-clause-credit g = λ a r s n c d le h. simulates_with_credit a r s n c d le h

pub returns-clause-along : goal.returns-clause-along
returns-clause-along g = λ a r n c c' d d' e f h. simulates_along a r n c c' d d' e f h

pub returns-clause-coming : goal.returns-clause-coming
returns-clause-coming g = λ a r n k c d e x h. simulates_coming a r n k c d e x h
