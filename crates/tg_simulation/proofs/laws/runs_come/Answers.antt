use Rattle.tg_simulation.proofs.Simulations.{comes_itself, comes_on, comes_writing, comes_working, comes_turn}
use Rattle.tg_simulation.proofs.laws.runs_come.Goals as goal

pub returns-clause-itself : goal.returns-clause-itself
returns-clause-itself g = λ d. comes_itself d

pub returns-clause-on : goal.returns-clause-on
returns-clause-on g = λ k l c d e x h. comes_on k l c d e x h

pub returns-clause-writing : goal.returns-clause-writing
returns-clause-writing g = λ k bytes d e h. comes_writing k bytes d e h

pub returns-clause-working : goal.returns-clause-working
returns-clause-working g = λ k l d e h. comes_working k l d e h

pub returns-clause-turn : goal.returns-clause-turn
returns-clause-turn g = λ k none d e h. comes_turn k none d e h
