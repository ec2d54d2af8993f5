use Rattle.tg_simulation.proofs.Following.{follows_writing, follows_paying, follows_working, follows_passing, follows_reaching, follows_full, follows_turn}
use Rattle.tg_simulation.proofs.Following.{follows_turn_of_code, follows_stuck, follows_less, follows_with_credit, follows_along}
use Rattle.tg_simulation.proofs.Simulations.{follows_coming}
use Rattle.tg_simulation.proofs.laws.steps_follow.Goals as goal

pub returns-clause-writing : goal.returns-clause-writing
returns-clause-writing c = λ stack a r n bytes x y h. follows_writing stack a r n bytes x y h

pub returns-clause-paying : goal.returns-clause-paying
returns-clause-paying c = λ stack a r n k x y h. follows_paying stack a r n k x y h

pub returns-clause-working : goal.returns-clause-working
returns-clause-working c = λ stack a r n k x y h. follows_working stack a r n k x y h

pub returns-clause-passing : goal.returns-clause-passing
returns-clause-passing c = λ stack a r n above x y h. follows_passing stack a r n above x y h

pub returns-clause-reaching : goal.returns-clause-reaching
returns-clause-reaching c = λ stack a r n depth x y deep h. follows_reaching stack a r n depth x y deep h

pub returns-clause-full : goal.returns-clause-full
returns-clause-full c = λ stack a r n input x. follows_full stack a r n input x

pub returns-clause-turn : goal.returns-clause-turn
returns-clause-turn c = λ stack a r n none input x y out empty left shallow h. follows_turn stack a r n none input x y out empty left shallow h

pub returns-clause-turn_of_code : goal.returns-clause-turn_of_code
returns-clause-turn_of_code c = λ stack a r n none x y h. follows_turn_of_code stack a r n none x y h

pub returns-clause-stuck : goal.returns-clause-stuck
returns-clause-stuck c = λ stack a r n x y h. follows_stuck stack a r n x y h

pub returns-clause-less : goal.returns-clause-less
returns-clause-less c = λ stack a r m n x y le h. follows_less stack a r m n x y le h

pub returns-clause-credit : goal.returns-clause-credit
returns-clause-credit c = λ stack a r s n x y le h. follows_with_credit stack a r s n x y le h

pub returns-clause-along : goal.returns-clause-along
returns-clause-along c = λ stack a r n x e y f p q h. follows_along stack a r n x e y f p q h

pub returns-clause-coming : goal.returns-clause-coming
returns-clause-coming c = λ stack a r n k x d e g h. follows_coming stack a r n k x d e g h
