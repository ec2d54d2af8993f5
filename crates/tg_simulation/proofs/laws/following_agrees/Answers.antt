use Rattle.tg_simulation.proofs.Agreeing.{following_agrees, following_fills}
use Rattle.tg_simulation.proofs.laws.following_agrees.Goals as goal

pub returns-clause-agrees : goal.returns-clause-agrees
returns-clause-agrees c = λ stack a b d e never unstuck stays h. following_agrees stack a b d e never unstuck stays h

pub returns-clause-fills : goal.returns-clause-fills
returns-clause-fills c = λ stack a b d e unstuck h. following_fills stack a b d e unstuck h
