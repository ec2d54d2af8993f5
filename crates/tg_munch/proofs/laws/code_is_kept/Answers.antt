use Rattle.tg_munch.proofs.Kept.{moves_stay, code_ends}
use Rattle.tg_munch.proofs.laws.code_is_kept.Goals as goal

pub returns-clause-moves : goal.returns-clause-moves
returns-clause-moves c = λ f t s h. moves_stay f t s h

pub returns-clause-ends : goal.returns-clause-ends
returns-clause-ends c = λ f h. code_ends f h
