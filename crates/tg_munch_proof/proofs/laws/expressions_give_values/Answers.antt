use Rattle.tg_munch_proof.proofs.Loading.{expression_does}
use Rattle.tg_munch_proof.proofs.Compared.{branch_does}
use Rattle.tg_munch_proof.proofs.laws.expressions_give_values.Goals as goal

pub returns-clause-expressions : goal.returns-clause-expressions
returns-clause-expressions c = λ a e dest d s flat small askable known. expression_does a e flat small dest d s askable known

pub returns-clause-branches : goal.returns-clause-branches
returns-clause-branches c = λ a r x y mark d s fx fy hx hy known. branch_does a r x y mark d s fx fy hx hy known
