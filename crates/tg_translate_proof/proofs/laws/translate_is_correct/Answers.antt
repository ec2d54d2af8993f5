use Rattle.tg_translate_proof.proofs.expressions.EveryExpression.{expressions_follow}
use Rattle.tg_translate_proof.proofs.program.Theorem as whole
use Rattle.tg_translate_proof.proofs.laws.translate_is_correct.Goals as goal

pub returns : goal.returns
returns c = whole.translate_is_correct expressions_follow
