use Rattle.tg_explain.proofs.AllExpected.{all_expected}
use Rattle.tg_explain.proofs.laws.expected_is_all.Goals as goal

pub returns : goal.returns
returns c = all_expected
