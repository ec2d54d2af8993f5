use Rattle.tg_driver.proofs.ExplanationsOnce as once
use Rattle.tg_driver.proofs.laws.expected_are_told.Goals as goal

pub returns : goal.returns
returns c = once.expected_are_told c.expected_is_all.ensures
