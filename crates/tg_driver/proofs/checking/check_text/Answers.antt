use Rattle.tg_driver.proofs.AnswerLemmas.{checked_of_refused}
use Rattle.tg_driver.proofs.checking.check_text.Goals as goal

pub returns-in-Err : goal.returns-in-Err
returns-in-Err c = checked_of_refused _ _ c.refused.ensures
