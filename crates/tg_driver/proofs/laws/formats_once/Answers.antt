use Rattle.tg_driver.proofs.CanonicalTexts.{formats_once, take_one_text}
use Rattle.tg_driver.proofs.laws.formats_once.Goals as goal

pub returns-clause-text : goal.returns-clause-text
returns-clause-text g c = formats_once

pub returns-clause-calls : goal.returns-clause-calls
returns-clause-calls g c = take_one_text
