use Rattle.std.proofs.Common.{refl}
use Rattle.tg_page.specs.Answers.{answered, no_memory}
use Rattle.tg_page.proofs.asking.answer_of.Goals as goal

pub returns-in-Ok : goal.returns-in-Ok
returns-in-Ok c = answered c.in-Ok.ensures.answered

pub returns-in-Err : goal.returns-in-Err
returns-in-Err c = no_memory refl c.in-Err.ensures.out c.in-Err.ensures.err
