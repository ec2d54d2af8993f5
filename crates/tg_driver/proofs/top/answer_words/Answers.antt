use Rattle.std.proofs.Common.{refl}
use Rattle.tg_driver.specs.Answered as answered
use Rattle.tg_driver.proofs.AnswerLemmas.{due_of_mode}
use Rattle.tg_driver.proofs.GivenTexts.{explained_as}
use Rattle.tg_driver.proofs.top.answer_words.Goals as goal

pub returns-in-Ok-clause-due : goal.returns-in-Ok-clause-due
returns-in-Ok-clause-due g c = due_of_mode _ _ _ _ _ _ _ c.in-Ok.ensures.ok c.answer_command-answer.ensures.due

pub returns-in-Ok-clause-explained : goal.returns-in-Ok-clause-explained
returns-in-Ok-clause-explained g c =
    explained_as _ _ _ _ _ _ c.in-Ok.ensures.ok c.answer_command-answer.ensures.source (rw c.deref.ensures.value at c.explain.ensures)

pub returns-in-Err-Usage-clause-due : goal.returns-in-Err-Usage-clause-due
returns-in-Err-Usage-clause-due g c =
    answered.usage refl (rw c.in-Err-Usage.field-0-is at c.in-Err-Usage.ensures.usage) refl (refl, refl)

pub returns-in-Err-Memory-clause-due : goal.returns-in-Err-Memory-clause-due
returns-in-Err-Memory-clause-due g c = answered.no_memory refl (λ a ask gen. refl) (refl, refl)
