use Rattle.tg_driver.specs.Watching.{HasToldRunBy}
use Rattle.tg_driver.proofs.ExplanationsOnce.{why_once}
use Rattle.tg_driver.proofs.ModesOnce.{due_alike}
use Rattle.tg_driver.proofs.laws.one_answer.Goals as goal

pub returns-clause-answers : goal.returns-clause-answers
returns-clause-answers g c = λ s reporters others reports told mode one other.
    due_alike (HasToldRunBy s one.flags.bare reporters reports) (HasToldRunBy s other.flags.bare others told) mode one other

pub returns-clause-explanations : goal.returns-clause-explanations
returns-clause-explanations g c = why_once
