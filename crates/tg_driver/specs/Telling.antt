-- How an answer is reported.
use Rattle.std.specs.Prelude.{ℕ, List, ◌++◌}
use Rattle.tg_driver.specs.declared.answers.Answer.{Answer}
use Rattle.tg_driver.specs.Calls.{Stream, Takes}
use Rattle.tg_driver.specs.Statuses.{line_of, status_of}

-- the sink took the reports, the line of the answer and its explanation, and the status is its own;
-- or a write of them failed, and the status is 74
abbrev pub IsTold :
    {E : Type 0} → Stream E → (reports : List ℕ) → Answer → (explanation : List ℕ) →
    (status : ℕ) → Type 0
IsTold err reports answer explanation status =
    Takes err (reports ++ (line_of answer ++ explanation)) (status_of answer) 74 status
