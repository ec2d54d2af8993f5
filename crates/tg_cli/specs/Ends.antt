-- How the program ends.
use Rattle.std.specs.Prelude.{◌≡◌, ◌⊎◌, ℕ, List, None}
use Rattle.tg_base.specs.Causes.{Rose}
use Rattle.tg_irc_definition.specs.Policies.{least_use}
use Rattle.tg_profiler.specs.Watching.{Report}
use Rattle.tg_driver.specs.Calls.{Stream, stream_of, shelf_of, call_of}
use Rattle.tg_driver.specs.Answered.{Answers}

-- with a status, or with 74 where its line couldn't be written
abbrev pub EndsWith : ℕ → ℕ → ℕ → ℕ → Type 0
EndsWith status before now result = (result ≡ status) ⊎ ((result ≡ 74) × Rose before now)

-- a stream of the system, as its count of faults: it tells no bytes
abbrev pub untold : (before after : ℕ) → Stream ℕ
untold before after = stream_of (λ s. None) (λ s. s) before after

-- the status is that of the top call on some words, by the rule of `LeastUse` and with watchers
-- that report so, for counts of faults of the shelf, the input, the output and the error sink
abbrev pub AnswersWords :
    (reporters : List Report) (words : List (List ℕ)) (files reads writes errors : ℕ)
    (files' reads' writes' errors' : ℕ) (status : ℕ) → Type 0
AnswersWords reporters words files reads writes errors files' reads' writes' errors' status =
    Answers (call_of least_use reporters words (shelf_of (λ s. None) (λ s name. s) files files')
    (untold reads reads') (untold writes writes') (untold errors errors')) status

-- the status is that of some such call, at which the counts of shelf, input and output began at 0
pub record IsAnswered (before after status : ℕ) : Type 0 where
  pub reporters : List Report
  pub words : List (List ℕ)
  pub files : ℕ
  pub reads : ℕ
  pub writes : ℕ
  pub answers : AnswersWords reporters words 0 0 0 before files reads writes after status

-- With the status of the top call on some words, or with that of words that can't be read: memory
-- runs out, or one isn't UTF-8. The counts of faults begin at 0.
pub data IsStatus (status : ℕ) : Type 0 where
  answered : (errors : ℕ) → IsAnswered 0 errors status → IsStatus status
  no_memory : (errors : ℕ) → EndsWith 70 0 errors status → IsStatus status
  not_text : (errors : ℕ) → EndsWith 64 0 errors status → IsStatus status
