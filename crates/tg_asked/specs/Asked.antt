-- What the page is answered: a call of the program over texts in memory.
use Rattle.std.specs.Prelude.{ℕ, if◌then◌else◌, List, [], ◌∷◌, Some}
use Rattle.tg_base.specs.InMemory.{PlainFiles, RoomBytes, as_files, is_missing}
use Rattle.tg_base.specs.PlainBytes.{PlainBytes}
use Rattle.tg_irc_definition.specs.Policies.{Rule as SpillRule, least_use}
use Rattle.tg_profiler.specs.Reports.{profile_report, coverage_report, trace_report}
use Rattle.tg_profiler.specs.Watching.{Report}
use Rattle.tg_driver.specs.Calls.{Call, call_of, shelf_of, stream_of}
use Rattle.tg_driver.specs.Answered.{Answers}
use Rattle.tg_driver.specs.Compiled.{AnswersCompiled}

-- the objects of a call: files, input, output and standard error, as they were and as they are left
pub record Objects : Type 0 where
  pub files : PlainFiles
  pub input : PlainBytes
  pub out : RoomBytes
  pub err : RoomBytes

-- the call of these words, by a rule and with reports
abbrev pub call_by : SpillRule → List Report → List (List ℕ) → (before after : Objects) →
    Call PlainFiles PlainBytes RoomBytes RoomBytes
call_by rule reporters words before after =
    call_of rule reporters words
    (shelf_of (λ s. as_files s.held) (λ s n. if is_missing s.held n then s.faults else 0)
    before.files after.files)
    (stream_of (λ s. Some s.left) (λ _. 0) before.input after.input)
    (stream_of (λ s. Some s.taken) (λ s. s.counts.faults) before.out after.out)
    (stream_of (λ s. Some s.taken) (λ s. s.counts.faults) before.err after.err)

-- the reports of the command line's watchers, in its order
abbrev pub reports : List Report
reports = profile_report ∷ coverage_report ∷ trace_report ∷ []

-- the status is the program's answer to the words, by the rule of `LeastUse` and with those
-- reports; and what it built or ran is what the source is compiled to
pub record IsAsked (words : List (List ℕ)) (before after : Objects) (status : ℕ) : Type 0 where
  pub answers : Answers (call_by least_use reports words before after) status
  pub compiled : AnswersCompiled (call_by least_use reports words before after) status
