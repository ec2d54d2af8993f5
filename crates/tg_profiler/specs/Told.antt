-- The text of reports.
use Rattle.std.specs.Prelude.{ℕ, List, [], ◌∷◌, ◌++◌}
use Rattle.tg_machine.specs.declared.fetches.Seen.{Seen}
use Rattle.tg_profiler.specs.Watching.{Report}

-- the lines of a report, each ended by byte 10
abbrev pub report_text : (lines : List (List ℕ)) → List ℕ
report_text [] = []
report_text (line ∷ lines) = (line ++ 10 ∷ []) ++ report_text lines

-- the reports of these fetches over a code of so many words, one after another
abbrev pub reports_text : List Report → List Seen → (code : ℕ) → List ℕ
reports_text [] seen code = []
reports_text (report ∷ reports) seen code =
    report_text (report seen code) ++ reports_text reports seen code
