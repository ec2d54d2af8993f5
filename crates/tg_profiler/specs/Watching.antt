-- Reports of what a run fetched.
use Rattle.std.specs.Prelude.{ℕ, List}
use Rattle.tg_machine.specs.declared.fetches.Seen.{Seen}

-- a report: its lines, by the fetches in order and the number of words of the code
abbrev pub Report : Type 0
Report = List Seen → (code : ℕ) → List (List ℕ)
