-- Known code is code, names what the code named, and is hardly longer.
use Rattle.std.specs.Prelude.{ℕ, ◌≤◌, ◌+◌, ◌*◌, Bool, IsTrue, List, length, sum_by}
use Rattle.std.specs.List.{list_all}
use Rattle.tg_instr.specs.declared.instr.Instr.{Instr}
use Rattle.tg_instr.specs.declared.instr.Instr.TheVariants.{Move, Jump}
use Rattle.tg_instr.specs.Codes.{marks_differ, leads_to_marks, has_temps_below, ends_well}
use Rattle.tg_instr.specs.Lengths.{most_words}
use Rattle.tg_redundancy.specs.mirror.Readings.{temp}
use Rattle.tg_redundancy.specs.mirror.Known.{known_code, most_moves}

-- what a function's code is: marks differ and stand where a jump leads, temporaries are below as
-- many, and the last instruction goes on nowhere
pub record IsCode (temps : ℕ) (list : List Instr) : Type 0 where
  pub marks_differ : IsTrue (marks_differ list)
  pub marks_stand : IsTrue (list_all (leads_to_marks list) list)
  pub temps_below : IsTrue (list_all (has_temps_below temps) list)
  pub ends_well : IsTrue (ends_well list)

abbrev pub KnownIsCode : Type 0
KnownIsCode = (temps : ℕ) (list : List Instr) → IsCode temps list → IsCode temps (known_code list)

-- what all instructions pass, as moves of temporaries and jumps do, those of known code pass: so
-- they name registers, slots, labels and faults of the code alone
abbrev pub KnownPassesTests : Type 0
KnownPassesTests =
    (test : Instr → Bool) →
    ((to from : ℕ) → IsTrue (test (Move (temp to) (temp from)))) →
    ((mark : ℕ) → IsTrue (test (Jump mark))) →
    (list : List Instr) →
    IsTrue (list_all test list) →
    IsTrue (list_all test (known_code list))

-- it has no more instructions, and takes three words more for each move at most
pub record IsShort (list : List Instr) : Type 0 where
  pub few : length (known_code list) ≤ length list
  pub short : sum_by most_words (known_code list) ≤ sum_by most_words list + 3 * most_moves

abbrev pub KnownIsShort : Type 0
KnownIsShort = (list : List Instr) → IsShort list
