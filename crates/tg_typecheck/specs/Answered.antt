-- What the check of a program answers.
use Rattle.std.specs.Prelude.{◌≡◌, ◌<◌, ◌==◌, ℕ, List, [], ◌∷◌, Option, Some, None, if◌then◌else◌}
use Rattle.std.specs.List.{AllPairs}
use Rattle.std.specs.List.Sorted.{IsPermutation}
use Rattle.tg_base.specs.declared.faulty.Faulty.{Faulty}
use Rattle.tg_base.specs.declared.faulty.Faulty.TheVariants.{Bad, Memory}
use Rattle.tg_typecheck.specs.declared.faults.TypeRule.{TypeRule}
use Rattle.tg_typecheck.specs.declared.notes.Note.{Note}
use Rattle.tg_typecheck.specs.declared.notes.Means.{Means}
use Rattle.tg_typecheck.specs.Accepted.{Finding, accepted, at_fault}

-- each note stands after those before it
abbrev pub AreRising : List Note → Type 0
AreRising notes = AllPairs (λ a b. a.at < b.at) notes

-- a finding accepts a program, whose notes are these in another order
abbrev pub Accepts : Finding → List Note → Type 0
Accepts (accepted notes) sorted = IsPermutation notes sorted × AreRising sorted
Accepts (at_fault rule at) sorted = ⊥

-- a fault that is answered is the finding's; out of memory says nothing
abbrev pub IsAt : Finding → Faulty TypeRule ℕ → Type 0
IsAt f (Bad rule at) = f ≡ at_fault rule at
IsAt f Memory = Unit {0}

-- what is noted at a byte
abbrev pub meaning_at : ℕ → List Note → Option Means
meaning_at at [] = None
meaning_at at (n ∷ notes) = if n.at == at then Some n.means else meaning_at at notes
