-- Laws of typing and evaluation.
use Rattle.std.specs.Prelude.{◌≡◌, ◌≢◌, ◌↔◌, ℕ, List, Some, Bool, IsTrue}
use Rattle.tg_syntax.specs.Tree.{Exp}
use Rattle.tg_simulation.specs.Outcomes.{stuck}
use Rattle.tg_semantics.specs.Direct.{evaluate}
use Rattle.tg_typecheck.specs.declared.faults.TypeRule.{TypeRule}
use Rattle.tg_typecheck.specs.declared.notes.Means.{Means}
use Rattle.tg_typecheck.specs.Accepted.{finding, at_fault}
use Rattle.tg_typecheck.specs.Answered.{meaning_at}
use Rattle.tg_typecheck.specs.Has.{Says}
use Rattle.tg_typecheck.specs.Derivations.{Derivation}
use Rattle.tg_typecheck.specs.Programs.{CheckedProgram, IsAccepted}
use Rattle.tg_typecheck.specs.BeginWithin.{BeginsWithin}

-- a checked program has a type by the relation of typed parts, with the notes that it carries
abbrev pub CheckedHasType : Type 0
CheckedHasType =
    (p : CheckedProgram) → IsAccepted p → Derivation p.names p.body p.notes

-- what is noted at a byte of a checked program is what a search of its notes finds there
abbrev pub NotesAreFound : Type 0
NotesAreFound =
    (p : CheckedProgram) → IsAccepted p → (at : ℕ) (means : Means) →
    Says p.notes at means ↔ (meaning_at at p.notes ≡ Some means)

-- a checked program meets no value of the wrong kind and no name without meaning, for every input,
-- heap, stack and fuel
abbrev pub IsNeverStuck : Type 0
IsNeverStuck =
    (p : CheckedProgram) → IsAccepted p → (input : List ℕ) (heap stack fuel : ℕ) →
    (evaluate p.names p.body input heap stack fuel).end ≢ stuck

-- a fault of types stands where a part of the program begins: at one of any bytes at which all its
-- parts begin
abbrev pub FaultsStandWithin : Type 0
FaultsStandWithin =
    (here : ℕ → Bool) (names : List (List ℕ)) (body : Exp) (rule : TypeRule) (at : ℕ) →
    BeginsWithin here body → finding names body ≡ at_fault rule at → IsTrue (here at)
