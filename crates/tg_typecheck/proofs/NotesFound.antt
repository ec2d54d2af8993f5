-- What is noted at a byte is what a search of the notes finds.
use Rattle.std.proofs.Common.{◌≡◌, ℕ, suc, List, [], ◌∷◌, Some, Bool, true, false, refl, sym, ap₂, arith}
use Rattle.std.specs.Prelude.{◌==◌, if◌then◌else◌}
use Rattle.std.proofs.lemmas.Bool.{eqb-true}
use Rattle.tg_typecheck.specs.declared.notes.Note.{Note}
use Rattle.tg_typecheck.specs.declared.notes.Means.{Means}
use Rattle.tg_typecheck.specs.Accepted.{Finding, accepted, at_fault}
use Rattle.tg_typecheck.specs.Answered.{AreRising, Accepts, meaning_at}
use Rattle.tg_typecheck.specs.Has.{Says}
use Rattle.tg_typecheck.specs.laws.Laws.{NotesAreFound}
use Rattle.tg_typecheck.proofs.NoteSteps.{found}

rising : (f : Finding) (sorted : List Note) → Accepts f sorted → AreRising sorted
rising (accepted notes) sorted a = a.1
rising (at_fault rule at) sorted a = absurd a

says_later : (n : Note) (notes : List Note) (at : ℕ) (m : Means) → Says notes at m → Says (n ∷ notes) at m
says_later n notes at m c = (suc c.0, omega (arith, c.1), c.2)

pub says_found : (notes : List Note) (at : ℕ) (m : Means) → meaning_at at notes ≡ Some m → Says notes at m
says_found [] at m e = cc
says_found (n ∷ notes) at m e = by (n.at == at) refl (says_found notes at m) e
  where
    by : (b : Bool) → (n.at == at) ≡ b → (meaning_at at notes ≡ Some m → Says notes at m) → (if b then Some n.means else meaning_at at notes) ≡ Some m →
        Says (n ∷ notes) at m
    by true is rest e =
        let same : n.means ≡ m = cc in
        (0, omega arith, ap₂ (λ x y. record { at = x; means = y }) (eqb-true n.at at is) same)
    by false is rest e = says_later n notes at m (rest e)

pub found_said : (notes : List Note) (at : ℕ) (m : Means) → AreRising notes → Says notes at m → meaning_at at notes ≡ Some m
found_said notes at m r c = found at notes c.0 (record { at = at; means = m }) r c.1 (sym c.2) refl

pub notes_are_found : NotesAreFound
notes_are_found p a at m = (found_said p.notes at m (rising _ p.notes a.accepted), says_found p.notes at m)
