-- An accepted program is never stuck.
use Rattle.std.proofs.Common.{◌≡◌, ◌≢◌, ℕ, List, refl}
use Rattle.tg_syntax.specs.Tree.{Exp}
use Rattle.tg_syntax.specs.Beginnings.{BeginsApart}
use Rattle.tg_simulation.specs.Outcomes.{stuck}
use Rattle.tg_semantics.specs.Direct.{evaluate}
use Rattle.tg_semantics.specs.Environments.{outermost_entries as entries_of}
use Rattle.tg_typecheck.specs.declared.notes.Note.{Note}
use Rattle.tg_typecheck.specs.Scopes.{outermost_scope}
use Rattle.tg_typecheck.specs.Accepted.{finding, accepted}
use Rattle.tg_typecheck.specs.Derivations.{Derivation}
use Rattle.tg_typecheck.specs.laws.Laws.{IsNeverStuck}
use Rattle.tg_typecheck.proofs.Derivations.{derivation, among_themselves, checked_has_type}
use Rattle.tg_typecheck.proofs.SoundDirect.{typed_not_stuck, sees_outermost}

typed_never_stuck : (names : List (List ℕ)) (body : Exp) (notes : List Note) → Derivation names body notes → (input : List ℕ) (heap stack fuel : ℕ) →
    (evaluate names body input heap stack fuel).end ≢ stuck
typed_never_stuck names body notes d input heap stack fuel =
    typed_not_stuck d.shapes notes heap stack body (entries_of names) (outermost_scope names) d.type input fuel refl d.has (sees_outermost d.shapes notes 0 names)

-- a tree whose notes are as they were gathered
pub accepted_never_stuck : (names : List (List ℕ)) (body : Exp) (notes : List Note) → finding names body ≡ accepted notes → BeginsApart body →
    (input : List ℕ) (heap stack fuel : ℕ) → (evaluate names body input heap stack fuel).end ≢ stuck
accepted_never_stuck names body notes e a = typed_never_stuck names body notes (derivation names body notes (among_themselves _ notes e) a)

pub never_stuck : IsNeverStuck
never_stuck p a = typed_never_stuck p.names p.body p.notes (checked_has_type p a)
