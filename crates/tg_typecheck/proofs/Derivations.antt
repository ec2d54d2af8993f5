-- An accepted program has a type by the relation of typed parts, with the notes that it carries, and no limit is exceeded.
use Rattle.std.proofs.Common.{◌≡◌, ◌≢◌, ℕ, List, [], Option, Some, None, refl, subst, sym}
use Rattle.std.proofs.lemmas.List.Sorted.{Contains-permutation}
use Rattle.tg_syntax.specs.Tree.{Exp}
use Rattle.tg_syntax.specs.Beginnings.{BeginsApart}
use Rattle.tg_typecheck.specs.declared.faults.TypeRule.{TypeRule}
use Rattle.tg_typecheck.specs.declared.notes.Note.{Note}
use Rattle.tg_typecheck.specs.Types.{Ty}
use Rattle.tg_typecheck.specs.Checks.{CheckResult, fine, fault, Noted}
use Rattle.tg_typecheck.specs.Scopes.{outermost_scope}
use Rattle.tg_typecheck.specs.Typing.{typed}
use Rattle.tg_typecheck.specs.Limits.{limit_fault}
use Rattle.tg_typecheck.specs.Accepted.{Finding, accepted, at_fault, finding, finding_of, within_limits}
use Rattle.tg_typecheck.specs.Answered.{Accepts}
use Rattle.tg_typecheck.specs.Derivations.{Derivation}
use Rattle.tg_typecheck.specs.laws.Laws.{CheckedHasType}
use Rattle.tg_typecheck.proofs.NamedValues.{standard_values}
use Rattle.tg_typecheck.proofs.TreeInversion.{checked}
use Rattle.tg_typecheck.proofs.AmongBeginnings.{nothing, among, pairs}
use Rattle.tg_typecheck.proofs.Derived.{AreIn, derived}
use Rattle.tg_typecheck.proofs.Bytes.{bytes_of, shape_marks, apart_by_keys}

abbrev begin : Noted
begin = record { shapes = []; notes = [] }

-- a finding accepts a program, whose notes are all among these
abbrev pub AcceptsAmong : Finding → List Note → Type 0
AcceptsAmong (accepted few) notes = AreIn few notes
AcceptsAmong (at_fault rule at) notes = ⊥

by_limits : (few notes : List Note) (o : Option (TypeRule × ℕ)) → AcceptsAmong (within_limits few o) notes → (o ≡ None) × AreIn few notes
by_limits few notes None a = (refl, a)
by_limits few notes (Some f) a = absurd a

by_checks : (names : List (List ℕ)) (body : Exp) (notes : List Note) (c : CheckResult Ty) → typed body (outermost_scope names) begin ≡ c →
    AcceptsAmong (finding_of body c) notes → BeginsApart body → Derivation names body notes
by_checks names body notes (fault rule at) is e a = absurd e
by_checks names body notes (fine t noted) is e a =
    let c = checked body (outermost_scope names) (standard_values 0 names) t begin noted is in
    let apart = apart_by_keys noted.shapes (pairs (λ a b. a ≢ b) (among bytes_of shape_marks c nothing) a) in
    let l = by_limits noted.notes notes (limit_fault body) e in
    let d = derived noted.shapes notes apart c (record { more = []; are = refl; formed = λ v. v; among = l.1 }) in
    record { shapes = noted.shapes; apart = apart; formed = d.1.formed tt; type = t; has = d.0; limits = l.0 }

-- a tree, and notes in any order
pub derivation : (names : List (List ℕ)) (body : Exp) (notes : List Note) → AcceptsAmong (finding names body) notes → BeginsApart body →
    Derivation names body notes
derivation names body notes e a = by_checks names body notes (typed body (outermost_scope names) begin) refl e a

-- the notes as they were gathered
pub among_themselves : (f : Finding) (notes : List Note) → f ≡ accepted notes → AcceptsAmong f notes
among_themselves f notes e = subst (λ x. AcceptsAmong x notes) (sym e) (λ n c. c)

-- the notes in another order
pub among_sorted : (f : Finding) (sorted : List Note) → Accepts f sorted → AcceptsAmong f sorted
among_sorted (accepted notes) sorted a = λ n c. Contains-permutation notes sorted n a.0 c
among_sorted (at_fault rule at) sorted a = absurd a

pub checked_has_type : CheckedHasType
checked_has_type p a = derivation p.names p.body p.notes (among_sorted _ p.notes a.accepted) a.apart
