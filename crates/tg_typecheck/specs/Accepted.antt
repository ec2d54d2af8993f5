-- What a program is found to be: accepted, with its notes, or at fault.
use Rattle.std.specs.Prelude.{ℕ, List, [], Option, Some, None}
use Rattle.tg_syntax.specs.Tree.{Exp}
use Rattle.tg_typecheck.specs.declared.faults.TypeRule.{TypeRule}
use Rattle.tg_typecheck.specs.declared.notes.Note.{Note}
use Rattle.tg_typecheck.specs.Types.{Ty}
use Rattle.tg_typecheck.specs.Checks.{CheckResult, fine, fault}
use Rattle.tg_typecheck.specs.Scopes.{outermost_scope}
use Rattle.tg_typecheck.specs.Typing.{typed}
use Rattle.tg_typecheck.specs.Limits.{limit_fault}

pub data Finding : Type 0 where
  accepted : List Note → Finding
  at_fault : TypeRule → (at : ℕ) → Finding

abbrev pub within_limits : List Note → Option (TypeRule × ℕ) → Finding
within_limits notes None = accepted notes
within_limits notes (Some f) = at_fault f.0 f.1

abbrev pub finding_of : Exp → CheckResult Ty → Finding
finding_of body (fine t noted) = within_limits noted.notes (limit_fault body)
finding_of body (fault rule at) = at_fault rule at

-- a program's finding, where its identifiers are numbered by this list of names
abbrev pub finding : (names : List (List ℕ)) → Exp → Finding
finding names body =
    finding_of body (typed body (outermost_scope names) (record { shapes = []; notes = [] }))
