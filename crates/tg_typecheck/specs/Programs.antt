-- Checked programs: a program's tree, with its names and its notes.
use Rattle.std.specs.Prelude.{ℕ, List, length, refl}
use Rattle.std.specs.Coded.{Coded, code_by, coded×, coded_ℕ, coded_list}
use Rattle.tg_syntax.specs.declared.trees.Program.{Program}
use Rattle.tg_syntax.specs.contracts.trees.Program as program
use Rattle.tg_syntax.specs.Tree.{Exp}
use Rattle.tg_syntax.specs.glue.Plain.{plain}
use Rattle.tg_syntax.specs.NamesWithin.{NamesWithin}
use Rattle.tg_syntax.specs.Beginnings.{BeginsApart}
use Rattle.tg_typecheck.specs.declared.notes.Note.{Note}
use Rattle.tg_typecheck.specs.contracts.notes.Note as note
use Rattle.tg_typecheck.specs.Accepted.{finding}
use Rattle.tg_typecheck.specs.Answered.{Accepts}

-- a tree, with the names that number its identifiers, and what its typing noted
pub record CheckedProgram : Type 0 where
  pub names : List (List ℕ)
  pub body : Exp
  pub notes : List Note

-- what the code has of it, with its tree
pub record CheckedTree : Type 0 where
  pub program : Program
  pub names : List (List ℕ)
  pub notes : List Note

abbrev pub checked_code : Coded CheckedTree
checked_code =
    code_by (Program × (List (List ℕ) × List Note))
    (coded× program.the_row.coded
    (coded× (coded_list (coded_list coded_ℕ)) (coded_list note.the_row.coded)))
    (λ c. (c.program, (c.names, c.notes)))
    (λ p. record { program = p.0; names = p.1.0; notes = p.1.1 }) (λ _. refl)

abbrev pub plain_checked : CheckedTree → CheckedProgram
plain_checked c = record { names = c.names; body = plain c.program.body; notes = c.notes }

-- it meets the condition of the check, and has no fault; the notes are its own
pub record IsAccepted (p : CheckedProgram) : Type 0 where
  pub within : NamesWithin (length p.names) p.body
  pub apart : BeginsApart p.body
  pub accepted : Accepts (finding p.names p.body) p.notes
