use Rattle.tg_typecheck.proofs.NotesFound.{notes_are_found}
use Rattle.tg_typecheck.proofs.laws.notes_are_found.Goals as goal

pub returns : goal.returns
returns c = notes_are_found
