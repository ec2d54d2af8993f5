-- What is found of the program, computed.
use Rattle.std.proofs.Common.{◌≡◌, refl}
use Rattle.tg_typecheck.specs.Accepted.{accepted, finding}
use Rattle.tg_typecheck.specs.Checks.{◌>>=◌, give, note}
use Rattle.tg_pipeline_example.specs.Program.{names, program, notes}

pub notes_are : finding names program ≡ accepted notes
unfolding ◌>>=◌ give note
notes_are = refl
