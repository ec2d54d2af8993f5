-- The machine's run of an image is the run of the lines that it is made of.
use Rattle.tg_emit_proof.specs.laws.Laws.{LinesRunOnTheMachine}
use Rattle.tg_emit_proof.proofs.PlacedWords.{lines_run_there}
use Rattle.tg_emit_proof.proofs.ImageStatics.{statics_are}

pub lines_run_on_the_machine : LinesRunOnTheMachine
lines_run_on_the_machine lines ls input heap stack n has right =
    lines_run_there lines ls has (statics_are lines ls has) input heap stack n right
