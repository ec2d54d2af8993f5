use Rattle.tg_fold.proofs.Bodies.{bodies_carried, calls_are_carried, programs_are_preserved}
use Rattle.tg_fold.proofs.laws.fold_is_correct.Goals as goal

pub returns : goal.returns
returns c = record { bodies = bodies_carried; calls = calls_are_carried; programs = programs_are_preserved }
