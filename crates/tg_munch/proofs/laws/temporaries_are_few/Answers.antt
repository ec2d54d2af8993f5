use Rattle.tg_munch.proofs.Temporaries.{temps_few}
use Rattle.tg_munch.proofs.Shifts.{shifts_long}
use Rattle.tg_munch.proofs.laws.temporaries_are_few.Goals as goal

pub returns : goal.returns
returns c = record { few = temps_few; shifts = shifts_long }
