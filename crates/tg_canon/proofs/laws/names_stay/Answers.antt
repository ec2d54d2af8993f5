use Rattle.tg_canon.proofs.Growing.{linearized_grows}
use Rattle.tg_canon.proofs.Naming.{linearized_names, temporaries_below}
use Rattle.tg_canon.proofs.laws.names_stay.Goals as goal

pub returns : goal.returns
returns c = record { names = linearized_names; temps = temporaries_below; grow = linearized_grows }
