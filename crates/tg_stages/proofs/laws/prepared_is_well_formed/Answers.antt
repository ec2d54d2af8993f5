use Rattle.tg_compile.proofs.Preparing as preparing
use Rattle.tg_stages.proofs.laws.prepared_is_well_formed.Goals as goal

pub returns : goal.returns
returns c = preparing.prepared_is_well_formed c.shapes_stay.ensures.closed c.shapes_stay.ensures.temps
