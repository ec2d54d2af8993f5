use Rattle.tg_code_bounds.proofs.Enough.{enough}
use Rattle.tg_code_bounds.proofs.laws.small_is_enough.Goals as goal

pub returns : goal.returns
returns c = record {
  enough = enough c.canon_is_bounded.ensures.length c.canon_is_bounded.ensures.needs c.flatten_is_bounded.ensures.length c.flatten_is_bounded.ensures.needs c.munch_is_bounded.ensures.few;
}
