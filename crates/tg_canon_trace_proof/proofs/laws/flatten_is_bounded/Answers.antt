use Rattle.std.proofs.Common.{arith}
use Rattle.tg_canon_trace_proof.proofs.Composing.{lengths_stay, needs_stay}
use Rattle.tg_canon_trace_proof.proofs.laws.flatten_is_bounded.Goals as goal

pub returns : goal.returns
returns c = record {
  length = lengths_stay c.canon_is_bounded.ensures.length c.trace_is_bounded.ensures.length;
  needs = needs_stay c.canon_is_bounded.ensures.needs c.trace_is_bounded.ensures.needs;
  left = omega arith;
}
