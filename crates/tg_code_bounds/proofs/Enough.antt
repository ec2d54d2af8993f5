-- A function whose tree is small meets the conditions of the passes.
use Rattle.std.proofs.Common.{arith}
use Rattle.tg_canon.specs.laws.Meaning as canon
use Rattle.tg_canon_trace_proof.specs.Flattened.{flattened}
use Rattle.tg_canon_trace_proof.specs.laws.Laws as carried
use Rattle.tg_munch.specs.laws.Lengths.{InstructionsAreFew}
use Rattle.tg_code_bounds.specs.laws.Conditions.{SmallIsEnough}

pub enough : canon.LengthStays → canon.NeedsStay → carried.LengthStays → carried.NeedsStay → InstructionsAreFew → SmallIsEnough
enough canonical_short canonical_small flat_short flat_small few f may h =
    let s = h.short in
    let r = h.small in
    let a = canonical_short f may.temps in
    let b = canonical_small f may.temps in
    let c = flat_short f may in
    let d = flat_small f may in
    let n = (few (flattened f)).code in
    let t = (few (flattened f)).temps in
    record {
      tree_short = omega (arith, s);
      tree_small = omega (arith, r);
      canonical_short = omega (arith, s, a);
      canonical_small = omega (arith, r, b);
      flat_short = omega (arith, s, c);
      flat_small = omega (arith, r, d);
      instructions = omega (arith, s, r, c, d, n, t);
    }
