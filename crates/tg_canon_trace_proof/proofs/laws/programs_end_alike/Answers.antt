use Rattle.std.proofs.Common.{refl}
use Rattle.tg_canon_trace_proof.proofs.laws.programs_end_alike.Goals as goal

pub returns : goal.returns
returns c = record {
  adding = record { trees = refl; canonical = refl; blocks = refl; flat = refl };
  counting = record { trees = refl; canonical = refl; blocks = refl; flat = refl };
}
