use Rattle.std.proofs.Common.{◌≡◌, ◌<◌, ℕ, length, get_or}
use Rattle.tg_typecheck.specs.declared.chains.Chain.{Chain}
use Rattle.tg_typecheck.specs.declared.chains.Chain.TheVariants.{Onward}
use Rattle.tg_typecheck.proofs.chains.places_themselves.Given as goal

abbrev pub invariant-loop-at : goal.invariant-loop-at
invariant-loop-at l = record {
  as_many : length l.ends.items ≡ l.at;
  each : (k : ℕ) (d : Chain) → k < l.at → get_or l.ends.items k d ≡ Onward k;
}
