use Rattle.std.proofs.Common.{◌≡◌, ◌≤◌, length, drop}
use Rattle.tg_explain_types.specs.Scopes as scopes
use Rattle.tg_explain_types.proofs.scopes.seen_at.Given as goal

abbrev pub invariant-loop-count : goal.invariant-loop-count
invariant-loop-count l = record {
  within : l.count ≤ length l.parts;
  seen : l.seen.items ≡ scopes.seen_at l.at (drop l.count l.parts);
}

abbrev pub decreases-loop-count : goal.decreases-loop-count
decreases-loop-count l = l.count
