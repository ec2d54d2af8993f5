use Rattle.std.proofs.Common.{◌≡◌, ◌≤◌, map, drop, length, Bool}
use Rattle.tg_typecheck.specs.Scopes.{Scope}
use Rattle.tg_typecheck.specs.Groups as groups
use Rattle.tg_typecheck.specs.glue.States.{scope_of}
use Rattle.tg_typecheck.proofs.groups.fields_of.Given as goal

abbrev pub invariant-loop-at : goal.invariant-loop-at
invariant-loop-at l = record {
  low : l.at ≤ length l.fields;
  made : (scope : Scope) (in_loop : Bool) → scope ≡ scope_of l.names l.state in_loop →
      l.table ≡ map (λ p. (p.name.name.0, groups.known_type scope p.kind)) (drop l.at l.fields);
}

abbrev pub decreases-loop-at : goal.decreases-loop-at
decreases-loop-at l = l.at
