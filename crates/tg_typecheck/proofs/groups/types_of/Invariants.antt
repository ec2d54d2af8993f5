use Rattle.std.proofs.Common.{◌≡◌, map, take, Bool}
use Rattle.tg_syntax.specs.glue.Plain.{plain_type}
use Rattle.tg_typecheck.specs.Scopes.{Scope}
use Rattle.tg_typecheck.specs.Groups as groups
use Rattle.tg_typecheck.specs.glue.States.{scope_of}
use Rattle.tg_typecheck.specs.glue.Declaring.{chain_from}
use Rattle.tg_typecheck.proofs.groups.types_of.Given as goal

abbrev pub invariant-loop-end : goal.invariant-loop-end
invariant-loop-end l =
    (scope : Scope) (in_loop : Bool) → scope ≡ scope_of l.names l.state in_loop →
    l.types.items ≡ map (λ e. groups.type_at_end (chain_from (map plain_type l.group) e) scope) (take l.end-index l.ends)
