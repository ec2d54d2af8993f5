use Rattle.std.proofs.Common.{◌≡◌, map}
use Rattle.tg_syntax.specs.glue.Plain.{plain_type}
use Rattle.tg_typecheck.proofs.GroupSteps.{EndsOn}
use Rattle.tg_typecheck.specs.Groups.{chain_of}
use Rattle.tg_typecheck.specs.glue.Declaring.{chain_from}
use Rattle.tg_typecheck.proofs.groups.chains_end.Given as goal

abbrev pub invariant-loop-dec : goal.invariant-loop-dec
invariant-loop-dec l = record {
  at_index : l.at ≡ l.dec-index;
  onward : map (chain_from (map plain_type l.group)) l.ends ≡ map (λ d. chain_of (map plain_type l.group) d.name) (map plain_type l.group) →
      EndsOn (map plain_type l.group) (map plain_type l.group) l.dec-index;
}
