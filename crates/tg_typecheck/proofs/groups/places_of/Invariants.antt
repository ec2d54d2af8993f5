use Rattle.std.proofs.Common.{map}
use Rattle.tg_syntax.specs.glue.Plain.{plain_type}
use Rattle.tg_typecheck.proofs.GroupSteps.{PlacesOn}
use Rattle.tg_typecheck.proofs.groups.places_of.Given as goal

abbrev pub invariant-loop-at : goal.invariant-loop-at
invariant-loop-at l = PlacesOn l.places (map plain_type l.group) l.at
