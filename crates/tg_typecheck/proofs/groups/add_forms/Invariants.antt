use Rattle.std.proofs.Common.{map}
use Rattle.tg_syntax.specs.glue.Plain.{plain_type}
use Rattle.tg_typecheck.proofs.GroupSteps.{AddedOn}
use Rattle.tg_typecheck.proofs.groups.add_forms.Given as goal

abbrev pub invariant-loop-dec : goal.invariant-loop-dec
invariant-loop-dec l = AddedOn l.names l.initial.state l.state (map plain_type l.group) l.dec-index
