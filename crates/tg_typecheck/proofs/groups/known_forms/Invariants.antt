use Rattle.std.proofs.Common.{map}
use Rattle.tg_syntax.specs.glue.Plain.{plain_type}
use Rattle.tg_typecheck.proofs.GroupSteps.{FormsOn}
use Rattle.tg_typecheck.proofs.groups.known_forms.Given as goal

abbrev pub invariant-loop-dec : goal.invariant-loop-dec
invariant-loop-dec l = FormsOn l.names l.state l.places (map plain_type l.group) l.dec-index
