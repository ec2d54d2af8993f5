use Rattle.tg_typecheck.proofs.GroupSteps.{FieldsOn}
use Rattle.tg_typecheck.proofs.groups.known_fields.Given as goal

abbrev pub invariant-loop-field : goal.invariant-loop-field
invariant-loop-field l = FieldsOn l.names l.state l.places l.earlier l.fields l.field-index
