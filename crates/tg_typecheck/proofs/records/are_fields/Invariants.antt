use Rattle.std.proofs.Common.{◌≡◌}
use Rattle.tg_typecheck.proofs.FieldSteps.{FieldsLeft}
use Rattle.tg_typecheck.proofs.records.are_fields.Given as goal

abbrev pub invariant-loop-init : goal.invariant-loop-init
invariant-loop-init l = record {
  at_index : l.at ≡ l.init-index;
  left : FieldsLeft l.init-items l.fields l.init-index;
}
