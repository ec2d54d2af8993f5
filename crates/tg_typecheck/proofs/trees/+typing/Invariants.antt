use Rattle.std.proofs.Common.{◌≡◌}
use Rattle.tg_typecheck.proofs.TreeSteps.{ArgumentsOn, FieldsOn, InOrder, DeclarationsOn, BodiesOn}
use Rattle.tg_typecheck.proofs.trees.+typing.Given as goal

abbrev pub invariant-typed_all-loop-e : goal.invariant-typed_all-loop-e
invariant-typed_all-loop-e l = record {
  at_index : l.at ≡ l.e-index;
  onward : ArgumentsOn l.names l.in_loop l.initial.state l.state l.e-items l.params l.e-index;
}

abbrev pub invariant-typed_fields-loop-init : goal.invariant-typed_fields-loop-init
invariant-typed_fields-loop-init l = record {
  at_index : l.at ≡ l.init-index;
  onward : FieldsOn l.names l.in_loop l.initial.state l.state l.init-items l.fields l.init-index;
}

abbrev pub invariant-typed_last-loop-e : goal.invariant-typed_last-loop-e
invariant-typed_last-loop-e l = InOrder l.names l.in_loop l.initial.state l.state l.e-items l.last l.e-index

abbrev pub invariant-declared-loop-dec : goal.invariant-declared-loop-dec
invariant-declared-loop-dec l = DeclarationsOn l.names l.in_loop l.initial.state l.state l.dec-items l.dec-index

abbrev pub invariant-bodies-loop-function : goal.invariant-bodies-loop-function
invariant-bodies-loop-function l = record {
  at_index : l.at ≡ l.function-index;
  onward : BodiesOn l.names l.initial.state l.state l.function-items l.signatures l.function-index;
}
