use Rattle.std.proofs.Common.{◌≡◌}
use Rattle.tg_typecheck.proofs.HeaderSteps.{FunctionsOn}
use Rattle.tg_typecheck.proofs.headers.open_functions.Given as goal

abbrev pub invariant-loop-function : goal.invariant-loop-function
invariant-loop-function l = record {
  at_index : l.at ≡ l.function-index;
  onward : FunctionsOn l.initial.state l.state l.function-items l.signatures l.function-index;
}
