use Rattle.std.proofs.Common.{◌≡◌}
use Rattle.tg_typecheck.proofs.HeaderSteps.{ParamsOn}
use Rattle.tg_typecheck.proofs.headers.open_params.Given as goal

abbrev pub invariant-loop-param : goal.invariant-loop-param
invariant-loop-param l = record {
  at_index : l.at ≡ l.param-index;
  onward : ParamsOn l.initial.state l.state l.params l.types l.param-index;
}
