use Rattle.tg_typecheck.proofs.HeaderChecks.{TypesOn}
use Rattle.tg_typecheck.proofs.headers.param_types.Given as goal

abbrev pub invariant-loop-param : goal.invariant-loop-param
invariant-loop-param l = TypesOn l.names l.state l.earlier l.params l.types.items l.param-index
