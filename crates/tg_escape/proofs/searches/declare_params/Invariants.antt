use Rattle.std.proofs.Common.{length}
use Rattle.tg_escape.specs.Uses.{declare_params}
use Rattle.tg_escape.proofs.SearchSteps.{NamedTo}
use Rattle.tg_escape.proofs.searches.declare_params.Given as goal

abbrev pub invariant-loop-param : goal.invariant-loop-param
invariant-loop-param l = NamedTo l.fn.search l.search (declare_params (length l.fn.search.within.items)) l.params l.param-index
