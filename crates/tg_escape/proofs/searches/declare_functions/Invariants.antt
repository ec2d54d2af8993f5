use Rattle.std.proofs.Common.{length}
use Rattle.tg_escape.proofs.SearchSteps.{NamedTo, all_functions}
use Rattle.tg_escape.proofs.searches.declare_functions.Given as goal

abbrev pub invariant-loop-function : goal.invariant-loop-function
invariant-loop-function l = NamedTo l.fn.search l.search (all_functions (length l.fn.search.within.items)) l.function-items l.function-index
