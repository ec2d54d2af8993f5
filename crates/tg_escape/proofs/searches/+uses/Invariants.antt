use Rattle.tg_escape.proofs.SearchSteps.{WalkedTo, DeclaredTo, uses_in_exp, uses_in_init, uses_in_function}
use Rattle.tg_escape.proofs.searches.+uses.Given as goal

abbrev pub invariant-in_exps-loop-e : goal.invariant-in_exps-loop-e
invariant-in_exps-loop-e l = WalkedTo l.fn.search l.search (uses_in_exp l.fn.search.within.items l.fn.search.table) l.e-items l.e-index

abbrev pub invariant-in_inits-loop-init : goal.invariant-in_inits-loop-init
invariant-in_inits-loop-init l = WalkedTo l.fn.search l.search (uses_in_init l.fn.search.within.items l.fn.search.table) l.init-items l.init-index

abbrev pub invariant-in_decs-loop-dec : goal.invariant-in_decs-loop-dec
invariant-in_decs-loop-dec l = DeclaredTo l.fn.search l.search l.fn.search.within.items l.dec-items l.dec-index

abbrev pub invariant-in_functions-loop-function : goal.invariant-in_functions-loop-function
invariant-in_functions-loop-function l =
    WalkedTo l.fn.search l.search (uses_in_function l.fn.search.within.items l.fn.search.table) l.function-items l.function-index
