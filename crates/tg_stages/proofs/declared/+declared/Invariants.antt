use Rattle.std.proofs.Common.{◌≡◌, ◌++◌, drop}
use Rattle.tg_syntax.specs.glue.Lists.{exps_of, inits_of, decs_of, functions_of}
use Rattle.tg_stages.specs.DeclaredFunctions.{declared_exps, declared_inits, declared_decs, declared_functions}
use Rattle.tg_stages.proofs.declared.+declared.Given as goal

abbrev pub invariant-put_of_exps-loop-e : goal.invariant-put_of_exps-loop-e
invariant-put_of_exps-loop-e l =
    l.initial.found.items ++ declared_exps (exps_of l.e-items) ≡ l.found.items ++ declared_exps (exps_of (drop l.e-index l.e-items))

abbrev pub invariant-put_of_inits-loop-init : goal.invariant-put_of_inits-loop-init
invariant-put_of_inits-loop-init l =
    l.initial.found.items ++ declared_inits (inits_of l.init-items) ≡ l.found.items ++ declared_inits (inits_of (drop l.init-index l.init-items))

abbrev pub invariant-put_of_decs-loop-dec : goal.invariant-put_of_decs-loop-dec
invariant-put_of_decs-loop-dec l =
    l.initial.found.items ++ declared_decs (decs_of l.dec-items) ≡ l.found.items ++ declared_decs (decs_of (drop l.dec-index l.dec-items))

abbrev pub invariant-put_of_functions-loop-function : goal.invariant-put_of_functions-loop-function
invariant-put_of_functions-loop-function l =
    l.initial.found.items ++ declared_functions (functions_of l.function-items)
    ≡ l.found.items ++ declared_functions (functions_of (drop l.function-index l.function-items))
