use Rattle.std.proofs.Common.{◌≡◌, ◌++◌, drop}
use Rattle.tg_syntax.specs.glue.Lists.{exps_of, inits_of, decs_of, functions_of}
use Rattle.tg_variables.specs.Functions.{exps_texts, inits_texts, decs_texts, functions_texts}
use Rattle.tg_variables.proofs.functions.+texts.Given as goal

abbrev pub invariant-put_of_exps-loop-e : goal.invariant-put_of_exps-loop-e
invariant-put_of_exps-loop-e l =
    l.initial.found.items ++ exps_texts l.level (exps_of l.e-items) ≡ l.found.items ++ exps_texts l.level (exps_of (drop l.e-index l.e-items))

abbrev pub invariant-put_of_inits-loop-init : goal.invariant-put_of_inits-loop-init
invariant-put_of_inits-loop-init l =
    l.initial.found.items ++ inits_texts l.level (inits_of l.init-items) ≡ l.found.items ++ inits_texts l.level (inits_of (drop l.init-index l.init-items))

abbrev pub invariant-put_of_decs-loop-dec : goal.invariant-put_of_decs-loop-dec
invariant-put_of_decs-loop-dec l =
    l.initial.found.items ++ decs_texts l.level (decs_of l.dec-items) ≡ l.found.items ++ decs_texts l.level (decs_of (drop l.dec-index l.dec-items))

abbrev pub invariant-put_of_functions-loop-function : goal.invariant-put_of_functions-loop-function
invariant-put_of_functions-loop-function l =
    l.initial.found.items ++ functions_texts l.level (functions_of l.function-items)
    ≡ l.found.items ++ functions_texts l.level (functions_of (drop l.function-index l.function-items))
