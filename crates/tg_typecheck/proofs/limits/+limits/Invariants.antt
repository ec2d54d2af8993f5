use Rattle.std.proofs.Common.{◌≡◌, drop}
use Rattle.tg_typecheck.proofs.LimitSteps.{first_in, exp_limit, init_limit, dec_limit, function_limit}
use Rattle.tg_typecheck.proofs.limits.+limits.Given as goal

abbrev pub invariant-list_above-loop-e : goal.invariant-list_above-loop-e
invariant-list_above-loop-e l = first_in (exp_limit l.level) l.e-items ≡ first_in (exp_limit l.level) (drop l.e-index l.e-items)

abbrev pub invariant-inits_above-loop-init : goal.invariant-inits_above-loop-init
invariant-inits_above-loop-init l = first_in (init_limit l.level) l.init-items ≡ first_in (init_limit l.level) (drop l.init-index l.init-items)

abbrev pub invariant-decs_above-loop-dec : goal.invariant-decs_above-loop-dec
invariant-decs_above-loop-dec l = first_in (dec_limit l.level) l.dec-items ≡ first_in (dec_limit l.level) (drop l.dec-index l.dec-items)

abbrev pub invariant-functions_above-loop-function : goal.invariant-functions_above-loop-function
invariant-functions_above-loop-function l =
    first_in (function_limit l.level) l.function-items ≡ first_in (function_limit l.level) (drop l.function-index l.function-items)
