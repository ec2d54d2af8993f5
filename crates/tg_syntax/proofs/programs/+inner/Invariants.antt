use Rattle.std.proofs.Common.{◌≡◌, sum_by, ◌+◌, take}
use Rattle.tg_syntax.specs.Measures.{saturated}
use Rattle.tg_syntax.proofs.InnerLemmas.{dec_inner, init_inner, exp_inner, function_inner}
use Rattle.tg_syntax.proofs.programs.+inner.Given as goal

abbrev pub invariant-list_inner-loop-e : goal.invariant-list_inner-loop-e
invariant-list_inner-loop-e l = l.sum ≡ saturated (sum_by exp_inner (take l.e-index l.e-items))

abbrev pub invariant-init_inner-loop-init : goal.invariant-init_inner-loop-init
invariant-init_inner-loop-init l = l.sum ≡ saturated (sum_by init_inner (take l.init-index l.init-items))

abbrev pub invariant-functions_inner-loop-function : goal.invariant-functions_inner-loop-function
invariant-functions_inner-loop-function l = l.sum ≡ saturated (sum_by function_inner (take l.function-index l.function-items))

abbrev pub invariant-inner_nodes-loop-dec : goal.invariant-inner_nodes-loop-dec
invariant-inner_nodes-loop-dec l = l.sum ≡ saturated (l.initial.sum + sum_by dec_inner (take l.dec-index l.dec-items))
