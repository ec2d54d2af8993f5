use Rattle.std.proofs.Common.{◌≡◌, sum_by, take}
use Rattle.tg_parser.proofs.WithinLists.{exp_excess, init_excess, function_excess, dec_excess}
use Rattle.tg_parser.proofs.depths.+within.Given as goal

abbrev pub invariant-are_within-loop-e : goal.invariant-are_within-loop-e
invariant-are_within-loop-e l = sum_by (exp_excess l.most) (take l.e-index l.e-items) ≡ 0

abbrev pub invariant-are_inits_within-loop-init : goal.invariant-are_inits_within-loop-init
invariant-are_inits_within-loop-init l = sum_by (init_excess l.most) (take l.init-index l.init-items) ≡ 0

abbrev pub invariant-are_functions_within-loop-function : goal.invariant-are_functions_within-loop-function
invariant-are_functions_within-loop-function l = sum_by (function_excess l.most) (take l.function-index l.function-items) ≡ 0

abbrev pub invariant-is_within-loop-dec : goal.invariant-is_within-loop-dec
invariant-is_within-loop-dec l = sum_by (dec_excess l.below) (take l.dec-index l.dec-items) ≡ 0
