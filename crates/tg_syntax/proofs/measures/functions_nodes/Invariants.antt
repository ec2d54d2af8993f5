use Rattle.std.proofs.Common.{◌≡◌, sum_by, take}
use Rattle.tg_syntax.specs.Measures.{saturated}
use Rattle.tg_syntax.proofs.SizeLemmas.{function_size}
use Rattle.tg_syntax.proofs.measures.functions_nodes.Given as goal

abbrev pub invariant-loop-function : goal.invariant-loop-function
invariant-loop-function l = l.sum ≡ saturated (sum_by function_size (take l.function-index l.function-items))
