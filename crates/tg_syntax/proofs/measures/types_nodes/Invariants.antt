use Rattle.std.proofs.Common.{◌≡◌, sum_by, take}
use Rattle.tg_syntax.specs.Measures.{saturated, type_size}
use Rattle.tg_syntax.specs.glue.Plain.{plain_type}
use Rattle.tg_syntax.proofs.measures.types_nodes.Given as goal

abbrev pub invariant-loop-dec : goal.invariant-loop-dec
invariant-loop-dec l = l.sum ≡ saturated (sum_by (λ d. type_size (plain_type d)) (take l.dec-index l.dec-items))
