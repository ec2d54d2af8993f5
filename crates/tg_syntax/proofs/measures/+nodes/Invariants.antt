use Rattle.std.proofs.Common.{◌≡◌, sum_by, ◌+◌, take}
use Rattle.tg_syntax.specs.Measures.{saturated}
use Rattle.tg_syntax.proofs.SizeLemmas.{dec_size, init_size, exp_size}
use Rattle.tg_syntax.proofs.measures.+nodes.Given as goal

abbrev pub invariant-list_nodes-loop-e : goal.invariant-list_nodes-loop-e
invariant-list_nodes-loop-e l = l.sum ≡ saturated (sum_by exp_size (take l.e-index l.e-items))

abbrev pub invariant-init_nodes-loop-init : goal.invariant-init_nodes-loop-init
invariant-init_nodes-loop-init l = l.sum ≡ saturated (sum_by init_size (take l.init-index l.init-items))

abbrev pub invariant-nodes-loop-dec : goal.invariant-nodes-loop-dec
invariant-nodes-loop-dec l = l.sum ≡ saturated (l.initial.sum + sum_by dec_size (take l.dec-index l.dec-items))
