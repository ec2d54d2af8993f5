use Rattle.std.proofs.Common.{◌≡◌, drop}
use Rattle.tg_tree.specs.glue.Lists.{txs_of}
use Rattle.tg_munch.specs.mirror.Arguments.{one_may_end}
use Rattle.tg_munch.proofs.arguments.one_may_end.Given as goal

abbrev pub invariant-loop-i : goal.invariant-loop-i
invariant-loop-i l = one_may_end 0 (txs_of l.arguments) ≡ one_may_end l.i (txs_of (drop l.i l.arguments))
