use Rattle.tg_tree.specs.glue.Lists.{txs_of}
use Rattle.tg_munch.specs.mirror.Munching.{arguments}
use Rattle.tg_munch.proofs.Walking.{Leads, picked}
use Rattle.tg_munch.proofs.expressions.+munching.Given as goal

abbrev pub invariant-pass_those-loop-i : goal.invariant-pass_those-loop-i
invariant-pass_those-loop-i l =
    Leads (λ i xs. arguments l.slots (picked l.registers l.frame) i (txs_of xs)) l.items.items.items 0 l.i l.i l.fn.draft l.draft
