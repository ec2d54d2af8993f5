use Rattle.std.proofs.Common.{◌≡◌, ◌||◌, drop}
use Rattle.tg_tree.specs.glue.Lists.{txs_of, stms_of}
use Rattle.tg_translate.specs.mirror.Returning.{any_has_loop, any_value_has_loop}
use Rattle.tg_translate.proofs.returning.+loops.Given as goal

abbrev pub invariant-any_has_loop-loop-statement : goal.invariant-any_has_loop-loop-statement
invariant-any_has_loop-loop-statement l =
    any_has_loop (stms_of l.statement-items) ≡ (l.any || any_has_loop (stms_of (drop l.statement-index l.statement-items)))

abbrev pub invariant-any_value_has_loop-loop-value : goal.invariant-any_value_has_loop-loop-value
invariant-any_value_has_loop-loop-value l =
    any_value_has_loop (txs_of l.value-items) ≡ (l.any || any_value_has_loop (txs_of (drop l.value-index l.value-items)))
