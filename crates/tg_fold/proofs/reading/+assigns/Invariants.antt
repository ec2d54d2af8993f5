use Rattle.std.proofs.Common.{◌≡◌, ◌||◌, drop}
use Rattle.tg_tree.specs.glue.Lists.{txs_of, stms_of}
use Rattle.tg_fold.specs.Copies.{assigns_stms, assigns_txs}
use Rattle.tg_fold.proofs.reading.+assigns.Given as goal

abbrev pub invariant-any_assigns-loop-statement : goal.invariant-any_assigns-loop-statement
invariant-any_assigns-loop-statement l =
    assigns_stms l.temp.0 (stms_of l.statement-items) ≡ (l.any || assigns_stms l.temp.0 (stms_of (drop l.statement-index l.statement-items)))

abbrev pub invariant-any_value_assigns-loop-value : goal.invariant-any_value_assigns-loop-value
invariant-any_value_assigns-loop-value l =
    assigns_txs l.temp.0 (txs_of l.value-items) ≡ (l.any || assigns_txs l.temp.0 (txs_of (drop l.value-index l.value-items)))
