use Rattle.std.proofs.Common.{◌≡◌, ◌||◌, drop}
use Rattle.tg_tree.specs.glue.Lists.{txs_of, stms_of}
use Rattle.tg_fold.specs.Copies.{reads_stms, reads_txs}
use Rattle.tg_fold.proofs.reading.+reads.Given as goal

abbrev pub invariant-any_reads-loop-statement : goal.invariant-any_reads-loop-statement
invariant-any_reads-loop-statement l =
    reads_stms l.temp.0 (stms_of l.statement-items) ≡ (l.any || reads_stms l.temp.0 (stms_of (drop l.statement-index l.statement-items)))

abbrev pub invariant-any_value_reads-loop-value : goal.invariant-any_value_reads-loop-value
invariant-any_value_reads-loop-value l =
    reads_txs l.temp.0 (txs_of l.value-items) ≡ (l.any || reads_txs l.temp.0 (txs_of (drop l.value-index l.value-items)))
