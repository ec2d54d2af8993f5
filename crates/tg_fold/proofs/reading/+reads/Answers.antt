use Rattle.std.proofs.Common.{ap, sym, ◌∙◌}
use Rattle.tg_tree.specs.glue.Plain.{plain_tx, plain_ts}
use Rattle.tg_tree.proofs.ListLaws.{plain_tx-Call, plain_ts-Seq}
use Rattle.tg_fold.specs.Copies.{reads, reads_tx}
use Rattle.tg_fold.proofs.reading.+reads.Goals as goal

pub reads-returns-in-Seq : goal.reads-returns-in-Seq
reads-returns-in-Seq t c = c.any_reads.ensures ∙ sym (ap (reads c.args.temp.0) (ap plain_ts c.in-Seq.is ∙ plain_ts-Seq c.in-Seq.all))

pub value_reads-returns-in-Call : goal.value_reads-returns-in-Call
value_reads-returns-in-Call t c =
    c.any_value_reads.ensures ∙ sym (ap (reads_tx c.args.temp.0) (ap plain_tx c.in-Call.is ∙ plain_tx-Call c.in-Call.field-0 c.in-Call.all))
