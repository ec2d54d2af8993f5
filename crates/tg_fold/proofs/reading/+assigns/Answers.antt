use Rattle.std.proofs.Common.{ap, sym, ◌∙◌}
use Rattle.tg_tree.specs.glue.Plain.{plain_tx, plain_ts}
use Rattle.tg_tree.proofs.ListLaws.{plain_tx-Call, plain_ts-Seq}
use Rattle.tg_fold.specs.Copies.{assigns, assigns_tx}
use Rattle.tg_fold.proofs.reading.+assigns.Goals as goal

pub assigns-returns-in-Seq : goal.assigns-returns-in-Seq
assigns-returns-in-Seq t c = c.any_assigns.ensures ∙ sym (ap (assigns c.args.temp.0) (ap plain_ts c.in-Seq.is ∙ plain_ts-Seq c.in-Seq.all))

pub value_assigns-returns-in-Call : goal.value_assigns-returns-in-Call
value_assigns-returns-in-Call t c =
    c.any_value_assigns.ensures ∙ sym (ap (assigns_tx c.args.temp.0) (ap plain_tx c.in-Call.is ∙ plain_tx-Call c.in-Call.field-0 c.in-Call.all))
