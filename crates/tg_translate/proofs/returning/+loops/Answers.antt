use Rattle.std.proofs.Common.{ap, sym, ◌∙◌}
use Rattle.tg_tree.specs.glue.Plain.{plain_tx, plain_ts}
use Rattle.tg_tree.proofs.ListLaws.{plain_tx-Call, plain_ts-Seq}
use Rattle.tg_translate.specs.mirror.Returning.{has_loop, value_has_loop}
use Rattle.tg_translate.proofs.returning.+loops.Goals as goal

pub has_loop-returns-in-Seq : goal.has_loop-returns-in-Seq
has_loop-returns-in-Seq t c = c.any_has_loop.ensures ∙ sym (ap has_loop (ap plain_ts c.in-Seq.is ∙ plain_ts-Seq c.in-Seq.all))

pub value_has_loop-returns-in-Call : goal.value_has_loop-returns-in-Call
value_has_loop-returns-in-Call t c =
    c.any_value_has_loop.ensures ∙ sym (ap value_has_loop (ap plain_tx c.in-Call.is ∙ plain_tx-Call c.in-Call.field-0 c.in-Call.all))
