use Rattle.std.proofs.Common.{◌≡◌, ◌++◌, ap, sym, subst, ◌∙◌}
use Rattle.std.specs.Prelude.{OnOk}
use Rattle.tg_tree.specs.glue.Plain.{plain_tx, plain_ts}
use Rattle.tg_tree.proofs.ListLaws.{plain_tx-Call, plain_ts-Seq}
use Rattle.tg_show.specs.Trees.{tx_text, ts_text}
use Rattle.tg_show.proofs.trees.+trees.Goals as goal

pub put_tx-returns-in-Call : goal.put_tx-returns-in-Call
put_tx-returns-in-Call t c =
    subst (λ x. OnOk c.put_call.result (c.put_call.new.text.items ≡ c.args.text.now.items ++ tx_text c.args.names.now x))
    (sym (ap plain_tx c.in-Call.is ∙ plain_tx-Call c.in-Call.label c.in-Call.items)) c.put_call.ensures

pub put_ts-returns-in-Seq : goal.put_ts-returns-in-Seq
put_ts-returns-in-Seq t c =
    subst (λ s. OnOk c.put_sequence.result (c.put_sequence.new.text.items ≡ c.args.text.now.items ++ ts_text c.args.names.now s))
    (sym (ap plain_ts c.in-Seq.is ∙ plain_ts-Seq c.in-Seq.all)) c.put_sequence.ensures
