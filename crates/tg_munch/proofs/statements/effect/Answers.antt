use Rattle.std.proofs.Common.{ap, sym, ◌∙◌, subst}
use Rattle.std.specs.Prelude.{OnOk}
use Rattle.tg_tree.specs.glue.Plain.{plain_tx}
use Rattle.tg_tree.proofs.ListLaws.{plain_tx-Call}
use Rattle.tg_munch.specs.mirror.Munching.{effect}
use Rattle.tg_munch.specs.glue.Drafts.{Writes}
use Rattle.tg_munch.proofs.statements.effect.Goals as goal

pub returns-in-Call : goal.returns-in-Call
returns-in-Call c =
    subst (λ y. OnOk c.call.result (Writes (effect c.args.slots y) c.args.draft.now c.call.new.draft tt))
    (sym (ap plain_tx c.in-Call.is ∙ plain_tx-Call c.in-Call.label c.in-Call.items)) c.call.ensures
