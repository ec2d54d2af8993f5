use Rattle.tg_tree.proofs.ListLaws.{plain_tx-Call}
use Rattle.tg_tree.proofs.making.call.Goals as goal

pub returns : goal.returns
returns c = plain_tx-Call c.args.label (record { items = c.args.arguments })
