use Rattle.tg_tree.proofs.ListLaws.{plain_ts-Seq}
use Rattle.tg_tree.proofs.making.sequence.Goals as goal

pub returns : goal.returns
returns c = plain_ts-Seq (record { items = c.args.items })
