use Rattle.tg_live.proofs.Turned.{push_row}
use Rattle.tg_live.proofs.tables.PlaceTable.push.Goals as goal

pub returns : goal.returns
returns c =
    push_row (λ r. r.items) c.self.inside.rows.items c.args.self.now c.args.at c.index_mut.result.now c.push.new.self
    c.args.place
    c.self.view_is c.requires c.index_mut.ensures.value c.in_ok-push.ensures.ok
