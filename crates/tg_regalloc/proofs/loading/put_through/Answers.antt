use Rattle.tg_regalloc.proofs.Naming.{to_below}
use Rattle.tg_regalloc.proofs.loading.put_through.Goals as goal

pub store-requires-clause-below : goal.store-requires-clause-below
store-requires-clause-below c = rw c.named-named.ensures (to_below c.args.temps c.args.one.now c.requires.below)
