use Rattle.tg_regalloc.proofs.Naming.{no_move}
use Rattle.tg_regalloc.proofs.loading.put.Goals as goal

pub returns-in_default : goal.returns-in_default
returns-in_default c = rw (no_move c.args.base c.args.one.now c.in_default.not-Move) c.put_through.ensures
