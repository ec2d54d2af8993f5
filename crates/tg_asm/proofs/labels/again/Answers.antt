use Rattle.tg_asm.proofs.Orders.{next_tied, next_apart}
use Rattle.tg_asm.proofs.labels.again.Goals as goal

pub returns-then-is_eq : goal.returns-then-is_eq
returns-then-is_eq c = next_tied c.args.before.now c.args.entry.now c.compare.result c.is_eq.result c.compare.ensures c.is_eq.ensures c.if-is_eq.true

pub returns-else-is_eq : goal.returns-else-is_eq
returns-else-is_eq c = next_apart c.args.before.now c.args.entry.now c.compare.result c.is_eq.result c.compare.ensures c.is_eq.ensures c.if-is_eq.false
