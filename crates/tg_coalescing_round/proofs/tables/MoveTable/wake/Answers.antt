use Rattle.std.proofs.Common.{sym, ◌∙◌}
use Rattle.tg_coalescing_round.specs.glue.Lists.{list_at}
use Rattle.tg_coalescing_round.proofs.Waiting.{none_again}
use Rattle.tg_coalescing_round.proofs.tables.MoveTable.wake.Goals as goal

pub returns-else-some_waits-clause-ok : goal.returns-else-some_waits-clause-ok
returns-else-some_waits-clause-ok c =
    sym (none_again (list_at c.args.self.now.touching c.args.class) c.args.self.now
    (sym c.some_waits.ensures ∙ c.if-some_waits.false))
