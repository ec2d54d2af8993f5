use Rattle.std.proofs.Common.{◌≡◌, take}
use Rattle.std.specs.Prelude.{fold}
use Rattle.tg_coalescing_round.specs.glue.Lists.{list_at}
use Rattle.tg_coalescing_round.specs.glue.Tables.{tried_again}
use Rattle.tg_coalescing_round.proofs.tables.MoveTable.wake_touching.Given as goal

abbrev pub invariant-loop-place : goal.invariant-loop-place
invariant-loop-place l =
    l.self ≡ fold tried_again l.fn.self (take l.place (list_at l.fn.self.touching l.class))
