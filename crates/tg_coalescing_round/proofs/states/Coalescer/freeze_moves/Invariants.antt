use Rattle.std.proofs.Common.{◌≡◌, take}
use Rattle.std.specs.Prelude.{fold}
use Rattle.tg_coalescing_round.specs.glue.Lists.{list_at}
use Rattle.tg_coalescing_round.specs.mirror.Steps.{freeze_one}
use Rattle.tg_coalescing_round.proofs.states.Coalescer.freeze_moves.Given as goal

abbrev pub invariant-loop-place : goal.invariant-loop-place
invariant-loop-place l =
    l.self ≡ fold freeze_one l.fn.self (take l.place (list_at l.fn.self.moves.touching l.class))
