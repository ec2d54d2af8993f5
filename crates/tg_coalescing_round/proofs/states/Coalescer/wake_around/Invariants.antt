use Rattle.std.proofs.Common.{◌≡◌, take}
use Rattle.std.specs.Prelude.{fold}
use Rattle.tg_graph.specs.Interference.{neighbours}
use Rattle.tg_coalescing_round.specs.glue.Tables.{woken}
use Rattle.tg_coalescing_round.proofs.states.Coalescer.wake_around.Given as goal

abbrev pub invariant-loop-place : goal.invariant-loop-place
invariant-loop-place l =
    let i = l.initial.self-inside in
    l.self-inside ≡
    record i { moves = fold (λ t y. woken y t) i.moves (take l.place (neighbours i.graph l.node)) }
