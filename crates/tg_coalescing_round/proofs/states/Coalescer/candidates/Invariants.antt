use Rattle.std.proofs.Common.{◌≡◌, ◌-◌, map}
use Rattle.std.specs.Prelude.{filter}
use Rattle.std.specs.List.{range_with_len}
use Rattle.tg_coalescing_round.specs.glue.Works.{is_left}
use Rattle.tg_coalescing_round.specs.mirror.Steps.{candidate}
use Rattle.tg_coalescing_round.proofs.states.Coalescer.candidates.Given as goal

abbrev pub invariant-loop-node : goal.invariant-loop-node
invariant-loop-node l =
    l.candidates.items ≡
    map (candidate l.self) (filter (is_left l.self.lists) (range_with_len 25 (l.node - 25)))
