use Rattle.std.proofs.Common.{Some, ap, ap₂, ◌∙◌}
use Rattle.tg_redundancy.specs.mirror.Known.{arrival}
use Rattle.tg_redundancy.proofs.Walking.{states}
use Rattle.tg_redundancy.proofs.walks.Walk.arrive.Goals as goal

pub returns : goal.returns
returns c =
    states _ _ _ _ c.args.self.now.room
    (ap Some (c.arrival.ensures ∙ ap₂ (arrival c.args.from_behind) c.take-comes.ensures.value c.remove-met.ensures.value))
    c.remove-met.ensures.updates.0
