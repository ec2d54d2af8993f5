use Rattle.std.proofs.Common.{◌∙◌, sym, ap}
use Rattle.tg_coalescing_round.specs.glue.Works.{Work, is_left}
use Rattle.tg_coalescing_round.proofs.Places.{left_by}
use Rattle.tg_coalescing_round.proofs.states.Coalescer.remains.Goals as goal

pub returns : goal.returns
returns c =
    c.holds_remaining.ensures
    ∙ (sym (left_by c.self.inside.lists c.args.node c.place_of.result c.place_of.ensures)
    ∙ ap (λ (w : Work). is_left w.lists c.args.node) c.self.view_is)
