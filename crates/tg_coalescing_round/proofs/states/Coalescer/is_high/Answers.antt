use Rattle.std.proofs.Common.{◌∙◌, sym, ap}
use Rattle.tg_coalescing_round.specs.glue.Works.{Work, is_high}
use Rattle.tg_coalescing_round.proofs.Places.{high_by}
use Rattle.tg_coalescing_round.proofs.states.Coalescer.is_high.Goals as goal

pub returns : goal.returns
returns c =
    c.holds_high.ensures
    ∙ (sym (high_by c.self.inside.lists c.args.node c.place_of.result c.place_of.ensures)
    ∙ ap (λ (w : Work). is_high w.lists c.args.node) c.self.view_is)
