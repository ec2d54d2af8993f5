use Rattle.std.proofs.Common.{◌<◌, ◌≤◌, ℕ, All, sym, ap, subst, ◌∙◌}
use Rattle.std.proofs.lemmas.List.Elements.{All-same}
use Rattle.tg_graph.specs.Interference.{colours}
use Rattle.tg_coalescing_round.specs.glue.Works.{Work}
use Rattle.tg_coalescing_round.proofs.states.Coalescer.select.Goals as goal

pub select-requires-clause-below : goal.select-requires-clause-below
select-requires-clause-below c =
    let same = c.deref.ensures.value ∙ ap (λ (w : Work). w.stack) c.self.view_is in
    let nodes = ap (λ (w : Work). w.graph.nodes) c.self.view_is in
    All-same (λ (x : ℕ). x < c.self.inside.graph.nodes) c.deref.result.now c.args.self.now.stack same
    (subst (λ (n : ℕ). All (λ x. x < n) c.args.self.now.stack) (sym nodes) c.requires.below)

pub select-requires-clause-temporaries : goal.select-requires-clause-temporaries
select-requires-clause-temporaries c =
    let same = c.deref.ensures.value ∙ ap (λ (w : Work). w.stack) c.self.view_is in
    All-same (λ (x : ℕ). colours ≤ x) c.deref.result.now c.args.self.now.stack same c.requires.temporaries
