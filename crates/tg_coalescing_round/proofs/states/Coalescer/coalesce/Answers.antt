use Rattle.std.proofs.Common.{◌≡◌, get_or, sym, ap, ◌∙◌, subst, arith}
use Rattle.tg_graph.specs.Interference.{Interference, interferes}
use Rattle.tg_irc_definition.specs.declared.moves.MoveState.TheVariants.{Coalesced}
use Rattle.tg_coalescing_round.specs.glue.Works.{Work, degree_at}
use Rattle.tg_coalescing_round.specs.mirror.Steps.{CanLose}
use Rattle.tg_coalescing_round.proofs.Stepping.{settled_degrees, settled_graph}
use Rattle.tg_coalescing_round.proofs.Trying.{settled_loses}
use Rattle.tg_coalescing_round.proofs.states.Coalescer.coalesce.Goals as goal
use Rattle.tg_coalescing_round.proofs.states.Coalescer.coalesce.Goals.{After-settle}

graph_kept : (c : After-settle) → c.settle.new.self.graph ≡ c.args.self.now.graph
graph_kept c = ap (λ (v : Work). v.graph) c.settle.ensures ∙ settled_graph c.args.index Coalesced c.args.self.now

pub merge-requires-clause-kept : goal.merge-requires-clause-kept
merge-requires-clause-kept c =
    let same = graph_kept (goal.at.merge-requires-clause-kept c).After-settle in
    omega (arith, ap (λ (g : Interference). g.nodes) same, c.requires.kept)

pub merge-requires-clause-gone : goal.merge-requires-clause-gone
merge-requires-clause-gone c =
    let same = graph_kept (goal.at.merge-requires-clause-gone c).After-settle in
    omega (arith, ap (λ (g : Interference). g.nodes) same, c.requires.gone)

pub merge-requires-clause-apart : goal.merge-requires-clause-apart
merge-requires-clause-apart c =
    let same = graph_kept (goal.at.merge-requires-clause-apart c).After-settle in
    ap (λ (g : Interference). interferes g c.args.kept c.args.gone) same ∙ c.requires.apart

pub merge-requires-clause-counted : goal.merge-requires-clause-counted
merge-requires-clause-counted c =
    subst (λ (v : Work). CanLose v c.args.gone) (sym c.settle.ensures)
    (settled_loses c.args.index c.args.gone c.args.self.now c.requires.counted)

pub merge-requires-clause-room : goal.merge-requires-clause-room
merge-requires-clause-room c =
    let w = c.args.self.now in
    let same = graph_kept (goal.at.merge-requires-clause-room c).After-settle in
    let degree : degree_at c.settle.new.self c.args.kept ≡ degree_at w c.args.kept =
    ap (λ (v : Work). degree_at v c.args.kept) c.settle.ensures
    ∙ ap (λ ds. get_or ds c.args.kept 0) (settled_degrees c.args.index Coalesced w) in
    omega (arith, ap (λ (g : Interference). g.nodes) same, degree, c.requires.room)
