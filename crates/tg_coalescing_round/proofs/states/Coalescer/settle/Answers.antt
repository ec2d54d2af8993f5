use Rattle.std.proofs.Common.{◌≡◌, ℕ, ap, ◌∙◌, arith}
use Rattle.tg_graph.specs.Interference.{Interference}
use Rattle.tg_coalescing_round.specs.glue.ShownWork.{work_of}
use Rattle.tg_coalescing_round.specs.glue.Tables as tables
use Rattle.tg_coalescing_round.specs.glue.Tables.{Table}
use Rattle.tg_coalescing_round.specs.glue.Works.{Work, from, relisted, settled, to}
use Rattle.tg_coalescing_round.proofs.Keeping.{relisted_graph}
use Rattle.tg_coalescing_round.proofs.states.Coalescer.settle.Goals as goal

pub relist-requires-2 : goal.relist-requires-2
relist-requires-2 c =
    let i = c.self.inside in
    let before = record (work_of i) { moves = c.settle.new.self } in
    let same : c.relist.new.self.graph.nodes ≡ i.graph.nodes = ap (λ (u : Work). u.graph.nodes) c.relist.ensures
    ∙ ap (λ (g : Interference). g.nodes) (relisted_graph c.to-to.result before) in
    let nodes = ap (λ (u : Work). u.graph.nodes) c.self.view_is in
    omega (arith, same, nodes, c.from-from.ensures.within)

pub returns : goal.returns
unfolding settled
returns c =
    let w = c.args.self.now in
    let n = c.args.index in
    let i = c.self.inside in
    let v = work_of i in
    let x = c.to-to.ensures.value in
    let y = c.from-from.ensures.value in
    let t = tables.settled n c.args.state (to w n) (from w n) w.moves in
    let moves = c.settle.ensures
    ∙ (ap (λ (z : ℕ). tables.settled n c.args.state z c.from-from.result i.moves) x
    ∙ (ap (λ (z : ℕ). tables.settled n c.args.state (to w n) z i.moves) y
    ∙ ap (λ (u : Work). tables.settled n c.args.state (to w n) (from w n) u.moves) c.self.view_is)) in
    let base = ap (λ (m : Table). record v { moves = m }) moves ∙ ap (λ (u : Work). record u { moves = t }) c.self.view_is in
    c.relist-2.ensures
    ∙ (ap (relisted c.from-from.result)
    (c.relist.ensures
    ∙ (ap (λ (z : ℕ). relisted z (record v { moves = c.settle.new.self })) x ∙ ap (relisted (to w n)) base))
    ∙ ap (λ (z : ℕ). relisted z (relisted (to w n) (record w { moves = t }))) y)
