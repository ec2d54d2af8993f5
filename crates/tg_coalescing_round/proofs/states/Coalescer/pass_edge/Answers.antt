use Rattle.std.proofs.Common.{◌≡◌, true, not, sym, ap, ◌∙◌, arith}
use Rattle.std.proofs.lemmas.Bool.{and_left, and_right}
use Rattle.std.proofs.lemmas.Result.{on_ok_weaker}
use Rattle.tg_graph.specs.Interference.{interferes, is_register}
use Rattle.tg_coalescing_round.specs.glue.Works.{Work, is_left}
use Rattle.tg_coalescing_round.proofs.Edges.{passed_near, raised_done, unraised_done}
use Rattle.tg_coalescing_round.proofs.states.Coalescer.pass_edge.Goals as goal
use Rattle.tg_coalescing_round.proofs.states.Coalescer.pass_edge.Goals.{else-remains-via-else-remains, else-remains-via-then-remains+else-not-is_register}

pub returns-then-interferes : goal.returns-then-interferes
returns-then-interferes c =
    let w = c.args.self.now in
    let near : interferes w.graph c.args.kept c.args.other ≡ true =
    sym (ap (λ (v : Work). interferes v.graph c.args.kept c.args.other) c.self.view_is)
    ∙ (sym c.interferes.ensures ∙ c.if-interferes.true) in
    on_ok_weaker c.lose_neighbour.result (λ h. h ∙ sym (passed_near c.args.kept w c.args.other near))
    c.lose_neighbour.ensures

pub returns-then-not-is_register : goal.returns-then-not-is_register
returns-then-not-is_register c =
    let nodes : c.self.inside.graph.nodes ≡ c.args.self.now.graph.nodes =
    ap (λ (v : Work). v.graph.nodes) c.self.view_is in
    raised_done c.args.kept _ c.args.self.now c.args.other c.self.view_is
    (sym c.interferes.ensures ∙ c.if-interferes.false) c.add_edge.new.self c.in_ok-add_edge.ensures.ok
    (sym c.remains.ensures ∙ c.if-remains.true) (sym c.is_register.ensures ∙ c.if-not-is_register.true)
    c.index_mut.result.now (omega (arith, nodes, c.self.invariant.degrees, c.requires.kept)) c.index_mut.ensures.value

pub returns-else-remains : goal.returns-else-remains
returns-else-remains c =
    let kept = c.args.kept in
    let z = c.args.other in
    elim c.else-remains.branch [
      | else-remains-via-then-remains+else-not-is_register b ↦
          b.self-is
          ∙ unraised_done kept _ c.args.self.now z c.self.view_is (sym c.interferes.ensures ∙ c.if-interferes.false)
          c.add_edge.new.self c.in_ok-add_edge.ensures.ok
          (and_right (is_left c.self.inside.lists z) (not (is_register kept))
          (ap not (sym b.is_register.ensures ∙ b.if-not-is_register.false)))
      | else-remains-via-else-remains b ↦
          b.self-is
          ∙ unraised_done kept _ c.args.self.now z c.self.view_is (sym c.interferes.ensures ∙ c.if-interferes.false)
          c.add_edge.new.self c.in_ok-add_edge.ensures.ok
          (and_left (is_left c.self.inside.lists z) (not (is_register kept)) (sym c.remains.ensures ∙ b.if-remains.false))
    ]
