use Rattle.std.proofs.Common.{◌<◌, ℕ, ◌&&◌, not, List, length, get_or, sym, ap, ◌∙◌, arith}
use Rattle.std.proofs.lemmas.Bool.{and_from}
use Rattle.tg_graph.specs.Interference.{interferes, neighbours}
use Rattle.tg_coalescing_round.specs.glue.Works.{Work, is_high}
use Rattle.tg_coalescing_round.proofs.Limits.{reached}
use Rattle.tg_coalescing_round.proofs.states.Coalescer.high_apart.Goals as goal

pub returns-then-count-limit-clause-value : goal.returns-then-count-limit-clause-value
returns-then-count-limit-clause-value c =
    let w = c.args.self.now in
    let r = c.args.apart in
    let xs = neighbours w.graph c.args.node in
    let i = c.loop-other.other-index in
    let value =
    c.neighbours-other-items.ensures.value ∙ ap (λ (v : Work). neighbours v.graph c.args.node) c.self.view_is in
    let long = ap (λ (ys : List ℕ). length ys) value in
    let l : i < length xs = omega (arith, long, c.loop-other-test.true) in
    reached (λ z. is_high w.lists z && not (interferes w.graph r z)) xs i c.loop-other.count c.args.limit l
    (ap (λ ys. is_high w.lists (get_or ys i 0) && not (interferes w.graph r (get_or ys i 0))) (sym value)
    ∙ and_from _ _ (sym c.is_high.ensures ∙ c.if-is_high.true)
    (ap not (sym (c.interferes.ensures
    ∙ ap (λ (v : Work). interferes v.graph r (get_or c.neighbours-other-items.result.now i 0)) c.self.view_is)
    ∙ c.if-not-interferes.true)))
    c.loop-other.invariant.counted c.if-count-limit.true
