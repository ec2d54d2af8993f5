use Rattle.std.proofs.Common.{◌<◌, ℕ, List, length, get_or, sym, ap, ◌∙◌, arith}
use Rattle.tg_graph.specs.Interference.{neighbours}
use Rattle.tg_coalescing_round.specs.glue.Works.{Work, is_high}
use Rattle.tg_coalescing_round.proofs.Limits.{reached}
use Rattle.tg_coalescing_round.proofs.states.Coalescer.high_around.Goals as goal

pub returns-then-count-limit-clause-value : goal.returns-then-count-limit-clause-value
returns-then-count-limit-clause-value c =
    let w = c.args.self.now in
    let xs = neighbours w.graph c.args.node in
    let i = c.loop-other.other-index in
    let value =
    c.neighbours-other-items.ensures.value ∙ ap (λ (v : Work). neighbours v.graph c.args.node) c.self.view_is in
    let long = ap (λ (ys : List ℕ). length ys) value in
    let l : i < length xs = omega (arith, long, c.loop-other-test.true) in
    reached (is_high w.lists) xs i c.loop-other.count c.args.limit l
    (ap (λ ys. is_high w.lists (get_or ys i 0)) (sym value) ∙ (sym c.is_high.ensures ∙ c.if-is_high.true))
    c.loop-other.invariant.counted c.if-count-limit.true
