use Rattle.std.proofs.Common.{◌<◌, ◌+◌, ◌-◌, not, ◌||◌, length, sym, ap, ◌∙◌, arith}
use Rattle.std.proofs.lemmas.Bool.{eqb-true, false≢true}
use Rattle.tg_interference.specs.glue.Crossing.{is_marked}
use Rattle.tg_interference.proofs.Colours.{node_below}
use Rattle.tg_interference.proofs.Joining.{at_node, at_no_node}
use Rattle.tg_interference.proofs.Marking.{or_false, marked_more}
use Rattle.tg_interference.proofs.crossing.mark_operand.Goals as goal

pub bounds-crossed-node : goal.bounds-crossed-node
bounds-crossed-node c =
    let n = length c.args.crossed.now in
    let l : c.in-Some.node < 25 + (n - 25) =
    node_below (n - 25) c.args.one.now c.in-Some.node c.requires.below (sym c.in-Some.ensures) in
    omega (arith, l, c.requires.low)

pub bounds-crossed-node-in-Some : goal.bounds-crossed-node-in-Some
bounds-crossed-node-in-Some c =
    let n = length c.args.crossed.now in
    let l : c.in-Some.node < 25 + (n - 25) =
    node_below (n - 25) c.args.one.now c.in-Some.node c.requires.below (sym c.in-Some.ensures) in
    omega (arith, l, c.requires.low)

pub returns-in-Some-clause-marked : goal.returns-in-Some-clause-marked
returns-in-Some-clause-marked c = λ n.
    marked_more c.args.crossed.now c.in-Some.node (bounds-crossed-node c) n
    ∙ ap (λ b. is_marked c.args.crossed.now n || b) (at_node c.args.one.now c.in-Some.node c.in-Some.ensures n)

pub returns-in-Some-clause-first : goal.returns-in-Some-clause-first
returns-in-Some-clause-first c = λ n h.
    ap (λ k. not (is_marked c.args.crossed.now k))
    (sym (eqb-true n c.in-Some.node (at_node c.args.one.now c.in-Some.node c.in-Some.ensures n ∙ h)))

pub returns-in-None-clause-marked : goal.returns-in-None-clause-marked
returns-in-None-clause-marked c = λ n.
    sym (ap (λ b. is_marked c.args.crossed.now n || b) (at_no_node c.args.one.now c.in-None.ensures n) ∙ or_false _)

pub returns-in-None-clause-first : goal.returns-in-None-clause-first
returns-in-None-clause-first c = λ n h.
    absurd (false≢true (sym (at_no_node c.args.one.now c.in-None.ensures n) ∙ h))
