use Rattle.std.proofs.Common.{[], length, get_or, reverse, sym, ap, subst, ◌∙◌, arith}
use Rattle.std.specs.Prelude.{fold}
use Rattle.std.proofs.lemmas.List.{get_or-reverse, length-reverse, take_all}
use Rattle.std.proofs.lemmas.List.FromFn.{length-map-range_with_len}
use Rattle.std.proofs.lemmas.List.Sums.{fold_more}
use Rattle.tg_coalescing_round.specs.mirror.Selecting.{AreColours, Picks, own_colour, popped, precoloured, selected}
use Rattle.tg_coalescing_round.proofs.Selecting.{precoloured_colours}
use Rattle.tg_coalescing_round.proofs.selection.select.Goals as goal

pub invariant_of-selection : goal.invariant_of-selection
invariant_of-selection c =
    subst AreColours (sym c.in_ok-precoloured.ensures) (precoloured_colours c.nodes.result)

pub loop-place-init : goal.loop-place-init
loop-place-init c =
    let first = c.in_ok-precoloured.ensures ∙ ap precoloured c.nodes.ensures.value in
    record {
      sized = ap length first ∙ length-map-range_with_len own_colour 0 c.args.graph.now.nodes;
      so_far = λ i. record { colours = first i; spilled = c.new.ensures.items i };
    }

pub loop-place-preserved : goal.loop-place-preserved
loop-place-preserved c =
    let g = c.args.graph.now in
    let stack = c.args.stack.now in
    let n = c.loop-place.place in
    let start : Picks = record { colours = precoloured g.nodes; spilled = [] } in
    record {
      sized = c.in_ok-pop.ensures.sized;
      so_far = c.in_ok-pop.ensures.ok
          ∙ (ap (popped g c.loop-place.selection) (sym (get_or-reverse stack n 0 c.loop-place-test.true))
          ∙ (ap (λ (s : Picks). popped g s (get_or (reverse stack) n 0)) c.loop-place.invariant.so_far
          ∙ sym (fold_more (popped g) start (reverse stack) n 0 (omega (arith, length-reverse stack, c.loop-place-test.true)))));
    }

pub returns-clause-value : goal.returns-clause-value
unfolding selected
returns-clause-value c =
    let g = c.args.graph.now in
    let stack = c.args.stack.now in
    let start : Picks = record { colours = precoloured g.nodes; spilled = [] } in
    c.loop-place.invariant.so_far
    ∙ ap (fold (popped g) start)
    (take_all c.loop-place.place (reverse stack) (omega (arith, length-reverse stack, c.loop-place-test.false)))
