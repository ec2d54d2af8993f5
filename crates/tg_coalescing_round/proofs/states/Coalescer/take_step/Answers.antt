use Rattle.std.proofs.Common.{◌≡◌, true, false, [], None, slice_get, refl, sym, ap, ◌∙◌, rules, arith}
use Rattle.std.specs.Option.{is_some}
use Rattle.tg_coalescing_round.specs.glue.Works.{Work}
use Rattle.tg_coalescing_round.proofs.Conditions.{first_simplify, freeze_progresses, neighbours_counted, no_spill, none_first, nothing_left}
use Rattle.tg_coalescing_round.proofs.Conditions.{simplify_progresses, spill_candidate, spill_progresses, temporary_of, try_progresses}
use Rattle.tg_coalescing_round.proofs.states.Coalescer.take_step.Given as given
use Rattle.tg_coalescing_round.proofs.states.Coalescer.take_step.Goals as goal
use Rattle.tg_coalescing_round.proofs.states.Coalescer.take_step.Goals.{After-first-2, After-first-3, After-first_ready}

-- where the code goes on, the lists that it asked for are empty
none_simple : (g : given.Over) (c : After-first_ready g) → c.args.self.now.lists.simplify ≡ []
none_simple g c =
    let none : None ≡ slice_get c.self.inside.lists.simplify 0 = first_of (search rules, cc, grind arith) in
    none_first _ (none ∙ ap (λ (v : Work). slice_get v.lists.simplify 0) c.self.view_is)

none_ready : (g : given.Over) (c : After-first-2 g) → c.args.self.now.moves.ready ≡ []
none_ready g c =
    let none : None ≡ slice_get c.self.inside.moves.ready 0 = first_of (search rules, cc, grind arith) in
    none_first _ (none ∙ ap (λ (v : Work). slice_get v.moves.ready 0) c.self.view_is)

none_cold : (g : given.Over) (c : After-first-3 g) → c.args.self.now.lists.freeze ≡ []
none_cold g c =
    let none : None ≡ slice_get c.self.inside.lists.freeze 0 = first_of (search rules, cc, grind arith) in
    none_first _ (none ∙ ap (λ (v : Work). slice_get v.lists.freeze 0) c.self.view_is)

pub simplify-requires-clause-temporary : goal.simplify-requires-clause-temporary
simplify-requires-clause-temporary g c =
    let w = c.args.self.now in
    let first = sym (c.in-Some.ensures.value ∙ ap (λ (v : Work). slice_get v.lists.simplify 0) c.self.view_is) in
    temporary_of w c.in-Some.node (first_simplify w c.requires c.in-Some.node first).1

pub simplify-requires-clause-counted : goal.simplify-requires-clause-counted
simplify-requires-clause-counted g c =
    let w = c.args.self.now in
    let first = sym (c.in-Some.ensures.value ∙ ap (λ (v : Work). slice_get v.lists.simplify 0) c.self.view_is) in
    let here = first_simplify w c.requires c.in-Some.node first in
    neighbours_counted w c.requires c.in-Some.node here.0 here.1

pub returns-in-Some-clause-more : goal.returns-in-Some-clause-more
returns-in-Some-clause-more g c =
    let w = c.args.self.now in
    let first = sym (c.in-Some.ensures.value ∙ ap (λ (v : Work). slice_get v.lists.simplify 0) c.self.view_is) in
    λ t. simplify_progresses _ w c.simplify.new.self c.requires c.in-Some.node first c.in_ok-simplify.ensures

pub returns-in-Some-first_ready-clause-more : goal.returns-in-Some-first_ready-clause-more
returns-in-Some-first_ready-clause-more g c =
    let w = c.args.self.now in
    let empty = none_simple g (goal.at.returns-in-Some-first_ready-clause-more g c).After-first_ready in
    let at = c.in-Some-first_ready in
    let first = sym (at.ensures.value ∙ ap (λ (v : Work). slice_get v.moves.ready 0) c.self.view_is) in
    λ t. try_progresses _ w c.try_move.new.self c.requires empty at.index first c.in_ok-try_move.ensures

pub returns-in-Some-first-clause-more : goal.returns-in-Some-first-clause-more
returns-in-Some-first-clause-more g c =
    let w = c.args.self.now in
    let empty = none_simple g (goal.at.returns-in-Some-first-clause-more g c).After-first_ready in
    let settled = none_ready g (goal.at.returns-in-Some-first-clause-more g c).After-first-2 in
    let at = c.in-Some-first in
    let first = sym (at.ensures.value ∙ ap (λ (v : Work). slice_get v.lists.freeze 0) c.self.view_is) in
    λ t. freeze_progresses _ w c.freeze.new.self c.requires empty settled at.node first c.in_ok-freeze.ensures

pub spill-requires-clause-some : goal.spill-requires-clause-some
spill-requires-clause-some g c =
    let there : true ≡ is_some c.first-3.result = first_of (search rules, cc, grind arith) in
    spill_candidate c.args.self.now c.requires c.first-3.result
    (c.first-3.ensures.value ∙ ap (λ (v : Work). slice_get v.lists.spill 0) c.self.view_is) there

pub returns-then-is_some-clause-more : goal.returns-then-is_some-clause-more
returns-then-is_some-clause-more g c =
    let w = c.args.self.now in
    let empty = none_simple g (goal.at.returns-then-is_some-clause-more g c).After-first_ready in
    let settled = none_ready g (goal.at.returns-then-is_some-clause-more g c).After-first-2 in
    let frozen = none_cold g (goal.at.returns-then-is_some-clause-more g c).After-first-3 in
    let chosen = c.in_ok-spill.ensures.spilled in
    λ t. spill_progresses _ w c.spill.new.self c.requires empty settled frozen chosen.0 chosen.1 chosen.2 chosen.3

pub returns-clause-done : goal.returns-clause-done
returns-clause-done g c =
    let w = c.args.self.now in
    let empty = none_simple g (goal.at.returns-clause-done g c).After-first_ready in
    let settled = none_ready g (goal.at.returns-clause-done g c).After-first-2 in
    let frozen = none_cold g (goal.at.returns-clause-done g c).After-first-3 in
    let nowhere : false ≡ is_some c.first-3.result = first_of (search rules, cc, grind arith) in
    let kept = no_spill c.first-3.result w.lists.spill
    (c.first-3.ensures.value ∙ ap (λ (v : Work). slice_get v.lists.spill 0) c.self.view_is) nowhere in
    λ t. (refl, nothing_left w empty settled frozen kept)
