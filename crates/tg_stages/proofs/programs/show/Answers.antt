use Rattle.std.proofs.Common.{ℕ, ◌≡◌, ◌<◌, List, [], refl, sym, subst, ◌∙◌, arith, get_or, length, rules}
use Rattle.std.specs.Prelude.{All, map}
use Rattle.std.proofs.IntoIterSteps.{All-taken}
use Rattle.std.proofs.lemmas.List.{length_push}
use Rattle.std.proofs.lemmas.Iterator.Adapters.{YieldsList-from_vec}
use Rattle.std.proofs.lemmas.Iterator.Consumers.{YieldsList-turn}
use Rattle.tg_syntax.specs.glue.Plain.{plain}
use Rattle.tg_tree.specs.declared.fragments.Fragment.{Fragment}
use Rattle.tg_tree.specs.glue.Plain.{plain_fragment}
use Rattle.tg_regalloc.specs.Allocations.{codes_of}
use Rattle.tg_emit.specs.mirror.Lines.{is_long}
use Rattle.tg_compile.specs.Compiling.{fragments_of}
use Rattle.tg_compile.specs.glue.Passes.{IsWellFormed}
use Rattle.tg_compile.proofs.WellFormed.{one_is}
use Rattle.tg_variables.specs.Variables.{variables}
use Rattle.tg_stages.specs.Headings.{headings}
use Rattle.tg_stages.specs.Programs.{TellFrom, nothing}
use Rattle.tg_stages.proofs.Allocating.{allocation_at}
use Rattle.tg_stages.proofs.Counts.{emittable_at, within}
use Rattle.tg_stages.proofs.Telling.{tell_next, all_told}
use Rattle.tg_stages.proofs.programs.show.Goals as goal

pub put_stages-requires-clause-formed : goal.put_stages-requires-clause-formed
put_stages-requires-clause-formed c =
    let first = c.into_iter-one-iterator.result in
    let given = c.into_iter-one-iterator.ensures.into_iter_gives.0 in
    let turn = YieldsList-turn (YieldsList-from_vec first.rest.items refl first.rest.ok.0) c.loop-one.yielded c.loop-one.one-iterator c.loop-one.yielded_by c.next.result c.next.new.self c.in-Some.one c.in-Some.is c.next.ensures.steps in
    let P : List Fragment → Type 0 = λ xs. All IsWellFormed (map plain_fragment xs) in
    one_is first.rest.items (length c.loop-one.yielded) c.in-Some.one (subst P (sym given) c.in_ok-functions.ensures.formed) turn.0 turn.1

pub bounds-allocations-at : goal.bounds-allocations-at
bounds-allocations-at c =
    let first = c.into_iter-one-iterator.result in
    let given = c.into_iter-one-iterator.ensures.into_iter_gives.0 in
    let turn = YieldsList-turn (YieldsList-from_vec first.rest.items refl first.rest.ok.0) c.loop-one.yielded c.loop-one.one-iterator c.loop-one.yielded_by c.next.result c.next.new.self c.in-Some.one c.in-Some.is c.next.ensures.steps in
    let P : List Fragment → Type 0 = λ xs. length c.loop-one.yielded < length xs in
    let checked = c.args.checked.now in
    let all = c.in_ok-functions.field-0 in
    let inside = within all.functions.items all.literals.items (fragments_of checked.notes (plain checked.program.body)) c.args.allocations.now
    (length c.loop-one.yielded) c.in_ok-functions.ensures.fragments c.requires.each (subst P given turn.0) in
    omega (arith, inside, c.loop-one.invariant.at)

pub put_stages-requires-clause-emittable : goal.put_stages-requires-clause-emittable
put_stages-requires-clause-emittable c =
    let first = c.into_iter-one-iterator.result in
    let given = c.into_iter-one-iterator.ensures.into_iter_gives.0 in
    let turn = YieldsList-turn (YieldsList-from_vec first.rest.items refl first.rest.ok.0) c.loop-one.yielded c.loop-one.one-iterator c.loop-one.yielded_by c.next.result c.next.new.self c.in-Some.one c.in-Some.is c.next.ensures.steps in
    let P : List Fragment → Type 0 = λ xs. length c.loop-one.yielded < length xs in
    let checked = c.args.checked.now in
    let all = c.in_ok-functions.field-0 in
    let inside = within all.functions.items all.literals.items (fragments_of checked.notes (plain checked.program.body)) c.args.allocations.now
    (length c.loop-one.yielded) c.in_ok-functions.ensures.fragments c.requires.each (subst P given turn.0) in
    emittable_at c.args.allocations.now c.loop-one.at c.index-allocations-at.result (omega (arith, inside, c.loop-one.invariant.at))
    c.index-allocations-at.is c.requires.emittable

pub put_stages-requires-clause-allocated : goal.put_stages-requires-clause-allocated
put_stages-requires-clause-allocated c =
    let first = c.into_iter-one-iterator.result in
    let given = c.into_iter-one-iterator.ensures.into_iter_gives.0 in
    let turn = YieldsList-turn (YieldsList-from_vec first.rest.items refl first.rest.ok.0) c.loop-one.yielded c.loop-one.one-iterator c.loop-one.yielded_by c.next.result c.next.new.self c.in-Some.one c.in-Some.is c.next.ensures.steps in
    let P : List Fragment → Type 0 = λ xs. length c.loop-one.yielded < length xs in
    let Q : List Fragment → Type 0 = λ xs. c.in-Some.one ≡ get_or xs (length c.loop-one.yielded) c.in-Some.one in
    let R : ℕ → Type 0 = λ n. c.index-allocations-at.result ≡ get_or c.args.allocations.now n c.index-allocations-at.result in
    let checked = c.args.checked.now in
    let all = c.in_ok-functions.field-0 in
    allocation_at c.args.passes all.functions.items all.literals.items (fragments_of checked.notes (plain checked.program.body)) c.args.allocations.now
    (length c.loop-one.yielded) c.in-Some.one c.index-allocations-at.result c.in_ok-functions.ensures.fragments c.requires.allocated
    (subst P given turn.0) (subst Q given turn.1) (subst R c.loop-one.invariant.at c.index-allocations-at.is)

pub loop-one-init : goal.loop-one-init
loop-one-init c =
    let empty : c.new-shown.result.items ≡ [] = search rules in
    record {
      at = refl;
      tell = subst (λ t. TellFrom c.args.passes c.in_ok-long.long c.in_ok-all.all.items c.as_slice-own.result.now 0 [] [] t) (sym empty) nothing;
    }

pub loop-one-preserved : goal.loop-one-preserved
loop-one-preserved c =
    let first = c.into_iter-one-iterator.result in
    let given = c.into_iter-one-iterator.ensures.into_iter_gives.0 in
    let turn = YieldsList-turn (YieldsList-from_vec first.rest.items refl first.rest.ok.0) c.loop-one.yielded c.loop-one.one-iterator c.loop-one.yielded_by c.next.result c.next.new.self c.in-Some.one c.in-Some.is c.next.ensures.steps in
    let P : List Fragment → Type 0 = λ xs. length c.loop-one.yielded < length xs in
    let checked = c.args.checked.now in
    let all = c.in_ok-functions.field-0 in
    let inside = within all.functions.items all.literals.items (fragments_of checked.notes (plain checked.program.body)) c.args.allocations.now
    (length c.loop-one.yielded) c.in_ok-functions.ensures.fragments c.requires.each (subst P given turn.0) in
    record {
      at = omega (arith, c.loop-one.invariant.at, length_push c.loop-one.yielded c.in-Some.one);
      tell = tell_next c.args.passes c.in_ok-long.long c.in_ok-all.all.items c.as_slice-own.result.now c.loop-one.yielded c.in-Some.one c.args.allocations.now
          c.index-allocations-at.result c.heading_at-heading.result.now c.loop-one.at c.loop-one.shown.items c.put_stages.new.text.items
          c.loop-one.invariant.at (omega (arith, inside, c.loop-one.invariant.at)) c.index-allocations-at.is
          (rw c.deref.ensures.value at c.heading_at-heading.ensures) c.loop-one.invariant.tell c.in_ok-put_stages.ensures;
    }

pub returns : goal.returns
returns c =
    let first = c.into_iter-one-iterator.result in
    let every : c.loop-one.yielded ≡ first.rest.items =
    All-taken first c.loop-one.yielded (c.next.new.self, (c.loop-one.one-iterator, c.loop-one.yielded_by, c.in-None.ensures.steps)) in
    let checked = c.args.checked.now in
    let body = plain checked.program.body in
    let all = c.in_ok-functions.field-0 in
    all_told c.args.passes c.in_ok-long.long (is_long (codes_of c.args.allocations.now)) c.in_ok-all.all.items
    (headings c.args.text.now checked.names body) c.as_slice-own.result.now (variables c.args.text.now checked.notes body) c.loop-one.yielded all.functions.items all.literals.items (fragments_of checked.notes body)
    c.args.allocations.now c.loop-one.at c.loop-one.shown.items c.loop-one.invariant.at (every ∙ c.into_iter-one-iterator.ensures.into_iter_gives.0)
    c.in_ok-functions.ensures.fragments c.requires.each c.in_ok-all.ensures
    (c.as_slice-own.ensures.value ∙ c.in_ok-own.ensures) c.in_ok-long.ensures c.loop-one.invariant.tell
