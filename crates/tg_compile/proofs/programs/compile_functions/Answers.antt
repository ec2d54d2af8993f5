use Rattle.std.proofs.Common.{◌≡◌, List, refl, sym, subst, ◌∙◌}
use Rattle.std.specs.Prelude.{All, length, map}
use Rattle.std.proofs.IntoIterSteps.{All-taken}
use Rattle.std.proofs.lemmas.Iterator.Adapters.{YieldsList-from_vec}
use Rattle.std.proofs.lemmas.Iterator.Consumers.{YieldsList-turn}
use Rattle.tg_tree.specs.declared.fragments.Fragment.{Fragment}
use Rattle.tg_tree.specs.glue.Plain.{plain_fragment}
use Rattle.tg_irc_definition.specs.Policies.{Rule}
use Rattle.tg_code_bounds.specs.Allocating.{IsAllocationOf}
use Rattle.tg_compile.specs.glue.Passes.{CompileApart, IsWellFormed, prepared_fragment}
use Rattle.tg_compile.proofs.Chain.{compile_one_more}
use Rattle.tg_compile.proofs.WellFormed.{one_is}
use Rattle.tg_compile.proofs.programs.compile_functions.Goals as goal

pub compile_function-requires : goal.compile_function-requires
compile_function-requires g c =
    let first = c.into_iter-one-iterator.result in
    let given = c.into_iter-one-iterator.ensures.into_iter_gives.0 in
    let turn = YieldsList-turn (YieldsList-from_vec first.rest.items refl first.rest.ok.0) c.loop-one.yielded c.loop-one.one-iterator c.loop-one.yielded_by c.next.result c.next.new.self c.in-Some.one c.in-Some.is c.next.ensures.steps in
    let P : List Fragment → Type 0 = λ xs. All IsWellFormed (map plain_fragment xs) in
    one_is first.rest.items (length c.loop-one.yielded) c.in-Some.one (subst P (sym given) c.requires) turn.0 turn.1

pub loop-one-preserved : goal.loop-one-preserved
loop-one-preserved g c =
    let rule = (goal.SpillPolicy-dyn g c.args.policy.now).rule c.args.policy.now.1 in
    let pass = prepared_fragment c.args.passes in
    let F : Rule → Type 0 = λ r. IsAllocationOf r (pass c.in-Some.one) c.in_ok-done.field-0 in
    record {
      compile = compile_one_more rule pass c.loop-one.yielded c.in-Some.one c.loop-one.codes.items c.push.new.self.items
          c.loop-one.placements.items c.push-in-loop-one.new.self.items c.in_ok-done.field-0 c.loop-one.invariant.compile
          (subst F c.loop-one.invariant.same c.in_ok-done.ensures.compiles) c.in_ok-push.ensures.items c.in_ok-push-2.ensures.items;
      same = c.in_ok-done.ensures.same ∙ c.loop-one.invariant.same;
    }

pub returns-clause-compile : goal.returns-clause-compile
returns-clause-compile g c =
    let rule = (goal.SpillPolicy-dyn g c.args.policy.now).rule c.args.policy.now.1 in
    let first = c.into_iter-one-iterator.result in
    let all : c.loop-one.yielded ≡ first.rest.items =
    All-taken first c.loop-one.yielded (c.next.new.self, (c.loop-one.one-iterator, c.loop-one.yielded_by, c.in-None.ensures.steps)) in
    let given : first.rest.items ≡ c.args.bodies.items = c.into_iter-one-iterator.ensures.into_iter_gives.0 in
    let P : List Fragment → Type 0 = λ xs. CompileApart rule (map (prepared_fragment c.args.passes) xs) c.loop-one.codes.items c.loop-one.placements.items in
    subst P (all ∙ given) c.loop-one.invariant.compile
