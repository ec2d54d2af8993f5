use Rattle.std.proofs.Common.{refl, sym, ap, ◌∙◌, ◌∷◌, ◌+◌, ◌<◌, arith, length, get_or}
use Rattle.tg_syntax.specs.glue.Lists.{functions_of}
use Rattle.tg_syntax.proofs.ListLaws.{plain_functions-items}
use Rattle.tg_typecheck.specs.Scopes.{function_at}
use Rattle.tg_typecheck.specs.Groups.{with_functions}
use Rattle.tg_typecheck.proofs.TreeSteps.{function_count_is}
use Rattle.tg_typecheck.proofs.HeaderSteps.{functions_none, functions_one, functions_all}
use Rattle.tg_typecheck.proofs.headers.open_functions.Goals as goal

pub loop-function-init : goal.loop-function-init
loop-function-init c = record { at_index = refl; onward = functions_none _ _ _ }

pub bounds-signatures-at : goal.bounds-signatures-at
bounds-signatures-at c =
    omega (
      arith,
      c.loop-function-test.true,
      ap length c.deref-function-items.ensures.value,
      function_count_is c.args.functions.now,
      c.requires,
      c.loop-function.invariant.at_index,
    )

pub loop-function-preserved : goal.loop-function-preserved
loop-function-preserved c =
    let fits : c.loop-function.function-index < length c.args.signatures.now = omega
    (arith, c.loop-function-test.true, ap length c.deref-function-items.ensures.value, function_count_is c.args.functions.now, c.requires) in
    record {
      at_index = ap (λ k. k + 1) c.loop-function.invariant.at_index;
      onward =
          functions_one c.args.state.now c.loop-function.state _ c.deref-function-items.result.now c.args.signatures.now c.loop-function.function-index
          c.function-item.result c.index-signatures-at.result c.loop-function.invariant.onward c.loop-function-test.true fits c.function-item.is
          (c.index-signatures-at.is ∙ ap (λ k. get_or c.args.signatures.now k c.index-signatures-at.result) c.loop-function.invariant.at_index)
          (c.in_ok-push.ensures.ok ∙ ap (λ b. (c.function-item.result.name.name.0, b) ∷ c.loop-function.state.bindings)
          (c.function-binding.ensures ∙ ap (λ s. function_at c.function-item.result.name.span.from s) c.in_ok-copy.ensures)) refl refl;
    }

pub returns-clause-given : goal.returns-clause-given
returns-clause-given c = λ names in_loop scope h.
    ap (λ x. with_functions x c.args.signatures.now scope)
    (plain_functions-items c.args.functions.now ∙ ap functions_of (sym c.deref-function-items.ensures.value))
    ∙ functions_all _ _ _ _ _ c.loop-function.invariant.onward
    (omega (arith, c.loop-function.auto.function-index-end, c.loop-function-test.false)) names in_loop scope h
