use Rattle.std.proofs.Common.{arith, ◌∙◌, ◌∷◌, ap, refl}
use Rattle.tg_escape.specs.Uses.{a_function}
use Rattle.tg_escape.proofs.SearchSteps.{names_begin, one_function, functions_end}
use Rattle.tg_escape.proofs.searches.declare_functions.Goals as goal

pub loop-function-init : goal.loop-function-init
loop-function-init c = names_begin

pub loop-function-preserved : goal.loop-function-preserved
loop-function-preserved c =
    one_function c.function-item.result c.loop-function.invariant c.loop-function-test.true c.function-item.is
    (c.in_ok-push.ensures.ok ∙ ap (λ d. (c.function-item.result.name.name.0, d) ∷ c.loop-function.search.table)
    (c.function.ensures ∙ ap a_function (omega (arith, c.len-level.ensures, c.args.search.now.within.ok)))) refl refl

pub returns : goal.returns
returns c =
    functions_end c.args.group.now c.deref-function-items.ensures.value c.loop-function.invariant
    (omega (arith, c.loop-function.auto.function-index-end, c.loop-function-test.false))
