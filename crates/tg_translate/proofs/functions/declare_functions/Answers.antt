use Rattle.std.proofs.Common.{arith, ap, sym, ◌∙◌}
use Rattle.tg_syntax.specs.glue.Lists.{functions_of}
use Rattle.tg_syntax.proofs.ListLaws.{plain_functions-items}
use Rattle.tg_translate.specs.mirror.States.{state_of}
use Rattle.tg_translate.specs.mirror.Functions.{declare_functions}
use Rattle.tg_translate.proofs.Declaring.{functions_end}
use Rattle.tg_translate.proofs.functions.declare_functions.Goals as goal

pub returns : goal.returns
returns c =
    ap (λ fs. declare_functions c.args.level fs (state_of c.args.state.now))
    (plain_functions-items c.args.group.now ∙ ap functions_of (sym c.deref-function-items.ensures.value))
    ∙ functions_end c.args.level c.deref-function-items.result.now c.loop-function.function-index
    (declare_functions c.args.level (functions_of c.deref-function-items.result.now) (state_of c.args.state.now)) (state_of c.loop-function.state)
    c.loop-function.invariant (omega (arith, c.loop-function.auto.function-index-end, c.loop-function-test.false))
