use Rattle.std.proofs.Common.{◌≡◌, drop}
use Rattle.tg_syntax.specs.glue.Lists.{functions_of}
use Rattle.tg_translate.specs.mirror.States.{state_of}
use Rattle.tg_translate.specs.mirror.Functions.{declare_functions}
use Rattle.tg_translate.proofs.functions.declare_functions.Given as goal

abbrev pub invariant-loop-function : goal.invariant-loop-function
invariant-loop-function l =
    declare_functions l.level (functions_of l.function-items) (state_of l.fn.state)
    ≡ declare_functions l.level (functions_of (drop l.function-index l.function-items)) (state_of l.state)
