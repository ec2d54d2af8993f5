use Rattle.tg_typecheck.specs.declared.faults.TypeRule.TheVariants.{T17}
use Rattle.tg_typecheck.proofs.HeaderChecks.{FreshOn}
use Rattle.tg_typecheck.proofs.headers.all_fresh.Given as goal

abbrev pub invariant-loop-function : goal.invariant-loop-function
invariant-loop-function l = FreshOn T17 l.earlier l.function-items l.function-index
