use Rattle.std.proofs.Common.{◌≡◌, drop}
use Rattle.tg_explain_typing.specs.declared.types.Ty.TheVariants.{Nothing}
use Rattle.tg_explain_typing.specs.Lookups as lookups
use Rattle.tg_explain_typing.proofs.lookups.variable_type.Given as goal

abbrev pub invariant-loop-fact : goal.invariant-loop-fact
invariant-loop-fact l = lookups.variable_type l.x (drop l.fact-index l.facts) l.found ≡ lookups.variable_type l.x l.facts Nothing
