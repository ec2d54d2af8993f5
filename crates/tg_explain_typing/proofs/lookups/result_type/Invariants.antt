use Rattle.std.proofs.Common.{◌≡◌, drop}
use Rattle.tg_explain_typing.specs.Lookups as lookups
use Rattle.tg_explain_typing.proofs.lookups.result_type.Given as goal

abbrev pub invariant-loop-fact : goal.invariant-loop-fact
invariant-loop-fact l = lookups.function_type l.f (drop l.fact-index l.facts) l.found ≡ lookups.function_type l.f l.facts l.initial.found
