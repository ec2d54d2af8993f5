use Rattle.std.proofs.Common.{◌≡◌, drop}
use Rattle.tg_explain_typing.specs.Lookups as lookups
use Rattle.tg_explain_typing.proofs.lookups.param_type.Given as goal

abbrev pub invariant-loop-fact : goal.invariant-loop-fact
invariant-loop-fact l = lookups.declared_param l.f l.index (drop l.fact-index l.facts) l.found ≡ lookups.declared_param l.f l.index l.facts l.initial.found
