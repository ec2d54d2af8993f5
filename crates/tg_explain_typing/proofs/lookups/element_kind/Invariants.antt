use Rattle.std.proofs.Common.{◌≡◌, drop}
use Rattle.tg_explain_typing.specs.Lookups as lookups
use Rattle.tg_explain_typing.proofs.lookups.element_kind.Given as goal

abbrev pub invariant-loop-fact : goal.invariant-loop-fact
invariant-loop-fact l = lookups.element_kind l.owner (drop l.fact-index l.facts) ≡ lookups.element_kind l.owner l.facts
