use Rattle.std.proofs.Common.{◌≡◌, drop}
use Rattle.tg_explain_typing.specs.Lookups as lookups
use Rattle.tg_explain_typing.proofs.lookups.meaning_of.Given as goal

abbrev pub invariant-loop-fact : goal.invariant-loop-fact
invariant-loop-fact l = lookups.meaning_of l.x (drop l.fact-index l.facts) l.found ≡ lookups.meaning_of l.x l.facts l.initial.found
