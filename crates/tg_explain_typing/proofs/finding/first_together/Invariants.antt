use Rattle.std.proofs.Common.{◌≡◌, drop}
use Rattle.tg_explain_typing.specs.Finding as finding
use Rattle.tg_explain_typing.proofs.finding.first_together.Given as goal

abbrev pub invariant-loop-fact : goal.invariant-loop-fact
invariant-loop-fact l = finding.first_together l.with (drop l.fact-index l.facts) ≡ finding.first_together l.with l.facts
