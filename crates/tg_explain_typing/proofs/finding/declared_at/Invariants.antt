use Rattle.std.proofs.Common.{◌≡◌, drop}
use Rattle.tg_explain_typing.specs.Finding as finding
use Rattle.tg_explain_typing.proofs.finding.declared_at.Given as goal

abbrev pub invariant-loop-fact : goal.invariant-loop-fact
invariant-loop-fact l = finding.declared_at l.at (drop l.fact-index l.facts) ≡ finding.declared_at l.at l.facts
