use Rattle.std.proofs.Common.{◌≡◌, drop, []}
use Rattle.tg_explain_typing.specs.Finding as finding
use Rattle.tg_explain_typing.proofs.finding.given_names.Given as goal

abbrev pub invariant-loop-fact : goal.invariant-loop-fact
invariant-loop-fact l = finding.given_names l.at (drop l.fact-index l.facts) l.all.items ≡ finding.given_names l.at l.facts []
