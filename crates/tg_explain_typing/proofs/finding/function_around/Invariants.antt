use Rattle.std.proofs.Common.{◌≡◌, drop}
use Rattle.tg_explain_typing.specs.Finding as finding
use Rattle.tg_explain_typing.proofs.finding.function_around.Given as goal

abbrev pub invariant-loop-fact : goal.invariant-loop-fact
invariant-loop-fact l = finding.function_around l.at (drop l.fact-index l.facts) l.found ≡ finding.function_around l.at l.facts l.initial.found
