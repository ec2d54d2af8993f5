use Rattle.std.proofs.Common.{◌≡◌, drop}
use Rattle.tg_explain_typing.specs.Finding as finding
use Rattle.tg_explain_typing.proofs.finding.judged_record.Given as goal

abbrev pub invariant-loop-fact : goal.invariant-loop-fact
invariant-loop-fact l = finding.judged_record (drop l.fact-index l.facts) ≡ finding.judged_record l.facts
