use Rattle.std.proofs.Common.{◌≡◌, drop}
use Rattle.tg_redundancy.specs.mirror.Facts.{found}
use Rattle.tg_redundancy.proofs.facts.found.Given as goal

abbrev pub invariant-loop-fact : goal.invariant-loop-fact
invariant-loop-fact l = found l.to l.reading (drop l.fact-index l.list) ≡ found l.to l.reading l.list
