use Rattle.std.proofs.Common.{◌≡◌, drop}
use Rattle.tg_redundancy.specs.mirror.Facts.{stands}
use Rattle.tg_redundancy.proofs.facts.stands.Given as goal

abbrev pub invariant-loop-fact : goal.invariant-loop-fact
invariant-loop-fact l = stands (drop l.fact-index l.list) l.operand ≡ stands l.list l.operand
