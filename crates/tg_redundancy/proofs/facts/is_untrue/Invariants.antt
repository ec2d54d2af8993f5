use Rattle.std.proofs.Common.{◌≡◌, drop}
use Rattle.tg_redundancy.specs.mirror.Facts.{is_untrue}
use Rattle.tg_redundancy.proofs.facts.is_untrue.Given as goal

abbrev pub invariant-loop-fact : goal.invariant-loop-fact
invariant-loop-fact l = is_untrue l.rel l.left l.right (drop l.fact-index l.list) ≡ is_untrue l.rel l.left l.right l.list
