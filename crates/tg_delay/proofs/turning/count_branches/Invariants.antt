use Rattle.std.proofs.Common.{◌≡◌, ◌+◌, drop}
use Rattle.tg_delay.specs.Filling.{branches_in}
use Rattle.tg_delay.proofs.turning.count_branches.Given as goal

abbrev pub invariant-loop-line : goal.invariant-loop-line
invariant-loop-line l = l.count + branches_in (drop l.line-index l.lines) ≡ branches_in l.lines
