use Rattle.std.proofs.Common.{◌≡◌, ◌-◌, ◌≤◌, ◌++◌, length, drop}
use Rattle.tg_delay.specs.Filling.{filled}
use Rattle.tg_delay.proofs.filling.fill.Given as goal

-- what is left are the lines that are left, with their slots
abbrev pub invariant-loop-at : goal.invariant-loop-at
invariant-loop-at l = record {
  within : l.at ≤ length l.lines;
  lines : l.list.items ++ filled (drop l.at l.lines) ≡ filled l.lines;
}

abbrev pub decreases-loop-at : goal.decreases-loop-at
decreases-loop-at l = length l.lines - l.at
