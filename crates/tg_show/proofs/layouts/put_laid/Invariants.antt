use Rattle.std.proofs.Common.{◌≡◌, ◌≤◌, ◌+◌, ◌++◌, drop}
use Rattle.tg_show.specs.Layout.{laid_from, mode_of}
use Rattle.tg_show.proofs.layouts.put_laid.Given as goal

-- what is left is what is written for the bytes that are left
abbrev pub invariant-loop-at : goal.invariant-loop-at
invariant-loop-at l = record {
  depth : l.depth ≤ l.margin + l.at;
  text : l.initial.text.items ++ laid_from l.margin (mode_of l.line) l.line ≡ l.text.items ++ laid_from l.depth l.mode (drop l.at l.line);
}
