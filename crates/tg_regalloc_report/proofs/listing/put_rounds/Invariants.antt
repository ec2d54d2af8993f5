use Rattle.std.proofs.Common.{◌≡◌, ◌++◌, ◌+◌, drop}
use Rattle.tg_regalloc_report.specs.Listing.{rounds_lines}
use Rattle.tg_regalloc_report.proofs.listing.put_rounds.Given as goal

abbrev pub invariant-loop-at : goal.invariant-loop-at
invariant-loop-at l =
    l.initial.text.items ++ rounds_lines 1 l.rounds ≡ l.text.items ++ rounds_lines (l.at + 1) (drop l.at l.rounds)
