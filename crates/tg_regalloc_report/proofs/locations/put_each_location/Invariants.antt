use Rattle.std.proofs.Common.{◌≡◌, ◌++◌, drop}
use Rattle.tg_regalloc_report.specs.Listing.{location_lines}
use Rattle.tg_regalloc_report.proofs.locations.put_each_location.Given as goal

-- what is left is the lines of the locations that are left
abbrev pub invariant-loop-at : goal.invariant-loop-at
invariant-loop-at l =
    l.initial.text.items ++ location_lines 0 l.locations ≡ l.text.items ++ location_lines l.at (drop l.at l.locations)
