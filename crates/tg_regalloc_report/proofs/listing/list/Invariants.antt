use Rattle.std.proofs.Common.{◌≡◌, ◌++◌, drop}
use Rattle.tg_regalloc_report.specs.Listing.{listed}
use Rattle.tg_regalloc_report.proofs.listing.list.Given as goal

abbrev pub invariant-loop-one : goal.invariant-loop-one
invariant-loop-one l = listed l.allocations ≡ l.text.items ++ listed (drop l.one-index l.allocations)
