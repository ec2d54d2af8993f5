-- Computed examples of runs and outcomes.
use Rattle.std.proofs.Common.{◌≡◌, ℕ, ◌+◌, [], ◌∷◌, Some, None, true, false, refl}
use Rattle.tg_machine_state.specs.declared.ends.RunEnd.{RunEnd}
use Rattle.tg_machine_state.specs.declared.ends.RunEnd.TheVariants.{HeapFull}
use Rattle.tg_simulation.specs.Runs.{Run, turn, again}
use Rattle.tg_simulation.specs.Ran.{Ran, WantsFuel, stops, writes, works}
use Rattle.tg_simulation.specs.Changes as change
use Rattle.tg_simulation.specs.Outcomes.{ended, Outcome}
use Rattle.tg_simulation.specs.Changes.{costs, passes_limit, reaches}

-- a run that writes its number, does a unit of work, uses one of fuel, and goes on with the next number
abbrev counting : (ℕ → Run Ran) → ℕ → Run Ran
counting later k n = works 1 (writes (k ∷ []) (turn (stops [] WantsFuel) (later (k + 1)) n))

-- with 2 units it is there three times, and then wants more
counts : again (stops [] WantsFuel) counting 0 2 ≡ record { output = 0 ∷ 1 ∷ 2 ∷ []; input = []; stop = WantsFuel; work = 3 }
counts = refl

-- a program that ends where no heap is left, after so much that was written and so many calls
abbrev ends : Outcome RunEnd
ends = record { end = ended HeapFull; output = []; input = []; heap = 8; cost = 5; output_past_limit = None; deepest = 2 }

-- what was written when the limit was first passed
first_passing : (change.writes_first (1 ∷ []) (passes_limit true (change.writes_first (2 ∷ []) (passes_limit true ends)))).output_past_limit ≡ Some (1 ∷ [])
first_passing = refl

-- what isn't above the limit passes nothing
not_passing : (passes_limit false (change.writes_first (2 ∷ []) (passes_limit true ends))).output_past_limit ≡ Some (2 ∷ [])
not_passing = refl

-- costs add up, and the greatest depth counts
measured : ((costs 3 (costs 4 ends)).cost ≡ 12) × ((reaches 1 ends).deepest ≡ 2) × ((reaches 3 (reaches 1 ends)).deepest ≡ 3)
measured = (refl, refl, refl)
