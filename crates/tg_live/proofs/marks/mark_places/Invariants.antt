use Rattle.std.proofs.Common.{◌≡◌, ℕ, nat_eq, drop}
use Rattle.std.specs.HashMap.{get}
use Rattle.tg_live.proofs.Marked.{place_from}
use Rattle.tg_live.proofs.marks.mark_places.Given as goal

abbrev pub invariant-loop-at : goal.invariant-loop-at
invariant-loop-at l = (m : ℕ) → get nat_eq l.places m ≡ place_from l.at (drop l.at l.list) m
