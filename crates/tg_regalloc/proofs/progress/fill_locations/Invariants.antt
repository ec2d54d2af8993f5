use Rattle.std.proofs.Common.{◌≡◌, ◌<◌, ◌≤◌, ℕ, length}
use Rattle.std.specs.Option.{option_or}
use Rattle.tg_regalloc.specs.Rewriting.{slot_in}
use Rattle.tg_regalloc.proofs.progress.fill_locations.Given as goal

abbrev pub invariant-loop-at : goal.invariant-loop-at
invariant-loop-at l = record {
  size : length l.locations ≡ length l.fn.locations;
  done : (t : ℕ) → t < l.at → slot_in l.locations t ≡ option_or (slot_in l.fn.locations t) (slot_in l.slots t);
  left : (t : ℕ) → l.at ≤ t → slot_in l.locations t ≡ slot_in l.fn.locations t;
}
