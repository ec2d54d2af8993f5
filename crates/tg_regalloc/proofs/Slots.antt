-- The slots of classes, filled in from the last class to the first, so that the first of equal ones
-- wins.
use Rattle.std.proofs.Common.{ℕ, ◌≡◌, ◌<◌, ◌+◌, List, Option, None, length, get_or, drop}
use Rattle.tg_regalloc.specs.Rewriting.{slot_by}

-- those of the classes from a place on
abbrev pub AreSlots : (classes : List ℕ) (base nodes at : ℕ) (table : List (Option ℕ)) → Type 0
AreSlots classes base nodes at table =
    (length table ≡ nodes) × ((x : ℕ) → x < nodes → get_or table x None ≡ slot_by (drop at classes) (base + at) x)
