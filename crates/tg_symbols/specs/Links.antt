-- Where the entries of a table stand, and how those of one name are linked.
use Rattle.std.specs.Prelude.{◌≡◌, ◌≤◌, ℕ, suc, ◌==◌, nat_eq, List, [], ◌∷◌, length, map, reverse}
use Rattle.std.specs.Prelude.{Option, Some, None, if◌then◌else◌}
use Rattle.std.specs.HashMap.{get, HashMap}
use Rattle.tg_symbols.specs.declared.tables.Entry.{Entry}

-- the place of a name, from the newest on, counted from a number
abbrev pub placed_at : {A : Type 0} → ℕ → (from : ℕ) → List (ℕ × A) → Option ℕ
placed_at x from [] = None
placed_at x from (entry ∷ rest) = if entry.0 == x then Some from else placed_at x (suc from) rest

-- names with what they have, the newest first, of entries whose newest is the last
abbrev pub entries_of : {V : Type 0} → List (Entry V) → List (ℕ × V)
entries_of entries = map (λ e. (e.name, e.value)) (reverse entries)

-- the place, from the oldest on, of the newest entry of a name
abbrev pub top_of : {V : Type 0} → ℕ → List (Entry V) → Option ℕ
top_of x [] = None
top_of x (e ∷ older) = if e.name == x then Some (length older) else top_of x older

-- each entry names the place of the one that it hides
abbrev pub AreChained : {V : Type 0} → List (Entry V) → Type 0
AreChained [] = Unit {0}
AreChained (e ∷ older) = (e.hidden ≡ top_of e.name older) × AreChained older

-- for each name the table tells the place of its newest entry, and each entry that of the one it
-- hides
pub record IsLinked {V S : Type 0} (top : HashMap ℕ ℕ S) (entries : List (Entry V)) : Type 0 where
  pub short : length entries ≤ 4294967295
  pub tops : (x : ℕ) → get nat_eq top x ≡ top_of x (reverse entries)
  pub chained : AreChained (reverse entries)
