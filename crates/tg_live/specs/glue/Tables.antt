-- Tables of rows, and a list of lists turned round: row n of the table has the places of the lists
-- that have n.
use Rattle.std.specs.Prelude.{◌≡◌, ◌<◌, ℕ, suc, Bool, nat_eq, nat_lt, IsTrue, List, [], ◌∷◌, ◌++◌}
use Rattle.std.specs.Prelude.{map, length, slice_index_or, slice_set}
use Rattle.std.specs.List.{list_any, list_all}
use Rattle.tg_instr.specs.declared.instr.Instr.{Instr}
use Rattle.tg_instr.specs.declared.operands.Opnd.{Opnd}
use Rattle.tg_instr.specs.Uses.{uses_of}
use Rattle.tg_live.specs.Flow.{goes_on}
use Rattle.tg_live.specs.Live.{is_used, number_of, operand_of}

abbrev pub Table : Type 0
Table = List (List ℕ)

abbrev pub row : {A : Type 0} → List (List A) → ℕ → List A
row table n = slice_index_or table n []

abbrev pub push_at : {A : Type 0} → List (List A) → ℕ → A → List (List A)
push_at table n x = slice_set table n (row table n ++ x ∷ [])

-- with a value at the end of each of these rows
abbrev pub add_to : (value : ℕ) → (rows : List ℕ) → Table → Table
add_to v [] table = table
add_to v (n ∷ rows) table = add_to v rows (push_at table n v)

-- with each place from this one on in the rows that its list has
abbrev pub add_from : (at : ℕ) → List (List ℕ) → Table → Table
add_from at [] table = table
add_from at (rows ∷ rest) table = add_from (suc at) rest (add_to at rows table)

abbrev pub have_rows_below : ℕ → List (List ℕ) → Bool
have_rows_below n lists = list_all (list_all (λ k. nat_lt k n)) lists

-- the edges into each place from this one on, of a table of the places before each
abbrev pub edges_into : (at : ℕ) → Table → List (ℕ × ℕ)
edges_into at [] = []
edges_into at (befores ∷ rest) = map (λ before. (before, at)) befores ++ edges_into (suc at) rest

-- row n has the places whose instructions go on at n
abbrev pub IsBefore : List Instr → Table → Type 0
IsBefore all table = (at next : ℕ) → list_any (nat_eq at) (row table next) ≡ goes_on all at next

abbrev pub numbers_of : List Opnd → List ℕ
numbers_of list = map number_of list

abbrev pub numbers_used : List Instr → List (List ℕ)
numbers_used all = map (λ one. numbers_of (uses_of one)) all

-- row n has the places whose instructions use operand n
pub record AreSites (all : List Instr) (sites : Table) : Type 0 where
  pub within : (x : Opnd) (at : ℕ) → IsTrue (is_used all x at) →
      (number_of x < length sites) × (operand_of (number_of x) ≡ x)
  pub same : (n at : ℕ) → list_any (nat_eq at) (row sites n) ≡ is_used all (operand_of n) at
