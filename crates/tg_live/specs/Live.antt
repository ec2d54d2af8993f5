-- What is live out of an instruction, by paths along the flow (Appel, chapter 10).
use Rattle.std.specs.Prelude.{◌≡◌, ◌↔◌, ◌+◌, ◌-◌, ℕ, Bool, true, not, ◌&&◌, nat_lt, List, [], ◌∷◌}
use Rattle.std.specs.Prelude.{map, length, slice_index_or, IsTrue, if◌then◌else◌}
use Rattle.std.specs.List.{list_any}
use Rattle.tg_instr.specs.declared.instr.Instr.{Instr}
use Rattle.tg_instr.specs.declared.operands.Opnd.{Opnd}
use Rattle.tg_instr.specs.declared.operands.Opnd.TheVariants.{Temp as TempOf, Reg}
use Rattle.tg_instr.specs.Operands.{is_same}
use Rattle.tg_instr.specs.Uses.{uses_of, defs_of}
use Rattle.tg_live.specs.Flow.{goes_on}

abbrev pub is_among : Opnd → List Opnd → Bool
is_among x list = list_any (is_same x) list

-- what the instruction of a place uses and defines
abbrev pub uses_at : List Instr → (at : ℕ) → List Opnd
uses_at all at = slice_index_or (map uses_of all) at []

abbrev pub defs_at : List Instr → (at : ℕ) → List Opnd
defs_at all at = slice_index_or (map defs_of all) at []

abbrev pub is_used : List Instr → Opnd → (at : ℕ) → Bool
is_used all x at = is_among x (uses_at all at)

abbrev pub is_defined : List Instr → Opnd → (at : ℕ) → Bool
is_defined all x at = is_among x (defs_at all at)

-- from a place, whose instruction is still to be run, these places lead along the flow to a use of
-- the operand, past no definition of it
abbrev pub leads_to_use : List Instr → Opnd → (at : ℕ) → (path : List ℕ) → Bool
leads_to_use all x at [] = is_used all x at
leads_to_use all x at (next ∷ path) =
    not (is_defined all x at) && (goes_on all at next && leads_to_use all x next path)

-- a path leads from the instruction to a use of the operand, past no definition of it
pub record IsLiveOut (all : List Instr) (at : ℕ) (x : Opnd) : Type 0 where
  pub next : ℕ
  pub path : List ℕ
  pub goes : IsTrue (goes_on all at next)
  pub leads : IsTrue (leads_to_use all x next path)

-- the order of operands: registers by their numbers, and then temporaries
abbrev pub number_of : Opnd → ℕ
number_of (Reg r) = r
number_of (TempOf t) = 32 + t.0

abbrev pub operand_of : (number : ℕ) → Opnd
operand_of n = if nat_lt n 32 then Reg n else TempOf (record { 0 = n - 32 })

-- a register's number is below 32
abbrev pub is_proper : Opnd → Bool
is_proper (Reg r) = nat_lt r 32
is_proper (TempOf t) = true

abbrev pub is_rising : List Opnd → Bool
is_rising [] = true
is_rising (x ∷ []) = true
is_rising (x ∷ y ∷ rest) = nat_lt (number_of x) (number_of y) && is_rising (y ∷ rest)

abbrev pub Sets : Type 0
Sets = List (List Opnd)

abbrev pub set_at : Sets → (at : ℕ) → List Opnd
set_at sets at = slice_index_or sets at []

-- for each place of a code what is live out of its instruction, in rising order
pub record AreLiveSets (all : List Instr) (sets : Sets) : Type 0 where
  pub size : length sets ≡ length all
  pub live : (at : ℕ) (x : Opnd) → IsTrue (is_among x (set_at sets at)) ↔ IsLiveOut all at x
  pub rising : (at : ℕ) → IsTrue (is_rising (set_at sets at))
