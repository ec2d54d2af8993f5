-- Operands, and lists of these. Three or more operands of a list of which each follows the one
-- before it are written as a run: the first, two periods and the last, as in t5..t13 and $a0..$a3.
-- A temporary follows the one with the number before its own, unless a variable names either, so no
-- name is left out. A register follows the one of its letter with the digit before its own, so $t8
-- follows $t7, and no register follows $a3.
use Rattle.std.specs.Prelude.{ℕ, zero, suc, ◌+◌, ◌-◌, ◌==◌, ◌&&◌, nat_lt, Bool, false}
use Rattle.std.specs.Prelude.{List, [], ◌∷◌, ◌++◌, length, codes, slice_index_or, if◌then◌else◌}
use Rattle.tg_isa.specs.Names.{register_name}
use Rattle.tg_instr.specs.declared.operands.Opnd.{Opnd}
use Rattle.tg_instr.specs.declared.operands.Opnd.TheVariants.{Temp, Reg}
use Rattle.tg_show.specs.Words.{temp_text}

abbrev pub operand_text : (names : List (List ℕ)) → Opnd → List ℕ
operand_text names (Temp t) = temp_text names t.0
operand_text names (Reg r) = register_name r

-- the letter of a register's name, and the digit behind it: 116 and 55 of $t7
abbrev pub letter : (register : ℕ) → ℕ
letter r = slice_index_or (register_name r) 1 0

abbrev pub digit : (register : ℕ) → ℕ
digit r = slice_index_or (register_name r) 2 0

abbrev pub is_next : (first second : ℕ) → Bool
is_next n m = m == n + 1

abbrev pub is_next_register : (first second : ℕ) → Bool
is_next_register r s = (letter s == letter r) && is_next (digit r) (digit s)

module _ (names : List (List ℕ)) where
  abbrev pub is_nameless : (temp : ℕ) → Bool
  is_nameless t = length (slice_index_or names t []) == 0

  abbrev pub is_next_temp : (first second : ℕ) → Bool
  is_next_temp t u = is_next t u && is_nameless t && is_nameless u

  -- whether the second follows the first
  abbrev pub follows : (first second : Opnd) → Bool
  follows (Temp t) (Temp u) = is_next_temp t.0 u.0
  follows (Reg r) (Reg s) = is_next_register r s
  follows _ _ = false

  -- how many at the front of a list follow, of which the first follows this one
  abbrev pub following : Opnd → List Opnd → ℕ
  following x [] = 0
  following x (y ∷ rest) = if follows x y then suc (following y rest) else 0

  -- Of a run so many are left behind its first. One that follows alone makes none.
  abbrev pub run_behind : Opnd → (rest : List Opnd) → ℕ
  run_behind x rest = if nat_lt (following x rest) 2 then 0 else following x rest

  -- an operand of which so many are left in the run that it is in: of these the last is written
  abbrev pub listed : (left : ℕ) → Opnd → List ℕ
  listed left x =
      if left == 0 then codes " " ++ operand_text names x
      else (if left == 1 then codes ".." ++ operand_text names x else [])

  abbrev pub next_left : (left : ℕ) → Opnd → (rest : List Opnd) → ℕ
  next_left left x rest = if left == 0 then run_behind x rest else left - 1

  abbrev pub listed_from : (left : ℕ) → List Opnd → List ℕ
  listed_from left [] = []
  listed_from left (x ∷ rest) = listed left x ++ listed_from (next_left left x rest) rest

  -- a list, with a blank in front of each operand and of each run
  abbrev pub operands_text : List Opnd → List ℕ
  operands_text list = listed_from 0 list
