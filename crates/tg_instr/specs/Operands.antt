-- Operands, and what one branch of the instruction table may test.
use Rattle.std.specs.Prelude.{ℕ, Bool, true, false, ◌==◌, List, map}
use Rattle.tg_instr.specs.declared.operands.Opnd.{Opnd}
use Rattle.tg_instr.specs.declared.operands.Opnd.TheVariants.{Temp, Reg}
use Rattle.tg_tree.specs.declared.operators.Rel.{Rel}
use Rattle.tg_tree.specs.declared.operators.Rel.TheVariants.{Equal, NotEqual, Below, NotBelow}

abbrev pub is_same : Opnd → Opnd → Bool
is_same (Temp i) (Temp j) = i.0 == j.0
is_same (Reg r) (Reg q) = r == q
is_same _ _ = false

abbrev pub registers : List ℕ → List Opnd
registers numbers = map (λ n. Reg n) numbers

abbrev pub is_zero : Opnd → Bool
is_zero (Reg r) = r == 0
is_zero _ = false

-- the table branches on an equality or inequality of two registers, and on a signed order of one
-- with 0 (MIPS I manual)
abbrev pub is_one_row : Rel → (left right : Opnd) → Bool
is_one_row Equal left right = true
is_one_row NotEqual left right = true
is_one_row Below left right = false
is_one_row NotBelow left right = false
is_one_row _ left right = is_zero right
