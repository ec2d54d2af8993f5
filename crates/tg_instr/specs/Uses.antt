-- What an instruction uses and defines (Appel, chapter 10), read off its shape.
use Rattle.std.specs.Prelude.{ℕ, List, [], ◌∷◌}
use Rattle.tg_instr.specs.declared.operands.Opnd.{Opnd}
use Rattle.tg_instr.specs.declared.instr.Instr.{Instr}
use Rattle.tg_instr.specs.Operands.{registers}
use Rattle.tg_instr.specs.Shapes.{Holder, Operand, Hi, Lo, InstructionShape, From0, From1, From2}
use Rattle.tg_instr.specs.Shapes.{Halves, Copy}
use Rattle.tg_instr.specs.Shapes.{Loads, Stores, FromSlot, ToSlot, Base, AddressOf, Here, Goes}
use Rattle.tg_instr.specs.Shapes.{Tests, Calls, Asks, Fails, Returns, shape}

-- $a0 to $a3, which a call hands on
abbrev pub arguments : List ℕ
arguments = 4 ∷ 5 ∷ 6 ∷ 7 ∷ []

-- the colours but for $s0 to $s7: after a call they hold something else, $v0 the result
abbrev pub clobbered : List ℕ
clobbered = 2 ∷ 3 ∷ 4 ∷ 5 ∷ 6 ∷ 7 ∷ 8 ∷ 9 ∷ 10 ∷ 11 ∷ 12 ∷ 13 ∷ 14 ∷ 15 ∷ 24 ∷ 25 ∷ 31 ∷ []

-- $s0 to $s7 and $ra, which a function gives back
abbrev pub given_back : List ℕ
given_back = 16 ∷ 17 ∷ 18 ∷ 19 ∷ 20 ∷ 21 ∷ 22 ∷ 23 ∷ 31 ∷ []

abbrev pub operand_of : Holder → List Opnd
operand_of (Operand x) = x ∷ []
operand_of Hi = []
operand_of Lo = []

-- the operands that it reads, moves or hands on
abbrev pub uses : InstructionShape → List Opnd
uses (From0 to n) = []
uses (From1 to from f) = operand_of from
uses (From2 to left right f) = left ∷ right ∷ []
uses (Halves left right low high) = left ∷ right ∷ []
uses (Copy to from) = from ∷ []
uses (Loads to base n f) = base ∷ []
uses (Stores from base n f) = from ∷ base ∷ []
uses (FromSlot to k) = []
uses (ToSlot from k) = from ∷ []
uses (Base to) = []
uses (AddressOf to label) = []
uses (Here m) = []
uses (Goes m) = []
uses (Tests rel left right m) = left ∷ right ∷ []
uses (Calls label) = registers arguments
uses Asks = registers (2 ∷ 4 ∷ [])
uses (Fails n) = []
uses Returns = registers (2 ∷ given_back)

-- the operands that hold something else after it
abbrev pub defs : InstructionShape → List Opnd
defs (From0 to n) = to ∷ []
defs (From1 to from f) = to ∷ []
defs (From2 to left right f) = to ∷ []
defs (Halves left right low high) = []
defs (Copy to from) = to ∷ []
defs (Loads to base n f) = to ∷ []
defs (Stores from base n f) = []
defs (FromSlot to k) = to ∷ []
defs (ToSlot from k) = []
defs (Base to) = to ∷ []
defs (AddressOf to label) = to ∷ []
defs (Here m) = []
defs (Goes m) = []
defs (Tests rel left right m) = []
defs (Calls label) = registers clobbered
defs Asks = registers (2 ∷ [])
defs (Fails n) = []
defs Returns = []

abbrev pub uses_of : Instr → List Opnd
uses_of one = uses (shape one)

abbrev pub defs_of : Instr → List Opnd
defs_of one = defs (shape one)
