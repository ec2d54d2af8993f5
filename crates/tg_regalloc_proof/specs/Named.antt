-- The operands that the shape of an instruction names, and the shape with others in their places. A
-- call, a service and a return name none: what they use and define is fixed.
use Rattle.std.specs.Prelude.{Bool, true, false, Option, Some, None}
use Rattle.tg_instr.specs.declared.operands.Opnd.{Opnd}
use Rattle.tg_instr.specs.Shapes.{Holder, Operand, Hi, Lo, InstructionShape, From0, From1, From2}
use Rattle.tg_instr.specs.Shapes.{Halves, Copy}
use Rattle.tg_instr.specs.Shapes.{Loads, Stores, FromSlot, ToSlot, Base, AddressOf, Tests}
use Rattle.tg_instr.specs.Shapes.{Goes, Fails, Returns}

-- what it defines
abbrev pub to_of : InstructionShape → Option Opnd
to_of (From0 to n) = Some to
to_of (From1 to from f) = Some to
to_of (From2 to left right f) = Some to
to_of (Copy to from) = Some to
to_of (Loads to base n f) = Some to
to_of (FromSlot to k) = Some to
to_of (Base to) = Some to
to_of (AddressOf to label) = Some to
to_of _ = None

-- the others, as they stand in the instruction's text
abbrev pub first_of : InstructionShape → Option Opnd
first_of (From1 to (Operand from) f) = Some from
first_of (From2 to left right f) = Some left
first_of (Halves left right low high) = Some left
first_of (Copy to from) = Some from
first_of (Loads to base n f) = Some base
first_of (Stores from base n f) = Some from
first_of (ToSlot from k) = Some from
first_of (Tests rel left right m) = Some left
first_of _ = None

abbrev pub second_of : InstructionShape → Option Opnd
second_of (From2 to left right f) = Some right
second_of (Halves left right low high) = Some right
second_of (Stores from base n f) = Some base
second_of (Tests rel left right m) = Some right
second_of _ = None

abbrev pub other_holder : Holder → Opnd → Holder
other_holder (Operand x) y = Operand y
other_holder Hi y = Hi
other_holder Lo y = Lo

-- the shape with others in the places of these
abbrev pub reshaped : InstructionShape → (to first second : Opnd) → InstructionShape
reshaped (From0 to n) z x y = From0 z n
reshaped (From1 to from f) z x y = From1 z (other_holder from x) f
reshaped (From2 to left right f) z x y = From2 z x y f
reshaped (Halves left right low high) z x y = Halves x y low high
reshaped (Copy to from) z x y = Copy z x
reshaped (Loads to base n f) z x y = Loads z x n f
reshaped (Stores from base n f) z x y = Stores x y n f
reshaped (FromSlot to k) z x y = FromSlot z k
reshaped (ToSlot from k) z x y = ToSlot x k
reshaped (Base to) z x y = Base z
reshaped (AddressOf to label) z x y = AddressOf z label
reshaped (Tests rel left right m) z x y = Tests rel x y m
reshaped one z x y = one

-- the next instruction may come after it
abbrev pub passes : InstructionShape → Bool
passes (Goes m) = false
passes (Fails n) = false
passes Returns = false
passes _ = true
