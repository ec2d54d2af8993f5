-- What gives a temporary a word and does nothing else: the part of an instruction that reads.
use Rattle.std.specs.Prelude.{ℕ, ◌==◌, ◌&&◌, Bool, true, false, List, [], ◌∷◌, Option, Some, None}
use Rattle.tg_instr.specs.declared.operands.Opnd.{Opnd}
use Rattle.tg_instr.specs.declared.operands.Opnd.TheVariants.{Temp}
use Rattle.tg_instr.specs.declared.instr.Instr.{Instr}
use Rattle.tg_instr.specs.declared.instr.Instr.TheVariants.{Sll, Add, Addu, Sltu, Addi, Addiu, Lw}
use Rattle.tg_instr.specs.declared.instr.Instr.TheVariants.{FrameLoad}
use Rattle.tg_instr.specs.Operands.{is_same}
use Rattle.tg_redundancy.specs.declared.readings.Reading.{Reading}
use Rattle.tg_redundancy.specs.declared.readings.Reading.TheVariants.{Moved, Loaded, InSlot, Sum}
use Rattle.tg_redundancy.specs.declared.readings.Reading.TheVariants.{Plus}
use Rattle.tg_redundancy.specs.declared.readings.Reading.TheVariants.{ExactSum, ExactPlus, Shifted}
use Rattle.tg_redundancy.specs.declared.readings.Reading.TheVariants.{Lower}

abbrev pub temp : ℕ → Opnd
temp number = Temp (record { 0 = number })

-- The temporary that an instruction gives what it reads, and the reading: sums, shifts to the left,
-- an order, words of memory and slots of the frame.

abbrev pub given : (to : Opnd) → Reading → Option (ℕ × Reading)
given (Temp to) reading = Some (to.0, reading)
given _ reading = None

abbrev pub reading_of : Instr → Option (ℕ × Reading)
reading_of (Lw to bytes base) = given to (Loaded bytes base)
reading_of (FrameLoad to slot) = given to (InSlot slot)
reading_of (Addu to left right) = given to (Sum left right)
reading_of (Addiu to left number) = given to (Plus left number)
reading_of (Add to left right) = given to (ExactSum left right)
reading_of (Addi to left number) = given to (ExactPlus left number)
reading_of (Sll to left by) = given to (Shifted left by)
reading_of (Sltu to left right) = given to (Lower left right)
reading_of _ = None

-- What a reading tells.

-- the operands that it reads
abbrev pub read_by : Reading → List Opnd
read_by (Moved from) = from ∷ []
read_by (Loaded bytes base) = base ∷ []
read_by (InSlot slot) = []
read_by (Sum left right) = left ∷ right ∷ []
read_by (Plus left number) = left ∷ []
read_by (ExactSum left right) = left ∷ right ∷ []
read_by (ExactPlus left number) = left ∷ []
read_by (Shifted left by) = left ∷ []
read_by (Lower left right) = left ∷ right ∷ []

abbrev pub reads_memory : Reading → Bool
reads_memory (Loaded bytes base) = true
reads_memory (InSlot slot) = true
reads_memory _ = false

-- with others in the places of its operands
abbrev pub reread : (Opnd → Opnd) → Reading → Reading
reread instead (Moved from) = Moved (instead from)
reread instead (Loaded bytes base) = Loaded bytes (instead base)
reread instead (InSlot slot) = InSlot slot
reread instead (Sum left right) = Sum (instead left) (instead right)
reread instead (Plus left number) = Plus (instead left) number
reread instead (ExactSum left right) = ExactSum (instead left) (instead right)
reread instead (ExactPlus left number) = ExactPlus (instead left) number
reread instead (Shifted left by) = Shifted (instead left) by
reread instead (Lower left right) = Lower (instead left) (instead right)

abbrev pub same_reading : Reading → Reading → Bool
same_reading (Moved x) (Moved y) = is_same x y
same_reading (Loaded n x) (Loaded m y) = n == m && is_same x y
same_reading (InSlot n) (InSlot m) = n == m
same_reading (Sum x y) (Sum u v) = is_same x u && is_same y v
same_reading (Plus x n) (Plus y m) = n == m && is_same x y
same_reading (ExactSum x y) (ExactSum u v) = is_same x u && is_same y v
same_reading (ExactPlus x n) (ExactPlus y m) = n == m && is_same x y
same_reading (Shifted x n) (Shifted y m) = n == m && is_same x y
same_reading (Lower x y) (Lower u v) = is_same x u && is_same y v
same_reading _ _ = false
