-- What an instruction does, in a few shapes: every law of instructions has a case a shape and not a
-- case an instruction.
use Rattle.std.specs.Prelude.{ℕ, ◌*◌, ◌==◌, if◌then◌else◌, nat_lt, Option, Some, None, bit_and}
use Rattle.std.specs.Prelude.{bit_or, bit_xor}
use Rattle.tg_base.specs.Words.{add, sub, less, quot, rem, exact_sum, exact_difference}
use Rattle.tg_base.specs.Words.{product_high, product_low, extended, extended_byte, shift_left}
use Rattle.tg_base.specs.Words.{shift_right, shift_signed, neither, flag}
use Rattle.tg_simulation.specs.Ran.{Wrong}
use Rattle.tg_tree.specs.declared.operators.Rel.{Rel}
use Rattle.tg_tree.specs.Memory.{Memory, load, load_byte, store, store_byte}
use Rattle.tg_tree.specs.Operators.{Given, word, stops_by, exactly}
use Rattle.tg_instr.specs.declared.operands.Opnd.{Opnd}
use Rattle.tg_instr.specs.declared.instr.Instr.{Instr}
use Rattle.tg_instr.specs.declared.instr.Instr.TheVariants.{Sll, Srl, Sra, Mfhi, Mflo, Mult, Div}
use Rattle.tg_instr.specs.declared.instr.Instr.TheVariants.{Add, Sub, Addu, Subu, And, Or, Xor, Nor}
use Rattle.tg_instr.specs.declared.instr.Instr.TheVariants.{Slt, Sltu, Addi, Addiu, Slti, Sltiu}
use Rattle.tg_instr.specs.declared.instr.Instr.TheVariants.{Andi, Ori, Xori, Lui, Lb, Lbu, Lw, Sb}
use Rattle.tg_instr.specs.declared.instr.Instr.TheVariants.{Sw, Move, FrameLoad, FrameStore}
use Rattle.tg_instr.specs.declared.instr.Instr.TheVariants.{FrameAddress, Address, Mark, Jump}
use Rattle.tg_instr.specs.declared.instr.Instr.TheVariants.{Branch, Call, Service, Fault, Return}

-- what holds a value in an activation: an operand, or one of the two halves of a product
pub data Holder : Type 0 where
  Operand : Opnd → Holder
  Hi Lo : Holder

pub data InstructionShape : Type 0 where
  -- `to` gets a word; a word of one or of two words
  From0 : (to : Opnd) → ℕ → InstructionShape
  From1 : (to : Opnd) → (from : Holder) → (ℕ → Given) → InstructionShape
  From2 : (to left right : Opnd) → (ℕ → ℕ → Given) → InstructionShape
  -- hi and lo get words of two words
  Halves : (left right : Opnd) → (low high : ℕ → ℕ → Given) → InstructionShape
  -- `to` gets whatever `from` holds
  Copy : (to from : Opnd) → InstructionShape
  -- memory at so many bytes after `base`
  Loads : (to base : Opnd) → (bytes : ℕ) → (Memory → ℕ → Option ℕ) → InstructionShape
  Stores : (from base : Opnd) → (bytes : ℕ) → (Memory → ℕ → ℕ → Option Memory) → InstructionShape
  -- a slot of the frame, the frame address, and the address of a literal
  FromSlot : (to : Opnd) → (slot : ℕ) → InstructionShape
  ToSlot : (from : Opnd) → (slot : ℕ) → InstructionShape
  Base : (to : Opnd) → InstructionShape
  AddressOf : (to : Opnd) → (label : ℕ) → InstructionShape
  -- a mark, and what leads elsewhere
  Here : (mark : ℕ) → InstructionShape
  Goes : (mark : ℕ) → InstructionShape
  Tests : Rel → (left right : Opnd) → (mark : ℕ) → InstructionShape
  Calls : (label : ℕ) → InstructionShape
  Asks : InstructionShape
  Fails : (code : ℕ) → InstructionShape
  Returns : InstructionShape

-- a word that goes wrong where the divisor is 0
abbrev pub unless_zero : (ℕ → ℕ → ℕ) → ℕ → ℕ → Given
unless_zero f a b = if b == 0 then stops_by Wrong else word (f a b)

-- a byte that is loaded with its sign
abbrev pub with_sign : Option ℕ → Option ℕ
with_sign (Some b) = Some (extended_byte b)
with_sign None = None

abbrev pub shape : Instr → InstructionShape
shape (Sll rd rt n) = From1 rd (Operand rt) (λ a. word (shift_left a n))
shape (Srl rd rt n) = From1 rd (Operand rt) (λ a. word (shift_right a n))
shape (Sra rd rt n) = From1 rd (Operand rt) (λ a. word (shift_signed a n))
shape (Mfhi rd) = From1 rd Hi (λ a. word a)
shape (Mflo rd) = From1 rd Lo (λ a. word a)
shape (Mult rs rt) = Halves rs rt (λ a b. word (product_low a b)) (λ a b. word (product_high a b))
shape (Div rs rt) = Halves rs rt (unless_zero quot) (unless_zero rem)
shape (Add rd rs rt) = From2 rd rs rt (λ a b. exactly (exact_sum a b))
shape (Sub rd rs rt) = From2 rd rs rt (λ a b. exactly (exact_difference a b))
shape (Addu rd rs rt) = From2 rd rs rt (λ a b. word (add a b))
shape (Subu rd rs rt) = From2 rd rs rt (λ a b. word (sub a b))
shape (And rd rs rt) = From2 rd rs rt (λ a b. word (bit_and a b))
shape (Or rd rs rt) = From2 rd rs rt (λ a b. word (bit_or a b))
shape (Xor rd rs rt) = From2 rd rs rt (λ a b. word (bit_xor a b))
shape (Nor rd rs rt) = From2 rd rs rt (λ a b. word (neither a b))
shape (Slt rd rs rt) = From2 rd rs rt (λ a b. word (flag (less a b)))
shape (Sltu rd rs rt) = From2 rd rs rt (λ a b. word (flag (nat_lt a b)))
shape (Addi rt rs n) = From1 rt (Operand rs) (λ a. exactly (exact_sum a (extended n)))
shape (Addiu rt rs n) = From1 rt (Operand rs) (λ a. word (add a (extended n)))
shape (Slti rt rs n) = From1 rt (Operand rs) (λ a. word (flag (less a (extended n))))
shape (Sltiu rt rs n) = From1 rt (Operand rs) (λ a. word (flag (nat_lt a (extended n))))
shape (Andi rt rs n) = From1 rt (Operand rs) (λ a. word (bit_and a n))
shape (Ori rt rs n) = From1 rt (Operand rs) (λ a. word (bit_or a n))
shape (Xori rt rs n) = From1 rt (Operand rs) (λ a. word (bit_xor a n))
shape (Lui rt n) = From0 rt (n * 65536)
shape (Lb rt n rs) = Loads rt rs (extended n) (λ m a. with_sign (load_byte m a))
shape (Lbu rt n rs) = Loads rt rs (extended n) load_byte
shape (Lw rt n rs) = Loads rt rs (extended n) load
shape (Sb rt n rs) = Stores rt rs (extended n) store_byte
shape (Sw rt n rs) = Stores rt rs (extended n) store
shape (Move to from) = Copy to from
shape (FrameLoad to k) = FromSlot to k
shape (FrameStore from k) = ToSlot from k
shape (FrameAddress to) = Base to
shape (Address to label) = AddressOf to label.0
shape (Mark m) = Here m
shape (Jump m) = Goes m
shape (Branch test m) = Tests test.rel test.left test.right m
shape (Call label) = Calls label.0
shape Service = Asks
shape (Fault n) = Fails n
shape Return = Returns
