-- Where a function that stands in the place of another has what that has in its operands, and the
-- block that stands for each instruction then: loads before it, the instruction with other
-- operands, a store after it; of a move between places that are one, nothing.
use Rattle.std.specs.Prelude.{ℕ, ◌≡◌, ◌==◌, Bool, false, List, [], ◌∷◌, ◌++◌, Option, Some}
use Rattle.std.specs.Prelude.{None}
use Rattle.tg_instr.specs.declared.operands.Opnd.{Opnd}
use Rattle.tg_instr.specs.declared.operands.Opnd.TheVariants.{Temp, Reg}
use Rattle.tg_instr.specs.declared.instr.Instr.{Instr}
use Rattle.tg_instr.specs.declared.instr.Instr.TheVariants.{FrameLoad, FrameStore}
use Rattle.tg_instr.specs.Operands.{is_same}
use Rattle.tg_instr.specs.Shapes.{InstructionShape, Copy, shape}
use Rattle.tg_regalloc_proof.specs.Blocks.{Blocks}
use Rattle.tg_regalloc_proof.specs.Named.{to_of, first_of, second_of, reshaped}

abbrev pub IsTemp : Opnd → Type 0
IsTemp (Temp t) = Unit {0}
IsTemp (Reg r) = ⊥

-- neither $zero nor $sp, whose words are fixed
abbrev pub IsPlain : Opnd → Type 0
IsPlain (Temp t) = Unit {0}
IsPlain (Reg r) = ((r == 0) ≡ false) × ((r == 29) ≡ false)

-- in an operand, or in a slot of the frame
pub data Place : Type 0 where
  In : Opnd → Place
  At : (slot : ℕ) → Place

abbrev pub are_one : Place → Place → Bool
are_one (In x) (In y) = is_same x y
are_one (At j) (At k) = j == k
are_one _ _ = false

abbrev pub IsPlainPlace : Place → Type 0
IsPlainPlace (In y) = IsPlain y
IsPlainPlace (At k) = Unit {0}

-- the place isn't this operand
abbrev pub IsClear : (scratch : Opnd) → Place → Type 0
IsClear z (In y) = is_same y z ≡ false
IsClear z (At k) = Unit {0}

-- a place for each operand: a register stays where it is, and no temporary goes to $zero or $sp
pub record Places : Type 0 where
  pub place : Opnd → Place
  pub fixed : (r : ℕ) → place (Reg r) ≡ In (Reg r)
  pub plain : (t : Opnd) → IsTemp t → IsPlainPlace (place t)

-- What goes through a scratch operand, since its place is a slot.

-- what is loaded before
abbrev pub fetched : (scratch : Opnd) → Place → List Instr
fetched z (In y) = []
fetched z (At k) = FrameLoad z k ∷ []

-- what is stored afterwards
abbrev pub kept : (scratch : Opnd) → Place → List Instr
kept z (In y) = []
kept z (At k) = FrameStore z k ∷ []

-- the operand that stands for the place
abbrev pub through : (scratch : Opnd) → Place → Opnd
through z (In y) = y
through z (At k) = z

-- For a place of each operand.
module _ (place : Opnd → Place) where
  abbrev pub fetched_for : Opnd → Option Opnd → List Instr
  fetched_for z None = []
  fetched_for z (Some x) = fetched z (place x)

  abbrev pub kept_for : Opnd → Option Opnd → List Instr
  kept_for z None = []
  kept_for z (Some x) = kept z (place x)

  abbrev pub through_for : Opnd → Option Opnd → Opnd
  through_for z None = z
  through_for z (Some x) = through z (place x)

  -- with these operands live before the instruction
  module _ (Live : Opnd → Type 0) where
    abbrev pub AllClear : Opnd → Type 0
    AllClear z = (x : Opnd) → Live x → IsClear z (place x)

    -- a scratch operand is needed where the place is a slot, and is the place of nothing live
    abbrev pub Needs : Opnd → Place → Type 0
    Needs z (In y) = Unit {0}
    Needs z (At k) = IsPlain z × AllClear z

    abbrev pub NeedsFor : Opnd → Option Opnd → Type 0
    NeedsFor z None = Unit {0}
    NeedsFor z (Some x) = Needs z (place x)

    -- the three scratch operands of an instruction: for what it defines, and for what it names
    -- first and second
    pub record Scratch (q : InstructionShape) (z0 z1 z2 : Opnd) : Type 0 where
      pub to : NeedsFor z0 (to_of q)
      pub first : NeedsFor z1 (first_of q)
      pub second : NeedsFor z2 (second_of q)
      pub apart :
          (x : Opnd) (k : ℕ) →
          first_of q ≡ Some x →
          place x ≡ At k →
          is_same z1 z2 ≡ false

    -- the block in the place of an instruction
    pub data IsBlock (one : Instr) : List Instr → Type 0 where
      around :
          (z0 z1 z2 : Opnd) →
          Scratch (shape one) z0 z1 z2 →
          (core : Instr) →
          shape core ≡
          reshaped (shape one) (through_for z0 (to_of (shape one)))
          (through_for z1 (first_of (shape one))) (through_for z2 (second_of (shape one))) →
          IsBlock one
          (fetched_for z1 (first_of (shape one)) ++ (fetched_for z2 (second_of (shape one)) ++
          (core ∷ kept_for z0 (to_of (shape one)))))
      falls_away :
          (to from : Opnd) →
          shape one ≡ Copy to from →
          place to ≡ place from →
          IsBlock one []
      load :
          (to from y : Opnd) (k : ℕ) →
          shape one ≡ Copy to from →
          place to ≡ In y →
          place from ≡ At k →
          IsBlock one (FrameLoad y k ∷ [])
      store :
          (to from y : Opnd) (k : ℕ) →
          shape one ≡ Copy to from →
          place to ≡ At k →
          place from ≡ In y →
          IsBlock one (FrameStore y k ∷ [])
      both :
          (to from z : Opnd) (j k : ℕ) →
          shape one ≡ Copy to from →
          IsPlain z →
          AllClear z →
          place to ≡ At k →
          place from ≡ At j →
          IsBlock one (FrameLoad z j ∷ FrameStore z k ∷ [])

  -- a block for each instruction, by what is live before each suffix of the code
  module _ (Live : List Instr → Opnd → Type 0) where
    pub data Stands : List Instr → Blocks → Type 0 where
      nothing : Stands [] []
      a_block :
          (one : Instr) (block rest : List Instr) (blocks : Blocks) →
          IsBlock (Live (one ∷ rest)) one block →
          Stands rest blocks →
          Stands (one ∷ rest) (block ∷ blocks)
