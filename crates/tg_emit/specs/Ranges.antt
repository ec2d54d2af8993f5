-- What the types of functions and literals say of their numbers: each fits the bits that hold it.
use Rattle.std.specs.Prelude.{◌<◌, ◌^◌, length, All, IfSome}
use Rattle.tg_isa.specs.Rows.{IsRow}
use Rattle.tg_tree.specs.declared.fragments.Literal.{Literal}
use Rattle.tg_instr.specs.declared.instr.Instr.{Instr}
use Rattle.tg_instr.specs.declared.instr.Instr.TheVariants.{FrameLoad, FrameStore, FrameAddress}
use Rattle.tg_instr.specs.declared.instr.Instr.TheVariants.{Address, Mark, Jump, Branch, Call}
use Rattle.tg_instr.specs.declared.codes.Allocated.{Allocated}
use Rattle.tg_emit.specs.mirror.Rows.{register_of, row_of}

-- the fields of an instruction that is a row
abbrev pub RowFits : Instr → Type 0
RowFits one = IfSome (row_of one) IsRow

-- the registers, marks and labels of an instruction that is none
abbrev pub NumbersFit : Instr → Type 0
NumbersFit (FrameLoad to slot) = register_of to < 32
NumbersFit (FrameStore from slot) = register_of from < 32
NumbersFit (FrameAddress to) = register_of to < 32
NumbersFit (Address to literal) = (register_of to < 32) × (literal.0 < 2 ^ 32)
NumbersFit (Mark m) = m < 2 ^ 32
NumbersFit (Jump m) = m < 2 ^ 32
NumbersFit (Branch test m) =
    (register_of test.left < 32) × (register_of test.right < 32) × (m < 2 ^ 32)
NumbersFit (Call callee) = callee.0 < 2 ^ 32
NumbersFit one = Unit {0}

pub record InstructionFits (one : Instr) : Type 0 where
  pub row : RowFits one
  pub numbers : NumbersFit one

pub record FunctionFits (f : Allocated) : Type 0 where
  pub label : f.frame.label.0 < 2 ^ 32
  pub code : All InstructionFits f.code.list
  pub length : length f.code.list < 2 ^ 64

pub record LiteralFits (l : Literal) : Type 0 where
  pub label : l.label.0 < 2 ^ 32
  pub text : All (λ c. c < 2 ^ 8) l.text
