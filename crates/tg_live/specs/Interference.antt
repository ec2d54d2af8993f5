-- Which operands may not stand in one register (Appel, chapter 11): a definition interferes with
-- each other operand that is live out of its instruction, but for a move's with what it moves.
use Rattle.std.specs.Prelude.{◌⊎◌, ℕ, Bool, true, false, not, nat_eq, ◌&&◌, List, [], ◌∷◌, Option}
use Rattle.std.specs.Prelude.{Some, None, IsTrue, slice_get}
use Rattle.std.specs.List.{list_any}
use Rattle.tg_instr.specs.declared.instr.Instr.{Instr}
use Rattle.tg_instr.specs.declared.operands.Opnd.{Opnd}
use Rattle.tg_instr.specs.declared.operands.Opnd.TheVariants.{Temp as TempOf, Reg}
use Rattle.tg_instr.specs.Operands.{is_same}
use Rattle.tg_instr.specs.Shapes.{InstructionShape, Copy, shape}
use Rattle.tg_instr.specs.Uses.{defs}
use Rattle.tg_live.specs.Live.{is_among, IsLiveOut}

-- $v0, $v1, $a0 to $a3, $t0 to $t9, $s0 to $s7 and $ra
abbrev pub colours : List ℕ
colours =
    2 ∷ 3 ∷ 4 ∷ 5 ∷ 6 ∷ 7 ∷ 8 ∷ 9 ∷ 10 ∷ 11 ∷ 12 ∷ 13 ∷ 14 ∷ 15 ∷ 24 ∷ 25 ∷
    16 ∷ 17 ∷ 18 ∷ 19 ∷ 20 ∷ 21 ∷ 22 ∷ 23 ∷ 31 ∷ []

abbrev pub is_colour : Opnd → Bool
is_colour (Reg r) = list_any (nat_eq r) colours
is_colour (TempOf t) = false

-- no other register interferes with anything
abbrev pub is_node : Opnd → Bool
is_node (Reg r) = is_colour (Reg r)
is_node (TempOf t) = true

abbrev pub moves : InstructionShape → (to from : Opnd) → Bool
moves (Copy to from) d x = is_same d to && is_same x from
moves _ d x = false

-- an instruction of this shape defines the one, and would have the other in its way
abbrev pub defines_beside : InstructionShape → (d x : Opnd) → Bool
defines_beside one d x = is_among d (defs one) && (not (is_same d x) && not (moves one d x))

abbrev pub defines_beside_at : Option Instr → (d x : Opnd) → Bool
defines_beside_at None d x = false
defines_beside_at (Some one) d x = defines_beside (shape one) d x

pub record IsDefinedBeside (all : List Instr) (d x : Opnd) : Type 0 where
  pub at : ℕ
  pub defines : IsTrue (defines_beside_at (slice_get all at) d x)
  pub live : IsLiveOut all at x

abbrev pub are_two_colours : (x y : Opnd) → Bool
are_two_colours x y = is_colour x && (is_colour y && not (is_same x y))

-- all colours interfere with each other
pub record Interferes (all : List Instr) (x y : Opnd) : Type 0 where
  pub left : IsTrue (is_node x)
  pub right : IsTrue (is_node y)
  pub cause : IsTrue (are_two_colours x y) ⊎ (IsDefinedBeside all x y ⊎ IsDefinedBeside all y x)
