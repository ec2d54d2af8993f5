-- The code after the last round (George and Appel 1996, section 4): each temporary is the register
-- that its colour names, and moves from a register to itself fall away.
use Rattle.std.specs.Prelude.{ℕ, ◌+◌, ◌==◌, Bool, false, not, Option, Some, None, List}
use Rattle.std.specs.Prelude.{filter, map}
use Rattle.std.specs.Prelude.{slice_index_or}
use Rattle.tg_instr.specs.declared.operands.Opnd.{Opnd}
use Rattle.tg_instr.specs.declared.operands.Opnd.TheVariants.{Temp, Reg}
use Rattle.tg_instr.specs.declared.instr.Instr.{Instr}
use Rattle.tg_instr.specs.declared.instr.Instr.TheVariants.{Move}
use Rattle.tg_instr.specs.Renaming.{named, renamed}
use Rattle.tg_live.specs.Interference.{colours}
use Rattle.tg_irc_definition.specs.declared.rounds.Round.{Round}

-- the colour of a temporary; where nothing is spilled, each has one
abbrev pub colour_or_first : Option ℕ → ℕ
colour_or_first None = 0
colour_or_first (Some c) = c

abbrev pub colour_of : Round → (temp : ℕ) → ℕ
colour_of round t = colour_or_first (slice_index_or round.colours (25 + t) None)

-- by a list of the colours of temporaries
abbrev pub colour_in : List (Option ℕ) → (temp : ℕ) → ℕ
colour_in colours t = colour_or_first (slice_index_or colours t None)

-- the register of a colour
abbrev pub register_of : (colour : ℕ) → ℕ
register_of c = slice_index_or colours c 0

-- a move from a register to itself
abbrev pub is_idle : Instr → Bool
is_idle (Move (Reg r) (Reg q)) = r == q
is_idle _ = false

-- The colour of each temporary.
module _ (colour : ℕ → ℕ) where
  abbrev pub painted : Opnd → Opnd
  painted (Temp t) = Reg (register_of (colour t.0))
  painted (Reg r) = Reg r

  abbrev pub painted_named : Option Opnd → Opnd
  painted_named (Some x) = painted x
  painted_named None = Reg 0

  abbrev pub instruction_painted : Instr → Instr
  instruction_painted one =
      renamed one (painted_named (named one).to) (painted_named (named one).first)
      (painted_named (named one).second)

  abbrev pub code_painted : List Instr → List Instr
  code_painted list = filter (λ one. not (is_idle one)) (map instruction_painted list)
