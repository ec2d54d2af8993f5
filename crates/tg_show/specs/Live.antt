-- The lines of liveness (Appel, chapter 10): each instruction with what is live out of it, and each
-- call with how many registers and temporaries live across it.
use Rattle.std.specs.Prelude.{ℕ, suc, ◌==◌, nat_lt, Bool, true, false, if◌then◌else◌}
use Rattle.std.specs.Prelude.{List, [], ◌∷◌, ◌++◌, length, codes}
use Rattle.std.specs.Fmt.{decimal}
use Rattle.tg_instr.specs.declared.operands.Opnd.{Opnd}
use Rattle.tg_instr.specs.declared.instr.Instr.{Instr}
use Rattle.tg_instr.specs.declared.instr.Instr.TheVariants.{Mark, Call}
use Rattle.tg_instr.specs.Uses.{defs_of}
use Rattle.tg_live.specs.Live.{Sets, number_of, set_at}
use Rattle.tg_show.specs.Layout.{blanks}
use Rattle.tg_show.specs.Runs.{operand_text}
use Rattle.tg_show.specs.Instructions.{told, instruction_margin, instruction_text}

-- Sets of operands are rising lists. Such a list without those at its front that are below one:
abbrev pub not_below : Opnd → List Opnd → List Opnd
not_below x [] = []
not_below x (y ∷ ys) = if nat_lt (number_of y) (number_of x) then not_below x ys else y ∷ ys

abbrev pub begins_with : Opnd → List Opnd → Bool
begins_with x [] = false
begins_with x (y ∷ ys) = number_of x == number_of y

-- what a set has that another hasn't
abbrev pub beyond : List Opnd → (other : List Opnd) → List Opnd
beyond [] other = []
beyond (x ∷ rest) other =
    (if begins_with x (not_below x other) then [] else x ∷ []) ++ beyond rest (not_below x other)

-- what a call defines doesn't live across it
abbrev pub across : Instr → (live : List Opnd) → List Opnd
across (Call label) live = beyond live (defs_of (Call label))
across _ live = []

-- how many live across a call: what is live out of it, but for what it defines
abbrev pub crossing : (count : ℕ) → List ℕ
crossing n = if n == 0 then [] else codes "  # crosses " ++ decimal n

-- whether an instruction is a label, or nothing was live before it, as in front of the first
abbrev pub is_fresh : (before : List Opnd) → Instr → Bool
is_fresh before (Mark m) = true
is_fresh before _ = length before == 0

-- the most members that a set has that is told by them
abbrev pub most_told : (before : List Opnd) → Instr → ℕ
most_told before one = if is_fresh before one then 24 else 12

module _ (names : List (List ℕ)) where
  abbrev pub signed : (sign : List ℕ) → List Opnd → List ℕ
  signed sign [] = []
  signed sign (x ∷ rest) = sign ++ (operand_text names x ++ signed sign rest)

  -- how many are live, what came since the instruction before, and what went
  abbrev pub changes_text : (before now : List Opnd) → List ℕ
  changes_text before now =
      codes "  # live " ++ (decimal (length now) ++
      (signed (codes " +") (beyond now before) ++ signed (codes " -") (beyond before now)))

  -- A larger set is told by its changes: so the text doesn't grow with the product of a code's
  -- length and of what is live.
  abbrev pub live_text : (before now : List Opnd) → Instr → List ℕ
  live_text before now one =
      if nat_lt (most_told before one) (length now) then changes_text before now
      else told names (codes "  # live") now

  abbrev pub live_line : (before now : List Opnd) → Instr → List ℕ
  live_line before now one =
      blanks (instruction_margin one) ++ (instruction_text names one ++
      (live_text before now one ++ (crossing (length (across one now)) ++ 10 ∷ [])))

  -- of the instructions from a place on
  abbrev pub live_lines : Sets → (before : List Opnd) → (at : ℕ) → List Instr → List ℕ
  live_lines sets before at [] = []
  live_lines sets before at (one ∷ rest) =
      live_line before (set_at sets at) one ++ live_lines sets (set_at sets at) (suc at) rest
