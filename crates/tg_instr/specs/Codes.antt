-- What the code of a function keeps: its marks, its end, its temporaries, registers and slots.
use Rattle.std.specs.Prelude.{ℕ, ◌&&◌, ◌||◌, ◌==◌, nat_lt, nat_le, Bool, true, false, not}
use Rattle.std.specs.Prelude.{List, [], ◌∷◌, ◌++◌, Option, Some, None}
use Rattle.std.specs.List.{list_any, list_all}
use Rattle.tg_instr.specs.declared.operands.Opnd.{Opnd}
use Rattle.tg_instr.specs.declared.operands.Opnd.TheVariants.{Temp, Reg}
use Rattle.tg_instr.specs.declared.instr.Instr.{Instr}
use Rattle.tg_instr.specs.declared.instr.Instr.TheVariants.{Mark, Jump, Branch, Fault, Return}
use Rattle.tg_instr.specs.declared.instr.Instr.TheVariants.{FrameLoad, FrameStore}
use Rattle.tg_instr.specs.Renaming.{named}
use Rattle.tg_instr.specs.Uses.{uses_of, defs_of}

abbrev pub is_mark : ℕ → Instr → Bool
is_mark m (Mark n) = m == n
is_mark m _ = false

abbrev pub marks_differ : List Instr → Bool
marks_differ [] = true
marks_differ (Mark m ∷ rest) = not (list_any (is_mark m) rest) && marks_differ rest
marks_differ (_ ∷ rest) = marks_differ rest

-- where a jump or a branch leads, there is a mark
abbrev pub leads_to_marks : List Instr → Instr → Bool
leads_to_marks all (Jump m) = list_any (is_mark m) all
leads_to_marks all (Branch test m) = list_any (is_mark m) all
leads_to_marks all _ = true

abbrev pub is_end : Instr → Bool
is_end (Jump m) = true
is_end (Fault n) = true
is_end Return = true
is_end _ = false

-- the last instruction goes on nowhere after it
abbrev pub ends_well : List Instr → Bool
ends_well [] = false
ends_well (one ∷ []) = is_end one
ends_well (one ∷ two ∷ rest) = ends_well (two ∷ rest)

abbrev pub is_below : ℕ → Opnd → Bool
is_below n (Temp t) = nat_lt t.0 n
is_below n (Reg r) = true

abbrev pub is_register : Opnd → Bool
is_register (Temp t) = false
is_register (Reg r) = true

abbrev pub has_temps_below : ℕ → Instr → Bool
has_temps_below n one = list_all (is_below n) (uses_of one) && list_all (is_below n) (defs_of one)

abbrev pub has_registers_alone : Instr → Bool
has_registers_alone one = list_all is_register (uses_of one) && list_all is_register (defs_of one)

abbrev pub has_slots_below : ℕ → Instr → Bool
has_slots_below n (FrameLoad _ slot) = nat_lt slot n
has_slots_below n (FrameStore _ slot) = nat_lt slot n
has_slots_below n _ = true

-- Which registers code may name.

-- the colours: $v0, $v1, $a0 to $a3, $t0 to $t9, $s0 to $s7 and $ra
abbrev pub is_colour : ℕ → Bool
is_colour r = nat_le 2 r && nat_lt r 26 || r == 31

-- $zero, $sp and the colours: the registers that allocated code names
abbrev pub is_allocated : ℕ → Bool
is_allocated r = r == 0 || (r == 29 || is_colour r)

-- a register passes a test, and temporaries pass besides
abbrev pub has_register : (ℕ → Bool) → Option Opnd → Bool
has_register allowed (Some (Reg r)) = allowed r
has_register allowed (Some (Temp t)) = true
has_register allowed None = true

-- the registers that the instruction's text names pass a test
abbrev pub names_registers : (ℕ → Bool) → Instr → Bool
names_registers allowed one =
    has_register allowed (named one).to
    && (has_register allowed (named one).first && has_register allowed (named one).second)

-- a register passes a test, and temporaries don't
abbrev pub is_register_of : (ℕ → Bool) → Opnd → Bool
is_register_of allowed (Reg r) = allowed r
is_register_of allowed (Temp t) = false

-- all that it uses or defines is $zero, $sp or a colour, and no temporary
abbrev pub is_of_colours : Instr → Bool
is_of_colours one = list_all (is_register_of is_allocated) (uses_of one ++ defs_of one)
