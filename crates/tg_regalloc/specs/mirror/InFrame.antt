-- Code whose temporaries stand in slots of the frame, each in one of its own: what an instruction
-- uses is loaded before it, and what it defines is stored after it (Appel, chapter 11).
use Rattle.std.specs.Prelude.{ℕ, zero, suc, ◌+◌, ◌*◌, ◌≤◌, length, List, [], ◌∷◌, ◌++◌, Option}
use Rattle.std.specs.Prelude.{Some, None}
use Rattle.tg_instr.specs.declared.operands.Opnd.{Opnd}
use Rattle.tg_instr.specs.declared.operands.Opnd.TheVariants.{Temp, Reg}
use Rattle.tg_instr.specs.declared.instr.Instr.{Instr}
use Rattle.tg_instr.specs.declared.instr.Instr.TheVariants.{Move, FrameLoad, FrameStore}
use Rattle.tg_instr.specs.declared.renaming.Named.{Named}
use Rattle.tg_instr.specs.Lengths.{words}
use Rattle.tg_instr.specs.Renaming.{named, renamed}
use Rattle.tg_regalloc.specs.declared.allocations.Location.{Location}
use Rattle.tg_regalloc.specs.declared.allocations.Location.TheVariants.{Slot}

-- a register stays; a temporary goes through this one
abbrev pub through : ℕ → Opnd → Opnd
through r (Temp t) = Reg r
through r (Reg q) = Reg q

abbrev pub through_named : ℕ → Option Opnd → Opnd
through_named r (Some x) = through r x
through_named r None = Reg r

-- slot `base + t` is the temporary's
abbrev pub loaded : (base register : ℕ) → Option Opnd → List Instr
loaded base r (Some (Temp t)) = FrameLoad (Reg r) (base + t.0) ∷ []
loaded base r (Some (Reg q)) = []
loaded base r None = []

abbrev pub stored : (base register : ℕ) → Option Opnd → List Instr
stored base r (Some (Temp t)) = FrameStore (Reg r) (base + t.0) ∷ []
stored base r (Some (Reg q)) = []
stored base r None = []

-- $t0 has the first operand and what is defined, $t1 the second
abbrev pub through_slots : (base : ℕ) → Instr → Named → List Instr
through_slots base one n =
    loaded base 8 n.first ++ (loaded base 9 n.second
    ++ (renamed one (through_named 8 n.to) (through_named 8 n.first) (through_named 9 n.second)
    ∷ stored base 8 n.to))

-- a move between a slot and a register is a load or a store; one between two slots goes through $t0
abbrev pub moved : (base : ℕ) → (to from : Opnd) → List Instr
moved base (Temp t) (Temp s) = FrameLoad (Reg 8) (base + s.0) ∷ FrameStore (Reg 8) (base + t.0) ∷ []
moved base (Temp t) (Reg q) = FrameStore (Reg q) (base + t.0) ∷ []
moved base (Reg r) (Temp s) = FrameLoad (Reg r) (base + s.0) ∷ []
moved base (Reg r) (Reg q) = Move (Reg r) (Reg q) ∷ []

abbrev pub instruction_in_frame : (base : ℕ) → Instr → List Instr
instruction_in_frame base (Move to from) = moved base to from
instruction_in_frame base one = through_slots base one (named one)

abbrev pub code_in_frame : (base : ℕ) → List Instr → List Instr
code_in_frame base [] = []
code_in_frame base (one ∷ rest) = instruction_in_frame base one ++ code_in_frame base rest

-- the location of each temporary from a number on
abbrev pub locations_from : (base : ℕ) → (count : ℕ) → List Location
locations_from base zero = []
locations_from base (suc n) = locations_from base n ++ Slot (base + n) ∷ []

-- the code is at most four instructions for each, and at most ten words of code
abbrev pub StaysShort : Type 0
StaysShort =
    (base : ℕ) (list : List Instr) →
    (length (code_in_frame base list) ≤ 4 * length list)
    × (words (code_in_frame base list) ≤ 10 * length list)
