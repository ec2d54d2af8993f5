-- Small codes, and what is known in them.
use Rattle.std.proofs.Common.{ℕ, ◌≡◌, List, [], ◌∷◌, refl}
use Rattle.tg_tree.specs.declared.operators.Rel.TheVariants.{Equal, NotEqual}
use Rattle.tg_instr.specs.declared.operands.Opnd.TheVariants.{Reg}
use Rattle.tg_instr.specs.declared.instr.Instr.{Instr}
use Rattle.tg_instr.specs.declared.instr.Instr.TheVariants.{Addu, Addiu, Sll, Sltu, Lw, Sw, Move, FrameLoad, FrameStore}
use Rattle.tg_instr.specs.declared.instr.Instr.TheVariants.{Mark, Jump, Branch, Call, Fault, Return}
use Rattle.tg_redundancy.specs.mirror.Readings.{temp}
use Rattle.tg_redundancy.specs.mirror.Known.{known_code}

abbrev unless_zero : ℕ → ℕ → Instr
unless_zero t m = Branch (record { rel = NotEqual; left = temp t; right = Reg 0; is_one_row = refl }) m

abbrev if_zero : ℕ → ℕ → Instr
if_zero t m = Branch (record { rel = Equal; left = temp t; right = Reg 0; is_one_row = refl }) m

abbrev call : Instr
call = Call (record { 0 = 33 })

-- a repeated load, through a copy of its base
repeated_load :
    known_code (Lw (temp 1) 4 (temp 0) ∷ Move (temp 2) (temp 0) ∷ Lw (temp 3) 4 (temp 2) ∷ Return ∷ [])
    ≡ Lw (temp 1) 4 (temp 0) ∷ Move (temp 2) (temp 0) ∷ Move (temp 3) (temp 1) ∷ Return ∷ []
repeated_load = refl

-- an element twice: its array, the length, the test and the address are known the second time
abbrev element : (array length below scaled address word : ℕ) → List Instr → List Instr
element a l b s d w rest =
    FrameLoad (temp a) 0 ∷ Lw (temp l) 0 (temp a) ∷ Sltu (temp b) (temp 0) (temp l) ∷ if_zero b 9 ∷
    Sll (temp s) (temp 0) 2 ∷ Addu (temp d) (temp a) (temp s) ∷ Lw (temp w) 4 (temp d) ∷ rest

element_twice :
    known_code (element 1 2 3 4 5 6 (element 11 12 13 14 15 16 (Return ∷ Mark 9 ∷ Fault 1 ∷ [])))
    ≡ element 1 2 3 4 5 6 (Move (temp 11) (temp 1) ∷ Move (temp 12) (temp 2) ∷ Move (temp 13) (temp 3) ∷
    Move (temp 14) (temp 4) ∷ Move (temp 15) (temp 5) ∷ Move (temp 16) (temp 6) ∷ Return ∷ Mark 9 ∷ Fault 1 ∷ [])
element_twice = refl

-- a store forgets what was loaded, and not what was reckoned
behind_store :
    known_code (Addiu (temp 1) (temp 0) 8 ∷ Lw (temp 2) 4 (temp 0) ∷ Sw (temp 9) 8 (temp 0) ∷ Lw (temp 3) 4 (temp 0) ∷
    Addiu (temp 4) (temp 0) 8 ∷ Return ∷ [])
    ≡ Addiu (temp 1) (temp 0) 8 ∷ Lw (temp 2) 4 (temp 0) ∷ Sw (temp 9) 8 (temp 0) ∷ Lw (temp 3) 4 (temp 0) ∷
    Move (temp 4) (temp 1) ∷ Return ∷ []
behind_store = refl

-- what is stored to a slot is known there
behind_slot :
    known_code (FrameStore (temp 1) 0 ∷ FrameLoad (temp 2) 0 ∷ Return ∷ [])
    ≡ FrameStore (temp 1) 0 ∷ Move (temp 2) (temp 1) ∷ Return ∷ []
behind_slot = refl

-- a call forgets all
behind_call :
    known_code (Lw (temp 1) 4 (temp 0) ∷ call ∷ Lw (temp 2) 4 (temp 0) ∷ Return ∷ [])
    ≡ Lw (temp 1) 4 (temp 0) ∷ call ∷ Lw (temp 2) 4 (temp 0) ∷ Return ∷ []
behind_call = refl

-- a mark with one way, by a branch, has what was known there
one_way :
    known_code (Lw (temp 1) 4 (temp 0) ∷ unless_zero 0 5 ∷ Fault 1 ∷ Mark 5 ∷ Lw (temp 2) 4 (temp 0) ∷ unless_zero 0 6 ∷
    Fault 2 ∷ Mark 6 ∷ Return ∷ [])
    ≡ Lw (temp 1) 4 (temp 0) ∷ unless_zero 0 5 ∷ Fault 1 ∷ Mark 5 ∷ Move (temp 2) (temp 1) ∷ Jump 6 ∷
    Fault 2 ∷ Mark 6 ∷ Return ∷ []
one_way = refl

-- with two ways in it has nothing: from in front and by a branch, and from behind
two_ways :
    known_code (Lw (temp 1) 4 (temp 0) ∷ unless_zero 3 5 ∷ Addiu (temp 4) (temp 4) 1 ∷ Mark 5 ∷ Lw (temp 2) 4 (temp 0) ∷
    Return ∷ [])
    ≡ Lw (temp 1) 4 (temp 0) ∷ unless_zero 3 5 ∷ Addiu (temp 4) (temp 4) 1 ∷ Mark 5 ∷ Lw (temp 2) 4 (temp 0) ∷ Return ∷ []
two_ways = refl

from_behind :
    known_code (Lw (temp 1) 4 (temp 0) ∷ Mark 5 ∷ Lw (temp 2) 4 (temp 0) ∷ Addiu (temp 0) (temp 0) 4 ∷ unless_zero 3 5 ∷
    Return ∷ [])
    ≡ Lw (temp 1) 4 (temp 0) ∷ Mark 5 ∷ Lw (temp 2) 4 (temp 0) ∷ Addiu (temp 0) (temp 0) 4 ∷ unless_zero 3 5 ∷ Return ∷ []
from_behind = refl

-- a temporary that is changed is known no more
changed :
    known_code (Addu (temp 1) (temp 0) (temp 2) ∷ Addiu (temp 2) (temp 2) 1 ∷ Addu (temp 3) (temp 0) (temp 2) ∷ Return ∷ [])
    ≡ Addu (temp 1) (temp 0) (temp 2) ∷ Addiu (temp 2) (temp 2) 1 ∷ Addu (temp 3) (temp 0) (temp 2) ∷ Return ∷ []
changed = refl
