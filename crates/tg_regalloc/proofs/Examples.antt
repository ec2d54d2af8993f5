-- A code with its temporaries in the frame, computed.
use Rattle.std.proofs.Common.{ℕ, ◌≡◌, [], ◌∷◌, refl}
use Rattle.tg_tree.specs.declared.operators.Rel.TheVariants.{Equal, Less}
use Rattle.tg_instr.specs.declared.operands.Opnd.{Opnd}
use Rattle.tg_instr.specs.declared.operands.Opnd.TheVariants.{Temp, Reg}
use Rattle.tg_instr.specs.declared.instr.Instr.TheVariants.{Add, Addi, Sw, Move, FrameLoad, FrameStore, Branch, Call, Return}
use Rattle.tg_regalloc.specs.declared.allocations.Location.TheVariants.{Slot}
use Rattle.tg_regalloc.specs.mirror.InFrame.{code_in_frame, locations_from}

abbrev t : ℕ → Opnd
t n = Temp (record { 0 = n })

-- above two slots that the frame has
operands : code_in_frame 2 (Add (t 0) (t 1) (t 2) ∷ Addi (t 3) (Reg 2) 1 ∷ Sw (t 1) 4 (Reg 29) ∷ []) ≡ FrameLoad (Reg 8) 3 ∷
    FrameLoad (Reg 9) 4 ∷ Add (Reg 8) (Reg 8) (Reg 9) ∷ FrameStore (Reg 8) 2 ∷ Addi (Reg 8) (Reg 2) 1 ∷ FrameStore (Reg 8) 5 ∷
    FrameLoad (Reg 8) 3 ∷ Sw (Reg 8) 4 (Reg 29) ∷ []
operands = refl

moves : code_in_frame 0 (Move (t 0) (Reg 4) ∷ Move (t 1) (t 0) ∷ Move (Reg 2) (t 1) ∷ Move (Reg 4) (Reg 2) ∷ Call (record { 0 = 33 }) ∷ Return ∷ []) ≡
    FrameStore (Reg 4) 0 ∷ FrameLoad (Reg 8) 0 ∷ FrameStore (Reg 8) 1 ∷ FrameLoad (Reg 2) 1 ∷ Move (Reg 4) (Reg 2) ∷ Call (record { 0 = 33 }) ∷ Return ∷ []
moves = refl

-- a test against $zero stays one
test_of_zero : code_in_frame 0 (Branch (record { rel = Less; left = t 0; right = Reg 0; is_one_row = refl }) 7 ∷
    Branch (record { rel = Equal; left = t 0; right = t 1; is_one_row = refl }) 8 ∷ []) ≡ FrameLoad (Reg 8) 0 ∷
    Branch (record { rel = Less; left = Reg 8; right = Reg 0; is_one_row = refl }) 7 ∷ FrameLoad (Reg 8) 0 ∷ FrameLoad (Reg 9) 1 ∷
    Branch (record { rel = Equal; left = Reg 8; right = Reg 9; is_one_row = refl }) 8 ∷ []
test_of_zero = refl

locations : locations_from 2 3 ≡ Slot 2 ∷ Slot 3 ∷ Slot 4 ∷ []
locations = refl
