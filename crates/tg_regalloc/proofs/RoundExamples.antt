-- Code after rounds, computed.
use Rattle.std.proofs.Common.{ℕ, ◌≡◌, List, [], ◌∷◌, ◌++◌, Option, Some, None, refl}
use Rattle.std.specs.List.{range_with_len}
use Rattle.tg_instr.specs.declared.operands.Opnd.{Opnd}
use Rattle.tg_instr.specs.declared.operands.Opnd.TheVariants.{Temp, Reg}
use Rattle.tg_instr.specs.declared.instr.Instr.TheVariants.{Add, Move, FrameLoad, FrameStore}
use Rattle.tg_irc_definition.specs.declared.rounds.Round.{Round}
use Rattle.tg_regalloc.specs.Rewriting.{slotted, slot_after, slot_in, code_rewritten, temps_after}
use Rattle.tg_regalloc.specs.Painting.{code_painted, colour_in}

abbrev t : ℕ → Opnd
t n = Temp (record { 0 = n })

abbrev all_spilled : List (Option ℕ)
all_spilled = Some 5 ∷ Some 6 ∷ Some 7 ∷ []

-- an addition whose operands all have slots
operands : code_rewritten (slot_in all_spilled) (Add (t 0) (t 1) (t 2) ∷ []) 3 ≡ FrameLoad (t 4) 6 ∷ FrameLoad (t 5) 7 ∷
    Add (t 3) (t 4) (t 5) ∷ FrameStore (t 3) 5 ∷ []
operands = refl

three_made : temps_after (slot_in all_spilled) (Add (t 0) (t 1) (t 2) ∷ []) 3 ≡ 6
three_made = refl

-- a move whose ends both have slots
move_in_slots : code_rewritten (slot_in all_spilled) (Move (t 0) (t 1) ∷ Move (t 3) (t 2) ∷ []) 4 ≡ FrameLoad (t 5) 6 ∷
    Move (t 4) (t 5) ∷ FrameStore (t 4) 5 ∷ FrameLoad (t 6) 7 ∷ Move (t 3) (t 6) ∷ []
move_in_slots = refl

-- a move between equal registers falls away
idle_moves : code_painted (colour_in (Some 0 ∷ Some 0 ∷ Some 24 ∷ [])) (Move (t 0) (t 1) ∷ Move (t 2) (t 0) ∷ Move (t 1) (Reg 2) ∷ []) ≡
    Move (Reg 31) (Reg 2) ∷ []
idle_moves = refl

-- two classes, of which one is of made temporaries alone
abbrev two_classes : Round
two_classes = record {
  moves = [];
  steps = [];
  states = [];
  aliases = range_with_len 0 25 ++ 26 ∷ 26 ∷ 27 ∷ [];
  colours = [];
  spilled = 27 ∷ 26 ∷ [];
}

original_alone : slotted 2 two_classes ≡ 26 ∷ []
original_alone = refl

slots_of_members : slot_after 2 9 two_classes 0 ∷ slot_after 2 9 two_classes 1 ∷ slot_after 2 9 two_classes 2 ∷ [] ≡ Some 9 ∷ Some 9 ∷ None ∷ []
slots_of_members = refl
