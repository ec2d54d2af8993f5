-- What the type of an allocated function keeps, and the condition of `emit`, say of each instruction.
use Rattle.std.proofs.Common.{ℕ, ap, ◌≡◌, ◌≤◌, ◌*◌, List, [], ◌∷◌, Bool, refl, arith}
use Rattle.std.specs.Prelude.{IsTrue}
use Rattle.std.specs.List.{list_all}
use Rattle.std.proofs.lemmas.Bool.Decides.{nat_tests}
use Rattle.tg_frame.specs.declared.frames.Frame.{Frame}
use Rattle.tg_instr.specs.declared.instr.Instr.{Instr}
use Rattle.tg_instr.specs.declared.instr.Instr.TheVariants.{FrameLoad, FrameStore, FrameAddress, Address, Mark, Jump, Branch, Call, Fault, Return}
use Rattle.tg_instr.specs.Codes.{has_slots_below}
use Rattle.tg_instr.proofs.Tests.{left_holds, right_holds, both_hold}
use Rattle.tg_emit.specs.Conditions.{fits_frame}
use Rattle.std.specs.Prelude.{Some, Result, Ok, Err, OnOk}
use Rattle.tg_isa.specs.declared.mips.Mips.{Mips}
use Rattle.tg_emit.specs.Ranges.{NumbersFit}
use Rattle.tg_emit.specs.mirror.Lines.{size_of, alone, row_lines, instruction_lines}
use Rattle.tg_emit.specs.mirror.Rows.{row_of}

fits_one : (slots size : ℕ) → 4 * slots ≤ size → (one : Instr) → IsTrue (has_slots_below slots one) → IsTrue (fits_frame size one)
fits_one slots size h (FrameLoad to k) below = grind (arith, nat_tests)
fits_one slots size h (FrameStore from k) below = grind (arith, nat_tests)
fits_one slots size h _ below = refl

all_fit : (slots size : ℕ) → 4 * slots ≤ size → (list : List Instr) → IsTrue (list_all (has_slots_below slots) list) → IsTrue (list_all (fits_frame size) list)
all_fit slots size h [] below = refl
all_fit slots size h (one ∷ rest) below =
    both_hold _ _ (fits_one slots size h one (left_holds _ _ below)) (all_fit slots size h rest (right_holds (has_slots_below slots one) _ below))

pub slots_fit : (frame : Frame) (list : List Instr) → IsTrue (list_all (has_slots_below frame.slots) list) → IsTrue (list_all (fits_frame (size_of frame)) list)
slots_fit frame list below = all_fit frame.slots (size_of frame) (omega arith) list below

-- an instruction that is a row has no other numbers, and is that row alone
pub numbers_of_row : (one : Instr) (found : Mips) → row_of one ≡ Some found → NumbersFit one
numbers_of_row (FrameLoad to k) found h = cc
numbers_of_row (FrameStore from k) found h = cc
numbers_of_row (FrameAddress to) found h = cc
numbers_of_row (Address to literal) found h = cc
numbers_of_row (Mark m) found h = cc
numbers_of_row (Jump m) found h = cc
numbers_of_row (Branch test m) found h = cc
numbers_of_row (Call callee) found h = cc
numbers_of_row _ found h = tt

pub lines_of_row : (turned : Bool) (label size place : ℕ) (one : Instr) (found : Mips) → row_of one ≡ Some found →
    instruction_lines turned label size place one ≡ alone found ∷ []
lines_of_row turned label size place (FrameLoad to k) found h = cc
lines_of_row turned label size place (FrameStore from k) found h = cc
lines_of_row turned label size place (FrameAddress to) found h = cc
lines_of_row turned label size place (Address to literal) found h = cc
lines_of_row turned label size place (Mark m) found h = cc
lines_of_row turned label size place (Jump m) found h = cc
lines_of_row turned label size place (Branch test m) found h = cc
lines_of_row turned label size place (Call callee) found h = cc
lines_of_row turned label size place (Fault n) found h = cc
lines_of_row turned label size place Return found h = cc
lines_of_row turned label size place _ found h = ap row_lines h

-- what holds anyway
pub on_ok : {X E : Type 0} (r : Result X E) (P : Type 0) → P → OnOk r P
on_ok (Ok x) P p = p
on_ok (Err e) P p = tt
