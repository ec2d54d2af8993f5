-- The lines that stand for the functions and the literals of a program.
use Rattle.std.specs.Prelude.{ℕ, ◌+◌, ◌-◌, ◌*◌, ◌/◌, ◌%◌, List, [], ◌∷◌, ◌++◌, Bool, true, false}
use Rattle.std.specs.Prelude.{Option, Some, None, max, nat_lt, nat_le, if◌then◌else◌}
use Rattle.tg_machine_state.specs.State.{padded}
use Rattle.tg_isa.specs.declared.mips.Mips.{Mips}
use Rattle.tg_isa.specs.declared.mips.Mips.TheVariants.{Addiu, Addu, Subu, Lui, Ori, Lw, Sw, Jr}
use Rattle.tg_isa.specs.declared.mips.Mips.TheVariants.{Break, J, Jal}
use Rattle.tg_frame.specs.declared.frames.Frame.{Frame}
use Rattle.tg_tree.specs.declared.fragments.Literal.{Literal}
use Rattle.tg_instr.specs.declared.instr.Instr.{Instr}
use Rattle.tg_instr.specs.declared.instr.Instr.TheVariants.{FrameLoad, FrameStore, FrameAddress}
use Rattle.tg_instr.specs.declared.instr.Instr.TheVariants.{Address, Mark, Jump, Branch, Call}
use Rattle.tg_instr.specs.declared.instr.Instr.TheVariants.{Fault, Return}
use Rattle.tg_instr.specs.declared.codes.Allocated.{Allocated}
use Rattle.tg_emit.specs.declared.assembly.Line.{Line}
use Rattle.tg_emit.specs.declared.assembly.Line.TheVariants.{Label, One, La, Statics}
use Rattle.tg_emit.specs.mirror.Names.{function_name, mark_name, behind_name, literal_name}
use Rattle.tg_emit.specs.mirror.Rows.{register_of, row_of, branch_of, opposite_branch_of}

-- an instruction that leads to no label
abbrev pub alone : Mips → Line
alone one = One one []

-- the bytes of a frame: its slots and its words for arguments, and 8 at least
abbrev pub size_of : Frame → ℕ
size_of frame = max 8 (4 * (frame.slots + frame.out))

-- $at gets a number of 32 bits
abbrev pub in_at : ℕ → List Line
in_at n = alone (Lui 1 (n / 65536)) ∷ alone (Ori 1 1 (n % 65536)) ∷ []

-- a register gets $sp and a number; large numbers go through $at
abbrev pub above_stack : (register number : ℕ) → List Line
above_stack r n =
    if nat_lt n 32768 then alone (Addiu r 29 n) ∷ [] else
    in_at n ++ alone (Addu r 29 1) ∷ []

-- the entry takes the frame's bytes from $sp, and loads the word there: where the stack is too
-- small, it ends the run
abbrev pub lowered : (size : ℕ) → List Line
lowered n =
    if nat_le n 32768 then alone (Addiu 29 29 (65536 - n)) ∷ [] else
    in_at n ++ alone (Subu 29 29 1) ∷ []

abbrev pub entry : (label size : ℕ) → List Line
entry label size = Label (function_name label) ∷ lowered size ++ alone (Lw 0 0 29) ∷ []

-- a load or a store at a number of bytes above $sp; for a large one $at gets what its lower 16
-- bits, with their sign, lack
abbrev pub load_at : (register offset : ℕ) → List Line
load_at r n =
    if nat_lt n 32768 then alone (Lw r n 29) ∷ [] else
    alone (Lui 1 ((n + 32768) / 65536)) ∷ alone (Addu 1 1 29) ∷ alone (Lw r (n % 65536) 1) ∷ []

abbrev pub store_at : (register offset : ℕ) → List Line
store_at r n =
    if nat_lt n 32768 then alone (Sw r n 29) ∷ [] else
    alone (Lui 1 ((n + 32768) / 65536)) ∷ alone (Addu 1 1 29) ∷ alone (Sw r (n % 65536) 1) ∷ []

-- slot k is the word 4·(k + 1) bytes below the frame address, which is $sp and the frame's size
abbrev pub slot_offset : (size slot : ℕ) → ℕ
slot_offset size k = size - 4 * (k + 1)

-- a branch to a label, or the opposite branch over a jump there
abbrev pub branch_lines :
    (turned : Bool) → (to_there opposite : Mips) → (there around : List ℕ) → List Line
branch_lines false to_there opposite there around = One to_there there ∷ []
branch_lines true to_there opposite there around =
    One opposite around ∷ One (J 0) there ∷ Label around ∷ []

abbrev pub row_lines : Option Mips → List Line
row_lines (Some one) = alone one ∷ []
row_lines None = []

-- an instruction of a function with this label and frame, at a place of its code
abbrev pub instruction_lines : (turned : Bool) → (label size place : ℕ) → Instr → List Line
instruction_lines turned label size place (FrameLoad to k) =
    load_at (register_of to) (slot_offset size k)
instruction_lines turned label size place (FrameStore from k) =
    store_at (register_of from) (slot_offset size k)
instruction_lines turned label size place (FrameAddress to) = above_stack (register_of to) size
instruction_lines turned label size place (Address to literal) =
    La (register_of to) (literal_name literal.0) ∷ []
instruction_lines turned label size place (Mark m) = Label (mark_name label m) ∷ []
instruction_lines turned label size place (Jump m) = One (J 0) (mark_name label m) ∷ []
instruction_lines turned label size place (Branch test m) =
    branch_lines turned (branch_of test) (opposite_branch_of test)
    (mark_name label m) (behind_name label place)
instruction_lines turned label size place (Call callee) = One (Jal 0) (function_name callee.0) ∷ []
instruction_lines turned label size place (Fault n) = alone (Break n) ∷ []
instruction_lines turned label size place Return = above_stack 29 size ++ alone (Jr 31) ∷ []
instruction_lines turned label size place one = row_lines (row_of one)

abbrev pub code_lines : (turned : Bool) → (label size place : ℕ) → List Instr → List Line
code_lines turned label size place [] = []
code_lines turned label size place (one ∷ rest) =
    instruction_lines turned label size place one ++ code_lines turned label size (place + 1) rest

abbrev pub function_lines : (turned : Bool) → Allocated → List Line
function_lines turned f =
    entry f.frame.label.0 (size_of f.frame)
    ++ code_lines turned f.frame.label.0 (size_of f.frame) 0 f.code.list

abbrev pub functions_lines : (turned : Bool) → List Allocated → List Line
functions_lines turned [] = []
functions_lines turned (f ∷ fs) = function_lines turned f ++ functions_lines turned fs

-- literals stand in their order, each at a multiple of 4
abbrev pub literal_lines : Literal → List Line
literal_lines l = Label (literal_name l.label.0) ∷ Statics (padded l.text) ∷ []

abbrev pub literals_lines : List Literal → List Line
literals_lines [] = []
literals_lines (l ∷ ls) = literal_lines l ++ literals_lines ls

-- the words of code that lines are
abbrev pub words_of : Line → ℕ
words_of (Label name) = 0
words_of (One one target) = 1
words_of (La register target) = 2
words_of (Statics bytes) = 0

abbrev pub words : List Line → ℕ
words [] = 0
words (line ∷ rest) = words_of line + words rest

-- a branch reaches 32,767 words: in longer code each is turned round
abbrev pub is_long : List Allocated → Bool
is_long fs = nat_lt 32000 (words (functions_lines false fs))

abbrev pub assembly_of : List Allocated → List Literal → List Line
assembly_of fs ls = functions_lines (is_long fs) fs ++ literals_lines ls
