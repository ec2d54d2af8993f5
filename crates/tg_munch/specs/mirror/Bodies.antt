-- The instructions of a function: its entry, and the elements of its flat code.
use Rattle.std.specs.Prelude.{ℕ, suc, ◌+◌, ◌-◌, ◌*◌, max, nat_lt, List, [], ◌∷◌, None}
use Rattle.std.specs.Prelude.{if◌then◌else◌}
use Rattle.tg_frame.specs.declared.accesses.Access.{Access}
use Rattle.tg_frame.specs.declared.accesses.Access.TheVariants.{InTemp, InFrame}
use Rattle.tg_tree.specs.Tree as tree
use Rattle.tg_tree.specs.Tree.{Tx, Txs, Ts, Linear, Function, no_txs, tx}
use Rattle.tg_instr.specs.declared.operands.Opnd.{Opnd}
use Rattle.tg_instr.specs.declared.operands.Opnd.TheVariants.{Reg}
use Rattle.tg_instr.specs.declared.instr.Instr.TheVariants.{Addu, Lw, Move, FrameAddress}
use Rattle.tg_instr.specs.declared.instr.Instr.TheVariants.{FrameStore}
use Rattle.tg_munch.specs.mirror.Choosing.{Choice, Chosen, ◌>>=◌, ◌>>◌, give, put, fresh}
use Rattle.tg_munch.specs.mirror.Tiles.{constant}
use Rattle.tg_munch.specs.mirror.Munching.{temp, argument, kept_registers, elements}

-- the registers that are given back at the end go into temporaries of their own
abbrev pub kept_register : ℕ → Choice (Unit {0})
kept_register r = fresh >>= (λ t. put (Move t (Reg r)))

abbrev pub kept : List ℕ → Choice (Unit {0})
kept [] = give tt
kept (r ∷ rs) = kept_register r >> kept rs

-- parameters come from $a0 to $a3, and those past the fourth from the words where their caller put
-- them, parameter i 4·(i - 4) bytes above the frame address
abbrev pub from_register : (i : ℕ) → Access → Choice (Unit {0})
from_register i (InTemp t) = put (Move (temp t.0) (argument i))
from_register i (InFrame k) = put (FrameStore (argument i) k)

-- the word that stands so many bytes above the frame address, which an operand holds
abbrev pub load_far : (above : Opnd) → (bytes : ℕ) → (to : Opnd) → Choice (Unit {0})
load_far above n to = constant to n >> (put (Addu to to above) >> put (Lw to 0 to))

abbrev pub load_above : (above : Opnd) → (bytes : ℕ) → (to : Opnd) → Choice (Unit {0})
load_above above n to =
    if nat_lt n 32768 then put (Lw to n above) else load_far above n to

abbrev pub from_word : (above : Opnd) → (i : ℕ) → Access → Choice (Unit {0})
from_word above i (InTemp t) = load_above above (4 * (i - 4)) (temp t.0)
from_word above i (InFrame k) =
    fresh >>= (λ v. load_above above (4 * (i - 4)) v >> put (FrameStore v k))

abbrev pub from_words : (above : Opnd) → (i : ℕ) → List Access → Choice (Unit {0})
from_words above i [] = give tt
from_words above i (home ∷ homes) = from_word above i home >> from_words above (i + 1) homes

abbrev pub by_frame_address : (i : ℕ) → List Access → Choice (Unit {0})
by_frame_address i homes =
    fresh >>= (λ above. put (FrameAddress above) >> from_words above i homes)

-- the parameters from one on: past the fourth all by one frame address
abbrev pub parameters : (i : ℕ) → List Access → Choice (Unit {0})
parameters i [] = give tt
parameters i (home ∷ homes) =
    if nat_lt i 4 then (from_register i home >> parameters (i + 1) homes) else
    by_frame_address i (home ∷ homes)

-- the least mark above those of a code
abbrev pub next_mark : Linear → ℕ
next_mark (tree.Mark m) = m + 1
next_mark _ = 0

abbrev pub mark_above : List Linear → ℕ
mark_above [] = 0
mark_above (e ∷ rest) = max (next_mark e) (mark_above rest)

-- the words at the low end of the frame for the arguments past the fourth of the calls of a code
abbrev pub count : Txs → ℕ
count no_txs = 0
count (tx x xs) = suc (count xs)

abbrev pub out_of : Tx → ℕ
out_of (tree.Call label xs) = count xs - 4
out_of _ = 0

abbrev pub out_of_statement : Ts → ℕ
out_of_statement (tree.Move i x) = out_of x
out_of_statement (tree.Do x) = out_of x
out_of_statement _ = 0

abbrev pub out_of_element : Linear → ℕ
out_of_element (tree.Do' s) = out_of_statement s
out_of_element _ = 0

abbrev pub outs : List Linear → ℕ
outs [] = 0
outs (e ∷ rest) = max (out_of_element e) (outs rest)

abbrev pub body : (f : Function (List Linear)) → Choice (Unit {0})
body f =
    kept kept_registers
    >> (parameters 0 f.params >> elements f.slots f.temps None f.body)

-- the code of a function
abbrev pub munched : Function (List Linear) → Chosen (Unit {0})
munched f = body f (record { temp = f.temps; mark = mark_above f.body })
