-- The instructions of small trees, computed.
use Rattle.std.proofs.Common.{ℕ, ◌≡◌, ◌≢◌, ◌≤◌, ◌+◌, ◌*◌, List, [], ◌∷◌, None, sum_by, refl}
use Rattle.std.proofs.Math.Dec.{lit≤}
use Rattle.tg_frame.specs.declared.accesses.Access.TheVariants.{InTemp, InFrame}
use Rattle.tg_tree.specs.declared.operators.Bin.TheVariants as bin
use Rattle.tg_tree.specs.declared.operators.Rel.TheVariants.{Equal, NotEqual, Less, LessEqual, Greater, NotBelow}
use Rattle.tg_tree.specs.Tree as tree
use Rattle.tg_tree.specs.Tree.{Tx, Const, FrameAddress, Binary, Load, Txs, no_txs, tx, Linear, Mark, Do', Return', Function}
use Rattle.tg_tree.specs.Sizes.{flat_length, flat_needs}
use Rattle.tg_instr.specs.declared.operands.Opnd.{Opnd}
use Rattle.tg_instr.specs.declared.operands.Opnd.TheVariants.{Reg}
use Rattle.tg_instr.specs.declared.instr.Instr.{Instr}
use Rattle.tg_instr.specs.declared.instr.Instr.TheVariants as instr
use Rattle.tg_instr.specs.declared.instr.Instr.TheVariants.{Addiu, Addi, Add, Addu, Subu, Sll, Andi, Ori, Lui, Lw, Sw, Slt, Slti, Sltiu, Move}
use Rattle.tg_instr.specs.declared.instr.Instr.TheVariants.{FrameLoad, FrameStore, Branch, Call, Service, Mult, Mflo, Mfhi, Sra, Return}
use Rattle.tg_munch.specs.mirror.Choosing.{NumbersDrawn, ◌>>=◌}
use Rattle.tg_munch.specs.mirror.Munching.{temp, expression, statement, branch, elements}
use Rattle.tg_munch.specs.mirror.Bodies.{munched, outs, load_above, parameters}
use Rattle.tg_munch.specs.laws.Lengths.{kept_count, CountsWords}
use Rattle.tg_munch.proofs.Draws.{most_counted}

abbrev start : NumbersDrawn
start = record { temp = 9; mark = 5 }

abbrev t : ℕ → Tx
t i = tree.Temp i

abbrev code_of : Tx → List Instr
code_of x = (expression 2 x None start).code

-- one instruction for a load with an offset, for an addition of a small constant, and for a slot
offset : code_of (Load (Binary bin.Add (t 1) (Const 8))) ≡ Lw (temp 9) 8 (temp 1) ∷ []
unfolding ◌>>=◌
offset = refl

offset_back : code_of (Load (Binary bin.Sub (t 1) (Const 4))) ≡ Lw (temp 9) 65532 (temp 1) ∷ []
unfolding ◌>>=◌
offset_back = refl

slot : code_of (Load (Binary bin.Sub FrameAddress (Const 8))) ≡ FrameLoad (temp 9) 1 ∷ []
unfolding ◌>>=◌
slot = refl

-- a slot that the frame doesn't have is no slot
no_slot : code_of (Load (Binary bin.Sub FrameAddress (Const 12))) ≡ instr.FrameAddress (temp 10) ∷ Lw (temp 9) 65524 (temp 10) ∷ []
unfolding ◌>>=◌
no_slot = refl

small : code_of (Binary bin.AddTrap (t 1) (Const 1)) ≡ Addi (temp 9) (temp 1) 1 ∷ []
unfolding ◌>>=◌
small = refl

small_left : code_of (Binary bin.AddTrap (Const 4294967295) (t 1)) ≡ Addi (temp 9) (temp 1) 65535 ∷ []
unfolding ◌>>=◌
small_left = refl

small_difference : code_of (Binary bin.SubTrap (t 1) (Const 32768)) ≡ Addi (temp 9) (temp 1) 32768 ∷ []
unfolding ◌>>=◌
small_difference = refl

-- -32768 has no opposite in a field
difference : code_of (Binary bin.SubTrap (t 1) (Const 4294934528)) ≡ Addiu (temp 10) (Reg 0) 32768 ∷ instr.Sub (temp 9) (temp 1) (temp 10) ∷ []
unfolding ◌>>=◌
difference = refl

large : code_of (Binary bin.AddTrap (t 1) (Const 65536)) ≡ Lui (temp 10) 1 ∷ Add (temp 9) (temp 1) (temp 10) ∷ []
unfolding ◌>>=◌
large = refl

halves : code_of (Const 305419896) ≡ Lui (temp 9) 4660 ∷ Ori (temp 9) (temp 9) 22136 ∷ []
unfolding ◌>>=◌
halves = refl

zero_needs_none : code_of (Const 0) ≡ []
unfolding ◌>>=◌
zero_needs_none = refl

product : code_of (Binary bin.Mul (t 1) (t 2)) ≡ Mult (temp 1) (temp 2) ∷ Mflo (temp 9) ∷ []
unfolding ◌>>=◌
product = refl

shift : code_of (Binary bin.ShiftLeft (t 1) (Const 2)) ≡ Sll (temp 9) (temp 1) 2 ∷ []
unfolding ◌>>=◌
shift = refl

-- one instruction for a comparison with 0
with_zero : (branch 2 Less (t 1) (Const 0) 7 start).code ≡ Branch (record { rel = Less; left = temp 1; right = Reg 0; is_one_row = refl }) 7 ∷ []
unfolding ◌>>=◌
with_zero = refl

zero_on_the_left : (branch 2 Less (Const 0) (t 1) 7 start).code ≡ Branch (record { rel = Greater; left = temp 1; right = Reg 0; is_one_row = refl }) 7 ∷ []
unfolding ◌>>=◌
zero_on_the_left = refl

at_most : (branch 2 LessEqual (t 1) (Const 9) 7 start).code ≡ Slti (temp 9) (temp 1) 10 ∷
    Branch (record { rel = NotEqual; left = temp 9; right = Reg 0; is_one_row = refl }) 7 ∷ []
unfolding ◌>>=◌
at_most = refl

above : (branch 2 Greater (t 1) (t 2) 7 start).code ≡ Slt (temp 9) (temp 2) (temp 1) ∷
    Branch (record { rel = NotEqual; left = temp 9; right = Reg 0; is_one_row = refl }) 7 ∷ []
unfolding ◌>>=◌
above = refl

index : (branch 2 NotBelow (t 1) (Load (t 2)) 7 start).code ≡ Lw (temp 9) 0 (temp 2) ∷ instr.Sltu (temp 10) (temp 1) (temp 9) ∷
    Branch (record { rel = Equal; left = temp 10; right = Reg 0; is_one_row = refl }) 7 ∷ []
unfolding ◌>>=◌
index = refl

-- a call of five arguments, whose fifth stands in the frame: it goes there first
call : (statement 2 (tree.Move 3 (tree.Call 40 (tx FrameAddress (tx (t 1) (tx (Const 0) (tx (t 2) (tx (t 1) no_txs))))))) start).code ≡
    Sw (temp 1) 0 (Reg 29) ∷ instr.FrameAddress (Reg 4) ∷ Move (Reg 5) (temp 1) ∷ Addiu (Reg 6) (Reg 0) 0 ∷ Move (Reg 7) (temp 2) ∷
    Call (record { 0 = 40 }) ∷ Move (temp 3) (Reg 2) ∷ []
unfolding ◌>>=◌
call = refl

-- but not where one of the first four may end the run
call_that_may_end :
    (statement 2 (tree.Do (tree.Call 40 (tx (Binary bin.AddTrap (t 1) (Const 1)) (tx (t 1) (tx (t 1) (tx (t 1) (tx (t 2) no_txs))))))) start).code ≡
    Addi (Reg 4) (temp 1) 1 ∷ Move (Reg 5) (temp 1) ∷ Move (Reg 6) (temp 1) ∷ Move (Reg 7) (temp 1) ∷ Sw (temp 2) 0 (Reg 29) ∷
    Call (record { 0 = 40 }) ∷ []
unfolding ◌>>=◌
call_that_may_end = refl

service : (statement 2 (tree.Do (tree.Service 11 (t 1))) start).code ≡ Move (Reg 4) (temp 1) ∷ Addiu (Reg 2) (Reg 0) 11 ∷ Service ∷ []
unfolding ◌>>=◌
service = refl

words_for_arguments : outs (Do' (tree.Do (tree.Call 40 (tx (t 0) (tx (t 0) (tx (t 0) (tx (t 0) (tx (t 0) (tx (t 0) no_txs)))))))) ∷ Mark 1 ∷ []) ≡ 2
unfolding ◌>>=◌
words_for_arguments = refl

-- a function of two parameters, the second of which escapes
abbrev next : Function (List Linear)
next = record {
  label = 33;
  params = InTemp (record { 0 = 0 }) ∷ InFrame 0 ∷ [];
  slots = 1;
  temps = 1;
  out = 0;
  body =
      Return' (Binary bin.AddTrap (t 0) (Const 1)) ∷ [];
}

function : (munched next).code ≡ Move (temp 1) (Reg 16) ∷ Move (temp 2) (Reg 17) ∷ Move (temp 3) (Reg 18) ∷
    Move (temp 4) (Reg 19) ∷ Move (temp 5) (Reg 20) ∷ Move (temp 6) (Reg 21) ∷ Move (temp 7) (Reg 22) ∷ Move (temp 8) (Reg 23) ∷
    Move (temp 9) (Reg 31) ∷ Move (temp 0) (Reg 4) ∷ FrameStore (Reg 5) 0 ∷ Addi (Reg 2) (temp 0) 1 ∷ Move (Reg 16) (temp 1) ∷
    Move (Reg 17) (temp 2) ∷ Move (Reg 18) (temp 3) ∷ Move (Reg 19) (temp 4) ∷ Move (Reg 20) (temp 5) ∷ Move (Reg 21) (temp 6) ∷
    Move (Reg 22) (temp 7) ∷ Move (Reg 23) (temp 8) ∷ Move (Reg 31) (temp 9) ∷ Return ∷ []
unfolding ◌>>=◌
function = refl

-- parameters past the fourth are loaded by one frame address, the last of them through its slot
incoming : (parameters 3 (InFrame 0 ∷ InTemp (record { 0 = 4 }) ∷ InFrame 1 ∷ []) start).code ≡
    FrameStore (Reg 7) 0 ∷ instr.FrameAddress (temp 9) ∷ Lw (temp 4) 0 (temp 9) ∷ Lw (temp 10) 4 (temp 9) ∷ FrameStore (temp 10) 1 ∷ []
unfolding ◌>>=◌
incoming = refl

-- and where the offset is no field of 15 bits, by an address
incoming_far : (load_above (temp 9) 32768 (temp 4) start).code ≡
    Ori (temp 4) (Reg 0) 32768 ∷ Addu (temp 4) (temp 4) (temp 9) ∷ Lw (temp 4) 0 (temp 4) ∷ []
unfolding ◌>>=◌
incoming_far = refl

-- Twelve words a unit: a count that gives to a move thirteen, and ten to all else,
counts_ten : (one : Instr) → ((to from : Opnd) → one ≢ Move to from) → most_counted one ≤ 10
counts_ten (Move to from) h = elim (h to from refl) [ ]
counts_ten one h = lit≤ tt

counts_words : CountsWords most_counted
counts_words = record { moves = λ to from. lit≤ tt; others = counts_ten }

words_of_next : (flat_length next ≡ 29) × (sum_by most_counted (munched next).code ≡ 277)
unfolding ◌>>=◌
words_of_next = (refl, refl)

-- and no whole number below it would do: the sum of two calls is five units, of which 56 words come.
abbrev two_calls : Function (List Linear)
two_calls = record {
  label = 33;
  params = [];
  slots = 0;
  temps = 0;
  out = 0;
  body =
      Do' (tree.Do (Binary bin.Add (tree.Call 40 no_txs) (tree.Call 41 no_txs))) ∷ [];
}

words_of_calls : (flat_length two_calls ≡ 5) × (sum_by most_counted (munched two_calls).code ≡ 13 * kept_count + 56)
unfolding ◌>>=◌
words_of_calls = (refl, refl)

-- A check of a product takes the upper word out of HI, where the multiplication left it,
abbrev check : (x y : Tx) → (product : ℕ) → Linear
check x y p = tree.Branch NotEqual (Binary bin.MulHigh x y) (Binary bin.ShiftSigned (t p) (Const 31)) 7

abbrev checked : (code : List Linear) → List Instr
checked code = (elements 2 40 None code start).code

abbrev unless_same : (x y : ℕ) → Instr
unless_same x y = Branch (record { rel = NotEqual; left = temp x; right = temp y; is_one_row = refl }) 7

one_product : checked (Do' (tree.Move 3 (Binary bin.Mul (t 1) (Const 10))) ∷ check (t 1) (Const 10) 3 ∷ []) ≡
    Addiu (temp 9) (Reg 0) 10 ∷ Mult (temp 1) (temp 9) ∷ Mflo (temp 3) ∷ Mfhi (temp 10) ∷ Sra (temp 11) (temp 3) 31 ∷ unless_same 10 11 ∷ []
unfolding ◌>>=◌
one_product = refl

-- but neither where the product is moved over a side, nor where the sides are others,
own_side : checked (Do' (tree.Move 1 (Binary bin.Mul (t 1) (t 2))) ∷ check (t 1) (t 2) 1 ∷ []) ≡
    Mult (temp 1) (temp 2) ∷ Mflo (temp 1) ∷ Mult (temp 1) (temp 2) ∷ Mfhi (temp 9) ∷ Sra (temp 10) (temp 1) 31 ∷ unless_same 9 10 ∷ []
unfolding ◌>>=◌
own_side = refl

other_sides : checked (Do' (tree.Move 3 (Binary bin.Mul (t 1) (Const 10))) ∷ check (t 1) (Const 11) 3 ∷ []) ≡
    Addiu (temp 9) (Reg 0) 10 ∷ Mult (temp 1) (temp 9) ∷ Mflo (temp 3)
    ∷ Addiu (temp 11) (Reg 0) 11 ∷ Mult (temp 1) (temp 11) ∷ Mfhi (temp 10) ∷ Sra (temp 12) (temp 3) 31 ∷ unless_same 10 12 ∷ []
unfolding ◌>>=◌
other_sides = refl

-- nor where something stands between.
apart : checked (Do' (tree.Move 3 (Binary bin.Mul (t 1) (t 2))) ∷ Mark 4 ∷ check (t 1) (t 2) 3 ∷ []) ≡
    Mult (temp 1) (temp 2) ∷ Mflo (temp 3)
    ∷ instr.Mark 4
    ∷ Mult (temp 1) (temp 2) ∷ Mfhi (temp 9) ∷ Sra (temp 10) (temp 3) 31 ∷ unless_same 9 10 ∷ []
unfolding ◌>>=◌
apart = refl

-- The needs of flat code alone aren't enough for its temporaries: a shift by a word draws six, of which they count three.
abbrev shifting : Function (List Linear)
shifting = record {
  label = 33;
  params = [];
  slots = 0;
  temps = 0;
  out = 0;
  body =
      Do' (tree.Move 0 (Binary bin.ShiftLeft (t 0) (t 1))) ∷ [];
}

temporaries_of_a_shift : ((munched shifting).drawn.temp ≡ 6 + kept_count) × (flat_needs shifting ≡ 3)
unfolding ◌>>=◌
temporaries_of_a_shift = (refl, refl)
