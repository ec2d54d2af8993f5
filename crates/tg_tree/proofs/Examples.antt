-- Runs of small trees, each computed by the definition itself.
use Rattle.std.proofs.Common.{◌≡◌, ℕ, ◌+◌, ◌-◌, ◌*◌, List, [], ◌∷◌, ◌++◌, map, Bool, true, false, refl}
use Rattle.std.specs.Prelude.{codes, pos}
use Rattle.tg_machine_state.specs.declared.ends.RunEnd.TheVariants.{Exit, Break as Broken, Overflow, HeapFull, StackFull, BadService}
use Rattle.tg_machine_state.specs.State.{stack_top}
use Rattle.tg_frame.specs.declared.accesses.Access.{Access}
use Rattle.tg_frame.specs.declared.accesses.Access.TheVariants.{InTemp, InFrame}
use Rattle.tg_simulation.specs.Ran.{Ran, Stop, Ended, WantsFuel, Wrong}
use Rattle.tg_tree.specs.declared.operators.Bin.TheVariants.{Add, Sub, Mul, Div, And, Or, Xor, ShiftLeft, ShiftRight, ShiftSigned, AddTrap, SubTrap, MulHigh}
use Rattle.tg_tree.specs.declared.operators.Rel.TheVariants.{Equal, NotEqual, Less, LessEqual, Greater, GreaterEqual, Below, NotBelow}
use Rattle.tg_tree.specs.Tree.{Tx, Const, Address, Temp, FrameAddress, Binary, Load, LoadByte, Call, Service, After, no_txs, Compare, Both, Not, Ts}
use Rattle.tg_tree.specs.Tree.{Move, Store, StoreByte, Do, If, Loop, Break, Fault, Return, Function, Literal, Linear, Mark, Do', Jump, Branch, Fault'}
use Rattle.tg_tree.specs.Tree.{Return'}
use Rattle.tg_tree.specs.Units.{Trees}
use Rattle.tg_tree.specs.Forms.{txs, sequence, nothing}
use Rattle.tg_tree.specs.Operators.{word, stops_by, operate, holds}
use Rattle.tg_tree.specs.Memory.{string_block}
use Rattle.tg_tree.specs.Running.{tree_run}
use Rattle.tg_tree.specs.Flat.{flat_run}

abbrev fun : {Body : Type 0} → ℕ → List Access → ℕ → Body → Function Body
fun label params slots body = record { label = label; params = params; slots = slots; temps = 0; out = 0; body = body }

abbrev temp : ℕ → Access
temp t = InTemp (record { 0 = t })

-- the address of a slot; the low byte of a word is written
abbrev home : ℕ → Tx
home k = Binary Sub FrameAddress (Const (4 * (k + 1)))

abbrev print : Tx → Ts
print x = Do (Service 11 x)

-- what a run writes, and how it stops: frames of so many bytes, or of 64, a stack of 256 bytes, a heap of 8
abbrev seen : Ran → List ℕ × Stop
seen p = (p.output, p.stop)

abbrev does_in : (size : ℕ) → List (Function Ts) → List Literal → ℕ → List ℕ × Stop
does_in size functions literals fuel =
    seen (tree_run Trees (record { functions = functions; literals = literals }) (λ label. size) (stack_top - 256) 8 32 (codes "xy") fuel)

abbrev does : List (Function Ts) → List Literal → ℕ → List ℕ × Stop
does functions literals fuel = does_in 64 functions literals fuel

abbrev alone : Ts → List ℕ × Stop
alone s = does (fun 32 [] 1 s ∷ []) [] 0

abbrev finished : List ℕ → List ℕ × Stop
finished bytes = (bytes, Ended (Exit (pos 0)))

-- a loop that counts; and with a unit of fuel too few
abbrev counts : Ts
counts =
    sequence (Move 0 (Const 0) ∷
    Loop (If (Compare Less (Temp 0) (Const 3)) (sequence (print (Temp 0) ∷ Move 0 (Binary Add (Temp 0) (Const 1)) ∷ [])) (Break 0)) ∷ Return (Const 0) ∷ [])

loop_counts : does (fun 32 [] 0 counts ∷ []) [] 3 ≡ finished (0 ∷ 1 ∷ 2 ∷ [])
loop_counts = refl

wants_one_more : does (fun 32 [] 0 counts ∷ []) [] 2 ≡ (0 ∷ 1 ∷ 2 ∷ [], WantsFuel)
wants_one_more = refl

-- a function reads and writes a variable two levels out, by static links in the frames
abbrev outer_variable : List (Function Ts)
outer_variable =
    fun 32 [] 1 (sequence (Store (home 0) (Const 7) ∷ Do (Call 33 (txs (FrameAddress ∷ []))) ∷ print (Load (home 0)) ∷ Return (Const 0) ∷ [])) ∷
    fun 33 (InFrame 0 ∷ []) 1 (sequence (Do (Call 34 (txs (FrameAddress ∷ []))) ∷ Return (Const 0) ∷ [])) ∷
    fun 34 (InFrame 0 ∷ []) 1 (sequence (Move 0 (Load (Binary Sub (Load (home 0)) (Const 4))) ∷
    Store (Binary Sub (Temp 0) (Const 4)) (Binary Add (Load (Binary Sub (Temp 0) (Const 4))) (Const 1)) ∷ Return (Const 0) ∷ [])) ∷ []

two_levels_out : does outer_variable [] 2 ≡ finished (8 ∷ [])
two_levels_out = refl

-- a recursive function adds its argument to a variable two levels out: the outer function hands its frame address on, and each
-- activation of the inner one hands on what it was given
abbrev outer_frame : Tx
outer_frame = Load (Binary Sub (Load (home 0)) (Const 4))

abbrev adds_up : List (Function Ts)
adds_up =
    fun 32 [] 1 (sequence (Store (home 0) (Const 10) ∷ Do (Call 33 (txs (FrameAddress ∷ []))) ∷ print (Load (home 0)) ∷ Return (Const 0) ∷ [])) ∷
    fun 33 (InFrame 0 ∷ []) 1 (sequence (Do (Call 34 (txs (FrameAddress ∷ Const 3 ∷ []))) ∷ Return (Const 0) ∷ [])) ∷
    fun 34 (InFrame 0 ∷ temp 0 ∷ []) 1
    (sequence (Store (Binary Sub outer_frame (Const 4)) (Binary Add (Load (Binary Sub outer_frame (Const 4))) (Temp 0)) ∷
    If (Compare Less (Const 1) (Temp 0)) (Do (Call 34 (txs (Load (home 0) ∷ Binary Sub (Temp 0) (Const 1) ∷ [])))) nothing ∷ Return (Const 0) ∷ [])) ∷ []

recursion_adds_up : does_in 48 adds_up [] 4 ≡ finished (16 ∷ [])
recursion_adds_up = refl

-- a call with six arguments
abbrev six : List (Function Ts)
six =
    fun 32 [] 0 (sequence (print (Call 33 (txs (Const 1 ∷ Const 2 ∷ Const 3 ∷ Const 4 ∷ Const 5 ∷ Const 6 ∷ []))) ∷ Return (Const 0) ∷ [])) ∷
    fun 33 (temp 0 ∷ temp 1 ∷ temp 2 ∷ temp 3 ∷ InFrame 0 ∷ temp 5 ∷ []) 1
    (Return (Binary Add (Binary Mul (Temp 0) (Const 100)) (Binary Add (Binary Mul (Load (home 0)) (Const 10)) (Temp 5)))) ∷ []

six_arguments : does six [] 1 ≡ finished (156 ∷ [])
six_arguments = refl

-- a record is made and read
record_made : alone (sequence (Move 0 (Service 9 (Const 7)) ∷ Store (Temp 0) (Const 5) ∷ Store (Binary Add (Temp 0) (Const 4)) (Const 6) ∷
    print (Binary Mul (Load (Temp 0)) (Load (Binary Add (Temp 0) (Const 4)))) ∷ Return (Const 0) ∷ [])) ≡ finished (30 ∷ [])
record_made = refl

-- a literal is read byte by byte, after another one
literal_read : does (fun 32 [] 0
    (sequence (Do (Service 11 (LoadByte (Address 41))) ∷ Do (Service 11 (LoadByte (Binary Add (Address 41) (Const 1)))) ∷
    Do (Service 4 (Address 40)) ∷ Return (Const 0) ∷ [])) ∷ []) (record { label = 40; text = codes "abc" } ∷
    record { label = 41; text = codes "hi" } ∷ []) 0 ≡ finished (codes "hiabc")
literal_read = refl

-- the input is read, and a condition looks at its right side only where it matters
input_read : alone (sequence (Do (Service 11 (Service 12 (Const 0))) ∷
    If (Both (Not (Compare Equal (Const 1) (Const 1))) (Compare Equal (Temp 0) (Const 0))) (Fault 1) (Do (Service 11 (Service 12 (Const 0)))) ∷
    print (Service 12 (Const 0)) ∷ Return (Const 0) ∷ [])) ≡ finished (120 ∷ 121 ∷ 255 ∷ [])
input_read = refl

-- a statement before an expression, a fault, an overflow, the upper word of a product
after_a_statement : alone (sequence (print (After (Move 0 (Const 4)) (Temp 0)) ∷ Fault 6 ∷ [])) ≡ (4 ∷ [], Ended (Broken 6))
after_a_statement = refl

overflows : alone (Do (Binary AddTrap (Const 2147483647) (Const 1))) ≡ ([], Ended Overflow)
overflows = refl

underflows : alone (Do (Binary SubTrap (Const 2147483648) (Const 1))) ≡ ([], Ended Overflow)
underflows = refl

wraps : alone (sequence (print (Binary Add (Const 4294967295) (Const 3)) ∷ Return (Const 0) ∷ [])) ≡ finished (2 ∷ [])
wraps = refl

-- a shift uses the low five bits of its right operand
shifts : alone (sequence (print (Binary ShiftLeft (Const 3) (Const 33)) ∷ print (Binary ShiftSigned (Const 4294967288) (Const 1)) ∷ Return (Const 0) ∷ [])) ≡
    finished (6 ∷ 252 ∷ [])
shifts = refl

-- the two orders
orders : alone (sequence (If (Both (Compare Less (Const 4294967295) (Const 0)) (Not (Compare Below (Const 4294967295) (Const 0))))
    (print (Const 1)) (print (Const 2)) ∷ Return (Const 0) ∷ [])) ≡ finished (1 ∷ [])
orders = refl

-- each comparison, of -1 with 0, of 0 with -1, and of a word with itself
comparisons : map {B = Bool × Bool × Bool} (λ rel. (holds rel 4294967295 0, holds rel 0 4294967295, holds rel 7 7))
    (Equal ∷ NotEqual ∷ Less ∷ LessEqual ∷ Greater ∷ GreaterEqual ∷ Below ∷ NotBelow ∷ []) ≡
    (false, false, true) ∷ (true, true, false) ∷ (true, false, false) ∷ (true, false, true) ∷ (false, true, false) ∷
    (false, true, true) ∷ (false, true, false) ∷ (true, false, true) ∷ []
comparisons = refl

-- each operator that doesn't trap
operations : operate Add 4294967295 2 ∷ operate Sub 0 1 ∷ operate Mul 65537 65536 ∷ operate Div 4294967289 2 ∷
    operate Div 1 0 ∷ operate And 12 10 ∷ operate Or 12 10 ∷ operate Xor 12 10 ∷ operate ShiftLeft 3 33 ∷
    operate ShiftRight 4294967295 31 ∷ operate ShiftSigned 4294967294 1 ∷ operate MulHigh 4294967295 2 ∷ [] ≡
    word 1 ∷ word 4294967295 ∷ word 65536 ∷ word 4294967293 ∷ stops_by Wrong ∷ word 8 ∷ word 14 ∷ word 6 ∷ word 6 ∷
    word 1 ∷ word 4294967295 ∷ word 4294967295 ∷ []
operations = refl

-- a byte is stored into a literal, and into a slot that holds a word
byte_stored : does (fun 32 [] 1 (sequence (StoreByte (Address 40) (Const 360) ∷ Do (Service 4 (Address 40)) ∷
    Store (home 0) (Const 258) ∷ StoreByte (Binary Add (home 0) (Const 1)) (Const 3) ∷ print (LoadByte (Binary Add (home 0) (Const 1))) ∷
    print (Load (home 0)) ∷ Return (Const 0) ∷ [])) ∷ []) (record { label = 40; text = codes "abc" } ∷ []) 0 ≡ finished (codes "hbc" ++ 3 ∷ 2 ∷ [])
byte_stored = refl

-- the other services: two exits, and a number that no service has
exits_with_a_code : alone (Do (Service 17 (Const 7))) ≡ ([], Ended (Exit (pos 7)))
exits_with_a_code = refl

exits : alone (sequence (print (Const 1) ∷ Do (Service 10 (Const 9)) ∷ [])) ≡ finished (1 ∷ [])
exits = refl

no_service : alone (Do (Service 8 (Const 0))) ≡ ([], Ended (BadService 8))
no_service = refl

product_above : alone (sequence (print (Binary MulHigh (Const 65536) (Const 65536)) ∷ Return (Const 0) ∷ [])) ≡ finished (1 ∷ [])
product_above = refl

-- a full stack, at the call whose frame reaches below the floor; a full heap
stack_full : does (fun 32 [] 0 (sequence (print (Const 1) ∷ Return (Call 32 no_txs) ∷ [])) ∷ []) [] 3 ≡ (1 ∷ 1 ∷ 1 ∷ 1 ∷ [], Ended StackFull)
stack_full = refl

heap_full : alone (sequence (Do (Service 9 (Const 5)) ∷ Do (Service 9 (Const 1)) ∷ [])) ≡ ([], Ended HeapFull)
heap_full = refl

-- each way to go wrong
unset_temporary : alone (Return (Temp 0)) ≡ ([], Wrong)
unset_temporary = refl

divides_by_zero : alone (Return (Binary Div (Const 1) (Const 0))) ≡ ([], Wrong)
divides_by_zero = refl

loads_from_nowhere : alone (Return (Load (Const 4))) ≡ ([], Wrong)
loads_from_nowhere = refl

loads_above_its_slots : alone (Return (Load FrameAddress)) ≡ ([], Wrong)
loads_above_its_slots = refl

loads_a_byte_from_nowhere : alone (Return (LoadByte (Const 4))) ≡ ([], Wrong)
loads_a_byte_from_nowhere = refl

loads_behind_the_heap : alone (sequence (Move 0 (Service 9 (Const 4)) ∷ Return (Load (Binary Add (Temp 0) (Const 4))) ∷ [])) ≡ ([], Wrong)
loads_behind_the_heap = refl

text_without_an_end : does (fun 32 [] 0 (Do (Service 4 (Address 40))) ∷ []) (record { label = 40; text = codes "abcd" } ∷ []) 0 ≡ ([], Wrong)
text_without_an_end = refl

loads_from_no_multiple_of_4 : does (fun 32 [] 0 (Return (Load (Binary Add (Address 40) (Const 1)))) ∷ [])
    (record { label = 40; text = codes "abcdefgh" } ∷ []) 0 ≡ ([], Wrong)
loads_from_no_multiple_of_4 = refl

slot_not_stored_to : alone (Return (Load (home 0))) ≡ ([], Wrong)
slot_not_stored_to = refl

stores_to_nowhere : alone (Store (Const 4) (Const 0)) ≡ ([], Wrong)
stores_to_nowhere = refl

stores_a_byte_to_nowhere : alone (StoreByte (Const 4) (Const 0)) ≡ ([], Wrong)
stores_a_byte_to_nowhere = refl

stores_to_no_multiple_of_4 : does (fun 32 [] 0 (Store (Binary Add (Address 40) (Const 2)) (Const 0)) ∷ [])
    (record { label = 40; text = codes "abcdefgh" } ∷ []) 0 ≡ ([], Wrong)
stores_to_no_multiple_of_4 = refl

stores_a_byte_to_an_unset_slot : alone (StoreByte (home 0) (Const 0)) ≡ ([], Wrong)
stores_a_byte_to_an_unset_slot = refl

stores_to_no_slot : alone (Store (home 1) (Const 0)) ≡ ([], Wrong)
stores_to_no_slot = refl

calls_no_function : alone (Do (Call 33 no_txs)) ≡ ([], Wrong)
calls_no_function = refl

one_argument_too_many : does (fun 32 [] 0 (Do (Call 33 (txs (Const 1 ∷ [])))) ∷ fun 33 [] 0 (Return (Const 0)) ∷ []) [] 0 ≡ ([], Wrong)
one_argument_too_many = refl

one_argument_too_few : does (fun 32 [] 0 (Do (Call 33 no_txs)) ∷ fun 33 (temp 0 ∷ []) 0 (Return (Const 0)) ∷ []) [] 0 ≡ ([], Wrong)
one_argument_too_few = refl

goes_on_behind_its_end : alone (print (Const 1)) ≡ (1 ∷ [], Wrong)
goes_on_behind_its_end = refl

leaves_no_loop : alone (Loop (Break 1)) ≡ ([], Wrong)
leaves_no_loop = refl

no_literal : alone (Do (Address 40)) ≡ ([], Wrong)
no_literal = refl

-- a slot of a function that has returned is closed
slot_of_a_closed_activation : does (fun 32 [] 0 (sequence (Move 0 (Call 33 no_txs) ∷ Return (Load (Temp 0)) ∷ [])) ∷
    fun 33 [] 1 (sequence (Store (home 0) (Const 1) ∷ Return (home 0) ∷ [])) ∷ []) [] 1 ≡ ([], Wrong)
slot_of_a_closed_activation = refl

-- a slot is unset again in the next activation, and a temporary too
slot_of_an_earlier_activation : does (fun 32 [] 0 (sequence (Do (Call 33 (txs (Const 1 ∷ []))) ∷ Return (Call 33 (txs (Const 0 ∷ []))) ∷ [])) ∷
    fun 33 (temp 0 ∷ []) 1
    (sequence (If (Compare Equal (Temp 0) (Const 1)) (sequence (Store (home 0) (Const 1) ∷ Move 1 (Const 1) ∷ [])) (print (Load (home 0))) ∷
    Return (Const 0) ∷ [])) ∷ []) [] 2 ≡ ([], Wrong)
slot_of_an_earlier_activation = refl

-- flat code: a loop that counts
abbrev flat_counts : List Linear
flat_counts =
    Do' (Move 0 (Const 0)) ∷ Mark 1 ∷ Branch Equal (Temp 0) (Const 3) 2 ∷ Do' (print (Temp 0)) ∷
    Do' (Move 0 (Binary Add (Temp 0) (Const 1))) ∷ Jump 1 ∷ Mark 2 ∷ Return' (Const 0) ∷ []

abbrev flat_does : ℕ → List ℕ × Stop
flat_does fuel =
    seen (flat_run (record { functions = fun 32 [] 0 flat_counts ∷ []; literals = [] }) (λ label. 64) (stack_top - 256) 8 32 [] fuel)

flat_loop_counts : flat_does 4 ≡ finished (0 ∷ 1 ∷ 2 ∷ [])
flat_loop_counts = refl

flat_wants_more : flat_does 3 ≡ (0 ∷ 1 ∷ 2 ∷ [], WantsFuel)
flat_wants_more = refl

-- a fault, an end that is missing, and a mark that is missing
abbrev flat_alone : List Linear → List ℕ × Stop
flat_alone code = seen (flat_run (record { functions = fun 32 [] 0 code ∷ []; literals = [] }) (λ label. 64) (stack_top - 256) 8 32 [] 0)

flat_faults : flat_alone (Do' (print (Const 1)) ∷ Fault' 3 ∷ []) ≡ (1 ∷ [], Ended (Broken 3))
flat_faults = refl

flat_goes_on_behind_its_end : flat_alone (Mark 1 ∷ []) ≡ ([], Wrong)
flat_goes_on_behind_its_end = refl

flat_jumps_to_no_mark : flat_alone (Jump 1 ∷ []) ≡ ([], Wrong)
flat_jumps_to_no_mark = refl

flat_recursion : seen
    (flat_run (record {
      functions = fun 32 [] 0 (Do' (Move 0 (Call 33 (txs (Const 3 ∷ [])))) ∷ Do' (print (Temp 0)) ∷ Return' (Const 0) ∷ []) ∷
          fun 33 (temp 0 ∷ []) 0 (Branch Equal (Temp 0) (Const 0) 1 ∷ Do' (Move 1 (Call 33 (txs (Binary Sub (Temp 0) (Const 1) ∷ [])))) ∷
          Return' (Binary Add (Temp 1) (Temp 0)) ∷ Mark 1 ∷ Return' (Const 0) ∷ []) ∷ [];
      literals = [];
    }) (λ label. 8) (stack_top - 256) 8 32 [] 5) ≡ finished (6 ∷ [])
flat_recursion = refl

-- the work of runs: each node that is come to, as often as it is
abbrev work_of : List (Function Ts) → ℕ → ℕ
work_of functions fuel =
    (tree_run Trees (record { functions = functions; literals = [] }) (λ label. 64) (stack_top - 256) 8 32 [] fuel).work

loop_works : work_of (fun 32 [] 0 counts ∷ []) 3 ≡ (2 + 2) + 4 * (4 + 4 + 4 + 2) + 3 * (7 + 2 + 1 + 2) + 3 + (16 + 2)
loop_works = refl

call_works : work_of six 1 ≡ 7 + 4 + 6 * (4 + 2) + (1 + 22 + 6 * 6) + (16 + 1 + (2 + 2) + (1 + (2 + (1 + 1 + 1 + 2) + 2))) + (16 + 2)
call_works = refl

flat_code_works : (flat_run (record { functions = fun 32 [] 0 flat_counts ∷ []; literals = [] }) (λ label. 64) (stack_top - 256) 8 32 [] 4).work ≡
    (2 + 2) + 1 + 4 * (2 + 2) + 3 * (5 + (2 + 1 + 2) + 1) + (14 + 2)
flat_code_works = refl

-- a string as a literal and in memory: its length, its bytes, and zeros up to whole words
string_is_laid : string_block (codes "tiger") ≡ 5 ∷ 0 ∷ 0 ∷ 0 ∷ 116 ∷ 105 ∷ 103 ∷ 101 ∷ 114 ∷ 0 ∷ 0 ∷ 0 ∷ []
string_is_laid = refl
