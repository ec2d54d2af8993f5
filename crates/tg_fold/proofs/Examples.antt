-- Small trees, folded by the definition itself.
use Rattle.std.proofs.Common.{◌≡◌, ℕ, ◌-◌, [], ◌∷◌, true, false, refl}
use Rattle.std.specs.Prelude.{nat_lt, pos}
use Rattle.tg_machine_state.specs.declared.ends.RunEnd.TheVariants.{Exit}
use Rattle.tg_machine_state.specs.State.{stack_top}
use Rattle.tg_simulation.specs.Ran.{Ran, Ended}
use Rattle.tg_tree.specs.declared.operators.Bin.{Bin}
use Rattle.tg_tree.specs.declared.operators.Bin.TheVariants.{Add, Sub, Mul, Div, And, Or, Xor, ShiftLeft, ShiftRight, ShiftSigned, AddTrap, SubTrap, MulHigh}
use Rattle.tg_tree.specs.declared.operators.Rel.{Rel}
use Rattle.tg_tree.specs.declared.operators.Rel.TheVariants.{Equal, NotEqual, Less, LessEqual, Greater, GreaterEqual, Below, NotBelow}
use Rattle.tg_tree.specs.Tree.{Tx, Const, Temp, Binary, Call, Service, Cond, Compare, Not, Both, Either, Ts, Move, Do, If, Loop, Break, Return, no_txs}
use Rattle.tg_tree.specs.Tree.{Function}
use Rattle.tg_tree.specs.Units.{Trees}
use Rattle.tg_tree.specs.Forms.{sequence, nothing}
use Rattle.tg_tree.specs.Running.{tree_run}
use Rattle.tg_tree.specs.Sizes.{statement_length}
use Rattle.tg_fold.specs.mirror.Folding.{Tested, Known, Open, never, always, tested, folded_tx, folded}
use Rattle.tg_fold.specs.Folded.{IsFoldedTx, IsFolded}

-- an operator on two constants
abbrev computed : Bin → ℕ → ℕ → Tx
computed op a b = folded_tx (Binary op (Const a) (Const b))

sum_wraps : computed Add 4294967295 2 ≡ Const 1
sum_wraps = refl

difference_wraps : computed Sub 0 1 ≡ Const 4294967295
difference_wraps = refl

product_wraps : computed Mul 65536 65537 ≡ Const 65536
product_wraps = refl

least_by_minus_one : computed Div 2147483648 4294967295 ≡ Const 2147483648
least_by_minus_one = refl

quotient_toward_zero : computed Div 4294967289 2 ≡ Const 4294967293
quotient_toward_zero = refl

division_by_zero_stays : computed Div 7 0 ≡ Binary Div (Const 7) (Const 0)
division_by_zero_stays = refl

bits_of_both : computed And 12 10 ≡ Const 8
bits_of_both = refl

bits_of_one : computed Or 12 10 ≡ Const 14
bits_of_one = refl

bits_that_differ : computed Xor 12 10 ≡ Const 6
bits_that_differ = refl

-- a shift by 33 is one by 1
shift_to_the_left : computed ShiftLeft 3 33 ≡ Const 6
shift_to_the_left = refl

shift_with_zeros : computed ShiftRight 2147483648 33 ≡ Const 1073741824
shift_with_zeros = refl

shift_with_the_sign : computed ShiftSigned 2147483648 33 ≡ Const 3221225472
shift_with_the_sign = refl

trapping_sum : computed AddTrap 2147483646 1 ≡ Const 2147483647
trapping_sum = refl

trapping_sum_stays : computed AddTrap 2147483647 1 ≡ Binary AddTrap (Const 2147483647) (Const 1)
trapping_sum_stays = refl

trapping_difference : computed SubTrap 2147483649 1 ≡ Const 2147483648
trapping_difference = refl

trapping_difference_stays : computed SubTrap 2147483648 1 ≡ Binary SubTrap (Const 2147483648) (Const 1)
trapping_difference_stays = refl

upper_word : computed MulHigh 2147483648 2147483648 ≡ Const 1073741824
upper_word = refl

upper_word_with_sign : computed MulHigh 4294967295 1 ≡ Const 4294967295
upper_word_with_sign = refl

-- sides first
nested_sum : folded_tx (Binary Add (Binary Mul (Const 2) (Const 3)) (Binary Sub (Const 5) (Const 1))) ≡ Const 10
nested_sum = refl

-- comparisons of -1 and 0
abbrev compared : Rel → Tested
compared rel = tested (Compare rel (Const 4294967295) (Const 0))

equal : compared Equal ≡ Known false
equal = refl

not_equal : compared NotEqual ≡ Known true
not_equal = refl

less : compared Less ≡ Known true
less = refl

less_equal : compared LessEqual ≡ Known true
less_equal = refl

greater : compared Greater ≡ Known false
greater = refl

greater_equal : compared GreaterEqual ≡ Known false
greater_equal = refl

below : compared Below ≡ Known false
below = refl

not_below : compared NotBelow ≡ Known true
not_below = refl

-- conditions: one that acts, one that reads, and two that are known
abbrev acts : Cond
acts = Compare Equal (Call 40 no_txs) (Const 1)

abbrev asks : Cond
asks = Compare Less (Temp 0) (Const 3)

abbrev yes : Cond
yes = Compare Equal (Const 6) (Binary Mul (Const 2) (Const 3))

abbrev no : Cond
no = Not yes

not_of_a_known_one : tested no ≡ Known false
not_of_a_known_one = refl

both_from_the_left : tested (Both yes asks) ≡ Open asks
both_from_the_left = refl

both_by_the_left : tested (Both no acts) ≡ Known false
both_by_the_left = refl

both_with_a_known_right : tested (Both acts yes) ≡ Open acts
both_with_a_known_right = refl

both_keeps_what_acts : tested (Both acts no) ≡ Open (Both acts never)
both_keeps_what_acts = refl

both_open : tested (Both acts asks) ≡ Open (Both acts asks)
both_open = refl

either_by_the_left : tested (Either yes acts) ≡ Known true
either_by_the_left = refl

either_from_the_left : tested (Either no asks) ≡ Open asks
either_from_the_left = refl

either_keeps_what_acts : tested (Either acts yes) ≡ Open (Either acts always)
either_keeps_what_acts = refl

either_with_a_known_right : tested (Either acts no) ≡ Open acts
either_with_a_known_right = refl

either_open : tested (Either acts asks) ≡ Open (Either acts asks)
either_open = refl

-- arms
abbrev print : Tx → Ts
print x = Do (Service 11 x)

arm_that_holds : folded (If yes (print (Const 98)) (print (Const 97))) ≡ print (Const 98)
arm_that_holds = refl

arm_that_fails : folded (If no (print (Const 98)) (print (Const 97))) ≡ print (Const 97)
arm_that_fails = refl

-- copies: before a loop that reads it,
abbrev until_three : ℕ → Ts
until_three i = Loop (If (Compare Less (Temp i) (Const 3)) (print (Temp i)) (Break 0))

copy_before_a_loop : folded (sequence (Move 1 (Temp 0) ∷ until_three 1 ∷ [])) ≡ sequence (Move 1 (Temp 0) ∷ until_three 0 ∷ [])
copy_before_a_loop = refl

-- before one that assigns what was copied, and before one that assigns the copy,
abbrev assigns_first : Ts
assigns_first = sequence (Move 1 (Temp 0) ∷ Loop (sequence (print (Temp 1) ∷ Move 0 (Const 1) ∷ Break 0 ∷ [])) ∷ [])

copied_one_assigned : folded assigns_first ≡ assigns_first
copied_one_assigned = refl

abbrev assigns_copy : Ts
assigns_copy = sequence (Move 1 (Temp 0) ∷ Loop (sequence (print (Temp 1) ∷ Move 1 (Const 1) ∷ Break 0 ∷ [])) ∷ [])

copy_assigned : folded assigns_copy ≡ assigns_copy
copy_assigned = refl

-- of a temporary to itself, and two in a row
abbrev itself : Ts
itself = sequence (Move 0 (Temp 0) ∷ print (Temp 0) ∷ [])

copy_of_itself : folded itself ≡ itself
copy_of_itself = refl

two_in_a_row :
    folded (sequence (Move 1 (Temp 0) ∷ Move 2 (Temp 1) ∷ print (Temp 2) ∷ [])) ≡
    sequence (Move 1 (Temp 0) ∷ Move 2 (Temp 0) ∷ print (Temp 0) ∷ [])
two_in_a_row = refl

-- nothing is done further on
only_the_next : folded (sequence (Move 1 (Temp 0) ∷ nothing ∷ print (Temp 1) ∷ [])) ≡ sequence (Move 1 (Temp 0) ∷ nothing ∷ print (Temp 1) ∷ [])
only_the_next = refl

-- what is left to fold
left_to_compute : IsFoldedTx (Binary Add (Const 1) (Const 2)) → ⊥
left_to_compute h = h.0

left_to_pass_on : IsFolded (sequence (Move 1 (Temp 0) ∷ print (Temp 1) ∷ [])) → ⊥
left_to_pass_on h = let e : true ≡ false = h.2.0 in cc

-- A program, before and after the pass: it prints 0, 1 and 2, and b.
abbrev program : Ts
program =
    sequence (Move 0 (Binary Sub (Const 4) (Const 4)) ∷
    Loop (sequence (Move 1 (Temp 0) ∷ If (Both (Compare Less (Temp 1) (Const 3)) yes) (print (Temp 1)) (Break 0) ∷ Move 0
    (Binary Add (Temp 0) (Const 1)) ∷ [])) ∷
    If yes (print (Const 98)) (print (Const 97)) ∷ Return (Const 0) ∷ [])

abbrev ran : Ts → Ran
ran body =
    let f : Function Ts = record { label = 32; params = []; slots = 0; temps = 2; out = 0; body = body } in
    tree_run Trees (record { functions = f ∷ []; literals = [] }) (λ label. 64) (stack_top - 256) 8 32 [] 3

program_prints : (ran program).output ≡ 0 ∷ 1 ∷ 2 ∷ 98 ∷ []
program_prints = refl

folded_prints : (ran (folded program)).output ≡ 0 ∷ 1 ∷ 2 ∷ 98 ∷ []
folded_prints = refl

both_end : ((ran program).stop ≡ Ended (Exit (pos 0))) × ((ran (folded program)).stop ≡ Ended (Exit (pos 0)))
both_end = (refl, refl)

-- with less work, and shorter
less_work : nat_lt (ran (folded program)).work (ran program).work ≡ true
less_work = refl

shorter : nat_lt (statement_length Trees (folded program)) (statement_length Trees program) ≡ true
shorter = refl
