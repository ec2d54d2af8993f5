-- What texts name, their lengths and needs, and sizes of frames, each computed by the definition itself.
use Rattle.std.proofs.Common.{◌≡◌, ℕ, zero, suc, ◌+◌, ◌^◌, List, [], ◌∷◌, map, refl, arith}
use Rattle.tg_frame.specs.declared.accesses.Access.TheVariants.{InFrame}
use Rattle.tg_tree.specs.declared.operators.Bin.TheVariants.{Add, Sub, Mul, Div, And, Or, Xor, ShiftLeft, ShiftRight, ShiftSigned, AddTrap, SubTrap, MulHigh}
use Rattle.tg_tree.specs.declared.operators.Rel.TheVariants.{Equal, NotEqual, Less}
use Rattle.tg_tree.specs.Tree.{Tx, Const, Address, Temp, FrameAddress, Binary, Load, LoadByte, Call, Service, After, no_txs, tx, Cond, Compare, Not}
use Rattle.tg_tree.specs.Tree.{Both, Either, Ts, Move, Store, StoreByte, Do, If, Loop, Break, Fault, Seq, Return, Stms, Function, Linear, Mark, Do'}
use Rattle.tg_tree.specs.Tree.{Jump, Branch, Fault', Return'}
use Rattle.tg_tree.specs.Forms.{stms, sequence, nothing}
use Rattle.tg_tree.specs.Named.{function, literal, fault, temporary, constant, named_ts, named_flat, HasWords}
use Rattle.tg_tree.specs.FrameSizes.{IsSizeOf}
use Rattle.tg_tree.specs.Units.{Trees, Canonical, operator_units, expression_units, argument_units, condition_units, statement_units, element_units}
use Rattle.tg_tree.specs.Units.{entry_units, marked_entry_units}
use Rattle.tg_tree.specs.Sizes.{expression_length, condition_length, statement_length, tree_length, tree_needs, canonical_length, canonical_needs}
use Rattle.tg_tree.specs.Sizes.{flat_length, flat_needs}

abbrev fun : {Body : Type 0} → Body → Function Body
fun body = record { label = 33; params = InFrame 0 ∷ []; slots = 1; temps = 2; out = 0; body = body }

-- if t0 < 2 then t1 := call 34 (literal 40) else fault 6; return t1
abbrev body : Stms
body =
    stms (If (Compare Less (Temp 0) (Const 2)) (Move 1 (Call 34 (tx (Address 40) no_txs))) (Fault 6) ∷ Return (Temp 1) ∷ [])

names_in_order : named_ts (Seq body) [] ≡
    temporary 0 ∷ constant 2 ∷ temporary 1 ∷ function 34 ∷ literal 40 ∷ fault 6 ∷ temporary 1 ∷ []
names_in_order = refl

-- each pass makes the text shorter in this measure
lengths_as_a_tree : tree_length (fun (Seq body)) ≡ 6 + (4 + (4 + 2) + (2 + (4 + (4 + 1))) + 3) + 16
lengths_as_a_tree = refl

needs_as_a_tree : tree_needs (fun (Seq body)) ≡ 3 + 2 + (6 + (1 + 2)) + (2 + 1 + (2 + 2)) + 1
needs_as_a_tree = refl

lengths_as_statements : canonical_length (fun body) ≡ 6 + (4 + (4 + 2) + (2 + (2 + (4 + 1))) + 3) + 16
lengths_as_statements = refl

-- the same as flat code
abbrev flat_body : List Linear
flat_body = Branch Less (Temp 0) (Const 2) 1 ∷ Jump 2 ∷ Mark 1 ∷ Do' (Move 1 (Call 34 (tx (Address 40) no_txs))) ∷
    Return' (Temp 1) ∷ Mark 2 ∷ Return' (Const 0) ∷ []

flat_names : named_flat flat_body [] ≡
    temporary 0 ∷ constant 2 ∷ temporary 1 ∷ function 34 ∷ literal 40 ∷ temporary 1 ∷ constant 0 ∷ []
flat_names = refl

lengths_as_flat_code : flat_length (fun flat_body) ≡ 6 + (2 + 2) + 1 + 1 + (2 + (2 + (4 + 1))) + 14 + 1 + (14 + 2)
lengths_as_flat_code = refl

-- the number of a service is a constant, too
service_names : named_ts (Do (Service 11 (Const 7))) [] ≡ constant 11 ∷ constant 7 ∷ []
service_names = refl

-- a constant that is no word: a word that it is stored to holds another
too_much : HasWords (λ s. named_ts s []) (record { functions = fun (Return (Const (2 ^ 32))) ∷ []; literals = [] }) → ⊥
too_much h = let e = h _ (2 ^ 32) (0, omega arith, refl) (0, omega arith, refl) in omega arith

needs_as_statements : canonical_needs (fun body) ≡ 3 + 2 + (1 + (0 + 1)) + (1 + 1 + (2 + 1)) + 0
needs_as_statements = refl

needs_as_flat_code : flat_needs (fun flat_body) ≡ 3 + 2 + (1 + (0 + 1)) + (1 + 1 + (2 + 1)) + 1
needs_as_flat_code = refl

-- each node alone
expressions_alone : map (expression_units Trees) (Const 7 ∷ Address 40 ∷ Temp 0 ∷ FrameAddress ∷ Load (Temp 0) ∷
    LoadByte (Temp 0) ∷ Call 34 no_txs ∷ Service 9 (Temp 0) ∷ After nothing (Temp 0) ∷ []) ≡
    2 ∷ 1 ∷ 0 ∷ 1 ∷ 1 ∷ 1 ∷ 4 ∷ 7 ∷ 0 ∷ []
expressions_alone = refl

operators_alone : map (λ op. operator_units op (Temp 1)) (Add ∷ Sub ∷ Mul ∷ Div ∷ And ∷ Or ∷ Xor ∷ ShiftLeft ∷ ShiftRight ∷
    ShiftSigned ∷ AddTrap ∷ SubTrap ∷ MulHigh ∷ []) ≡
    1 ∷ 1 ∷ 2 ∷ 2 ∷ 1 ∷ 1 ∷ 1 ∷ 21 ∷ 21 ∷ 21 ∷ 1 ∷ 1 ∷ 2 ∷ []
operators_alone = refl

abbrev hoisted : Tx
hoisted = Call 34 no_txs

abbrev holds : Cond
holds = Compare Equal (Temp 0) hoisted

conditions_alone : map (condition_units Trees) (Compare Equal hoisted (Temp 0) ∷ holds ∷ Not holds ∷ Both holds holds ∷ Either holds holds ∷ []) ≡
    4 ∷ 6 ∷ 0 ∷ 31 ∷ 31 ∷ []
conditions_alone = refl

statements_alone : map (statement_units Trees) (Move 0 hoisted ∷ Store (Temp 0) hoisted ∷ StoreByte (Temp 0) hoisted ∷
    Do hoisted ∷ If holds nothing nothing ∷ Loop nothing ∷ Break 0 ∷ Fault 1 ∷ nothing ∷ Return hoisted ∷ []) ≡
    2 ∷ 3 ∷ 3 ∷ 0 ∷ 4 ∷ 4 ∷ 3 ∷ 3 ∷ 0 ∷ 16 ∷ []
statements_alone = refl

elements_alone : map element_units (Mark 1 ∷ Do' nothing ∷ Jump 1 ∷ Branch Equal (Temp 0) (Temp 1) 1 ∷ Fault' 1 ∷ Return' (Temp 0) ∷ []) ≡
    1 ∷ 0 ∷ 1 ∷ 2 ∷ 1 ∷ 14 ∷ []
elements_alone = refl

arguments_alone : argument_units Trees no_txs ∷ argument_units Trees (tx hoisted no_txs) ∷ argument_units Canonical (tx hoisted no_txs) ∷ [] ≡ 4 ∷ 6 ∷ 4 ∷ []
arguments_alone = refl

-- a shift by a word needs more than one by a constant
shifts_by_a_constant : expression_length Canonical (Binary ShiftLeft (Temp 0) (Const 5)) ≡ 3
shifts_by_a_constant = refl

shifts_by_a_word : expression_length Canonical (Binary ShiftLeft (Temp 0) (Temp 1)) ≡ 21
shifts_by_a_word = refl

-- a left side before one that isn't flat
lifts_a_left_side : expression_length Trees (Binary Add (Temp 0) (Call 34 no_txs)) ≡ 1 + 2 + 4
lifts_a_left_side = refl

-- so many static links; one of them, and a call across 32 levels
abbrev links : ℕ → Tx
links zero = FrameAddress
links (suc n) = Load (Binary Sub (links n) (Const 4))

one_link : expression_length Trees (links 2) ≡ 4 + expression_length Trees (links 1)
one_link = refl

call_across_levels : expression_length Trees (Call 34 (tx (links 32) no_txs)) ≡ 137
call_across_levels = refl

-- t0 / t1 with its two tests, and the moves of both sides
abbrev quotient : Tx
quotient =
    After (sequence (If (Compare Equal (Temp 1) (Const 0)) (Fault 7) nothing ∷
    If (Both (Compare Equal (Temp 0) (Const 2147483648)) (Compare Equal (Temp 1) (Const 4294967295)))
    (Do (Binary AddTrap (Const 2147483648) (Const 2147483648))) nothing ∷ [])) (Binary Div (Temp 0) (Temp 1))

quotient_with_its_tests : expression_length Trees quotient ≡ 50
quotient_with_its_tests = refl

-- two conditions, of which the right one isn't flat
lifts_a_condition : condition_length Trees (Both (Compare NotEqual (Temp 0) (Const 0)) (Compare NotEqual (Call 34 no_txs) (Const 0))) ≡
    31 + (4 + 2) + (4 + 4 + 2)
lifts_a_condition = refl

-- for t0 in a slot: the bounds, the test before the loop, the loop with its test and step
abbrev slot : Tx
slot = Binary Sub FrameAddress (Const 4)

abbrev counted : Ts
counted =
    sequence (Move 0 (Temp 2) ∷ Move 1 (Temp 3) ∷ If (Compare Less (Temp 0) (Temp 1))
    (sequence (Store slot (Temp 0) ∷
    Loop (sequence (If (Compare Equal (Load slot) (Temp 1)) (Break 0) nothing ∷ Store slot (Binary Add (Load slot) (Const 1)) ∷ [])) ∷ [])) nothing ∷ [])

counted_loop : statement_length Trees counted ≡ 50
counted_loop = refl

-- an entry of a function with three parameters
entry_of_three : entry_units 3 ≡ 40
entry_of_three = refl

entry_with_its_mark : marked_entry_units 3 ≡ 41
entry_with_its_mark = refl

-- a frame of one slot may have 8 bytes, and no fewer
eight_bytes : IsSizeOf (fun body) 8
eight_bytes = record { words = refl; least = omega arith; holds = omega arith }
