-- Length, needs and depth, as trees, of what each construct becomes, by those of its parts.
use Rattle.std.proofs.Common.{◌≡◌, ◌≤◌, ◌+◌, ◌*◌, ℕ, zero, suc, Bool, true, false, Option, Some, None, List, [], ◌∷◌, length, arith}
use Rattle.std.specs.Prelude.{◌-◌, ◌==◌, if◌then◌else◌, max}
use Rattle.tg_base.specs.Words.{sub}
use Rattle.tg_frame.specs.declared.accesses.Access.{Access}
use Rattle.tg_frame.specs.declared.accesses.Access.TheVariants.{InTemp, InFrame}
use Rattle.tg_runtime.specs.declared.routines.Routine.{Routine}
use Rattle.tg_syntax.specs.declared.trees.Op.{Op}
use Rattle.tg_syntax.specs.declared.trees.Op.TheVariants as op
use Rattle.tg_tree.specs.declared.operators.Bin.{Bin}
use Rattle.tg_tree.specs.declared.operators.Bin.TheVariants as bin
use Rattle.tg_tree.specs.declared.operators.Rel.TheVariants as rel
use Rattle.tg_tree.specs.Tree.{Tx, Const, Temp, FrameAddress, Binary, Txs, no_txs, tx, Cond, Compare, Ts, Move, Store, Stms, no_stms, stm}
use Rattle.tg_tree.specs.Forms.{when}
use Rattle.tg_tree.specs.glue.Lists.{join_txs}
use Rattle.tg_tree.specs.Units.{Trees, hoisted_units, joined_units, operator_units}
use Rattle.tg_tree.specs.Shapes.{is_flat, are_flat, is_flat_condition}
use Rattle.tg_tree.specs.Sizes.{in_trees, shift_needs}
use Rattle.tg_translate.specs.declared.homes.Home.{Home}
use Rattle.tg_translate.specs.declared.homes.Callee.{Callee}
use Rattle.tg_translate.specs.declared.homes.Within.{Within}
use Rattle.tg_translate.specs.declared.operands.Operand.{Operand}
use Rattle.tg_translate.specs.declared.operands.Operand.TheVariants.{Number, Kept}
use Rattle.tg_translate.specs.declared.held.HeldAddress.{HeldAddress}
use Rattle.tg_translate.specs.declared.held.HeldAddress.TheVariants.{InOwnFrame, Beside, At}
use Rattle.tg_translate.specs.declared.wants.Want.{Want}
use Rattle.tg_translate.specs.declared.wants.Want.TheVariants as want
use Rattle.tg_translate.specs.mirror.Wants.{Made, value, done, test, put_in, dropped, test_of, as_statement, taken_from, deliver, followed, done_behind}
use Rattle.tg_translate.specs.mirror.Constructs.{Storage, in_temp, at_address, operand, frame_out, place_in, own_place, read, store_at, held_address}
use Rattle.tg_translate.specs.mirror.Constructs.{HeldPlace, held_in_temp, held_at, read_held, plus, nil_check, field_of, index_check, element, element_of}
use Rattle.tg_translate.specs.mirror.Constructs.{call_routine, store_field, store_fields, space_for_record, record_of, HeldAll, product_check, product_of}
use Rattle.tg_translate.specs.mirror.Constructs.{zero_check, quotient_check, quotient_of, least_int, negation, make_array, turn_of, turns, count_of}
use Rattle.tg_translate.specs.mirror.Constructs.{comparison, repeat_while}
use Rattle.tg_translate.specs.mirror.Choices.{connected, tested, chosen}
use Rattle.tg_translate.specs.mirror.Scopes.{frame_at, home_place, call_declared}
use Rattle.tg_translate_laws.proofs.Spreading.{tx_length, txs_length, cond_length, ts_length, stms_length, tx_needs, txs_needs, cond_needs, ts_needs}
use Rattle.tg_translate_laws.proofs.Spreading.{stms_needs, tx_depth, txs_depth, cond_depth, ts_depth, stms_depth}

-- arguments, each with what it may have to be hoisted
abbrev pub most_arguments : Txs → ℕ
most_arguments no_txs = 0
most_arguments (tx x xs) = 6 + (tx_length x + most_arguments xs)

-- as a value, of what is made
abbrev pub made_length : Made → ℕ
made_length (value x) = tx_length x
made_length (done s) = ts_length s + 2
made_length (test c) = cond_length c + 28

abbrev pub made_needs : Made → ℕ
made_needs (value x) = tx_needs x
made_needs (done s) = ts_needs s + 2
made_needs (test c) = cond_needs c + 6

-- or one that is a little deeper
abbrev pub made_depth : Made → ℕ
made_depth (value x) = tx_depth x
made_depth (done s) = ts_depth s + 2
made_depth (test c) = cond_depth c + 5

abbrev pub place_depth : Storage → ℕ
place_depth (in_temp t) = 0
place_depth (at_address ss a) = max (stms_depth ss) (tx_depth a)

abbrev pub place_length : Storage → ℕ
place_length (in_temp t) = 0
place_length (at_address ss a) = stms_length ss + tx_length a

abbrev pub place_needs : Storage → ℕ
place_needs (in_temp t) = 0
place_needs (at_address ss a) = stms_needs ss + tx_needs a

pub hoisted_at_most : (b : Bool) → hoisted_units Trees b ≤ 2
hoisted_at_most true = omega arith
hoisted_at_most false = omega arith

joined_at_most : (b : Bool) → joined_units Trees b ≤ 31
joined_at_most true = omega arith
joined_at_most false = omega arith

-- Lists.

pub followed_size : (ss : Stms) (s : Ts) →
    (stms_length (followed ss s) ≡ stms_length ss + ts_length s) × (stms_needs (followed ss s) ≡ stms_needs ss + ts_needs s) ×
    (stms_depth (followed ss s) ≡ max (stms_depth ss) (ts_depth s))
followed_size no_stms s = (omega arith, omega arith, omega arith)
followed_size (stm t ss) s = let h = followed_size ss s in (omega (arith, h.0), omega (arith, h.1), omega (arith, h.2))

pub joined_size : (xs : Txs) (x : Tx) →
    (most_arguments (join_txs xs (tx x no_txs)) ≡ most_arguments xs + (6 + tx_length x)) ×
    (txs_needs (join_txs xs (tx x no_txs)) ≡ txs_needs xs + (2 + tx_needs x)) ×
    (txs_depth (join_txs xs (tx x no_txs)) ≡ max (txs_depth xs) (tx_depth x))
joined_size no_txs x = (omega arith, omega arith, omega arith)
joined_size (tx y xs) x = let h = joined_size xs x in (omega (arith, h.0), omega (arith, h.1), omega (arith, h.2))

pub arguments_at_most : (xs : Txs) → txs_length xs ≤ most_arguments xs
arguments_at_most no_txs = omega arith
arguments_at_most (tx x xs) = let h = arguments_at_most xs in let k = hoisted_at_most (are_flat xs) in omega (arith, h, k)

-- What is made, as its place wants it.

pub put_size : (t : ℕ) (m : Made) → (ts_length (put_in t m) ≤ made_length m + 2) × (ts_needs (put_in t m) ≤ made_needs m) ×
    (ts_depth (put_in t m) ≤ made_depth m + 1)
put_size t (value x) = (omega arith, omega arith, omega arith)
put_size t (done s) = (omega arith, omega arith, omega arith)
put_size t (test c) = (omega arith, omega arith, omega arith)

pub dropped_size : (m : Made) → (ts_length (dropped m) ≤ made_length m) × (ts_needs (dropped m) ≤ made_needs m) ×
    (ts_depth (dropped m) ≤ made_depth m + 1)
dropped_size (value x) = (omega arith, omega arith, omega arith)
dropped_size (done s) = (omega arith, omega arith, omega arith)
dropped_size (test c) = (omega arith, omega arith, omega arith)

pub test_size : (m : Made) → (cond_length (test_of m) ≤ made_length m + 6) × (cond_needs (test_of m) ≤ made_needs m + 8) ×
    (cond_depth (test_of m) ≤ made_depth m + 2)
test_size (value x) = (omega arith, omega arith, omega arith)
test_size (done s) = (omega arith, omega arith, omega arith)
test_size (test c) = (omega arith, omega arith, omega arith)

pub statement_size : (w : Want) (m : Made) → (ts_length (as_statement w m) ≤ made_length m + 2) × (ts_needs (as_statement w m) ≤ made_needs m) ×
    (ts_depth (as_statement w m) ≤ made_depth m + 1)
statement_size want.Value m = let h = dropped_size m in (omega (arith, h.0), h.1, h.2)
statement_size (want.Into t) m = put_size t.0 m
statement_size want.Dropped m = let h = dropped_size m in (omega (arith, h.0), h.1, h.2)
statement_size want.Test m = let h = dropped_size m in (omega (arith, h.0), h.1, h.2)

taken_size : (a : Want) (s : Ts) → (made_length (taken_from a s) ≤ ts_length s + 2) × (made_needs (taken_from a s) ≤ ts_needs s + 2) ×
    (made_depth (taken_from a s) ≤ ts_depth s + 2)
taken_size want.Value s = (omega arith, omega arith, omega arith)
taken_size (want.Into t) s = (omega arith, omega arith, omega arith)
taken_size want.Dropped s = (omega arith, omega arith, omega arith)
taken_size want.Test s = (omega arith, omega arith, omega arith)

pub deliver_size : (w a : Want) (s : Ts) → (made_length (deliver w a s) ≤ ts_length s + 2) × (made_needs (deliver w a s) ≤ ts_needs s + 2) ×
    (made_depth (deliver w a s) ≤ ts_depth s + 2)
deliver_size want.Value a s = taken_size a s
deliver_size (want.Into t) a s = (omega arith, omega arith, omega arith)
deliver_size want.Dropped a s = (omega arith, omega arith, omega arith)
deliver_size want.Test a s = taken_size a s

pub behind_size : (w : Want) (ss : Stms) (m : Made) →
    (made_length (done_behind w ss m) ≤ stms_length ss + (made_length m + 4)) × (made_needs (done_behind w ss m) ≤ stms_needs ss + (made_needs m + 2)) ×
    (made_depth (done_behind w ss m) ≤ max (stms_depth ss) (made_depth m) + 4)
behind_size w ss m =
    let h = statement_size w m in
    let k = followed_size ss (as_statement w m) in
    (omega (arith, h.0, k.0), omega (arith, h.1, k.1), omega (arith, h.2, k.2))

-- Connectives.

connected_size : (o : Op) (c d : Cond) →
    (cond_length (connected o c d) ≤ cond_length c + (cond_length d + 31)) × (cond_needs (connected o c d) ≤ cond_needs c + (cond_needs d + 6)) ×
    (cond_depth (connected o c d) ≤ max (cond_depth c) (cond_depth d) + 1)
connected_size op.And c d = let h = joined_at_most (is_flat_condition d) in (omega (arith, h), omega arith, omega arith)
connected_size o c d = let h = joined_at_most (is_flat_condition d) in (omega (arith, h), omega arith, omega arith)

pub tested_size : (o : Op) (c : Cond) (m : Made) →
    (made_length (tested o c m) ≤ cond_length c + (made_length m + 65)) × (made_needs (tested o c m) ≤ cond_needs c + (made_needs m + 20)) ×
    (made_depth (tested o c m) ≤ max (cond_depth c) (made_depth m + 2) + 6)
tested_size o c m =
    let h = test_size m in
    let k = connected_size o c (test_of m) in
    (omega (arith, h.0, k.0), omega (arith, h.1, k.1), omega (arith, h.2, k.2))

pub chosen_size : (o : Op) (w : Want) (c : Cond) (m : Made) →
    (ts_length (chosen o w c m) ≤ cond_length c + (made_length m + 26)) × (ts_needs (chosen o w c m) ≤ cond_needs c + (made_needs m + 3)) ×
    (ts_depth (chosen o w c m) ≤ max (cond_depth c) (made_depth m) + 4)
chosen_size op.And w c m =
    let h = statement_size w m in
    let k = statement_size w (value (Const 0)) in
    (omega (arith, h.0, k.0), omega (arith, h.1, k.1), omega (arith, h.2, k.2))
chosen_size o w c m =
    let h = statement_size w m in
    let k = statement_size w (value (Const 1)) in
    (omega (arith, h.0, k.0), omega (arith, h.1, k.1), omega (arith, h.2, k.2))

-- Frames further out, and places.

frame_out_size : (kept : Bool) (hops : ℕ) → (tx_length (frame_out kept hops) ≤ 1 + 4 * hops) × (tx_needs (frame_out kept hops) ≤ 2 + 6 * hops) ×
    (tx_depth (frame_out kept hops) ≤ 1 + 2 * hops)
frame_out_size kept zero = (omega arith, omega arith, omega arith)
frame_out_size true (suc zero) = (omega arith, omega arith, omega arith)
frame_out_size false (suc zero) = (omega arith, omega arith, omega arith)
frame_out_size kept (suc (suc n)) = let h = frame_out_size kept (suc n) in (omega (arith, h.0), omega (arith, h.1), omega (arith, h.2))

frame_at_size : (c : Within) (level : ℕ) → c.level ≤ 32 → (tx_length (frame_at c level) ≤ 129) × (tx_needs (frame_at c level) ≤ 194) ×
    (tx_depth (frame_at c level) ≤ 65)
frame_at_size c level l = let h = frame_out_size c.link_in_slot (c.level - level) in (omega (arith, h.0, l), omega (arith, h.1, l), omega (arith, h.2, l))

place_in_size : (frame : Tx) (a : Access) → (place_length (place_in frame a) ≤ tx_length frame + 3) × (place_needs (place_in frame a) ≤ tx_needs frame + 4) ×
    (place_depth (place_in frame a) ≤ tx_depth frame + 2)
place_in_size frame (InTemp t) = (omega arith, omega arith, omega arith)
place_in_size frame (InFrame k) = (omega arith, omega arith, omega arith)

pub own_place_size : (a : Access) → (place_length (own_place a) ≤ 4) × (place_needs (own_place a) ≤ 6) ×
    (place_depth (own_place a) ≤ 3)
own_place_size a = place_in_size FrameAddress a

pub home_size : (c : Within) (home : Option Home) → c.level ≤ 32 → (place_length (home_place c home) ≤ 132) × (place_needs (home_place c home) ≤ 198) ×
    (place_depth (home_place c home) ≤ 67)
home_size c (Some home) l =
    let h = frame_at_size c home.level l in
    let k = place_in_size (frame_at c home.level) home.access in
    (omega (arith, h.0, k.0), omega (arith, h.1, k.1), omega (arith, h.2, k.2))
home_size c None l = (omega arith, omega arith, omega arith)

pub read_size : (p : Storage) → (tx_length (read p) ≤ place_length p + 1) × (tx_needs (read p) ≤ place_needs p + 2) ×
    (tx_depth (read p) ≤ place_depth p + 2)
read_size (in_temp t) = (omega arith, omega arith, omega arith)
read_size (at_address no_stms a) = (omega arith, omega arith, omega arith)
read_size (at_address (stm s ss) a) = (omega arith, omega arith, omega arith)

pub store_size : (ss : Stms) (a x : Tx) →
    (ts_length (store_at ss a x) ≤ stms_length ss + (tx_length a + (tx_length x + 3))) ×
    (ts_needs (store_at ss a x) ≤ stms_needs ss + (tx_needs a + tx_needs x)) ×
    (ts_depth (store_at ss a x) ≤ max (stms_depth ss) (max (tx_depth a) (tx_depth x)) + 2)
store_size no_stms a x = let h = hoisted_at_most (is_flat x) in (omega (arith, h), omega arith, omega arith)
store_size (stm s ss) a x =
    let h = hoisted_at_most (is_flat x) in
    let k = followed_size (stm s ss) (Store a x) in
    (omega (arith, h, k.0), omega (arith, k.1), omega (arith, k.2))

-- Operands: numbers or temporaries.

pub operand_size : (o : Operand) → (tx_length (operand o) ≤ 2) × (tx_needs (operand o) ≤ 2) ×
    (tx_depth (operand o) ≡ 1)
operand_size (Number k) = (omega arith, omega arith, omega arith)
operand_size (Kept t) = (omega arith, omega arith, omega arith)

operator_size : (o : Bin) (k : ℕ) → (operator_units o (Const k) ≤ 2) × (shift_needs in_trees o ≤ 2)
operator_size bin.Mul k = (omega arith, omega arith)
operator_size bin.Div k = (omega arith, omega arith)
operator_size bin.MulHigh k = (omega arith, omega arith)
operator_size bin.ShiftLeft k = (omega arith, omega arith)
operator_size bin.ShiftRight k = (omega arith, omega arith)
operator_size bin.ShiftSigned k = (omega arith, omega arith)
operator_size o k = (omega arith, omega arith)

held_address_size : (a : HeldAddress) → (tx_length (held_address a) ≤ 6) × (tx_needs (held_address a) ≤ 8) × (tx_depth (held_address a) ≤ 2)
held_address_size (InOwnFrame o k) = let h = operator_size o k in (omega (arith, h.0), omega (arith, h.1), omega arith)
held_address_size (Beside x o k) =
    let h = operator_size o k in let p = operand_size x in (omega (arith, h.0, p.0), omega (arith, h.1, p.1), omega (arith, p.2))
held_address_size (At x) = let p = operand_size x in (omega (arith, p.0), omega (arith, p.1), omega (arith, p.2))

pub read_held_size : (q : HeldPlace) → (tx_length (read_held q) ≤ 7) × (tx_needs (read_held q) ≤ 10) × (tx_depth (read_held q) ≤ 3)
read_held_size (held_in_temp t) = (omega arith, omega arith, omega arith)
read_held_size (held_at ss a) = let h = held_address_size a in (omega (arith, h.0), omega (arith, h.1), omega (arith, h.2))

plus_size : (o : Operand) (k : ℕ) → (tx_length (plus (operand o) k) ≤ tx_length (operand o) + 3) × (tx_needs (plus (operand o) k) ≤ tx_needs (operand o) + 4) ×
    (tx_depth (plus (operand o) k) ≤ 2)
plus_size o zero = let h = operand_size o in (omega arith, omega arith, omega (arith, h.2))
plus_size o (suc k) = let h = operand_size o in (omega arith, omega arith, omega (arith, h.2))

nil_check_size : (r : Operand) → (ts_length (nil_check (operand r)) ≤ tx_length (operand r) + 29) ×
    (ts_needs (nil_check (operand r)) ≤ tx_needs (operand r) + 9) ×
    (ts_depth (nil_check (operand r)) ≤ 4)
nil_check_size (Number k) = (omega arith, omega arith, omega arith)
nil_check_size (Kept t) = (omega arith, omega arith, omega arith)

pub field_size : (k : ℕ) (ss : Stms) (r : Operand) →
    (place_length (field_of k ss (operand r)) ≤ stms_length ss + (2 * tx_length (operand r) + 32)) ×
    (place_needs (field_of k ss (operand r)) ≤ stms_needs ss + (2 * tx_needs (operand r) + 13)) ×
    (place_depth (field_of k ss (operand r)) ≤ max (stms_depth ss) 4)
field_size k ss r =
    let h = nil_check_size r in
    let i = followed_size ss (nil_check (operand r)) in
    let j = plus_size r (4 * k) in
    (omega (arith, h.0, i.0, j.0), omega (arith, h.1, i.1, j.1), omega (arith, h.2, i.2, j.2))

index_check_size : (a i : Operand) →
    (ts_length (index_check (operand a) (operand i)) ≤ tx_length (operand a) + (tx_length (operand i) + 28)) ×
    (ts_needs (index_check (operand a) (operand i)) ≤ tx_needs (operand a) + (tx_needs (operand i) + 9)) ×
    (ts_depth (index_check (operand a) (operand i)) ≤ 5)
index_check_size (Number k) (Number l) = (omega arith, omega arith, omega arith)
index_check_size (Number k) (Kept t) = (omega arith, omega arith, omega arith)
index_check_size (Kept t) (Number l) = (omega arith, omega arith, omega arith)
index_check_size (Kept t) (Kept u) = (omega arith, omega arith, omega arith)

address_size : (a i : Operand) →
    (tx_length (element (operand a) (operand i)) ≤ tx_length (operand a) + (tx_length (operand i) + 7)) ×
    (tx_needs (element (operand a) (operand i)) ≤ tx_needs (operand a) + (tx_needs (operand i) + 12)) ×
    (tx_depth (element (operand a) (operand i)) ≤ 4)
address_size (Number k) (Number l) = (omega arith, omega arith, omega arith)
address_size (Number k) (Kept t) = (omega arith, omega arith, omega arith)
address_size (Kept t) (Number l) = (omega arith, omega arith, omega arith)
address_size (Kept t) (Kept u) = (omega arith, omega arith, omega arith)

pub element_size : (ss : Stms) (a i : Operand) →
    (place_length (element_of ss (operand a) (operand i)) ≤ stms_length ss + (2 * tx_length (operand a) + (2 * tx_length (operand i) + 35))) ×
    (place_needs (element_of ss (operand a) (operand i)) ≤ stms_needs ss + (2 * tx_needs (operand a) + (2 * tx_needs (operand i) + 21))) ×
    (place_depth (element_of ss (operand a) (operand i)) ≤ max (stms_depth ss) 5)
element_size ss a i =
    let h = index_check_size a i in
    let j = followed_size ss (index_check (operand a) (operand i)) in
    let k = address_size a i in
    (omega (arith, h.0, j.0, k.0), omega (arith, h.1, j.1, k.1), omega (arith, h.2, j.2, k.2))

-- Records and arrays.

store_field_size : (r k : ℕ) (x : Operand) → (ts_length (store_field r k x) ≤ 6) × (ts_needs (store_field r k x) ≤ 7) ×
    (ts_depth (store_field r k x) ≤ 3)
store_field_size r k (Number n) = let h = plus_size (Kept (record { 0 = r })) (4 * k) in (omega (arith, h.0), omega (arith, h.1), omega (arith, h.2))
store_field_size r k (Kept t) = let h = plus_size (Kept (record { 0 = r })) (4 * k) in (omega (arith, h.0), omega (arith, h.1), omega (arith, h.2))

stored_size : (ss : Stms) (r k : ℕ) (xs : List Operand) →
    (stms_length (store_fields ss r k xs) ≤ stms_length ss + 6 * length xs) × (stms_needs (store_fields ss r k xs) ≤ stms_needs ss + 7 * length xs) ×
    (stms_depth (store_fields ss r k xs) ≤ max (stms_depth ss) 3)
stored_size ss r k [] = (omega arith, omega arith, omega arith)
stored_size ss r k (x ∷ xs) =
    let h = store_field_size r k x in
    let i = followed_size ss (store_field r k x) in
    let j = stored_size (followed ss (store_field r k x)) r (suc k) xs in
    (omega (arith, h.0, i.0, j.0), omega (arith, h.1, i.1, j.1), omega (arith, h.2, i.2, j.2))

-- values that are kept for a record, with their stores
abbrev pub held_length : HeldAll → ℕ
held_length all = stms_length all.before + 6 * length all.operands

abbrev pub held_needs : HeldAll → ℕ
held_needs all = stms_needs all.before + 7 * length all.operands

pub record_size : (r : ℕ) (all : HeldAll) → (made_length (record_of r all) ≤ held_length all + 12) × (made_needs (record_of r all) ≤ held_needs all + 8) ×
    (made_depth (record_of r all) ≤ max (stms_depth all.before) 3 + 2)
record_size r all =
    let call : Ts = Move r (space_for_record (length all.operands)) in
    let h = followed_size all.before call in
    let k = stored_size (followed all.before call) r 0 all.operands in
    (omega (arith, h.0, k.0), omega (arith, h.1, k.1), omega (arith, h.2, k.2))

pub routine_size : (one : Routine) (xs : Txs) →
    (tx_length (call_routine one xs) ≤ most_arguments xs + 4) × (tx_needs (call_routine one xs) ≤ txs_needs xs + 3) ×
    (tx_depth (call_routine one xs) ≤ txs_depth xs + 1)
routine_size one xs = let h = arguments_at_most xs in (omega (arith, h), omega arith, omega arith)

pub make_array_size : (x y : Tx) →
    (tx_length (make_array x y) ≤ tx_length x + (tx_length y + 16)) × (tx_needs (make_array x y) ≤ tx_needs x + (tx_needs y + 7)) ×
    (tx_depth (make_array x y) ≤ max (tx_depth x) (tx_depth y) + 1)
make_array_size x y = let h = hoisted_at_most (are_flat (tx y no_txs)) in (omega (arith, h), omega arith, omega arith)

-- Operators.

pub comparison_size : (o : Op) (of_strings : Bool) (x y : Tx) →
    (cond_length (comparison o of_strings x y) ≤ tx_length x + (tx_length y + 22)) ×
    (cond_needs (comparison o of_strings x y) ≤ tx_needs x + (tx_needs y + 15)) ×
    (cond_depth (comparison o of_strings x y) ≤ max (tx_depth x) (tx_depth y) + 2)
comparison_size o true x y = let h = hoisted_at_most (are_flat (tx y no_txs)) in (omega (arith, h), omega arith, omega arith)
comparison_size o false x y = let h = hoisted_at_most (is_flat y) in (omega (arith, h), omega arith, omega arith)

pub binary_size : (x y : Tx) →
    (tx_length (Binary bin.AddTrap x y) ≤ tx_length x + (tx_length y + 3)) × (tx_length (Binary bin.SubTrap x y) ≤ tx_length x + (tx_length y + 3))
binary_size x y = let h = hoisted_at_most (is_flat y) in (omega (arith, h), omega (arith, h))

product_check_size : (p : ℕ) (l r : Operand) →
    (ts_length (product_check (operand l) (operand r) (Temp p)) ≤ tx_length (operand l) + (tx_length (operand r) + 34)) ×
    (ts_needs (product_check (operand l) (operand r) (Temp p)) ≤ tx_needs (operand l) + (tx_needs (operand r) + 22)) ×
    (ts_depth (product_check (operand l) (operand r) (Temp p)) ≤ 5)
product_check_size p (Number k) (Number l) = (omega arith, omega arith, omega arith)
product_check_size p (Number k) (Kept t) = (omega arith, omega arith, omega arith)
product_check_size p (Kept t) (Number l) = (omega arith, omega arith, omega arith)
product_check_size p (Kept t) (Kept u) = (omega arith, omega arith, omega arith)

factors_size : (p : ℕ) (l r : Operand) →
    (ts_length (Move p (Binary bin.Mul (operand l) (operand r))) ≤ tx_length (operand l) + (tx_length (operand r) + 4)) ×
    (ts_needs (Move p (Binary bin.Mul (operand l) (operand r))) ≤ tx_needs (operand l) + (tx_needs (operand r) + 2)) ×
    (ts_depth (Move p (Binary bin.Mul (operand l) (operand r))) ≤ 3)
factors_size p (Number k) (Number l) = (omega arith, omega arith, omega arith)
factors_size p (Number k) (Kept t) = (omega arith, omega arith, omega arith)
factors_size p (Kept t) (Number l) = (omega arith, omega arith, omega arith)
factors_size p (Kept t) (Kept u) = (omega arith, omega arith, omega arith)

pub product_size : (p : ℕ) (ss : Stms) (l r : Operand) →
    (made_length (product_of p ss (operand l) (operand r)) ≤ stms_length ss + (2 * tx_length (operand l) + (2 * tx_length (operand r) + 38))) ×
    (made_needs (product_of p ss (operand l) (operand r)) ≤ stms_needs ss + (2 * tx_needs (operand l) + (2 * tx_needs (operand r) + 25))) ×
    (made_depth (product_of p ss (operand l) (operand r)) ≤ max (stms_depth ss) 5 + 2)
product_size p ss l r =
    let multiply : Ts = Move p (Binary bin.Mul (operand l) (operand r)) in
    let h = factors_size p l r in
    let i = product_check_size p l r in
    let j = followed_size ss multiply in
    let k = followed_size (followed ss multiply) (product_check (operand l) (operand r) (Temp p)) in
    (omega (arith, h.0, i.0, j.0, k.0), omega (arith, h.1, i.1, j.1, k.1), omega (arith, h.2, i.2, j.2, k.2))

zero_check_size : (r : Operand) → (ts_length (zero_check (operand r)) ≤ tx_length (operand r) + 29) ×
    (ts_needs (zero_check (operand r)) ≤ tx_needs (operand r) + 9) ×
    (ts_depth (zero_check (operand r)) ≤ 4)
zero_check_size (Number k) = (omega arith, omega arith, omega arith)
zero_check_size (Kept t) = (omega arith, omega arith, omega arith)

quotient_check_size : (l r : Operand) →
    (ts_length (quotient_check (operand l) (operand r)) ≤ tx_length (operand l) + (tx_length (operand r) + 51)) ×
    (ts_needs (quotient_check (operand l) (operand r)) ≤ tx_needs (operand l) + (tx_needs (operand r) + 29)) ×
    (ts_depth (quotient_check (operand l) (operand r)) ≤ 5)
quotient_check_size (Number k) (Number l) = (omega arith, omega arith, omega arith)
quotient_check_size (Number k) (Kept t) = (omega arith, omega arith, omega arith)
quotient_check_size (Kept t) (Number l) = (omega arith, omega arith, omega arith)
quotient_check_size (Kept t) (Kept u) = (omega arith, omega arith, omega arith)

pub divide_size : (x y : Tx) → (tx_length (Binary bin.Div x y) ≤ tx_length x + (tx_length y + 4)) ×
    (tx_needs (Binary bin.Div x y) ≤ tx_needs x + (tx_needs y + 2)) ×
    (tx_depth (Binary bin.Div x y) ≤ max (tx_depth x) (tx_depth y) + 1)
divide_size x y = let h = hoisted_at_most (is_flat y) in (omega (arith, h), omega arith, omega arith)

divided_size : (l r : Operand) →
    (tx_length (Binary bin.Div (operand l) (operand r)) ≤ tx_length (operand l) + (tx_length (operand r) + 2)) ×
    (tx_needs (Binary bin.Div (operand l) (operand r)) ≤ tx_needs (operand l) + (tx_needs (operand r) + 2)) ×
    (tx_depth (Binary bin.Div (operand l) (operand r)) ≤ 2)
divided_size (Number k) (Number l) = (omega arith, omega arith, omega arith)
divided_size (Number k) (Kept t) = (omega arith, omega arith, omega arith)
divided_size (Kept t) (Number l) = (omega arith, omega arith, omega arith)
divided_size (Kept t) (Kept u) = (omega arith, omega arith, omega arith)

pub quotient_size : (ss : Stms) (l r : Operand) →
    (made_length (quotient_of ss (operand l) (operand r)) ≤ stms_length ss + (2 * tx_length (operand l) + (3 * tx_length (operand r) + 82))) ×
    (made_needs (quotient_of ss (operand l) (operand r)) ≤ stms_needs ss + (2 * tx_needs (operand l) + (3 * tx_needs (operand r) + 40))) ×
    (made_depth (quotient_of ss (operand l) (operand r)) ≤ max (stms_depth ss) 5 + 2)
quotient_size ss l r =
    let h = zero_check_size r in
    let i = quotient_check_size l r in
    let j = followed_size ss (zero_check (operand r)) in
    let k = followed_size (followed ss (zero_check (operand r))) (quotient_check (operand l) (operand r)) in
    let m = divided_size l r in
    (omega (arith, h.0, i.0, j.0, k.0, m.0), omega (arith, h.1, i.1, j.1, k.1, m.1), omega (arith, h.2, i.2, j.2, k.2, m.2))

negated_size : (k : ℕ) (b : Bool) →
    (tx_length (if b then Binary bin.SubTrap (Const 0) (Const k) else Const (sub 0 k)) ≤ 7) ×
    (tx_needs (if b then Binary bin.SubTrap (Const 0) (Const k) else Const (sub 0 k)) ≤ 6) ×
    (tx_depth (if b then Binary bin.SubTrap (Const 0) (Const k) else Const (sub 0 k)) ≤ 2)
negated_size k true = (omega arith, omega arith, omega arith)
negated_size k false = (omega arith, omega arith, omega arith)

minus_size : (x : Tx) → (tx_length (Binary bin.SubTrap (Const 0) x) ≤ tx_length x + 5) × (tx_needs (Binary bin.SubTrap (Const 0) x) ≤ tx_needs x + 4) ×
    (tx_depth (Binary bin.SubTrap (Const 0) x) ≤ tx_depth x + 2)
minus_size x = let h = hoisted_at_most (is_flat x) in (omega (arith, h), omega arith, omega arith)

pub negation_size : (x : Tx) → (tx_length (negation x) ≤ tx_length x + 5) × (tx_needs (negation x) ≤ tx_needs x + 4) ×
    (tx_depth (negation x) ≤ tx_depth x + 2)
negation_size (Const k) = let h = negated_size k (k == least_int) in (omega (arith, h.0), omega (arith, h.1), omega (arith, h.2))
negation_size x = minus_size x

-- Loops.

pub while_size : (c : Cond) (s : Ts) → (ts_length (repeat_while c s) ≤ cond_length c + (ts_length s + 27)) ×
    (ts_needs (repeat_while c s) ≤ cond_needs c + (ts_needs s + 1)) ×
    (ts_depth (repeat_while c s) ≤ max (cond_depth c) (ts_depth s) + 4)
while_size c s = (omega arith, omega arith, omega arith)

turn_size : (i : Access) (high : Operand) (turn : Ts) →
    (ts_length (turn_of i high turn) ≤ ts_length turn + (tx_length (operand high) + 45)) ×
    (ts_needs (turn_of i high turn) ≤ ts_needs turn + (tx_needs (operand high) + 33)) ×
    (ts_depth (turn_of i high turn) ≤ max (ts_depth turn) 6 + 1)
turn_size (InTemp t) (Number k) turn = (omega arith, omega arith, omega arith)
turn_size (InTemp t) (Kept u) turn = (omega arith, omega arith, omega arith)
turn_size (InFrame s) (Number k) turn = (omega arith, omega arith, omega arith)
turn_size (InFrame s) (Kept u) turn = (omega arith, omega arith, omega arith)

turns_size : (i : Access) (low high : Operand) (turn : Ts) →
    (ts_length (turns i low high turn) ≤ ts_length turn + (tx_length (operand high) + 57)) ×
    (ts_needs (turns i low high turn) ≤ ts_needs turn + (tx_needs (operand high) + 44)) ×
    (ts_depth (turns i low high turn) ≤ max (ts_depth turn) 6 + 3)
turns_size (InTemp t) (Number k) high turn = let h = turn_size (InTemp t) high turn in (omega (arith, h.0), omega (arith, h.1), omega (arith, h.2))
turns_size (InTemp t) (Kept u) high turn = let h = turn_size (InTemp t) high turn in (omega (arith, h.0), omega (arith, h.1), omega (arith, h.2))
turns_size (InFrame s) (Number k) high turn = let h = turn_size (InFrame s) high turn in (omega (arith, h.0), omega (arith, h.1), omega (arith, h.2))
turns_size (InFrame s) (Kept u) high turn = let h = turn_size (InFrame s) high turn in (omega (arith, h.0), omega (arith, h.1), omega (arith, h.2))

bounds_size : (low high : Operand) →
    (cond_length (Compare rel.GreaterEqual (operand high) (operand low)) ≤ tx_length (operand high) + (tx_length (operand low) + 4)) ×
    (cond_needs (Compare rel.GreaterEqual (operand high) (operand low)) ≤ tx_needs (operand high) + (tx_needs (operand low) + 6)) ×
    (cond_depth (Compare rel.GreaterEqual (operand high) (operand low)) ≤ 2)
bounds_size (Number k) high = let h = operand_size high in (omega arith, omega arith, omega (arith, h.2))
bounds_size (Kept t) high = let h = operand_size high in (omega arith, omega arith, omega (arith, h.2))

pub count_size : (ss : Stms) (i : Access) (low high : Operand) (turn : Ts) →
    (ts_length (count_of ss i low high turn) ≤ stms_length ss + (ts_length turn + (2 * tx_length (operand high) + (tx_length (operand low) + 81)))) ×
    (ts_needs (count_of ss i low high turn) ≤ stms_needs ss + (ts_needs turn + (2 * tx_needs (operand high) + (tx_needs (operand low) + 51)))) ×
    (ts_depth (count_of ss i low high turn) ≤ max (stms_depth ss) (max (ts_depth turn) 6 + 5) + 1)
count_size ss i low high turn =
    let looping : Ts = when (Compare rel.GreaterEqual (operand high) (operand low)) (turns i low high turn) in
    let h = bounds_size low high in
    let j = turns_size i low high turn in
    let k = followed_size ss looping in
    (omega (arith, h.0, j.0, k.0), omega (arith, h.1, j.1, k.1), omega (arith, h.2, j.2, k.2))

-- Calls of declared functions, with their links.
pub declared_size : (c : Within) (xs : Txs) (callee : Option Callee) → c.level ≤ 32 →
    (tx_length (call_declared c xs callee) ≤ most_arguments xs + 139) × (tx_needs (call_declared c xs callee) ≤ txs_needs xs + 199) ×
    (tx_depth (call_declared c xs callee) ≤ max 65 (txs_depth xs) + 1)
declared_size c xs (Some callee) l =
    let h = frame_at_size c callee.level l in
    let j = hoisted_at_most (are_flat xs) in
    let k = arguments_at_most xs in
    (omega (arith, h.0, j, k), omega (arith, h.1), omega (arith, h.2))
declared_size c xs None l = (omega arith, omega arith, omega arith)
