-- What constructs are made of has constants that are words, where the ints, fields and slots that it is made of are words.
use Rattle.std.proofs.Common.{◌≡◌, ◌<◌, ◌+◌, ◌*◌, ℕ, zero, suc, Bool, true, false, Option, Some, None, List, [], ◌∷◌, length, arith, refl}
use Rattle.std.specs.Prelude.{◌-◌, ◌==◌, if◌then◌else◌}
use Rattle.tg_base.specs.Words.{sub}
use Rattle.tg_frame.specs.declared.accesses.Access.{Access}
use Rattle.tg_frame.specs.declared.accesses.Access.TheVariants.{InTemp, InFrame}
use Rattle.tg_syntax.specs.declared.trees.Op.{Op}
use Rattle.tg_syntax.specs.declared.trees.Op.TheVariants as op
use Rattle.tg_tree.specs.declared.operators.Bin.TheVariants as bin
use Rattle.tg_tree.specs.declared.operators.Rel.TheVariants as rel
use Rattle.tg_tree.specs.Tree.{Tx, Const, Temp, FrameAddress, Binary, Txs, no_txs, tx, Cond, Compare}
use Rattle.tg_tree.specs.Tree.{Ts, Move, Store, Stms, no_stms, stm}
use Rattle.tg_tree.specs.Forms.{when}
use Rattle.tg_tree.specs.glue.Lists.{join_txs}
use Rattle.tg_tree.specs.Named.{Named, constant}
use Rattle.tg_translate.specs.declared.homes.Home.{Home}
use Rattle.tg_translate.specs.declared.homes.Callee.{Callee}
use Rattle.tg_translate.specs.declared.homes.Within.{Within}
use Rattle.tg_translate.specs.declared.operands.Operand.{Operand}
use Rattle.tg_translate.specs.declared.operands.Operand.TheVariants.{Number, Kept}
use Rattle.tg_translate.specs.declared.held.HeldAddress.{HeldAddress}
use Rattle.tg_translate.specs.declared.held.HeldAddress.TheVariants.{InOwnFrame, Beside, At}
use Rattle.tg_translate.specs.declared.wants.Want.{Want}
use Rattle.tg_translate.specs.declared.wants.Want.TheVariants as want
use Rattle.tg_translate.specs.mirror.Wants.{Made, value, done, test, truth_into, put_in, dropped, test_of, as_statement, taken_from, deliver, followed}
use Rattle.tg_translate.specs.mirror.Constructs.{Storage, in_temp, at_address, operand, frame_out, place_in, own_place, read, store_at, held_address, HeldPlace}
use Rattle.tg_translate.specs.mirror.Constructs.{held_in_temp, held_at, read_held, place_held, plus, nil_check, field_of, index_check, element_of, store_field}
use Rattle.tg_translate.specs.mirror.Constructs.{store_fields, space_for_record, record_of, HeldAll, product_check, product_of, zero_check, quotient_check}
use Rattle.tg_translate.specs.mirror.Constructs.{quotient_of, least_int, negation, assign_value, first_minus_one, turn_of, turns, count_of, comparison}
use Rattle.tg_translate.specs.mirror.Constructs.{repeat_while}
use Rattle.tg_translate.specs.mirror.Choices.{connected, tested, chosen}
use Rattle.tg_translate.specs.mirror.Scopes.{frame_at, home_place, call_declared}
use Rattle.tg_translate_laws.proofs.Fine.{FineTs, FineStms, FineTx, FineTxs, FineCond, join_fine_txs, join_fine_stms}

-- constants are words; nothing is said of other names, nor of breaks
abbrev pub IsWord : Named → Type 0
IsWord (constant k) = k < 4294967296
IsWord _ = Unit {0}

abbrev pub WordTx : Tx → Type 0
WordTx x = (n : ℕ) → FineTx ⊥ IsWord n x

abbrev pub WordTxs : Txs → Type 0
WordTxs xs = (n : ℕ) → FineTxs ⊥ IsWord n xs

abbrev pub WordCond : Cond → Type 0
WordCond c = (n : ℕ) → FineCond ⊥ IsWord n c

abbrev pub WordTs : Ts → Type 0
WordTs s = (n : ℕ) → FineTs ⊥ IsWord n s

abbrev pub WordStms : Stms → Type 0
WordStms ss = (n : ℕ) → FineStms ⊥ IsWord n ss

abbrev pub WordMade : Made → Type 0
WordMade (value x) = WordTx x
WordMade (done s) = WordTs s
WordMade (test c) = WordCond c

abbrev pub WordOperand : Operand → Type 0
WordOperand (Number k) = k < 4294967296
WordOperand (Kept t) = Unit {0}

abbrev pub WordOperands : List Operand → Type 0
WordOperands [] = Unit {0}
WordOperands (x ∷ xs) = WordOperand x × WordOperands xs

abbrev pub WordPlace : Storage → Type 0
WordPlace (in_temp t) = Unit {0}
WordPlace (at_address ss a) = WordStms ss × WordTx a

-- the slots of a frame are fewer than a fourth of all words
abbrev pub WordAccess : Access → Type 0
WordAccess (InTemp t) = Unit {0}
WordAccess (InFrame k) = k < 1073741823

abbrev pub WordHeld : HeldAddress → Type 0
WordHeld (InOwnFrame o k) = k < 4294967296
WordHeld (Beside x o k) = WordOperand x × k < 4294967296
WordHeld (At x) = WordOperand x

pub wrapped : (a b : ℕ) → sub a b < 4294967296
wrapped a b = omega arith

pub operand_words : (o : Operand) → WordOperand o → WordTx (operand o)
operand_words (Number k) h = λ n. h
operand_words (Kept t) h = λ n. tt

plus_words : (x : Tx) (k : ℕ) → k < 4294967296 → WordTx x → WordTx (plus x k)
plus_words x zero l h = h
plus_words x (suc k) l h = λ n. (h n, l)

pub joined_words : (xs : Txs) (x : Tx) → WordTxs xs → WordTx x → WordTxs (join_txs xs (tx x no_txs))
joined_words xs x h k = λ n. join_fine_txs ⊥ IsWord n xs (tx x no_txs) (h n) (k n, tt)

pub followed_words : (ss : Stms) (s : Ts) → WordStms ss → WordTs s → WordStms (followed ss s)
followed_words ss s h k = λ n. join_fine_stms ⊥ IsWord n ss (stm s no_stms) (h n) (k n, tt)

-- What is made, as its place wants it.

pub truth_words : (t : ℕ) (c : Cond) → WordCond c → WordTs (truth_into t c)
truth_words t c h = λ n. (h n, (tt, omega arith), (tt, omega arith))

pub put_words : (t : ℕ) (m : Made) → WordMade m → WordTs (put_in t m)
put_words t (value x) h = λ n. (tt, h n)
put_words t (done s) h = h
put_words t (test c) h = truth_words t c h

pub dropped_words : (m : Made) → WordMade m → WordTs (dropped m)
dropped_words (value x) h = h
dropped_words (done s) h = h
dropped_words (test c) h = λ n. (h n, tt, tt)

pub test_words : (m : Made) → WordMade m → WordCond (test_of m)
test_words (value x) h = λ n. (h n, omega arith)
test_words (done s) h = λ n. ((h n, omega arith), omega arith)
test_words (test c) h = h

pub statement_words : (w : Want) (m : Made) → WordMade m → WordTs (as_statement w m)
statement_words want.Value m h = dropped_words m h
statement_words (want.Into t) m h = put_words t.0 m h
statement_words want.Dropped m h = dropped_words m h
statement_words want.Test m h = dropped_words m h

taken_words : (a : Want) (s : Ts) → WordTs s → WordMade (taken_from a s)
taken_words want.Value s h = h
taken_words (want.Into t) s h = λ n. (h n, tt)
taken_words want.Dropped s h = h
taken_words want.Test s h = h

pub deliver_words : (w a : Want) (s : Ts) → WordTs s → WordMade (deliver w a s)
deliver_words want.Value a s h = taken_words a s h
deliver_words (want.Into t) a s h = h
deliver_words want.Dropped a s h = h
deliver_words want.Test a s h = taken_words a s h

connected_words : (o : Op) (c d : Cond) → WordCond c → WordCond d → WordCond (connected o c d)
connected_words op.And c d h k = λ n. (h n, k n)
connected_words o c d h k = λ n. (h n, k n)

pub tested_words : (o : Op) (c : Cond) (m : Made) → WordCond c → WordMade m → WordMade (tested o c m)
tested_words o c m h k = connected_words o c (test_of m) h (test_words m k)

number_words : (k : ℕ) → k < 4294967296 → WordMade (value (Const k))
number_words k l = λ n. l

pub chosen_words : (o : Op) (w : Want) (c : Cond) (m : Made) → WordCond c → WordMade m → WordTs (chosen o w c m)
chosen_words op.And w c m h k =
    let s = statement_words w m k in let t = statement_words w (value (Const 0)) (number_words 0 (omega arith)) in λ n. (h n, s n, t n)
chosen_words o w c m h k =
    let s = statement_words w (value (Const 1)) (number_words 1 (omega arith)) in let t = statement_words w m k in λ n. (h n, s n, t n)

-- Frames and places.

frame_out_words : (kept : Bool) (hops : ℕ) → WordTx (frame_out kept hops)
frame_out_words kept zero = λ n. tt
frame_out_words true (suc zero) = λ n. (tt, omega arith)
frame_out_words false (suc zero) = λ n. tt
frame_out_words kept (suc (suc hops)) = let h = frame_out_words kept (suc hops) in λ n. (h n, omega arith)

frame_at_words : (c : Within) (level : ℕ) → WordTx (frame_at c level)
frame_at_words c level = frame_out_words c.link_in_slot (c.level - level)

place_in_words : (frame : Tx) (a : Access) → WordTx frame → WordAccess a → WordPlace (place_in frame a)
place_in_words frame (InTemp t) h k = tt
place_in_words frame (InFrame j) h k = (λ n. tt, λ n. (h n, omega (arith, k)))

pub own_place_words : (a : Access) → WordAccess a → WordPlace (own_place a)
own_place_words a k = place_in_words FrameAddress a (λ n. tt) k

pub home_words : (c : Within) (home : Option Home) → ((h : Home) → home ≡ Some h → WordAccess h.access) → WordPlace (home_place c home)
home_words c (Some home) k = place_in_words (frame_at c home.level) home.access (frame_at_words c home.level) (k home refl)
home_words c None k = (λ n. tt, λ n. omega arith)

pub read_words : (p : Storage) → WordPlace p → WordTx (read p)
read_words (in_temp t) h = λ n. tt
read_words (at_address no_stms a) h = h.1
read_words (at_address (stm s ss) a) h = let k = h.0 in let l = h.1 in λ n. (k n, l n)

pub store_words : (ss : Stms) (a x : Tx) → WordStms ss → WordTx a → WordTx x → WordTs (store_at ss a x)
store_words no_stms a x h k g = λ n. (k n, g n)
store_words (stm s ss) a x h k g = followed_words (stm s ss) (Store a x) h (λ n. (k n, g n))

assigned_words : (p : Storage) (x : Tx) → WordPlace p → WordTx x → WordTs (assign_value p x)
assigned_words (in_temp t) x h k = λ n. (tt, k n)
assigned_words (at_address ss a) x h k = store_words ss a x h.0 h.1 k

pub held_words : (a : HeldAddress) → WordHeld a → WordTx (held_address a)
held_words (InOwnFrame o k) h = λ n. (tt, h)
held_words (Beside x o k) h = let g = operand_words x h.0 in let l = h.1 in λ n. (g n, l)
held_words (At x) h = operand_words x h

pub read_held_words : (q : HeldPlace) → WordPlace (place_held q) → WordTx (read_held q)
read_held_words (held_in_temp t) h = λ n. tt
read_held_words (held_at ss a) h = h.1

pub field_words : (k : ℕ) (ss : Stms) (r : Operand) → 4 * k < 4294967296 → WordStms ss → WordOperand r → WordPlace (field_of k ss (operand r))
field_words k ss r l h g =
    let o = operand_words r g in
    (followed_words ss (nil_check (operand r)) h (λ n. ((o n, omega arith), tt, tt)), plus_words (operand r) (4 * k) l o)

pub element_words : (ss : Stms) (a i : Operand) → WordStms ss → WordOperand a → WordOperand i → WordPlace (element_of ss (operand a) (operand i))
element_words ss a i h g k =
    let o = operand_words a g in
    let p = operand_words i k in (
      followed_words ss (index_check (operand a) (operand i)) h (λ n. ((p n, o n), tt, tt)),
      λ n. (((p n, omega arith), o n), omega arith),
    )

-- Records and operators.

stored_words : (ss : Stms) (r k : ℕ) (xs : List Operand) → 4 * (k + length xs) < 4294967296 → WordStms ss → WordOperands xs → WordStms
    (store_fields ss r k xs)
stored_words ss r k [] l h g = h
stored_words ss r k (x ∷ xs) l h g =
    let p = plus_words (Temp r) (4 * k) (omega (arith, l)) (λ n. tt) in
    let o = operand_words x g.0 in
    stored_words (followed ss (store_field r k x)) r (suc k) xs (omega (arith, l)) (followed_words ss (store_field r k x) h (λ n. (p n, o n))) g.1

pub record_words : (r : ℕ) (all : HeldAll) → 4 * length all.operands < 4294967296 → WordStms all.before → WordOperands all.operands →
    WordMade (record_of r all)
record_words r all l h g =
    let space : Ts = Move r (space_for_record (length all.operands)) in
    let s = stored_words (followed all.before space) r 0 all.operands (omega (arith, l))
    (followed_words all.before space h (λ n. (tt, (omega arith, omega (arith, l))))) g in
    λ n. (s n, tt)

pub product_words : (p : ℕ) (ss : Stms) (l r : Operand) → WordStms ss → WordOperand l → WordOperand r → WordMade (product_of p ss (operand l) (operand r))
product_words p ss l r h g k =
    let x = operand_words l g in
    let y = operand_words r k in
    let multiply : Ts = Move p (Binary bin.Mul (operand l) (operand r)) in
    let checked = followed_words (followed ss multiply) (product_check (operand l) (operand r) (Temp p)) (followed_words ss multiply h (λ n. (tt, (x n, y n))))
    (λ n. (((x n, y n), (tt, omega arith)), (omega arith, omega arith), tt)) in
    λ n. (checked n, tt)

pub quotient_words : (ss : Stms) (l r : Operand) → WordStms ss → WordOperand l → WordOperand r → WordMade (quotient_of ss (operand l) (operand r))
quotient_words ss l r h g k =
    let x = operand_words l g in
    let y = operand_words r k in
    let tested = followed_words ss (zero_check (operand r)) h (λ n. ((y n, omega arith), tt, tt)) in
    let checked = followed_words (followed ss (zero_check (operand r))) (quotient_check (operand l) (operand r)) tested
    (λ n. (((y n, omega arith), (x n, omega arith)), (omega arith, omega arith), tt)) in
    λ n. (checked n, (x n, y n))

pub comparison_words : (o : Op) (of_strings : Bool) (x y : Tx) → WordTx x → WordTx y → WordCond (comparison o of_strings x y)
comparison_words o true x y h k = λ n. ((tt, (h n, (k n, tt))), omega arith)
comparison_words o false x y h k = λ n. (h n, k n)

negated_words : (k : ℕ) (b : Bool) → k < 4294967296 → WordTx (if b then Binary bin.SubTrap (Const 0) (Const k) else Const (sub 0 k))
negated_words k true l = λ n. (omega arith, l)
negated_words k false l = λ n. wrapped 0 k

pub negation_words : (x : Tx) → WordTx x → WordTx (negation x)
negation_words (Const k) h = negated_words k (k == least_int) (h 0)
negation_words x h = λ n. (omega arith, h n)

-- Loops.

pub while_words : (c : Cond) (s : Ts) → WordCond c → WordTs s → WordTs (repeat_while c s)
while_words c s h k = λ n. (h (n + 1), k (n + 1), λ b. absurd b)

first_words : (o : Operand) → WordOperand o → WordTx (first_minus_one o)
first_words (Number k) h = λ n. wrapped k 1
first_words (Kept t) h = λ n. (tt, omega arith)

turn_words : (i : Access) (high : Operand) (turn : Ts) → WordAccess i → WordOperand high → WordTs turn → WordTs (turn_of i high turn)
turn_words i high turn a o h =
    let place = own_place_words i a in
    let variable = read_words (own_place i) place in
    let more = assigned_words (own_place i) (Binary bin.Add (read (own_place i)) (Const 1)) place (λ n. (variable n, omega arith)) in
    let last = operand_words high o in
    λ n. (more n, (h n, (((variable n, last n), tt, λ b. absurd b), tt)))

pub count_words : (ss : Stms) (i : Access) (low high : Operand) (turn : Ts) → WordAccess i → WordOperand low → WordOperand high → WordStms ss → WordTs turn →
    WordTs (count_of ss i low high turn)
count_words ss i low high turn a o p h k =
    let x = operand_words low o in
    let y = operand_words high p in
    let first = assigned_words (own_place i) (first_minus_one low) (own_place_words i a) (first_words low o) in
    let loop = turn_words i high turn a p k in
    followed_words ss (when (Compare rel.GreaterEqual (operand high) (operand low)) (turns i low high turn)) h
    (λ n. ((y n, x n), (first n, (loop (n + 1), tt)), tt))

-- Calls of declared functions, with their links.
pub declared_words : (c : Within) (xs : Txs) (callee : Option Callee) → WordTxs xs → WordTx (call_declared c xs callee)
declared_words c xs (Some callee) h = let l = frame_at_words c callee.level in λ n. (tt, (l n, h n))
declared_words c xs None h = λ n. omega arith
