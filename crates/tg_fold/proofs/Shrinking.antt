-- What is folded is no longer, needs no more, and is flat if it was.
use Rattle.std.proofs.Common.{◌≡◌, ◌≤◌, ℕ, Bool, true, false, refl, sym, subst, arith}
use Rattle.std.specs.Prelude.{◌&&◌, if◌then◌else◌, Option, Some, None}
use Rattle.tg_tree.specs.declared.operators.Bin.{Bin}
use Rattle.tg_tree.specs.declared.operators.Bin.TheVariants as bin
use Rattle.tg_tree.specs.declared.operators.Rel.{Rel}
use Rattle.tg_tree.specs.Tree.{Tx, Const, Address, Temp, FrameAddress, Binary, Load, LoadByte, Call, Service, After, Txs, no_txs, tx, Cond, Compare}
use Rattle.tg_tree.specs.Tree.{Not, Both, Either, Ts, Move, Store, StoreByte, Do, If, Loop, Break, Fault, Seq, Return, Stms, no_stms, stm}
use Rattle.tg_tree.specs.Operators.{Given, word, stops_by, operate}
use Rattle.tg_tree.specs.Shapes.{is_flat, are_flat, is_flat_condition}
use Rattle.tg_tree.specs.Units.{Trees, hoisted_units, joined_units, shift_units, operator_units}
use Rattle.tg_tree.specs.Sizes.{expression_length, arguments_length, condition_length, statement_length, statements_length, in_trees}
use Rattle.tg_tree.specs.Sizes.{expression_needs, arguments_needs, condition_needs, statement_needs, statements_needs}
use Rattle.tg_fold.specs.Copies.{copy, takes_copy, renamed, renamed_stms, renamed_tx, renamed_txs, renamed_cond}
use Rattle.tg_fold.specs.mirror.Folding.{given_word, word_of, constant_or, operated, Tested, Known, Open, compared_by, compared, negated}
use Rattle.tg_fold.specs.mirror.Folding.{both_of, either_of, chosen, passed, passed_on, folded_tx, folded_txs, tested, folded, each_folded}
use Rattle.tg_fold.proofs.Sides.{AreSides, two, others, sides}

-- Units.

pub hoisted_less : (a b : Bool) → (a ≡ true → b ≡ true) → hoisted_units Trees b ≤ hoisted_units Trees a
hoisted_less true b h = subst (λ q. hoisted_units Trees q ≤ 0) (sym (h refl)) (omega arith)
hoisted_less false true h = omega arith
hoisted_less false false h = omega arith

pub joined_less : (a b : Bool) → (a ≡ true → b ≡ true) → joined_units Trees b ≤ joined_units Trees a
joined_less true b h = subst (λ q. joined_units Trees q ≤ 14) (sym (h refl)) (omega arith)
joined_less false true h = omega arith
joined_less false false h = omega arith

joined_least : (a : Bool) → 14 ≤ joined_units Trees a
joined_least true = omega arith
joined_least false = omega arith

pub operator_less : (op : Bin) (y y' : Tx) → shift_units y' ≤ shift_units y → operator_units op y' ≤ operator_units op y
operator_less bin.Add y y' h = omega arith
operator_less bin.Sub y y' h = omega arith
operator_less bin.Mul y y' h = omega arith
operator_less bin.Div y y' h = omega arith
operator_less bin.And y y' h = omega arith
operator_less bin.Or y y' h = omega arith
operator_less bin.Xor y y' h = omega arith
operator_less bin.ShiftLeft y y' h = h
operator_less bin.ShiftRight y y' h = h
operator_less bin.ShiftSigned y y' h = h
operator_less bin.AddTrap y y' h = omega arith
operator_less bin.SubTrap y y' h = omega arith
operator_less bin.MulHigh y y' h = omega arith

shift_most : (x : Tx) → shift_units x ≤ 21
shift_most (Const n) = omega arith
shift_most (Address label) = omega arith
shift_most (Temp i) = omega arith
shift_most FrameAddress = omega arith
shift_most (Binary op x y) = omega arith
shift_most (Load x) = omega arith
shift_most (LoadByte x) = omega arith
shift_most (Call label xs) = omega arith
shift_most (Service n x) = omega arith
shift_most (After s x) = omega arith

and_true : (a b : Bool) → a ≡ true → b ≡ true → (a && b) ≡ true
and_true a b e f = rw (e, f) refl

and_both : (a b : Bool) → (a && b) ≡ true → (a ≡ true) × (b ≡ true)
and_both true b e = (refl, e)
and_both false b e = cc

flat_pair : (a b c d : Bool) → (a ≡ true → c ≡ true) → (b ≡ true → d ≡ true) → (a && b) ≡ true → (c && d) ≡ true
flat_pair a b c d f g e = let h = and_both a b e in and_true c d (f h.0) (g h.1)

-- What each part becomes.

pub record TxShrinks (x x' : Tx) : Type 0 where
  pub length : expression_length Trees x' ≤ expression_length Trees x
  pub room : expression_needs in_trees x' ≤ expression_needs in_trees x
  pub flat : is_flat x ≡ true → is_flat x' ≡ true
  pub shift : shift_units x' ≤ shift_units x

pub record TxsShrink (xs xs' : Txs) : Type 0 where
  pub length : arguments_length Trees xs' ≤ arguments_length Trees xs
  pub room : arguments_needs in_trees xs' ≤ arguments_needs in_trees xs
  pub flat : are_flat xs ≡ true → are_flat xs' ≡ true

pub record CondShrinks (c c' : Cond) : Type 0 where
  pub length : condition_length Trees c' ≤ condition_length Trees c
  pub room : condition_needs in_trees c' ≤ condition_needs in_trees c
  pub flat : is_flat_condition c ≡ true → is_flat_condition c' ≡ true

pub record TsShrinks (s s' : Ts) : Type 0 where
  pub length : statement_length Trees s' ≤ statement_length Trees s
  pub room : statement_needs in_trees s' ≤ statement_needs in_trees s

pub record StmsShrink (ss ss' : Stms) : Type 0 where
  pub length : statements_length Trees ss' ≤ statements_length Trees ss
  pub room : statements_needs in_trees ss' ≤ statements_needs in_trees ss

tx_same : (x : Tx) → TxShrinks x x
tx_same x = record { length = omega arith; room = omega arith; flat = λ e. e; shift = omega arith }

ts_same : (s : Ts) → TsShrinks s s
ts_same s = record { length = omega arith; room = omega arith }

tx_then : (x y z : Tx) → TxShrinks x y → TxShrinks y z → TxShrinks x z
tx_then x y z h k = record {
  length = let a = h.length in let b = k.length in omega arith;
  room = let a = h.room in let b = k.room in omega arith;
  flat = λ e. k.flat (h.flat e);
  shift = let a = h.shift in let b = k.shift in omega arith;
}

binary_shrinks : (op : Bin) (x y x' y' : Tx) → TxShrinks x x' → TxShrinks y y' → TxShrinks (Binary op x y) (Binary op x' y')
binary_shrinks op x y x' y' h k = record {
  length =
      let a = h.length in
      let b = k.length in
      let c = hoisted_less (is_flat y) (is_flat y') k.flat in
      let d = operator_less op y y' k.shift in
      omega arith;
  room = let a = h.room in let b = k.room in omega arith;
  flat = λ e. flat_pair (is_flat x) (is_flat y) (is_flat x') (is_flat y') h.flat k.flat e;
  shift = omega arith;
}

load_shrinks : (x x' : Tx) → TxShrinks x x' → TxShrinks (Load x) (Load x')
load_shrinks x x' h = record { length = let a = h.length in omega arith; room = let a = h.room in omega arith; flat = h.flat; shift = omega arith }

byte_shrinks : (x x' : Tx) → TxShrinks x x' → TxShrinks (LoadByte x) (LoadByte x')
byte_shrinks x x' h = record { length = let a = h.length in omega arith; room = let a = h.room in omega arith; flat = h.flat; shift = omega arith }

call_shrinks : (label : ℕ) (xs xs' : Txs) → TxsShrink xs xs' → TxShrinks (Call label xs) (Call label xs')
call_shrinks label xs xs' h = record {
  length = let a = h.length in omega arith;
  room = let a = h.room in omega arith;
  flat = λ e. cc;
  shift = omega arith;
}

service_shrinks : (n : ℕ) (x x' : Tx) → TxShrinks x x' → TxShrinks (Service n x) (Service n x')
service_shrinks n x x' h = record { length = let a = h.length in omega arith; room = let a = h.room in omega arith; flat = λ e. cc; shift = omega arith }

after_shrinks : (s s' : Ts) (x x' : Tx) → TsShrinks s s' → TxShrinks x x' → TxShrinks (After s x) (After s' x')
after_shrinks s s' x x' h k = record {
  length = let a = h.length in let b = k.length in omega arith;
  room = let a = h.room in let b = k.room in omega arith;
  flat = λ e. cc;
  shift = omega arith;
}

none_shrink : TxsShrink no_txs no_txs
none_shrink = record { length = omega arith; room = omega arith; flat = λ e. e }

more_shrink : (x x' : Tx) (xs xs' : Txs) → TxShrinks x x' → TxsShrink xs xs' → TxsShrink (tx x xs) (tx x' xs')
more_shrink x x' xs xs' h k = record {
  length = let a = h.length in let b = k.length in let c = hoisted_less (are_flat xs) (are_flat xs') k.flat in omega arith;
  room = let a = h.room in let b = k.room in omega arith;
  flat = λ e. flat_pair (is_flat x) (are_flat xs) (is_flat x') (are_flat xs') h.flat k.flat e;
}

compare_shrinks : (rel : Rel) (x y x' y' : Tx) → TxShrinks x x' → TxShrinks y y' → CondShrinks (Compare rel x y) (Compare rel x' y')
compare_shrinks rel x y x' y' h k = record {
  length = let a = h.length in let b = k.length in let c = hoisted_less (is_flat y) (is_flat y') k.flat in omega arith;
  room = let a = h.room in let b = k.room in omega arith;
  flat = λ e. flat_pair (is_flat x) (is_flat y) (is_flat x') (is_flat y') h.flat k.flat e;
}

not_shrinks : (c c' : Cond) → CondShrinks c c' → CondShrinks (Not c) (Not c')
not_shrinks c c' h = record { length = let a = h.length in omega arith; room = let a = h.room in omega arith; flat = h.flat }

both_shrinks : (c d c' d' : Cond) → CondShrinks c c' → CondShrinks d d' → CondShrinks (Both c d) (Both c' d')
both_shrinks c d c' d' h k = record {
  length = let a = h.length in let b = k.length in let e = joined_less (is_flat_condition d) (is_flat_condition d') k.flat in omega arith;
  room = let a = h.room in let b = k.room in omega arith;
  flat = λ e. flat_pair (is_flat_condition c) (is_flat_condition d) (is_flat_condition c') (is_flat_condition d') h.flat k.flat e;
}

either_shrinks : (c d c' d' : Cond) → CondShrinks c c' → CondShrinks d d' → CondShrinks (Either c d) (Either c' d')
either_shrinks c d c' d' h k = record {
  length = let a = h.length in let b = k.length in let e = joined_less (is_flat_condition d) (is_flat_condition d') k.flat in omega arith;
  room = let a = h.room in let b = k.room in omega arith;
  flat = λ e. flat_pair (is_flat_condition c) (is_flat_condition d) (is_flat_condition c') (is_flat_condition d') h.flat k.flat e;
}

move_shrinks : (i : ℕ) (x x' : Tx) → TxShrinks x x' → TsShrinks (Move i x) (Move i x')
move_shrinks i x x' h = record { length = let a = h.length in omega arith; room = h.room }

store_shrinks : (x y x' y' : Tx) → TxShrinks x x' → TxShrinks y y' → TsShrinks (Store x y) (Store x' y')
store_shrinks x y x' y' h k = record {
  length = let a = h.length in let b = k.length in let c = hoisted_less (is_flat y) (is_flat y') k.flat in omega arith;
  room = let a = h.room in let b = k.room in omega arith;
}

store_byte_shrinks : (x y x' y' : Tx) → TxShrinks x x' → TxShrinks y y' → TsShrinks (StoreByte x y) (StoreByte x' y')
store_byte_shrinks x y x' y' h k = record {
  length = let a = h.length in let b = k.length in let c = hoisted_less (is_flat y) (is_flat y') k.flat in omega arith;
  room = let a = h.room in let b = k.room in omega arith;
}

do_shrinks : (x x' : Tx) → TxShrinks x x' → TsShrinks (Do x) (Do x')
do_shrinks x x' h = record { length = let a = h.length in omega arith; room = h.room }

if_shrinks : (c c' : Cond) (s t s' t' : Ts) → CondShrinks c c' → TsShrinks s s' → TsShrinks t t' → TsShrinks (If c s t) (If c' s' t')
if_shrinks c c' s t s' t' h k l = record {
  length = let a = h.length in let b = k.length in let d = l.length in omega arith;
  room = let a = h.room in let b = k.room in let d = l.room in omega arith;
}

loop_shrinks : (s s' : Ts) → TsShrinks s s' → TsShrinks (Loop s) (Loop s')
loop_shrinks s s' h = record { length = let a = h.length in omega arith; room = h.room }

seq_shrinks : (ss ss' : Stms) → StmsShrink ss ss' → TsShrinks (Seq ss) (Seq ss')
seq_shrinks ss ss' h = record { length = let a = h.length in omega arith; room = h.room }

return_shrinks : (x x' : Tx) → TxShrinks x x' → TsShrinks (Return x) (Return x')
return_shrinks x x' h = record { length = let a = h.length in omega arith; room = h.room }

stm_shrinks : (s s' : Ts) (ss ss' : Stms) → TsShrinks s s' → StmsShrink ss ss' → StmsShrink (stm s ss) (stm s' ss')
stm_shrinks s s' ss ss' h k = record {
  length = let a = h.length in let b = k.length in omega arith;
  room = let a = h.room in let b = k.room in omega arith;
}

-- Copies.

module _ (a b : ℕ) where
  mutual
    renamed_shrinks : (s : Ts) → TsShrinks s (renamed a b s)
    renamed_shrinks (Move i x) = move_shrinks i x (renamed_tx a b x) (renamed_tx_shrinks x)
    renamed_shrinks (Store x y) = store_shrinks x y (renamed_tx a b x) (renamed_tx a b y) (renamed_tx_shrinks x) (renamed_tx_shrinks y)
    renamed_shrinks (StoreByte x y) = store_byte_shrinks x y (renamed_tx a b x) (renamed_tx a b y) (renamed_tx_shrinks x) (renamed_tx_shrinks y)
    renamed_shrinks (Do x) = do_shrinks x (renamed_tx a b x) (renamed_tx_shrinks x)
    renamed_shrinks (If c s t) =
        if_shrinks c (renamed_cond a b c) s t (renamed a b s) (renamed a b t) (renamed_cond_shrinks c) (renamed_shrinks s) (renamed_shrinks t)
    renamed_shrinks (Loop s) = loop_shrinks s (renamed a b s) (renamed_shrinks s)
    renamed_shrinks (Break k) = ts_same (Break k)
    renamed_shrinks (Fault n) = ts_same (Fault n)
    renamed_shrinks (Seq ss) = seq_shrinks ss (renamed_stms a b ss) (renamed_stms_shrink ss)
    renamed_shrinks (Return x) = return_shrinks x (renamed_tx a b x) (renamed_tx_shrinks x)

    renamed_stms_shrink : (ss : Stms) → StmsShrink ss (renamed_stms a b ss)
    renamed_stms_shrink no_stms = record { length = omega arith; room = omega arith }
    renamed_stms_shrink (stm s ss) = stm_shrinks s (renamed a b s) ss (renamed_stms a b ss) (renamed_shrinks s) (renamed_stms_shrink ss)

    renamed_tx_shrinks : (x : Tx) → TxShrinks x (renamed_tx a b x)
    renamed_tx_shrinks (Const n) = tx_same (Const n)
    renamed_tx_shrinks (Address label) = tx_same (Address label)
    renamed_tx_shrinks (Temp i) = record { length = omega arith; room = omega arith; flat = λ e. refl; shift = omega arith }
    renamed_tx_shrinks FrameAddress = tx_same FrameAddress
    renamed_tx_shrinks (Binary op x y) = binary_shrinks op x y (renamed_tx a b x) (renamed_tx a b y) (renamed_tx_shrinks x) (renamed_tx_shrinks y)
    renamed_tx_shrinks (Load x) = load_shrinks x (renamed_tx a b x) (renamed_tx_shrinks x)
    renamed_tx_shrinks (LoadByte x) = byte_shrinks x (renamed_tx a b x) (renamed_tx_shrinks x)
    renamed_tx_shrinks (Call label xs) = call_shrinks label xs (renamed_txs a b xs) (renamed_txs_shrink xs)
    renamed_tx_shrinks (Service n x) = service_shrinks n x (renamed_tx a b x) (renamed_tx_shrinks x)
    renamed_tx_shrinks (After s x) = after_shrinks s (renamed a b s) x (renamed_tx a b x) (renamed_shrinks s) (renamed_tx_shrinks x)

    renamed_txs_shrink : (xs : Txs) → TxsShrink xs (renamed_txs a b xs)
    renamed_txs_shrink no_txs = none_shrink
    renamed_txs_shrink (tx x xs) = more_shrink x (renamed_tx a b x) xs (renamed_txs a b xs) (renamed_tx_shrinks x) (renamed_txs_shrink xs)

    renamed_cond_shrinks : (c : Cond) → CondShrinks c (renamed_cond a b c)
    renamed_cond_shrinks (Compare rel x y) = compare_shrinks rel x y (renamed_tx a b x) (renamed_tx a b y) (renamed_tx_shrinks x) (renamed_tx_shrinks y)
    renamed_cond_shrinks (Not c) = not_shrinks c (renamed_cond a b c) (renamed_cond_shrinks c)
    renamed_cond_shrinks (Both c d) = both_shrinks c d (renamed_cond a b c) (renamed_cond a b d) (renamed_cond_shrinks c) (renamed_cond_shrinks d)
    renamed_cond_shrinks (Either c d) = either_shrinks c d (renamed_cond a b c) (renamed_cond a b d) (renamed_cond_shrinks c) (renamed_cond_shrinks d)

passed_shrinks : (before : Option (ℕ × ℕ)) (s t : Ts) → TsShrinks s t → TsShrinks s (passed before t)
passed_shrinks None s t h = h
passed_shrinks (Some p) s t h = by (takes_copy p.0 p.1 t)
  where
    by : (q : Bool) → TsShrinks s (if q then renamed p.0 p.1 t else t)
    by true =
        let k = renamed_shrinks p.0 p.1 t in
        record { length = let a = h.length in let b = k.length in omega arith; room = let a = h.room in let b = k.room in omega arith }
    by false = h

passed_on_shrink : (before : Option (ℕ × ℕ)) (ss : Stms) → StmsShrink ss (passed_on before ss)
passed_on_shrink before no_stms = record { length = omega arith; room = omega arith }
passed_on_shrink before (stm s ss) =
    stm_shrinks s (passed before s) ss (passed_on (copy (passed before s)) ss) (passed_shrinks before s s (ts_same s))
    (passed_on_shrink (copy (passed before s)) ss)

stms_then : (ss ts us : Stms) → StmsShrink ss ts → StmsShrink ts us → StmsShrink ss us
stms_then ss ts us h k = record {
  length = let a = h.length in let b = k.length in omega arith;
  room = let a = h.room in let b = k.room in omega arith;
}

-- Constants and conditions. One that is known is no shorter than a comparison of two constants.

operated_shrinks : (op : Bin) (x y : Tx) → TxShrinks (Binary op x y) (operated op x y)
operated_shrinks op x y = by x y (sides x y)
  where
    by : (x y : Tx) → AreSides x y → TxShrinks (Binary op x y) (operated op x y)
    by _ _ (others x y e) = subst (λ o. TxShrinks (Binary op x y) (constant_or (word_of op o) (Binary op x y))) (sym e) (tx_same (Binary op x y))
    by _ _ (two a b) = on (operate op a b)
      where
        on : (g : Given) → TxShrinks (Binary op (Const a) (Const b)) (constant_or (given_word g) (Binary op (Const a) (Const b)))
        on (word n) = record { length = omega arith; room = omega arith; flat = λ e. refl; shift = omega arith }
        on (stops_by s) = tx_same (Binary op (Const a) (Const b))

pub record IsLong (c : Cond) : Type 0 where
  pub length : 8 ≤ condition_length Trees c
  pub room : 10 ≤ condition_needs in_trees c

abbrev pub TestShrinks : Cond → Tested → Type 0
TestShrinks c (Known b) = IsLong c
TestShrinks c (Open d) = CondShrinks c d

compared_shrinks : (rel : Rel) (x y x' y' : Tx) → TxShrinks x x' → TxShrinks y y' → TestShrinks (Compare rel x y) (compared rel x' y')
compared_shrinks rel x y x' y' h k = by x' y' (sides x' y') h k
  where
    by : (u v : Tx) → AreSides u v → TxShrinks x u → TxShrinks y v → TestShrinks (Compare rel x y) (compared rel u v)
    by _ _ (others u v e) h k = subst (λ o. TestShrinks (Compare rel x y) (compared_by rel o (Compare rel u v))) (sym e) (compare_shrinks rel x y u v h k)
    by _ _ (two a b) h k = record {
      length = let f = h.length in let g = k.length in omega arith;
      room = let f = h.room in let g = k.room in omega arith;
    }

negated_shrinks : (c : Cond) (t : Tested) → TestShrinks c t → TestShrinks (Not c) (negated t)
negated_shrinks c (Known b) h = record { length = let a = h.length in omega arith; room = let a = h.room in omega arith }
negated_shrinks c (Open d) h = not_shrinks c d h

-- what is joined is no smaller than its sides
joined_long : (c d whole : Cond) → condition_length Trees c ≤ condition_length Trees whole → condition_needs in_trees c ≤ condition_needs in_trees whole →
    IsLong c → IsLong whole
joined_long c d whole l r h = record { length = let a = h.length in omega arith; room = let a = h.room in omega arith }

side_of : (c whole : Cond) (t : Tested) → condition_length Trees c ≤ condition_length Trees whole →
    condition_needs in_trees c ≤ condition_needs in_trees whole →
    (is_flat_condition whole ≡ true → is_flat_condition c ≡ true) → TestShrinks c t → TestShrinks whole t
side_of c whole (Known b) l r f h = record { length = let a = h.length in omega arith; room = let a = h.room in omega arith }
side_of c whole (Open d) l r f h = record {
  length = let a = h.length in omega arith;
  room = let a = h.room in omega arith;
  flat = λ e. h.flat (f e);
}

both_tested : (c d : Cond) (t u : Tested) → TestShrinks c t → TestShrinks d u → TestShrinks (Both c d) (both_of t u)
both_tested c d (Known true) u h k =
    side_of d (Both c d) u (omega arith) (omega arith) (λ e. (and_both (is_flat_condition c) (is_flat_condition d) e).1) k
both_tested c d (Known false) u h k = record { length = let a = h.length in omega arith; room = let a = h.room in omega arith }
both_tested c d (Open e) (Known true) h k =
    side_of c (Both c d) (Open e) (omega arith) (omega arith) (λ f. (and_both (is_flat_condition c) (is_flat_condition d) f).0) h
both_tested c d (Open e) (Known false) h k = record {
  length = let a = h.length in let b = k.length in let j = joined_least (is_flat_condition d) in omega arith;
  room = let a = h.room in let b = k.room in omega arith;
  flat = λ f. and_true (is_flat_condition e) true (h.flat (and_both (is_flat_condition c) (is_flat_condition d) f).0) refl;
}
both_tested c d (Open e) (Open f) h k = both_shrinks c d e f h k

either_tested : (c d : Cond) (t u : Tested) → TestShrinks c t → TestShrinks d u → TestShrinks (Either c d) (either_of t u)
either_tested c d (Known true) u h k = record { length = let a = h.length in omega arith; room = let a = h.room in omega arith }
either_tested c d (Known false) u h k =
    side_of d (Either c d) u (omega arith) (omega arith) (λ e. (and_both (is_flat_condition c) (is_flat_condition d) e).1) k
either_tested c d (Open e) (Known true) h k = record {
  length = let a = h.length in let b = k.length in let j = joined_least (is_flat_condition d) in omega arith;
  room = let a = h.room in let b = k.room in omega arith;
  flat = λ f. and_true (is_flat_condition e) true (h.flat (and_both (is_flat_condition c) (is_flat_condition d) f).0) refl;
}
either_tested c d (Open e) (Known false) h k =
    side_of c (Either c d) (Open e) (omega arith) (omega arith) (λ f. (and_both (is_flat_condition c) (is_flat_condition d) f).0) h
either_tested c d (Open e) (Open f) h k = either_shrinks c d e f h k

chosen_shrinks : (c : Cond) (t : Tested) (r s r' s' : Ts) → TestShrinks c t → TsShrinks r r' → TsShrinks s s' → TsShrinks (If c r s) (chosen t r' s')
chosen_shrinks c (Known true) r s r' s' h k l = record { length = let a = k.length in omega arith; room = let a = k.room in omega arith }
chosen_shrinks c (Known false) r s r' s' h k l = record { length = let a = l.length in omega arith; room = let a = l.room in omega arith }
chosen_shrinks c (Open d) r s r' s' h k l = if_shrinks c d r s r' s' h k l

mutual
  pub folded_tx_shrinks : (x : Tx) → TxShrinks x (folded_tx x)
  folded_tx_shrinks (Const n) = tx_same (Const n)
  folded_tx_shrinks (Address label) = tx_same (Address label)
  folded_tx_shrinks (Temp i) = tx_same (Temp i)
  folded_tx_shrinks FrameAddress = tx_same FrameAddress
  folded_tx_shrinks (Binary op x y) =
      tx_then (Binary op x y) (Binary op (folded_tx x) (folded_tx y)) (operated op (folded_tx x) (folded_tx y))
      (binary_shrinks op x y (folded_tx x) (folded_tx y) (folded_tx_shrinks x) (folded_tx_shrinks y)) (operated_shrinks op (folded_tx x) (folded_tx y))
  folded_tx_shrinks (Load x) = load_shrinks x (folded_tx x) (folded_tx_shrinks x)
  folded_tx_shrinks (LoadByte x) = byte_shrinks x (folded_tx x) (folded_tx_shrinks x)
  folded_tx_shrinks (Call label xs) = call_shrinks label xs (folded_txs xs) (folded_txs_shrink xs)
  folded_tx_shrinks (Service n x) = service_shrinks n x (folded_tx x) (folded_tx_shrinks x)
  folded_tx_shrinks (After s x) = after_shrinks s (folded s) x (folded_tx x) (folded_shrinks s) (folded_tx_shrinks x)

  pub folded_txs_shrink : (xs : Txs) → TxsShrink xs (folded_txs xs)
  folded_txs_shrink no_txs = none_shrink
  folded_txs_shrink (tx x xs) = more_shrink x (folded_tx x) xs (folded_txs xs) (folded_tx_shrinks x) (folded_txs_shrink xs)

  pub tested_shrinks : (c : Cond) → TestShrinks c (tested c)
  tested_shrinks (Compare rel x y) = compared_shrinks rel x y (folded_tx x) (folded_tx y) (folded_tx_shrinks x) (folded_tx_shrinks y)
  tested_shrinks (Not c) = negated_shrinks c (tested c) (tested_shrinks c)
  tested_shrinks (Both c d) = both_tested c d (tested c) (tested d) (tested_shrinks c) (tested_shrinks d)
  tested_shrinks (Either c d) = either_tested c d (tested c) (tested d) (tested_shrinks c) (tested_shrinks d)

  pub folded_shrinks : (s : Ts) → TsShrinks s (folded s)
  folded_shrinks (Move i x) = move_shrinks i x (folded_tx x) (folded_tx_shrinks x)
  folded_shrinks (Store x y) = store_shrinks x y (folded_tx x) (folded_tx y) (folded_tx_shrinks x) (folded_tx_shrinks y)
  folded_shrinks (StoreByte x y) = store_byte_shrinks x y (folded_tx x) (folded_tx y) (folded_tx_shrinks x) (folded_tx_shrinks y)
  folded_shrinks (Do x) = do_shrinks x (folded_tx x) (folded_tx_shrinks x)
  folded_shrinks (If c s t) = chosen_shrinks c (tested c) s t (folded s) (folded t) (tested_shrinks c) (folded_shrinks s) (folded_shrinks t)
  folded_shrinks (Loop s) = loop_shrinks s (folded s) (folded_shrinks s)
  folded_shrinks (Break k) = ts_same (Break k)
  folded_shrinks (Fault n) = ts_same (Fault n)
  folded_shrinks (Seq ss) =
      seq_shrinks ss (passed_on None (each_folded ss))
      (stms_then ss (each_folded ss) (passed_on None (each_folded ss)) (each_shrink ss) (passed_on_shrink None (each_folded ss)))
  folded_shrinks (Return x) = return_shrinks x (folded_tx x) (folded_tx_shrinks x)

  each_shrink : (ss : Stms) → StmsShrink ss (each_folded ss)
  each_shrink no_stms = record { length = omega arith; room = omega arith }
  each_shrink (stm s ss) = stm_shrinks s (folded s) ss (each_folded ss) (folded_shrinks s) (each_shrink ss)
