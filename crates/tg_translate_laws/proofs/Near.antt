-- What constructs are made of goes no further than their parts: so many links out for an address, and one access more for
-- a value.
use Rattle.std.proofs.Common.{◌≤◌, ◌*◌, ℕ, zero, suc, Bool, true, false, Option, Some, None, List, [], ◌∷◌, length, arith}
use Rattle.std.specs.Prelude.{◌-◌, ◌==◌, if◌then◌else◌}
use Rattle.tg_base.specs.Words.{sub}
use Rattle.tg_frame.specs.declared.accesses.Access.{Access}
use Rattle.tg_frame.specs.declared.accesses.Access.TheVariants.{InTemp, InFrame}
use Rattle.tg_syntax.specs.declared.trees.Op.{Op}
use Rattle.tg_syntax.specs.declared.trees.Op.TheVariants as op
use Rattle.tg_tree.specs.declared.operators.Bin.TheVariants as bin
use Rattle.tg_tree.specs.declared.operators.Rel.TheVariants as rel
use Rattle.tg_tree.specs.Tree.{Tx, Const, Address, Temp, FrameAddress, Binary, Load, LoadByte, Call, Service, After, Txs, no_txs, tx, Cond, Compare}
use Rattle.tg_tree.specs.Tree.{Not, Both, Either, Ts, Move, Store, StoreByte, Do, If, Loop, Break, Fault, Seq, Return, Stms, no_stms, stm}
use Rattle.tg_tree.specs.Forms.{when}
use Rattle.tg_tree.specs.glue.Lists.{join_txs, join_stms}
use Rattle.tg_translate.specs.declared.homes.Home.{Home}
use Rattle.tg_translate.specs.declared.homes.Callee.{Callee}
use Rattle.tg_translate.specs.declared.homes.Within.{Within}
use Rattle.tg_translate.specs.declared.operands.Operand.{Operand}
use Rattle.tg_translate.specs.declared.operands.Operand.TheVariants.{Number, Kept}
use Rattle.tg_translate.specs.declared.held.HeldAddress.{HeldAddress}
use Rattle.tg_translate.specs.declared.held.HeldAddress.TheVariants.{InOwnFrame, Beside, At}
use Rattle.tg_translate.specs.declared.wants.Want.{Want}
use Rattle.tg_translate.specs.declared.wants.Want.TheVariants as want
use Rattle.tg_translate.specs.mirror.Wants.{Made, value, done, test, truth_into, put_in, dropped, test_of, as_statement, taken_from, deliver, followed}
use Rattle.tg_translate.specs.mirror.Constructs.{Storage, in_temp, at_address, operand, HeldAll, frame_out, place_in, own_place, read, store_at}
use Rattle.tg_translate.specs.mirror.Constructs.{held_address, HeldPlace, held_in_temp, held_at, read_held, place_held, plus, nil_check, field_of}
use Rattle.tg_translate.specs.mirror.Constructs.{index_check, element_of, store_field, store_fields, space_for_record, record_of, product_check, product_of}
use Rattle.tg_translate.specs.mirror.Constructs.{zero_check, quotient_check, quotient_of, least_int, negation, assign_value, first_minus_one, turn_of, turns}
use Rattle.tg_translate.specs.mirror.Constructs.{count_of, comparison}
use Rattle.tg_translate.specs.mirror.Choices.{connected, tested, chosen}
use Rattle.tg_translate.specs.mirror.Scopes.{frame_at, home_place, call_declared}
use Rattle.tg_translate_laws.specs.Accesses.{Accessed, AccessesWithin, AccessesWithinStms, AccessesWithinTx, AccessesWithinTxs, AccessesWithinCond}

join_near_txs : (n : ℕ) (xs ys : Txs) → AccessesWithinTxs n xs → AccessesWithinTxs n ys → AccessesWithinTxs n (join_txs xs ys)
join_near_txs n no_txs ys h k = k
join_near_txs n (tx x xs) ys h k = (h.0, join_near_txs n xs ys h.1 k)

join_near_stms : (n : ℕ) (ss ts : Stms) → AccessesWithinStms n ss → AccessesWithinStms n ts → AccessesWithinStms n (join_stms ss ts)
join_near_stms n no_stms ts h k = k
join_near_stms n (stm s ss) ts h k = (h.0, join_near_stms n ss ts h.1 k)

-- so many functions outwards there are at most so many links
frame_out_near : (kept : Bool) (hops n : ℕ) → hops ≤ n → AccessesWithinTx n (frame_out kept hops)
frame_out_near kept zero n l = tt
frame_out_near true (suc zero) zero l = absurd (omega (arith, l))
frame_out_near true (suc zero) (suc n) l = (tt, tt)
frame_out_near false (suc zero) n l = tt
frame_out_near kept (suc (suc hops)) zero l = absurd (omega (arith, l))
frame_out_near kept (suc (suc hops)) (suc n) l = (frame_out_near kept (suc hops) n (omega (arith, l)), tt)

frame_at_near : (n : ℕ) (c : Within) (level : ℕ) → c.level ≤ n → AccessesWithinTx n (frame_at c level)
frame_at_near n c level l = frame_out_near c.link_in_slot (c.level - level) n (omega (arith, l))

operand_near : (n : ℕ) (o : Operand) → AccessesWithinTx n (operand o)
operand_near n (Number k) = tt
operand_near n (Kept t) = tt

plus_near : (n : ℕ) (x : Tx) (k : ℕ) → AccessesWithinTx n x → AccessesWithinTx n (plus x k)
plus_near n x zero h = h
plus_near n x (suc k) h = (h, tt)

-- In a text from which so many levels lead outwards.
module _ (n : ℕ) where
  abbrev pub IsTx : Tx → Type 0
  IsTx x = AccessesWithinTx (suc n) x

  abbrev pub AreTxs : Txs → Type 0
  AreTxs xs = AccessesWithinTxs (suc n) xs

  abbrev pub IsCond : Cond → Type 0
  IsCond c = AccessesWithinCond (suc n) c

  abbrev pub IsTs : Ts → Type 0
  IsTs s = AccessesWithin (suc n) s

  abbrev pub AreStms : Stms → Type 0
  AreStms ss = AccessesWithinStms (suc n) ss

  abbrev pub IsMade : Made → Type 0
  IsMade (value x) = IsTx x
  IsMade (done s) = IsTs s
  IsMade (test c) = IsCond c

  abbrev pub IsPlace : Storage → Type 0
  IsPlace (in_temp t) = Unit {0}
  IsPlace (at_address ss a) = AreStms ss × AccessesWithinTx n a

  near : (o : Operand) → IsTx (operand o)
  near o = operand_near (suc n) o

  pub join_txs_near : (xs : Txs) (x : Tx) → AreTxs xs → IsTx x → AreTxs (join_txs xs (tx x no_txs))
  join_txs_near xs x h k = join_near_txs (suc n) xs (tx x no_txs) h (k, tt)

  pub followed_near : (ss : Stms) (s : Ts) → AreStms ss → IsTs s → AreStms (followed ss s)
  followed_near ss s h k = join_near_stms (suc n) ss (stm s no_stms) h (k, tt)

  pub truth_near : (t : ℕ) (c : Cond) → IsCond c → IsTs (truth_into t c)
  truth_near t c h = (h, tt, tt)

  pub put_near : (t : ℕ) (m : Made) → IsMade m → IsTs (put_in t m)
  put_near t (value x) h = h
  put_near t (done s) h = h
  put_near t (test c) h = truth_near t c h

  pub dropped_near : (m : Made) → IsMade m → IsTs (dropped m)
  dropped_near (value x) h = h
  dropped_near (done s) h = h
  dropped_near (test c) h = (h, tt, tt)

  pub test_near : (m : Made) → IsMade m → IsCond (test_of m)
  test_near (value x) h = (h, tt)
  test_near (done s) h = ((h, tt), tt)
  test_near (test c) h = h

  pub statement_near : (w : Want) (m : Made) → IsMade m → IsTs (as_statement w m)
  statement_near want.Value m h = dropped_near m h
  statement_near (want.Into t) m h = put_near t.0 m h
  statement_near want.Dropped m h = dropped_near m h
  statement_near want.Test m h = dropped_near m h

  taken_near : (a : Want) (s : Ts) → IsTs s → IsMade (taken_from a s)
  taken_near want.Value s h = h
  taken_near (want.Into t) s h = (h, tt)
  taken_near want.Dropped s h = h
  taken_near want.Test s h = h

  pub deliver_near : (w a : Want) (s : Ts) → IsTs s → IsMade (deliver w a s)
  deliver_near want.Value a s h = taken_near a s h
  deliver_near (want.Into t) a s h = h
  deliver_near want.Dropped a s h = h
  deliver_near want.Test a s h = taken_near a s h

  connected_near : (o : Op) (c d : Cond) → IsCond c → IsCond d → IsCond (connected o c d)
  connected_near op.And c d h k = (h, k)
  connected_near o c d h k = (h, k)

  pub tested_near : (o : Op) (c : Cond) (m : Made) → IsCond c → IsMade m → IsMade (tested o c m)
  tested_near o c m h k = connected_near o c (test_of m) h (test_near m k)

  pub chosen_near : (o : Op) (w : Want) (c : Cond) (m : Made) → IsCond c → IsMade m → IsTs (chosen o w c m)
  chosen_near op.And w c m h k = (h, statement_near w m k, statement_near w (value (Const 0)) tt)
  chosen_near o w c m h k = (h, statement_near w (value (Const 1)) tt, statement_near w m k)

  -- Places.

  place_in_near : (frame : Tx) (a : Access) → AccessesWithinTx n frame → IsPlace (place_in frame a)
  place_in_near frame (InTemp t) h = tt
  place_in_near frame (InFrame k) h = (tt, (h, tt))

  pub own_place_near : (a : Access) → IsPlace (own_place a)
  own_place_near a = place_in_near FrameAddress a tt

  pub home_near : (c : Within) (home : Option Home) → c.level ≤ n → IsPlace (home_place c home)
  home_near c (Some home) l = place_in_near (frame_at c home.level) home.access (frame_at_near n c home.level l)
  home_near c None l = (tt, tt)

  pub read_near : (p : Storage) → IsPlace p → IsTx (read p)
  read_near (in_temp t) h = tt
  read_near (at_address no_stms a) h = h.1
  read_near (at_address (stm s ss) a) h = (h.0, h.1)

  pub store_near : (ss : Stms) (a x : Tx) → AreStms ss → AccessesWithinTx n a → IsTx x → IsTs (store_at ss a x)
  store_near no_stms a x h k g = (k, g)
  store_near (stm s ss) a x h k g = followed_near (stm s ss) (Store a x) h (k, g)

  pub assigned_near : (p : Storage) (x : Tx) → IsPlace p → IsTx x → IsTs (assign_value p x)
  assigned_near (in_temp t) x h k = k
  assigned_near (at_address ss a) x h k = store_near ss a x h.0 h.1 k

  pub held_address_near : (a : HeldAddress) → AccessesWithinTx n (held_address a)
  held_address_near (InOwnFrame o k) = (tt, tt)
  held_address_near (Beside x o k) = (operand_near n x, tt)
  held_address_near (At x) = operand_near n x

  pub read_held_near : (q : HeldPlace) → IsPlace (place_held q) → IsTx (read_held q)
  read_held_near (held_in_temp t) h = tt
  read_held_near (held_at ss a) h = h.1

  pub field_near : (k : ℕ) (ss : Stms) (r : Operand) → AreStms ss → IsPlace (field_of k ss (operand r))
  field_near k ss r h = (followed_near ss (nil_check (operand r)) h ((near r, tt), tt, tt), plus_near n (operand r) (4 * k) (operand_near n r))

  pub element_near : (ss : Stms) (a i : Operand) → AreStms ss → IsPlace (element_of ss (operand a) (operand i))
  element_near ss a i h = (
    followed_near ss (index_check (operand a) (operand i)) h ((near i, operand_near n a), tt, tt),
    (((operand_near n i, tt), operand_near n a), tt),
  )

  -- Records and operators.

  stored_near : (ss : Stms) (r k : ℕ) (xs : List Operand) → AreStms ss → AreStms (store_fields ss r k xs)
  stored_near ss r k [] h = h
  stored_near ss r k (x ∷ xs) h =
      stored_near (followed ss (store_field r k x)) r (suc k) xs
      (followed_near ss (store_field r k x) h (plus_near n (Temp r) (4 * k) tt, near x))

  pub record_near : (r : ℕ) (all : HeldAll) → AreStms all.before → IsMade (record_of r all)
  record_near r all h =
      let call : Ts = Move r (space_for_record (length all.operands)) in
      (stored_near (followed all.before call) r 0 all.operands (followed_near all.before call h tt), tt)

  pub product_near : (p : ℕ) (ss : Stms) (l r : Operand) → AreStms ss → IsMade (product_of p ss (operand l) (operand r))
  product_near p ss l r h =
      let multiply : Ts = Move p (Binary bin.Mul (operand l) (operand r)) in
      let checked = followed_near (followed ss multiply) (product_check (operand l) (operand r) (Temp p)) (followed_near ss multiply h (near l, near r)) in
      (checked (((near l, near r), (tt, tt)), (tt, tt), tt), tt)

  pub quotient_near : (ss : Stms) (l r : Operand) → AreStms ss → IsMade (quotient_of ss (operand l) (operand r))
  quotient_near ss l r h =
      let tested = followed_near ss (zero_check (operand r)) h ((near r, tt), tt, tt) in
      let checked = followed_near (followed ss (zero_check (operand r))) (quotient_check (operand l) (operand r)) tested in
      (checked (((near r, tt), (near l, tt)), (tt, tt), tt), (near l, near r))

  pub comparison_near : (o : Op) (of_strings : Bool) (x y : Tx) → IsTx x → IsTx y → IsCond (comparison o of_strings x y)
  comparison_near o true x y h k = ((h, (k, tt)), tt)
  comparison_near o false x y h k = (h, k)

  negated_near : (k : ℕ) (b : Bool) → IsTx (if b then Binary bin.SubTrap (Const 0) (Const k) else Const (sub 0 k))
  negated_near k true = (tt, tt)
  negated_near k false = tt

  pub negation_near : (x : Tx) → IsTx x → IsTx (negation x)
  negation_near (Const k) h = negated_near k (k == least_int)
  negation_near x h = (tt, h)

  -- Loops that count.

  first_near : (o : Operand) → IsTx (first_minus_one o)
  first_near (Number k) = tt
  first_near (Kept t) = (tt, tt)

  turn_near : (i : Access) (high : Operand) (turn : Ts) → IsTs turn → IsTs (turn_of i high turn)
  turn_near i high turn h =
      let variable = read_near (own_place i) (own_place_near i) in (
        assigned_near (own_place i) (Binary bin.Add (read (own_place i)) (Const 1)) (own_place_near i) (variable, tt),
        (h, (((variable, near high), tt, tt), tt)),
      )

  pub count_near : (ss : Stms) (i : Access) (low high : Operand) (turn : Ts) → AreStms ss → IsTs turn → IsTs (count_of ss i low high turn)
  count_near ss i low high turn h k =
      followed_near ss (when (Compare rel.GreaterEqual (operand high) (operand low)) (turns i low high turn)) h
      ((near high, near low), (assigned_near (own_place i) (first_minus_one low) (own_place_near i) (first_near low), (turn_near i high turn k, tt)), tt)

  -- Calls of declared functions, with their links.
  pub declared_near : (c : Within) (xs : Txs) (callee : Option Callee) → c.level ≤ n → AreTxs xs → IsTx (call_declared c xs callee)
  declared_near c xs (Some callee) l h = (frame_at_near (suc n) c callee.level (omega (arith, l)), h)
  declared_near c xs None l h = tt

-- Where more accesses may stand one within another, no fewer may.

accessed_more : (n m : ℕ) (P : ℕ → Type 0) → ((k j : ℕ) → k ≤ j → P k → P j) → n ≤ m → Accessed n P → Accessed m P
accessed_more zero m P f l h = absurd h
accessed_more (suc n) zero P f l h = absurd (omega (arith, l))
accessed_more (suc n) (suc m) P f l h = f n m (omega (arith, l)) h

mutual
  pub wider : (n m : ℕ) (s : Ts) → n ≤ m → AccessesWithin n s → AccessesWithin m s
  wider n m (Move _ x) l h = wider_tx n m x l h
  wider n m (Store x y) l h = (accessed_more n m (λ k. AccessesWithinTx k x) (λ k j i g. wider_tx k j x i g) l h.0, wider_tx n m y l h.1)
  wider n m (StoreByte x y) l h = (accessed_more n m (λ k. AccessesWithinTx k x) (λ k j i g. wider_tx k j x i g) l h.0, wider_tx n m y l h.1)
  wider n m (Do x) l h = wider_tx n m x l h
  wider n m (If c s t) l h = (wider_cond n m c l h.0, wider n m s l h.1, wider n m t l h.2)
  wider n m (Loop s) l h = wider n m s l h
  wider n m (Break _) l h = tt
  wider n m (Fault _) l h = tt
  wider n m (Seq ss) l h = wider_stms n m ss l h
  wider n m (Return x) l h = wider_tx n m x l h

  wider_stms : (n m : ℕ) (ss : Stms) → n ≤ m → AccessesWithinStms n ss → AccessesWithinStms m ss
  wider_stms n m no_stms l h = tt
  wider_stms n m (stm s ss) l h = (wider n m s l h.0, wider_stms n m ss l h.1)

  pub wider_tx : (n m : ℕ) (x : Tx) → n ≤ m → AccessesWithinTx n x → AccessesWithinTx m x
  wider_tx n m (Const _) l h = tt
  wider_tx n m (Address _) l h = tt
  wider_tx n m (Temp _) l h = tt
  wider_tx n m FrameAddress l h = tt
  wider_tx n m (Binary _ x y) l h = (wider_tx n m x l h.0, wider_tx n m y l h.1)
  wider_tx n m (Load x) l h = accessed_more n m (λ k. AccessesWithinTx k x) (λ k j i g. wider_tx k j x i g) l h
  wider_tx n m (LoadByte x) l h = accessed_more n m (λ k. AccessesWithinTx k x) (λ k j i g. wider_tx k j x i g) l h
  wider_tx n m (Call _ xs) l h = wider_txs n m xs l h
  wider_tx n m (Service _ x) l h = wider_tx n m x l h
  wider_tx n m (After s x) l h = (wider n m s l h.0, wider_tx n m x l h.1)

  wider_txs : (n m : ℕ) (xs : Txs) → n ≤ m → AccessesWithinTxs n xs → AccessesWithinTxs m xs
  wider_txs n m no_txs l h = tt
  wider_txs n m (tx x xs) l h = (wider_tx n m x l h.0, wider_txs n m xs l h.1)

  wider_cond : (n m : ℕ) (c : Cond) → n ≤ m → AccessesWithinCond n c → AccessesWithinCond m c
  wider_cond n m (Compare _ x y) l h = (wider_tx n m x l h.0, wider_tx n m y l h.1)
  wider_cond n m (Not c) l h = wider_cond n m c l h
  wider_cond n m (Both c d) l h = (wider_cond n m c l h.0, wider_cond n m d l h.1)
  wider_cond n m (Either c d) l h = (wider_cond n m c l h.0, wider_cond n m d l h.1)
