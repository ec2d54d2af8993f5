-- Lengths, needs and depths of trees in which each choice counts as much more as it takes to return from its arms. So what gives
-- a value back is no longer, and no deeper, than a return of it counts here.
use Rattle.std.proofs.Common.{◌==◌, ◌≤◌, ◌+◌, ℕ, Bool, true, false, arith}
use Rattle.std.specs.Prelude.{if◌then◌else◌}
use Rattle.tg_tree.specs.Tree.{Tx, Const, Address, Temp, FrameAddress, Binary, Load, LoadByte, Call, Service, After, Txs, no_txs, tx, Cond, Compare}
use Rattle.tg_tree.specs.Tree.{Not, Both, Either, Ts, Move, Store, StoreByte, Do, If, Loop, Break, Fault, Seq, Return, Stms, no_stms, stm}
use Rattle.tg_tree.specs.Units.{Trees, expression_units, argument_units, condition_units, statement_units}
use Rattle.tg_tree.specs.Sizes.{expression_length, arguments_length, condition_length, statement_length, statements_length, in_trees, shift_needs}
use Rattle.tg_tree.specs.Sizes.{expression_needs, arguments_needs, condition_needs, statement_needs, statements_needs}
use Rattle.tg_translate.specs.mirror.Returning.{in_turn, returned, returned_behind, returned_from, returned_last, all_returned_from, value_has_loop, given_back}
use Rattle.tg_translate_laws.specs.Depths.{statement_depth, statements_depth, expression_depth, arguments_depth, condition_depth}

-- what a choice counts more
abbrev pub arms_length : ℕ
arms_length = 16

abbrev mutual
  pub tx_length : Tx → ℕ
  tx_length (Binary op x y) = expression_units Trees (Binary op x y) + (tx_length x + tx_length y)
  tx_length (Load x) = expression_units Trees (Load x) + tx_length x
  tx_length (LoadByte x) = expression_units Trees (LoadByte x) + tx_length x
  tx_length (Call label xs) = expression_units Trees (Call label xs) + txs_length xs
  tx_length (Service n x) = expression_units Trees (Service n x) + tx_length x
  tx_length (After s x) = expression_units Trees (After s x) + (ts_length s + tx_length x)
  tx_length x = expression_units Trees x

  pub txs_length : Txs → ℕ
  txs_length no_txs = 0
  txs_length (tx x xs) = argument_units Trees xs + (tx_length x + txs_length xs)

  pub cond_length : Cond → ℕ
  cond_length (Compare rel x y) = condition_units Trees (Compare rel x y) + (tx_length x + tx_length y)
  cond_length (Not c) = condition_units Trees (Not c) + cond_length c
  cond_length (Both c d) = condition_units Trees (Both c d) + (cond_length c + cond_length d)
  cond_length (Either c d) = condition_units Trees (Either c d) + (cond_length c + cond_length d)

  pub ts_length : Ts → ℕ
  ts_length (Move i x) = statement_units Trees (Move i x) + tx_length x
  ts_length (Store x y) = statement_units Trees (Store x y) + (tx_length x + tx_length y)
  ts_length (StoreByte x y) = statement_units Trees (StoreByte x y) + (tx_length x + tx_length y)
  ts_length (Do x) = statement_units Trees (Do x) + tx_length x
  ts_length (If c s t) = statement_units Trees (If c s t) + arms_length + (cond_length c + (ts_length s + ts_length t))
  ts_length (Loop s) = statement_units Trees (Loop s) + ts_length s
  ts_length (Seq ss) = statement_units Trees (Seq ss) + stms_length ss
  ts_length (Return x) = statement_units Trees (Return x) + tx_length x
  ts_length s = statement_units Trees s

  pub stms_length : Stms → ℕ
  stms_length no_stms = 0
  stms_length (stm s ss) = ts_length s + stms_length ss

abbrev mutual
  pub tx_needs : Tx → ℕ
  tx_needs (Temp _) = 1
  tx_needs (Binary op x y) = 2 + shift_needs in_trees op + (tx_needs x + tx_needs y)
  tx_needs (Load x) = 2 + tx_needs x
  tx_needs (LoadByte x) = 2 + tx_needs x
  tx_needs (Call _ xs) = 3 + txs_needs xs
  tx_needs (Service _ x) = 3 + tx_needs x
  tx_needs (After s x) = ts_needs s + tx_needs x
  tx_needs _ = 2

  pub txs_needs : Txs → ℕ
  txs_needs no_txs = 0
  txs_needs (tx x xs) = 2 + (tx_needs x + txs_needs xs)

  pub cond_needs : Cond → ℕ
  cond_needs (Compare _ x y) = 6 + (tx_needs x + tx_needs y)
  cond_needs (Not c) = 6 + cond_needs c
  cond_needs (Both c d) = 6 + (cond_needs c + cond_needs d)
  cond_needs (Either c d) = 6 + (cond_needs c + cond_needs d)

  pub ts_needs : Ts → ℕ
  ts_needs (Move _ x) = tx_needs x
  ts_needs (Store x y) = tx_needs x + tx_needs y
  ts_needs (StoreByte x y) = tx_needs x + tx_needs y
  ts_needs (Do x) = tx_needs x
  ts_needs (If c s t) = 1 + (cond_needs c + (ts_needs s + ts_needs t))
  ts_needs (Loop s) = ts_needs s
  ts_needs (Seq ss) = stms_needs ss
  ts_needs (Return x) = tx_needs x
  ts_needs _ = 0

  pub stms_needs : Stms → ℕ
  stms_needs no_stms = 0
  stms_needs (stm s ss) = ts_needs s + stms_needs ss

-- a choice is two deeper than its parts
abbrev pub ts_depth : Ts → ℕ
ts_depth s = statement_depth 2 s

abbrev pub stms_depth : Stms → ℕ
stms_depth ss = statements_depth 2 ss

abbrev pub tx_depth : Tx → ℕ
tx_depth x = expression_depth 2 x

abbrev pub txs_depth : Txs → ℕ
txs_depth xs = arguments_depth 2 xs

abbrev pub cond_depth : Cond → ℕ
cond_depth c = condition_depth 2 c

-- what a tree has, each is at most that
abbrev pub LessTx : Tx → Type 0
LessTx x = (expression_length Trees x ≤ tx_length x) × (expression_needs in_trees x ≤ tx_needs x) × (expression_depth 1 x ≤ tx_depth x)

abbrev pub LessTxs : Txs → Type 0
LessTxs xs = (arguments_length Trees xs ≤ txs_length xs) × (arguments_needs in_trees xs ≤ txs_needs xs) × (arguments_depth 1 xs ≤ txs_depth xs)

abbrev pub LessCond : Cond → Type 0
LessCond c = (condition_length Trees c ≤ cond_length c) × (condition_needs in_trees c ≤ cond_needs c) × (condition_depth 1 c ≤ cond_depth c)

abbrev pub LessTs : Ts → Type 0
LessTs s = (statement_length Trees s ≤ ts_length s) × (statement_needs in_trees s ≤ ts_needs s) × (statement_depth 1 s ≤ ts_depth s)

abbrev pub LessStms : Stms → Type 0
LessStms ss = (statements_length Trees ss ≤ stms_length ss) × (statements_needs in_trees ss ≤ stms_needs ss) × (statements_depth 1 ss ≤ stms_depth ss)

mutual
  pub less_tx : (x : Tx) → LessTx x
  less_tx (Const n) = (omega arith, omega arith, omega arith)
  less_tx (Address label) = (omega arith, omega arith, omega arith)
  less_tx (Temp i) = (omega arith, omega arith, omega arith)
  less_tx FrameAddress = (omega arith, omega arith, omega arith)
  less_tx (Binary op x y) =
      let h = less_tx x in let k = less_tx y in (omega (arith, h.0, k.0), omega (arith, h.1, k.1), omega (arith, h.2, k.2))
  less_tx (Load x) = let h = less_tx x in (omega (arith, h.0), omega (arith, h.1), omega (arith, h.2))
  less_tx (LoadByte x) = let h = less_tx x in (omega (arith, h.0), omega (arith, h.1), omega (arith, h.2))
  less_tx (Call label xs) = let h = less_txs xs in (omega (arith, h.0), omega (arith, h.1), omega (arith, h.2))
  less_tx (Service n x) = let h = less_tx x in (omega (arith, h.0), omega (arith, h.1), omega (arith, h.2))
  less_tx (After s x) = let h = less_ts s in let k = less_tx x in (omega (arith, h.0, k.0), omega (arith, h.1, k.1), omega (arith, h.2, k.2))

  pub less_txs : (xs : Txs) → LessTxs xs
  less_txs no_txs = (omega arith, omega arith, omega arith)
  less_txs (tx x xs) = let h = less_tx x in let k = less_txs xs in (omega (arith, h.0, k.0), omega (arith, h.1, k.1), omega (arith, h.2, k.2))

  pub less_cond : (c : Cond) → LessCond c
  less_cond (Compare rel x y) =
      let h = less_tx x in let k = less_tx y in (omega (arith, h.0, k.0), omega (arith, h.1, k.1), omega (arith, h.2, k.2))
  less_cond (Not c) = let h = less_cond c in (omega (arith, h.0), omega (arith, h.1), omega (arith, h.2))
  less_cond (Both c d) =
      let h = less_cond c in let k = less_cond d in (omega (arith, h.0, k.0), omega (arith, h.1, k.1), omega (arith, h.2, k.2))
  less_cond (Either c d) =
      let h = less_cond c in let k = less_cond d in (omega (arith, h.0, k.0), omega (arith, h.1, k.1), omega (arith, h.2, k.2))

  pub less_ts : (s : Ts) → LessTs s
  less_ts (Move i x) = let h = less_tx x in (omega (arith, h.0), omega (arith, h.1), omega (arith, h.2))
  less_ts (Store x y) =
      let h = less_tx x in let k = less_tx y in (omega (arith, h.0, k.0), omega (arith, h.1, k.1), omega (arith, h.2, k.2))
  less_ts (StoreByte x y) =
      let h = less_tx x in let k = less_tx y in (omega (arith, h.0, k.0), omega (arith, h.1, k.1), omega (arith, h.2, k.2))
  less_ts (Do x) = let h = less_tx x in (omega (arith, h.0), omega (arith, h.1), omega (arith, h.2))
  less_ts (If c s t) =
      let h = less_cond c in
      let k = less_ts s in
      let l = less_ts t in
      (omega (arith, h.0, k.0, l.0), omega (arith, h.1, k.1, l.1), omega (arith, h.2, k.2, l.2))
  less_ts (Loop s) = let h = less_ts s in (omega (arith, h.0), omega (arith, h.1), omega (arith, h.2))
  less_ts (Break k) = (omega arith, omega arith, omega arith)
  less_ts (Fault k) = (omega arith, omega arith, omega arith)
  less_ts (Seq ss) = let h = less_stms ss in (omega (arith, h.0), omega (arith, h.1), omega (arith, h.2))
  less_ts (Return x) = let h = less_tx x in (omega (arith, h.0), omega (arith, h.1), omega (arith, h.2))

  pub less_stms : (ss : Stms) → LessStms ss
  less_stms no_stms = (omega arith, omega arith, omega arith)
  less_stms (stm s ss) = let h = less_ts s in let k = less_stms ss in (omega (arith, h.0, k.0), omega (arith, h.1, k.1), omega (arith, h.2, k.2))

-- What gives back: a return counts 16, and one of a temporary a word of needs.

abbrev AtMost : (length room depth : ℕ) → Ts → Type 0
AtMost l r d s = (statement_length Trees s ≤ 16 + l) × (statement_needs in_trees s ≤ r) × (statement_depth 1 s ≤ d)

abbrev AllAtMost : (length room depth : ℕ) → Stms → Type 0
AllAtMost l r d ss = (statements_length Trees ss ≤ 16 + l) × (statements_needs in_trees ss ≤ r) × (statements_depth 1 ss ≤ d)

by_test : (b : Bool) (l r d : ℕ) (s t : Ts) → AtMost l r d s → AtMost l r d t → AtMost l r d (if b then s else t)
by_test true l r d s t h k = h
by_test false l r d s t h k = k

-- one statement, and then a return of a temporary
then_back : (s : Ts) (i : ℕ) → 1 ≤ ts_depth s → AtMost (ts_length s) (ts_needs s + 1) (ts_depth s + 2) (in_turn s (Return (Temp i)))
then_back s i l = let h = less_ts s in (omega (arith, h.0), omega (arith, h.1), omega (arith, h.2, l))

behind_most : (s : Ts) (x : Tx) (from : ℕ → Ts) (last : Ts) → ((i : ℕ) → AtMost (ts_length s) (ts_needs s + 1) (ts_depth s + 2) (from i)) →
    AtMost (tx_length x) (tx_needs x) (tx_depth x + 1) last →
    AtMost (tx_length (After s x)) (tx_needs (After s x)) (tx_depth (After s x) + 1) (returned_behind s x from last)
behind_most s (Temp i) from last h k = let g = h i in (omega (arith, g.0), omega (arith, g.1), omega (arith, g.2))
behind_most s x from last h k = let g = less_ts s in (omega (arith, g.0, k.0), omega (arith, g.1, k.1), omega (arith, g.2, k.2))

lasts_most : (s : Ts) (ss : Stms) (last : Ts) (rest : Stms) → AtMost (ts_length s) (ts_needs s + 1) (ts_depth s + 2) last →
    AllAtMost (stms_length ss) (stms_needs ss + 1) (stms_depth ss + 2) rest →
    AllAtMost (stms_length (stm s ss)) (stms_needs (stm s ss) + 1) (stms_depth (stm s ss) + 2) (returned_last s ss last rest)
lasts_most s no_stms last rest h k = (omega (arith, h.0), omega (arith, h.1), omega (arith, h.2))
lasts_most s (stm t ss) last rest h k = let g = less_ts s in (omega (arith, g.0, k.0), omega (arith, g.1, k.1), omega (arith, g.2, k.2))

mutual
  returned_most : (x : Tx) → AtMost (tx_length x) (tx_needs x) (tx_depth x + 1) (returned x)
  returned_most (After s x) = behind_most s x (λ i. returned_from i s) (returned x) (λ i. from_most i s) (returned_most x)
  returned_most x = let h = less_tx x in (omega (arith, h.0), omega (arith, h.1), omega (arith, h.2))

  from_most : (i : ℕ) (s : Ts) → AtMost (ts_length s) (ts_needs s + 1) (ts_depth s + 2) (returned_from i s)
  from_most i (Move j x) =
      let h = returned_most x in
      by_test (i == j) _ _ _ (returned x) _ (omega (arith, h.0), omega (arith, h.1), omega (arith, h.2)) (then_back (Move j x) i (omega arith))
  from_most i (If c s t) =
      let g = less_cond c in
      let h = from_most i s in
      let k = from_most i t in
      (omega (arith, g.0, h.0, k.0), omega (arith, g.1, h.1, k.1), omega (arith, g.2, h.2, k.2))
  from_most i (Seq ss) = let h = all_most i ss in (omega (arith, h.0), omega (arith, h.1), omega (arith, h.2))
  from_most i s = then_back s i (omega arith)

  all_most : (i : ℕ) (ss : Stms) → AllAtMost (stms_length ss) (stms_needs ss + 1) (stms_depth ss + 2) (all_returned_from i ss)
  all_most i no_stms = (omega arith, omega arith, omega arith)
  all_most i (stm s ss) = lasts_most s ss (returned_from i s) (all_returned_from i ss) (from_most i s) (all_most i ss)

pub given_back_most : (x : Tx) → AtMost (tx_length x) (tx_needs x) (tx_depth x + 1) (given_back x)
given_back_most x =
    let h = less_tx x in
    by_test (value_has_loop x) _ _ _ (Return x) (returned x) (omega (arith, h.0), omega (arith, h.1), omega (arith, h.2)) (returned_most x)
