-- What is folded is no deeper.
use Rattle.std.proofs.Common.{◌≡◌, ◌≤◌, ◌+◌, ℕ, Bool, true, false, suc, refl, arith}
use Rattle.std.specs.Prelude.{if◌then◌else◌, max, Option, Some, None}
use Rattle.tg_tree.specs.declared.operators.Bin.{Bin}
use Rattle.tg_tree.specs.declared.operators.Rel.{Rel}
use Rattle.tg_tree.specs.Tree.{Tx, Const, Address, Temp, FrameAddress, Binary, Load, LoadByte, Call, Service, After, Txs, no_txs, tx, Cond, Compare}
use Rattle.tg_tree.specs.Tree.{Not, Both, Either, Ts, Move, Store, StoreByte, Do, If, Loop, Break, Fault, Seq, Return, Stms, no_stms, stm}
use Rattle.tg_translate_laws.specs.Depths.{statement_depth, statements_depth, expression_depth, arguments_depth, condition_depth}
use Rattle.tg_fold.specs.Sides.{constants}
use Rattle.tg_fold.specs.Copies.{copy, takes_copy, renamed, renamed_stms, renamed_tx, renamed_txs, renamed_cond}
use Rattle.tg_fold.specs.mirror.Folding.{word_of, constant_or, operated, Tested, Known, Open, compared_by, compared, negated}
use Rattle.tg_fold.specs.mirror.Folding.{both_of, either_of, chosen, passed, passed_on, folded_tx, folded_txs, tested, folded, each_folded}

max_less : (a b c d : ℕ) → a ≤ c → b ≤ d → max a b ≤ max c d
max_less a b c d h k = omega (arith, h, k)

module _ (choice : ℕ) where
  -- An expression is one deep at least, and a condition two.
  expression_least : (x : Tx) → 1 ≤ expression_depth choice x
  expression_least (Const i) = omega arith
  expression_least (Address label) = omega arith
  expression_least (Temp i) = omega arith
  expression_least FrameAddress = omega arith
  expression_least (Binary op x y) = omega arith
  expression_least (Load x) = omega arith
  expression_least (LoadByte x) = omega arith
  expression_least (Call label xs) = omega arith
  expression_least (Service i x) = omega arith
  expression_least (After s x) = omega arith

  module _ (a b : ℕ) where
    mutual
      renamed_as_deep : (s : Ts) → statement_depth choice (renamed a b s) ≡ statement_depth choice s
      renamed_as_deep (Move i x) = rw (renamed_tx_as_deep x) refl
      renamed_as_deep (Store x y) = rw (renamed_tx_as_deep x, renamed_tx_as_deep y) refl
      renamed_as_deep (StoreByte x y) = rw (renamed_tx_as_deep x, renamed_tx_as_deep y) refl
      renamed_as_deep (Do x) = rw (renamed_tx_as_deep x) refl
      renamed_as_deep (If c s t) = rw (renamed_cond_as_deep c, renamed_as_deep s, renamed_as_deep t) refl
      renamed_as_deep (Loop s) = rw (renamed_as_deep s) refl
      renamed_as_deep (Break k) = refl
      renamed_as_deep (Fault i) = refl
      renamed_as_deep (Seq ss) = rw (renamed_stms_as_deep ss) refl
      renamed_as_deep (Return x) = rw (renamed_tx_as_deep x) refl

      renamed_stms_as_deep : (ss : Stms) → statements_depth choice (renamed_stms a b ss) ≡ statements_depth choice ss
      renamed_stms_as_deep no_stms = refl
      renamed_stms_as_deep (stm s ss) = rw (renamed_as_deep s, renamed_stms_as_deep ss) refl

      renamed_tx_as_deep : (x : Tx) → expression_depth choice (renamed_tx a b x) ≡ expression_depth choice x
      renamed_tx_as_deep (Const i) = refl
      renamed_tx_as_deep (Address label) = refl
      renamed_tx_as_deep (Temp i) = refl
      renamed_tx_as_deep FrameAddress = refl
      renamed_tx_as_deep (Binary op x y) = rw (renamed_tx_as_deep x, renamed_tx_as_deep y) refl
      renamed_tx_as_deep (Load x) = rw (renamed_tx_as_deep x) refl
      renamed_tx_as_deep (LoadByte x) = rw (renamed_tx_as_deep x) refl
      renamed_tx_as_deep (Call label xs) = rw (renamed_txs_as_deep xs) refl
      renamed_tx_as_deep (Service i x) = rw (renamed_tx_as_deep x) refl
      renamed_tx_as_deep (After s x) = rw (renamed_as_deep s, renamed_tx_as_deep x) refl

      renamed_txs_as_deep : (xs : Txs) → arguments_depth choice (renamed_txs a b xs) ≡ arguments_depth choice xs
      renamed_txs_as_deep no_txs = refl
      renamed_txs_as_deep (tx x xs) = rw (renamed_tx_as_deep x, renamed_txs_as_deep xs) refl

      renamed_cond_as_deep : (c : Cond) → condition_depth choice (renamed_cond a b c) ≡ condition_depth choice c
      renamed_cond_as_deep (Compare rel x y) = rw (renamed_tx_as_deep x, renamed_tx_as_deep y) refl
      renamed_cond_as_deep (Not c) = rw (renamed_cond_as_deep c) refl
      renamed_cond_as_deep (Both c d) = rw (renamed_cond_as_deep c, renamed_cond_as_deep d) refl
      renamed_cond_as_deep (Either c d) = rw (renamed_cond_as_deep c, renamed_cond_as_deep d) refl

  passed_as_deep : (before : Option (ℕ × ℕ)) (s : Ts) → statement_depth choice (passed before s) ≡ statement_depth choice s
  passed_as_deep None s = refl
  passed_as_deep (Some p) s = by (takes_copy p.0 p.1 s)
    where
      by : (q : Bool) → statement_depth choice (if q then renamed p.0 p.1 s else s) ≡ statement_depth choice s
      by true = renamed_as_deep p.0 p.1 s
      by false = refl

  passed_on_as_deep : (before : Option (ℕ × ℕ)) (ss : Stms) → statements_depth choice (passed_on before ss) ≡ statements_depth choice ss
  passed_on_as_deep before no_stms = refl
  passed_on_as_deep before (stm s ss) = rw (passed_as_deep before s, passed_on_as_deep (copy (passed before s)) ss) refl

  -- what a condition of a depth becomes
  abbrev TestedWithin : (depth : ℕ) → Tested → Type 0
  TestedWithin n (Known b) = 2 ≤ n
  TestedWithin n (Open c) = condition_depth choice c ≤ n

  deeper : (n m : ℕ) (t : Tested) → n ≤ m → TestedWithin n t → TestedWithin m t
  deeper n m (Known b) l h = omega (arith, l, h)
  deeper n m (Open c) l h = omega (arith, l, h)

  operated_shallow : (n m : ℕ) (op : Bin) (x y : Tx) → expression_depth choice x ≤ n → expression_depth choice y ≤ m →
      expression_depth choice (operated op x y) ≤ suc (max n m)
  operated_shallow n m op x y h k = by (word_of op (constants x y))
    where
      by : (o : Option ℕ) → expression_depth choice (constant_or o (Binary op x y)) ≤ suc (max n m)
      by None = let l = max_less (expression_depth choice x) (expression_depth choice y) n m h k in omega (arith, l)
      by (Some i) = omega arith

  compared_shallow : (n m : ℕ) (rel : Rel) (x y : Tx) → expression_depth choice x ≤ n → expression_depth choice y ≤ m →
      TestedWithin (suc (max n m)) (compared rel x y)
  compared_shallow n m rel x y h k = by (constants x y)
    where
      by : (o : Option (ℕ × ℕ)) → TestedWithin (suc (max n m)) (compared_by rel o (Compare rel x y))
      by None = let l = max_less (expression_depth choice x) (expression_depth choice y) n m h k in omega (arith, l)
      by (Some p) = let l = expression_least x in omega (arith, h, l)

  negated_shallow : (n : ℕ) (t : Tested) → TestedWithin n t → TestedWithin (suc n) (negated t)
  negated_shallow n (Known b) h = omega (arith, h)
  negated_shallow n (Open c) h = omega (arith, h)

  both_shallow : (n m : ℕ) (t u : Tested) → TestedWithin n t → TestedWithin m u → TestedWithin (suc (max n m)) (both_of t u)
  both_shallow n m (Known true) u h k = deeper m (suc (max n m)) u (omega arith) k
  both_shallow n m (Known false) u h k = omega (arith, h)
  both_shallow n m (Open c) (Known true) h k = omega (arith, h)
  both_shallow n m (Open c) (Known false) h k = let l = max_less (condition_depth choice c) 2 n m h k in omega (arith, l)
  both_shallow n m (Open c) (Open d) h k =
      let l = max_less (condition_depth choice c) (condition_depth choice d) n m h k in omega (arith, l)

  either_shallow : (n m : ℕ) (t u : Tested) → TestedWithin n t → TestedWithin m u → TestedWithin (suc (max n m)) (either_of t u)
  either_shallow n m (Known true) u h k = omega (arith, h)
  either_shallow n m (Known false) u h k = deeper m (suc (max n m)) u (omega arith) k
  either_shallow n m (Open c) (Known true) h k = let l = max_less (condition_depth choice c) 2 n m h k in omega (arith, l)
  either_shallow n m (Open c) (Known false) h k = omega (arith, h)
  either_shallow n m (Open c) (Open d) h k =
      let l = max_less (condition_depth choice c) (condition_depth choice d) n m h k in omega (arith, l)

  chosen_shallow : (n k m : ℕ) (t : Tested) (r s : Ts) → TestedWithin n t → statement_depth choice r ≤ k → statement_depth choice s ≤ m →
      statement_depth choice (chosen t r s) ≤ choice + max n (max k m)
  chosen_shallow n k m (Known true) r s h i j = omega (arith, i)
  chosen_shallow n k m (Known false) r s h i j = omega (arith, j)
  chosen_shallow n k m (Open c) r s h i j =
      let l = max_less (statement_depth choice r) (statement_depth choice s) k m i j in
      let o = max_less (condition_depth choice c) (max (statement_depth choice r) (statement_depth choice s)) n (max k m) h l in
      omega (arith, o)

  -- of two parts
  two_shallow : (x y x' y' : Tx) → expression_depth choice x' ≤ expression_depth choice x → expression_depth choice y' ≤ expression_depth choice y →
      suc (max (expression_depth choice x') (expression_depth choice y')) ≤ suc (max (expression_depth choice x) (expression_depth choice y))
  two_shallow x y x' y' h k = omega (arith, h, k)

  mutual
    folded_tx_shallow : (x : Tx) → expression_depth choice (folded_tx x) ≤ expression_depth choice x
    folded_tx_shallow (Const i) = omega arith
    folded_tx_shallow (Address label) = omega arith
    folded_tx_shallow (Temp i) = omega arith
    folded_tx_shallow FrameAddress = omega arith
    folded_tx_shallow (Binary op x y) =
        operated_shallow (expression_depth choice x) (expression_depth choice y) op (folded_tx x) (folded_tx y)
        (folded_tx_shallow x) (folded_tx_shallow y)
    folded_tx_shallow (Load x) = let h = folded_tx_shallow x in omega (arith, h)
    folded_tx_shallow (LoadByte x) = let h = folded_tx_shallow x in omega (arith, h)
    folded_tx_shallow (Call label xs) = let h = folded_txs_shallow xs in omega (arith, h)
    folded_tx_shallow (Service i x) = let h = folded_tx_shallow x in omega (arith, h)
    folded_tx_shallow (After s x) =
        let l = max_less (statement_depth choice (folded s)) (expression_depth choice (folded_tx x)) (statement_depth choice s)
        (expression_depth choice x) (folded_shallow s) (folded_tx_shallow x) in
        omega (arith, l)

    folded_txs_shallow : (xs : Txs) → arguments_depth choice (folded_txs xs) ≤ arguments_depth choice xs
    folded_txs_shallow no_txs = omega arith
    folded_txs_shallow (tx x xs) =
        max_less (expression_depth choice (folded_tx x)) (arguments_depth choice (folded_txs xs)) (expression_depth choice x)
        (arguments_depth choice xs) (folded_tx_shallow x) (folded_txs_shallow xs)

    tested_shallow : (c : Cond) → TestedWithin (condition_depth choice c) (tested c)
    tested_shallow (Compare rel x y) =
        compared_shallow (expression_depth choice x) (expression_depth choice y) rel (folded_tx x) (folded_tx y)
        (folded_tx_shallow x) (folded_tx_shallow y)
    tested_shallow (Not c) = negated_shallow (condition_depth choice c) (tested c) (tested_shallow c)
    tested_shallow (Both c d) =
        both_shallow (condition_depth choice c) (condition_depth choice d) (tested c) (tested d) (tested_shallow c) (tested_shallow d)
    tested_shallow (Either c d) =
        either_shallow (condition_depth choice c) (condition_depth choice d) (tested c) (tested d) (tested_shallow c) (tested_shallow d)

    pub folded_shallow : (s : Ts) → statement_depth choice (folded s) ≤ statement_depth choice s
    folded_shallow (Move i x) = let h = folded_tx_shallow x in omega (arith, h)
    folded_shallow (Store x y) = two_shallow x y (folded_tx x) (folded_tx y) (folded_tx_shallow x) (folded_tx_shallow y)
    folded_shallow (StoreByte x y) = two_shallow x y (folded_tx x) (folded_tx y) (folded_tx_shallow x) (folded_tx_shallow y)
    folded_shallow (Do x) = let h = folded_tx_shallow x in omega (arith, h)
    folded_shallow (If c s t) =
        chosen_shallow (condition_depth choice c) (statement_depth choice s) (statement_depth choice t) (tested c) (folded s) (folded t)
        (tested_shallow c) (folded_shallow s) (folded_shallow t)
    folded_shallow (Loop s) = let h = folded_shallow s in omega (arith, h)
    folded_shallow (Break k) = omega arith
    folded_shallow (Fault i) = omega arith
    folded_shallow (Seq ss) =
        let h = each_shallow ss in
        let e = passed_on_as_deep None (each_folded ss) in
        omega (arith, h, e)
    folded_shallow (Return x) = let h = folded_tx_shallow x in omega (arith, h)

    each_shallow : (ss : Stms) → statements_depth choice (each_folded ss) ≤ statements_depth choice ss
    each_shallow no_stms = omega arith
    each_shallow (stm s ss) =
        max_less (statement_depth choice (folded s)) (statements_depth choice (each_folded ss)) (statement_depth choice s)
        (statements_depth choice ss) (folded_shallow s) (each_shallow ss)
