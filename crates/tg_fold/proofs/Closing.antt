-- What is folded is closed, if it was.
use Rattle.std.proofs.Common.{ℕ, ◌+◌, Bool, true, false}
use Rattle.std.specs.Prelude.{if◌then◌else◌, Option, Some, None}
use Rattle.tg_tree.specs.declared.operators.Bin.{Bin}
use Rattle.tg_tree.specs.declared.operators.Rel.{Rel}
use Rattle.tg_tree.specs.Tree.{Tx, Const, Address, Temp, FrameAddress, Binary, Load, LoadByte, Call, Service, After, Txs, no_txs, tx, Cond, Compare}
use Rattle.tg_tree.specs.Tree.{Not, Both, Either, Ts, Move, Store, StoreByte, Do, If, Loop, Break, Fault, Seq, Return, Stms, no_stms, stm}
use Rattle.tg_tree.specs.Shapes.{BreaksWithin, BreaksWithinStms, BreaksWithinTx, BreaksWithinTxs, BreaksWithinCond, EndsFunction, LastEndsFunction, IsClosed}
use Rattle.tg_fold.specs.Sides.{constants}
use Rattle.tg_fold.specs.Copies.{copy, takes_copy, renamed, renamed_stms, renamed_tx, renamed_txs, renamed_cond}
use Rattle.tg_fold.specs.mirror.Folding.{word_of, constant_or, operated, Tested, Known, Open, compared_by, compared, negated}
use Rattle.tg_fold.specs.mirror.Folding.{both_of, either_of, chosen, passed, passed_on, folded_tx, folded_txs, tested, folded, each_folded}

module _ (a b : ℕ) where
  mutual
    renamed_breaks : (n : ℕ) (s : Ts) → BreaksWithin n s → BreaksWithin n (renamed a b s)
    renamed_breaks n (Move i x) h = renamed_tx_breaks n x h
    renamed_breaks n (Store x y) h = (renamed_tx_breaks n x h.0, renamed_tx_breaks n y h.1)
    renamed_breaks n (StoreByte x y) h = (renamed_tx_breaks n x h.0, renamed_tx_breaks n y h.1)
    renamed_breaks n (Do x) h = renamed_tx_breaks n x h
    renamed_breaks n (If c s t) h = (renamed_cond_breaks n c h.0, renamed_breaks n s h.1, renamed_breaks n t h.2)
    renamed_breaks n (Loop s) h = renamed_breaks (n + 1) s h
    renamed_breaks n (Break k) h = h
    renamed_breaks n (Fault i) h = tt
    renamed_breaks n (Seq ss) h = renamed_stms_breaks n ss h
    renamed_breaks n (Return x) h = renamed_tx_breaks n x h

    renamed_stms_breaks : (n : ℕ) (ss : Stms) → BreaksWithinStms n ss → BreaksWithinStms n (renamed_stms a b ss)
    renamed_stms_breaks n no_stms h = tt
    renamed_stms_breaks n (stm s ss) h = (renamed_breaks n s h.0, renamed_stms_breaks n ss h.1)

    renamed_tx_breaks : (n : ℕ) (x : Tx) → BreaksWithinTx n x → BreaksWithinTx n (renamed_tx a b x)
    renamed_tx_breaks n (Const i) h = tt
    renamed_tx_breaks n (Address label) h = tt
    renamed_tx_breaks n (Temp i) h = tt
    renamed_tx_breaks n FrameAddress h = tt
    renamed_tx_breaks n (Binary op x y) h = (renamed_tx_breaks n x h.0, renamed_tx_breaks n y h.1)
    renamed_tx_breaks n (Load x) h = renamed_tx_breaks n x h
    renamed_tx_breaks n (LoadByte x) h = renamed_tx_breaks n x h
    renamed_tx_breaks n (Call label xs) h = renamed_txs_breaks n xs h
    renamed_tx_breaks n (Service i x) h = renamed_tx_breaks n x h
    renamed_tx_breaks n (After s x) h = (renamed_breaks n s h.0, renamed_tx_breaks n x h.1)

    renamed_txs_breaks : (n : ℕ) (xs : Txs) → BreaksWithinTxs n xs → BreaksWithinTxs n (renamed_txs a b xs)
    renamed_txs_breaks n no_txs h = tt
    renamed_txs_breaks n (tx x xs) h = (renamed_tx_breaks n x h.0, renamed_txs_breaks n xs h.1)

    renamed_cond_breaks : (n : ℕ) (c : Cond) → BreaksWithinCond n c → BreaksWithinCond n (renamed_cond a b c)
    renamed_cond_breaks n (Compare rel x y) h = (renamed_tx_breaks n x h.0, renamed_tx_breaks n y h.1)
    renamed_cond_breaks n (Not c) h = renamed_cond_breaks n c h
    renamed_cond_breaks n (Both c d) h = (renamed_cond_breaks n c h.0, renamed_cond_breaks n d h.1)
    renamed_cond_breaks n (Either c d) h = (renamed_cond_breaks n c h.0, renamed_cond_breaks n d h.1)

  mutual
    renamed_ends : (s : Ts) → EndsFunction s → EndsFunction (renamed a b s)
    renamed_ends (Move i x) h = absurd h
    renamed_ends (Store x y) h = absurd h
    renamed_ends (StoreByte x y) h = absurd h
    renamed_ends (Do x) h = absurd h
    renamed_ends (If c s t) h = absurd h
    renamed_ends (Loop s) h = absurd h
    renamed_ends (Break k) h = absurd h
    renamed_ends (Fault i) h = tt
    renamed_ends (Seq ss) h = renamed_last_ends ss h
    renamed_ends (Return x) h = tt

    renamed_last_ends : (ss : Stms) → LastEndsFunction ss → LastEndsFunction (renamed_stms a b ss)
    renamed_last_ends no_stms h = absurd h
    renamed_last_ends (stm s no_stms) h = renamed_ends s h
    renamed_last_ends (stm s (stm t ss)) h = renamed_last_ends (stm t ss) h

passed_breaks : (n : ℕ) (before : Option (ℕ × ℕ)) (s : Ts) → BreaksWithin n s → BreaksWithin n (passed before s)
passed_breaks n None s h = h
passed_breaks n (Some p) s h = by (takes_copy p.0 p.1 s)
  where
    by : (q : Bool) → BreaksWithin n (if q then renamed p.0 p.1 s else s)
    by true = renamed_breaks p.0 p.1 n s h
    by false = h

passed_on_breaks : (n : ℕ) (before : Option (ℕ × ℕ)) (ss : Stms) → BreaksWithinStms n ss → BreaksWithinStms n (passed_on before ss)
passed_on_breaks n before no_stms h = tt
passed_on_breaks n before (stm s ss) h = (passed_breaks n before s h.0, passed_on_breaks n (copy (passed before s)) ss h.1)

passed_ends : (before : Option (ℕ × ℕ)) (s : Ts) → EndsFunction s → EndsFunction (passed before s)
passed_ends None s h = h
passed_ends (Some p) s h = by (takes_copy p.0 p.1 s)
  where
    by : (q : Bool) → EndsFunction (if q then renamed p.0 p.1 s else s)
    by true = renamed_ends p.0 p.1 s h
    by false = h

passed_on_ends : (before : Option (ℕ × ℕ)) (ss : Stms) → LastEndsFunction ss → LastEndsFunction (passed_on before ss)
passed_on_ends before no_stms h = absurd h
passed_on_ends before (stm s no_stms) h = passed_ends before s h
passed_on_ends before (stm s (stm t ss)) h = passed_on_ends (copy (passed before s)) (stm t ss) h

module _ (n : ℕ) where
  abbrev TestBreaks : Tested → Type 0
  TestBreaks (Known b) = Unit {0}
  TestBreaks (Open c) = BreaksWithinCond n c

  operated_breaks : (op : Bin) (x y : Tx) → BreaksWithinTx n x → BreaksWithinTx n y → BreaksWithinTx n (operated op x y)
  operated_breaks op x y h k = by (word_of op (constants x y))
    where
      by : (o : Option ℕ) → BreaksWithinTx n (constant_or o (Binary op x y))
      by None = (h, k)
      by (Some i) = tt

  compared_breaks : (rel : Rel) (x y : Tx) → BreaksWithinTx n x → BreaksWithinTx n y → TestBreaks (compared rel x y)
  compared_breaks rel x y h k = by (constants x y)
    where
      by : (o : Option (ℕ × ℕ)) → TestBreaks (compared_by rel o (Compare rel x y))
      by None = (h, k)
      by (Some p) = tt

  negated_breaks : (t : Tested) → TestBreaks t → TestBreaks (negated t)
  negated_breaks (Known b) h = tt
  negated_breaks (Open c) h = h

  both_breaks : (t u : Tested) → TestBreaks t → TestBreaks u → TestBreaks (both_of t u)
  both_breaks (Known true) u h k = k
  both_breaks (Known false) u h k = tt
  both_breaks (Open c) (Known true) h k = h
  both_breaks (Open c) (Known false) h k = (h, (tt, tt))
  both_breaks (Open c) (Open d) h k = (h, k)

  either_breaks : (t u : Tested) → TestBreaks t → TestBreaks u → TestBreaks (either_of t u)
  either_breaks (Known true) u h k = tt
  either_breaks (Known false) u h k = k
  either_breaks (Open c) (Known true) h k = (h, (tt, tt))
  either_breaks (Open c) (Known false) h k = h
  either_breaks (Open c) (Open d) h k = (h, k)

  chosen_breaks : (t : Tested) (r s : Ts) → TestBreaks t → BreaksWithin n r → BreaksWithin n s → BreaksWithin n (chosen t r s)
  chosen_breaks (Known true) r s h k l = k
  chosen_breaks (Known false) r s h k l = l
  chosen_breaks (Open c) r s h k l = (h, k, l)

mutual
  folded_tx_breaks : (n : ℕ) (x : Tx) → BreaksWithinTx n x → BreaksWithinTx n (folded_tx x)
  folded_tx_breaks n (Const i) h = tt
  folded_tx_breaks n (Address label) h = tt
  folded_tx_breaks n (Temp i) h = tt
  folded_tx_breaks n FrameAddress h = tt
  folded_tx_breaks n (Binary op x y) h = operated_breaks n op (folded_tx x) (folded_tx y) (folded_tx_breaks n x h.0) (folded_tx_breaks n y h.1)
  folded_tx_breaks n (Load x) h = folded_tx_breaks n x h
  folded_tx_breaks n (LoadByte x) h = folded_tx_breaks n x h
  folded_tx_breaks n (Call label xs) h = folded_txs_breaks n xs h
  folded_tx_breaks n (Service i x) h = folded_tx_breaks n x h
  folded_tx_breaks n (After s x) h = (folded_breaks n s h.0, folded_tx_breaks n x h.1)

  folded_txs_breaks : (n : ℕ) (xs : Txs) → BreaksWithinTxs n xs → BreaksWithinTxs n (folded_txs xs)
  folded_txs_breaks n no_txs h = tt
  folded_txs_breaks n (tx x xs) h = (folded_tx_breaks n x h.0, folded_txs_breaks n xs h.1)

  tested_breaks : (n : ℕ) (c : Cond) → BreaksWithinCond n c → TestBreaks n (tested c)
  tested_breaks n (Compare rel x y) h = compared_breaks n rel (folded_tx x) (folded_tx y) (folded_tx_breaks n x h.0) (folded_tx_breaks n y h.1)
  tested_breaks n (Not c) h = negated_breaks n (tested c) (tested_breaks n c h)
  tested_breaks n (Both c d) h = both_breaks n (tested c) (tested d) (tested_breaks n c h.0) (tested_breaks n d h.1)
  tested_breaks n (Either c d) h = either_breaks n (tested c) (tested d) (tested_breaks n c h.0) (tested_breaks n d h.1)

  folded_breaks : (n : ℕ) (s : Ts) → BreaksWithin n s → BreaksWithin n (folded s)
  folded_breaks n (Move i x) h = folded_tx_breaks n x h
  folded_breaks n (Store x y) h = (folded_tx_breaks n x h.0, folded_tx_breaks n y h.1)
  folded_breaks n (StoreByte x y) h = (folded_tx_breaks n x h.0, folded_tx_breaks n y h.1)
  folded_breaks n (Do x) h = folded_tx_breaks n x h
  folded_breaks n (If c s t) h =
      chosen_breaks n (tested c) (folded s) (folded t) (tested_breaks n c h.0) (folded_breaks n s h.1) (folded_breaks n t h.2)
  folded_breaks n (Loop s) h = folded_breaks (n + 1) s h
  folded_breaks n (Break k) h = h
  folded_breaks n (Fault i) h = tt
  folded_breaks n (Seq ss) h = passed_on_breaks n None (each_folded ss) (each_breaks n ss h)
  folded_breaks n (Return x) h = folded_tx_breaks n x h

  each_breaks : (n : ℕ) (ss : Stms) → BreaksWithinStms n ss → BreaksWithinStms n (each_folded ss)
  each_breaks n no_stms h = tt
  each_breaks n (stm s ss) h = (folded_breaks n s h.0, each_breaks n ss h.1)

mutual
  folded_ends : (s : Ts) → EndsFunction s → EndsFunction (folded s)
  folded_ends (Move i x) h = absurd h
  folded_ends (Store x y) h = absurd h
  folded_ends (StoreByte x y) h = absurd h
  folded_ends (Do x) h = absurd h
  folded_ends (If c s t) h = absurd h
  folded_ends (Loop s) h = absurd h
  folded_ends (Break k) h = absurd h
  folded_ends (Fault i) h = tt
  folded_ends (Seq ss) h = passed_on_ends None (each_folded ss) (each_ends ss h)
  folded_ends (Return x) h = tt

  each_ends : (ss : Stms) → LastEndsFunction ss → LastEndsFunction (each_folded ss)
  each_ends no_stms h = absurd h
  each_ends (stm s no_stms) h = folded_ends s h
  each_ends (stm s (stm t ss)) h = each_ends (stm t ss) h

pub folded_closed : (body : Ts) → IsClosed body → IsClosed (folded body)
folded_closed body h = record { breaks = folded_breaks 0 body h.breaks; last = folded_ends body h.last }
