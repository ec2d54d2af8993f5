-- No more accesses stand one within another in what is folded.
use Rattle.std.proofs.Common.{ℕ, Bool, true, false, zero, suc}
use Rattle.std.specs.Prelude.{if◌then◌else◌, Option, Some, None}
use Rattle.tg_tree.specs.declared.operators.Bin.{Bin}
use Rattle.tg_tree.specs.declared.operators.Rel.{Rel}
use Rattle.tg_tree.specs.Tree.{Tx, Const, Address, Temp, FrameAddress, Binary, Load, LoadByte, Call, Service, After, Txs, no_txs, tx, Cond, Compare}
use Rattle.tg_tree.specs.Tree.{Not, Both, Either, Ts, Move, Store, StoreByte, Do, If, Loop, Break, Fault, Seq, Return, Stms, no_stms, stm}
use Rattle.tg_translate_laws.specs.Accesses.{Accessed, AccessesWithin, AccessesWithinStms, AccessesWithinTx, AccessesWithinTxs, AccessesWithinCond}
use Rattle.tg_fold.specs.Sides.{constants}
use Rattle.tg_fold.specs.Copies.{copy, takes_copy, renamed, renamed_stms, renamed_tx, renamed_txs, renamed_cond}
use Rattle.tg_fold.specs.mirror.Folding.{word_of, constant_or, operated, Tested, Known, Open, compared_by, compared, negated}
use Rattle.tg_fold.specs.mirror.Folding.{both_of, either_of, chosen, passed, passed_on, folded_tx, folded_txs, tested, folded, each_folded}

-- an access whose address is another one
accessed : (n : ℕ) {old new : ℕ → Type 0} → ((k : ℕ) → old k → new k) → Accessed n old → Accessed n new
accessed zero f h = absurd h
accessed (suc n) f h = f n h

module _ (a b : ℕ) where
  mutual
    renamed_within : (n : ℕ) (s : Ts) → AccessesWithin n s → AccessesWithin n (renamed a b s)
    renamed_within n (Move i x) h = renamed_tx_within n x h
    renamed_within n (Store x y) h = (accessed n (λ k. renamed_tx_within k x) h.0, renamed_tx_within n y h.1)
    renamed_within n (StoreByte x y) h = (accessed n (λ k. renamed_tx_within k x) h.0, renamed_tx_within n y h.1)
    renamed_within n (Do x) h = renamed_tx_within n x h
    renamed_within n (If c s t) h = (renamed_cond_within n c h.0, renamed_within n s h.1, renamed_within n t h.2)
    renamed_within n (Loop s) h = renamed_within n s h
    renamed_within n (Break k) h = tt
    renamed_within n (Fault i) h = tt
    renamed_within n (Seq ss) h = renamed_stms_within n ss h
    renamed_within n (Return x) h = renamed_tx_within n x h

    renamed_stms_within : (n : ℕ) (ss : Stms) → AccessesWithinStms n ss → AccessesWithinStms n (renamed_stms a b ss)
    renamed_stms_within n no_stms h = tt
    renamed_stms_within n (stm s ss) h = (renamed_within n s h.0, renamed_stms_within n ss h.1)

    renamed_tx_within : (n : ℕ) (x : Tx) → AccessesWithinTx n x → AccessesWithinTx n (renamed_tx a b x)
    renamed_tx_within n (Const i) h = tt
    renamed_tx_within n (Address label) h = tt
    renamed_tx_within n (Temp i) h = tt
    renamed_tx_within n FrameAddress h = tt
    renamed_tx_within n (Binary op x y) h = (renamed_tx_within n x h.0, renamed_tx_within n y h.1)
    renamed_tx_within n (Load x) h = accessed n (λ k. renamed_tx_within k x) h
    renamed_tx_within n (LoadByte x) h = accessed n (λ k. renamed_tx_within k x) h
    renamed_tx_within n (Call label xs) h = renamed_txs_within n xs h
    renamed_tx_within n (Service i x) h = renamed_tx_within n x h
    renamed_tx_within n (After s x) h = (renamed_within n s h.0, renamed_tx_within n x h.1)

    renamed_txs_within : (n : ℕ) (xs : Txs) → AccessesWithinTxs n xs → AccessesWithinTxs n (renamed_txs a b xs)
    renamed_txs_within n no_txs h = tt
    renamed_txs_within n (tx x xs) h = (renamed_tx_within n x h.0, renamed_txs_within n xs h.1)

    renamed_cond_within : (n : ℕ) (c : Cond) → AccessesWithinCond n c → AccessesWithinCond n (renamed_cond a b c)
    renamed_cond_within n (Compare rel x y) h = (renamed_tx_within n x h.0, renamed_tx_within n y h.1)
    renamed_cond_within n (Not c) h = renamed_cond_within n c h
    renamed_cond_within n (Both c d) h = (renamed_cond_within n c h.0, renamed_cond_within n d h.1)
    renamed_cond_within n (Either c d) h = (renamed_cond_within n c h.0, renamed_cond_within n d h.1)

passed_within : (n : ℕ) (before : Option (ℕ × ℕ)) (s : Ts) → AccessesWithin n s → AccessesWithin n (passed before s)
passed_within n None s h = h
passed_within n (Some p) s h = by (takes_copy p.0 p.1 s)
  where
    by : (q : Bool) → AccessesWithin n (if q then renamed p.0 p.1 s else s)
    by true = renamed_within p.0 p.1 n s h
    by false = h

passed_on_within : (n : ℕ) (before : Option (ℕ × ℕ)) (ss : Stms) → AccessesWithinStms n ss → AccessesWithinStms n (passed_on before ss)
passed_on_within n before no_stms h = tt
passed_on_within n before (stm s ss) h = (passed_within n before s h.0, passed_on_within n (copy (passed before s)) ss h.1)

module _ (n : ℕ) where
  abbrev TestedWithin : Tested → Type 0
  TestedWithin (Known b) = Unit {0}
  TestedWithin (Open c) = AccessesWithinCond n c

  operated_within : (op : Bin) (x y : Tx) → AccessesWithinTx n x → AccessesWithinTx n y → AccessesWithinTx n (operated op x y)
  operated_within op x y h k = by (word_of op (constants x y))
    where
      by : (o : Option ℕ) → AccessesWithinTx n (constant_or o (Binary op x y))
      by None = (h, k)
      by (Some i) = tt

  compared_within : (rel : Rel) (x y : Tx) → AccessesWithinTx n x → AccessesWithinTx n y → TestedWithin (compared rel x y)
  compared_within rel x y h k = by (constants x y)
    where
      by : (o : Option (ℕ × ℕ)) → TestedWithin (compared_by rel o (Compare rel x y))
      by None = (h, k)
      by (Some p) = tt

  negated_within : (t : Tested) → TestedWithin t → TestedWithin (negated t)
  negated_within (Known b) h = tt
  negated_within (Open c) h = h

  both_within : (t u : Tested) → TestedWithin t → TestedWithin u → TestedWithin (both_of t u)
  both_within (Known true) u h k = k
  both_within (Known false) u h k = tt
  both_within (Open c) (Known true) h k = h
  both_within (Open c) (Known false) h k = (h, (tt, tt))
  both_within (Open c) (Open d) h k = (h, k)

  either_within : (t u : Tested) → TestedWithin t → TestedWithin u → TestedWithin (either_of t u)
  either_within (Known true) u h k = tt
  either_within (Known false) u h k = k
  either_within (Open c) (Known true) h k = (h, (tt, tt))
  either_within (Open c) (Known false) h k = h
  either_within (Open c) (Open d) h k = (h, k)

  chosen_within : (t : Tested) (r s : Ts) → TestedWithin t → AccessesWithin n r → AccessesWithin n s → AccessesWithin n (chosen t r s)
  chosen_within (Known true) r s h k l = k
  chosen_within (Known false) r s h k l = l
  chosen_within (Open c) r s h k l = (h, k, l)

mutual
  folded_tx_within : (n : ℕ) (x : Tx) → AccessesWithinTx n x → AccessesWithinTx n (folded_tx x)
  folded_tx_within n (Const i) h = tt
  folded_tx_within n (Address label) h = tt
  folded_tx_within n (Temp i) h = tt
  folded_tx_within n FrameAddress h = tt
  folded_tx_within n (Binary op x y) h =
      operated_within n op (folded_tx x) (folded_tx y) (folded_tx_within n x h.0) (folded_tx_within n y h.1)
  folded_tx_within n (Load x) h = accessed n (λ k. folded_tx_within k x) h
  folded_tx_within n (LoadByte x) h = accessed n (λ k. folded_tx_within k x) h
  folded_tx_within n (Call label xs) h = folded_txs_within n xs h
  folded_tx_within n (Service i x) h = folded_tx_within n x h
  folded_tx_within n (After s x) h = (folded_within n s h.0, folded_tx_within n x h.1)

  folded_txs_within : (n : ℕ) (xs : Txs) → AccessesWithinTxs n xs → AccessesWithinTxs n (folded_txs xs)
  folded_txs_within n no_txs h = tt
  folded_txs_within n (tx x xs) h = (folded_tx_within n x h.0, folded_txs_within n xs h.1)

  tested_within : (n : ℕ) (c : Cond) → AccessesWithinCond n c → TestedWithin n (tested c)
  tested_within n (Compare rel x y) h =
      compared_within n rel (folded_tx x) (folded_tx y) (folded_tx_within n x h.0) (folded_tx_within n y h.1)
  tested_within n (Not c) h = negated_within n (tested c) (tested_within n c h)
  tested_within n (Both c d) h = both_within n (tested c) (tested d) (tested_within n c h.0) (tested_within n d h.1)
  tested_within n (Either c d) h = either_within n (tested c) (tested d) (tested_within n c h.0) (tested_within n d h.1)

  pub folded_within : (n : ℕ) (s : Ts) → AccessesWithin n s → AccessesWithin n (folded s)
  folded_within n (Move i x) h = folded_tx_within n x h
  folded_within n (Store x y) h = (accessed n (λ k. folded_tx_within k x) h.0, folded_tx_within n y h.1)
  folded_within n (StoreByte x y) h = (accessed n (λ k. folded_tx_within k x) h.0, folded_tx_within n y h.1)
  folded_within n (Do x) h = folded_tx_within n x h
  folded_within n (If c s t) h =
      chosen_within n (tested c) (folded s) (folded t) (tested_within n c h.0) (folded_within n s h.1) (folded_within n t h.2)
  folded_within n (Loop s) h = folded_within n s h
  folded_within n (Break k) h = tt
  folded_within n (Fault i) h = tt
  folded_within n (Seq ss) h = passed_on_within n None (each_folded ss) (each_within n ss h)
  folded_within n (Return x) h = folded_tx_within n x h

  each_within : (n : ℕ) (ss : Stms) → AccessesWithinStms n ss → AccessesWithinStms n (each_folded ss)
  each_within n no_stms h = tt
  each_within n (stm s ss) h = (folded_within n s h.0, each_within n ss h.1)
