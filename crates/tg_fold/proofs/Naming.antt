-- Names of what is folded.
use Rattle.std.proofs.Common.{◌≡◌, ℕ, Bool, true, false, refl, sym, subst}
use Rattle.std.specs.Prelude.{◌==◌, if◌then◌else◌, Option, Some, None}
use Rattle.tg_tree.specs.declared.operators.Bin.{Bin}
use Rattle.tg_tree.specs.declared.operators.Rel.{Rel}
use Rattle.tg_tree.specs.Tree.{Tx, Const, Address, Temp, FrameAddress, Binary, Load, LoadByte, Call, Service, After, Txs, no_txs, tx, Cond, Compare}
use Rattle.tg_tree.specs.Tree.{Not, Both, Either, Ts, Move, Store, StoreByte, Do, If, Loop, Break, Fault, Seq, Return, Stms, no_stms, stm}
use Rattle.tg_tree.specs.Operators.{Given, word, stops_by, operate}
use Rattle.tg_tree.specs.Named.{Named, temporary, constant}
use Rattle.tg_fold.specs.Sides.{constants}
use Rattle.tg_fold.specs.Copies.{copy, takes_copy, instead, renamed, renamed_stms, renamed_tx, renamed_txs, renamed_cond}
use Rattle.tg_fold.specs.mirror.Folding.{given_word, word_of, constant_or, operated, Tested, Known, Open, compared_by, compared, negated}
use Rattle.tg_fold.specs.mirror.Folding.{both_of, either_of, chosen, passed, passed_on, folded_tx, folded_txs, tested, folded, each_folded}
use Rattle.tg_fold.proofs.Sides.{AreSides, two, others, sides}
use Rattle.tg_tree.proofs.NamesPassing.{TxPasses, TxsPass, CondPasses, TsPasses, StmsPass}

module _ (P : Named → Type 0) where
  -- the temporaries of a copy
  abbrev CopyPasses : Option (ℕ × ℕ) → Type 0
  CopyPasses None = Unit {0}
  CopyPasses (Some p) = P (temporary p.1)

  value_copies : (i : ℕ) (x : Tx) → TxPasses P x → CopyPasses (copy (Move i x))
  value_copies i (Const n) h = tt
  value_copies i (Address label) h = tt
  value_copies i (Temp j) h = h
  value_copies i FrameAddress h = tt
  value_copies i (Binary op x y) h = tt
  value_copies i (Load x) h = tt
  value_copies i (LoadByte x) h = tt
  value_copies i (Call label xs) h = tt
  value_copies i (Service n x) h = tt
  value_copies i (After s x) h = tt

  copy_passes : (s : Ts) → TsPasses P s → CopyPasses (copy s)
  copy_passes (Move i x) h = value_copies i x h.1
  copy_passes (Store x y) h = tt
  copy_passes (StoreByte x y) h = tt
  copy_passes (Do x) h = tt
  copy_passes (If c s t) h = tt
  copy_passes (Loop s) h = tt
  copy_passes (Break k) h = tt
  copy_passes (Fault n) h = tt
  copy_passes (Seq ss) h = tt
  copy_passes (Return x) h = tt

  module _ (a b : ℕ) (from : P (temporary b)) where
    instead_passes : (i : ℕ) → P (temporary i) → P (temporary (instead a b i))
    instead_passes i h = by (i == a)
      where
        by : (q : Bool) → P (temporary (if q then b else i))
        by true = from
        by false = h

    mutual
      renamed_passes : (s : Ts) → TsPasses P s → TsPasses P (renamed a b s)
      renamed_passes (Move i x) h = (h.0, renamed_tx_passes x h.1)
      renamed_passes (Store x y) h = (renamed_tx_passes x h.0, renamed_tx_passes y h.1)
      renamed_passes (StoreByte x y) h = (renamed_tx_passes x h.0, renamed_tx_passes y h.1)
      renamed_passes (Do x) h = renamed_tx_passes x h
      renamed_passes (If c s t) h = (renamed_cond_passes c h.0, renamed_passes s h.1, renamed_passes t h.2)
      renamed_passes (Loop s) h = renamed_passes s h
      renamed_passes (Break k) h = tt
      renamed_passes (Fault n) h = h
      renamed_passes (Seq ss) h = renamed_stms_pass ss h
      renamed_passes (Return x) h = renamed_tx_passes x h

      renamed_stms_pass : (ss : Stms) → StmsPass P ss → StmsPass P (renamed_stms a b ss)
      renamed_stms_pass no_stms h = tt
      renamed_stms_pass (stm s ss) h = (renamed_passes s h.0, renamed_stms_pass ss h.1)

      renamed_tx_passes : (x : Tx) → TxPasses P x → TxPasses P (renamed_tx a b x)
      renamed_tx_passes (Const n) h = h
      renamed_tx_passes (Address label) h = h
      renamed_tx_passes (Temp i) h = instead_passes i h
      renamed_tx_passes FrameAddress h = tt
      renamed_tx_passes (Binary op x y) h = (renamed_tx_passes x h.0, renamed_tx_passes y h.1)
      renamed_tx_passes (Load x) h = renamed_tx_passes x h
      renamed_tx_passes (LoadByte x) h = renamed_tx_passes x h
      renamed_tx_passes (Call label xs) h = (h.0, renamed_txs_pass xs h.1)
      renamed_tx_passes (Service n x) h = (h.0, renamed_tx_passes x h.1)
      renamed_tx_passes (After s x) h = (renamed_passes s h.0, renamed_tx_passes x h.1)

      renamed_txs_pass : (xs : Txs) → TxsPass P xs → TxsPass P (renamed_txs a b xs)
      renamed_txs_pass no_txs h = tt
      renamed_txs_pass (tx x xs) h = (renamed_tx_passes x h.0, renamed_txs_pass xs h.1)

      renamed_cond_passes : (c : Cond) → CondPasses P c → CondPasses P (renamed_cond a b c)
      renamed_cond_passes (Compare rel x y) h = (renamed_tx_passes x h.0, renamed_tx_passes y h.1)
      renamed_cond_passes (Not c) h = renamed_cond_passes c h
      renamed_cond_passes (Both c d) h = (renamed_cond_passes c h.0, renamed_cond_passes d h.1)
      renamed_cond_passes (Either c d) h = (renamed_cond_passes c h.0, renamed_cond_passes d h.1)

  passed_passes : (before : Option (ℕ × ℕ)) (s : Ts) → CopyPasses before → TsPasses P s → TsPasses P (passed before s)
  passed_passes None s k h = h
  passed_passes (Some p) s k h = by (takes_copy p.0 p.1 s)
    where
      by : (q : Bool) → TsPasses P (if q then renamed p.0 p.1 s else s)
      by true = renamed_passes p.0 p.1 k s h
      by false = h

  passed_on_passes : (before : Option (ℕ × ℕ)) (ss : Stms) → CopyPasses before → StmsPass P ss → StmsPass P (passed_on before ss)
  passed_on_passes before no_stms k h = tt
  passed_on_passes before (stm s ss) k h =
      let l = passed_passes before s k h.0 in
      (l, passed_on_passes (copy (passed before s)) ss (copy_passes (passed before s) l) h.1)

  -- what operators make has the property too, and so has 0
  module _ (made : (op : Bin) (a b n : ℕ) → P (constant a) → P (constant b) → operate op a b ≡ word n → P (constant n)) (zero : P (constant 0)) where
    abbrev TestPasses : Tested → Type 0
    TestPasses (Known b) = Unit {0}
    TestPasses (Open c) = CondPasses P c

    operated_passes : (op : Bin) (x y : Tx) → TxPasses P x → TxPasses P y → TxPasses P (operated op x y)
    operated_passes op x y h k = by x y (sides x y) h k
      where
        by : (x y : Tx) → AreSides x y → TxPasses P x → TxPasses P y → TxPasses P (operated op x y)
        by _ _ (others x y e) h k = subst (λ o. TxPasses P (constant_or (word_of op o) (Binary op x y))) (sym e) (h, k)
        by _ _ (two a b) h k = on (operate op a b) refl
          where
            on : (g : Given) → operate op a b ≡ g → TxPasses P (constant_or (given_word g) (Binary op (Const a) (Const b)))
            on (word n) e = made op a b n h k e
            on (stops_by s) e = (h, k)

    compared_passes : (rel : Rel) (x y : Tx) → TxPasses P x → TxPasses P y → TestPasses (compared rel x y)
    compared_passes rel x y h k = by (constants x y)
      where
        by : (o : Option (ℕ × ℕ)) → TestPasses (compared_by rel o (Compare rel x y))
        by None = (h, k)
        by (Some p) = tt

    negated_passes : (t : Tested) → TestPasses t → TestPasses (negated t)
    negated_passes (Known b) h = tt
    negated_passes (Open c) h = h

    both_passes : (t u : Tested) → TestPasses t → TestPasses u → TestPasses (both_of t u)
    both_passes (Known true) u h k = k
    both_passes (Known false) u h k = tt
    both_passes (Open c) (Known true) h k = h
    both_passes (Open c) (Known false) h k = (h, (zero, zero))
    both_passes (Open c) (Open d) h k = (h, k)

    either_passes : (t u : Tested) → TestPasses t → TestPasses u → TestPasses (either_of t u)
    either_passes (Known true) u h k = tt
    either_passes (Known false) u h k = k
    either_passes (Open c) (Known true) h k = (h, (zero, zero))
    either_passes (Open c) (Known false) h k = h
    either_passes (Open c) (Open d) h k = (h, k)

    chosen_passes : (t : Tested) (r s : Ts) → TestPasses t → TsPasses P r → TsPasses P s → TsPasses P (chosen t r s)
    chosen_passes (Known true) r s h k l = k
    chosen_passes (Known false) r s h k l = l
    chosen_passes (Open c) r s h k l = (h, k, l)

    mutual
      folded_tx_passes : (x : Tx) → TxPasses P x → TxPasses P (folded_tx x)
      folded_tx_passes (Const n) h = h
      folded_tx_passes (Address label) h = h
      folded_tx_passes (Temp i) h = h
      folded_tx_passes FrameAddress h = tt
      folded_tx_passes (Binary op x y) h = operated_passes op (folded_tx x) (folded_tx y) (folded_tx_passes x h.0) (folded_tx_passes y h.1)
      folded_tx_passes (Load x) h = folded_tx_passes x h
      folded_tx_passes (LoadByte x) h = folded_tx_passes x h
      folded_tx_passes (Call label xs) h = (h.0, folded_txs_pass xs h.1)
      folded_tx_passes (Service n x) h = (h.0, folded_tx_passes x h.1)
      folded_tx_passes (After s x) h = (folded_passes s h.0, folded_tx_passes x h.1)

      folded_txs_pass : (xs : Txs) → TxsPass P xs → TxsPass P (folded_txs xs)
      folded_txs_pass no_txs h = tt
      folded_txs_pass (tx x xs) h = (folded_tx_passes x h.0, folded_txs_pass xs h.1)

      tested_passes : (c : Cond) → CondPasses P c → TestPasses (tested c)
      tested_passes (Compare rel x y) h = compared_passes rel (folded_tx x) (folded_tx y) (folded_tx_passes x h.0) (folded_tx_passes y h.1)
      tested_passes (Not c) h = negated_passes (tested c) (tested_passes c h)
      tested_passes (Both c d) h = both_passes (tested c) (tested d) (tested_passes c h.0) (tested_passes d h.1)
      tested_passes (Either c d) h = either_passes (tested c) (tested d) (tested_passes c h.0) (tested_passes d h.1)

      pub folded_passes : (s : Ts) → TsPasses P s → TsPasses P (folded s)
      folded_passes (Move i x) h = (h.0, folded_tx_passes x h.1)
      folded_passes (Store x y) h = (folded_tx_passes x h.0, folded_tx_passes y h.1)
      folded_passes (StoreByte x y) h = (folded_tx_passes x h.0, folded_tx_passes y h.1)
      folded_passes (Do x) h = folded_tx_passes x h
      folded_passes (If c s t) h = chosen_passes (tested c) (folded s) (folded t) (tested_passes c h.0) (folded_passes s h.1) (folded_passes t h.2)
      folded_passes (Loop s) h = folded_passes s h
      folded_passes (Break k) h = tt
      folded_passes (Fault n) h = h
      folded_passes (Seq ss) h = passed_on_passes None (each_folded ss) tt (each_passes ss h)
      folded_passes (Return x) h = folded_tx_passes x h

      each_passes : (ss : Stms) → StmsPass P ss → StmsPass P (each_folded ss)
      each_passes no_stms h = tt
      each_passes (stm s ss) h = (folded_passes s h.0, each_passes ss h.1)
