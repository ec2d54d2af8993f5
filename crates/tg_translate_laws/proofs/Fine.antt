-- Trees that name only what is allowed, and whose breaks stand in loops enough: one walk over a tree for both.
use Rattle.std.proofs.Common.{◌<◌, ◌+◌, ℕ, List, [], ◌∷◌, ◌++◌, arith, subst}
use Rattle.std.specs.Prelude.{suc, zero}
use Rattle.std.specs.List.{Contains}
use Rattle.tg_tree.specs.Tree.{Tx, Const, Address, Temp, FrameAddress, Binary, Load, LoadByte, Call, Service, After, Txs, no_txs, tx, Cond, Compare}
use Rattle.tg_tree.specs.Tree.{Not, Both, Either, Ts, Move, Store, StoreByte, Do, If, Loop, Break, Fault, Seq, Return, Stms, no_stms, stm}
use Rattle.tg_tree.specs.glue.Lists.{join_txs, join_stms}
use Rattle.tg_tree.specs.Named.{Named, function, literal, fault, temporary, constant, named_tx, named_txs, named_cond, named_ts, named_stms}
use Rattle.tg_tree.specs.Shapes.{BreaksWithin, BreaksWithinStms, BreaksWithinTx, BreaksWithinTxs, BreaksWithinCond}

-- each of a list, part by part
abbrev pub Each : {X : Type 0} → (X → Type 0) → List X → Type 0
Each P [] = Unit {0}
Each P (x ∷ xs) = P x × Each P xs

pub each_append : {X : Type 0} (P : X → Type 0) (xs ys : List X) → Each P xs → Each P ys → Each P (xs ++ ys)
each_append P [] ys h k = k
each_append P (x ∷ xs) ys h k = (h.0, each_append P xs ys h.1 k)

-- breaks are looked at where that is asked; what is named is allowed
module _ (B : Type 0) (A : Named → Type 0) where
  abbrev mutual
    pub FineTs : (loops : ℕ) → Ts → Type 0
    FineTs n (Move i x) = A (temporary i) × FineTx n x
    FineTs n (Store x y) = FineTx n x × FineTx n y
    FineTs n (StoreByte x y) = FineTx n x × FineTx n y
    FineTs n (Do x) = FineTx n x
    FineTs n (If c s t) = FineCond n c × FineTs n s × FineTs n t
    FineTs n (Loop s) = FineTs (n + 1) s
    FineTs n (Break k) = B → k < n
    FineTs n (Fault k) = A (fault k)
    FineTs n (Seq ss) = FineStms n ss
    FineTs n (Return x) = FineTx n x

    pub FineStms : (loops : ℕ) → Stms → Type 0
    FineStms n no_stms = Unit {0}
    FineStms n (stm s ss) = FineTs n s × FineStms n ss

    pub FineTx : (loops : ℕ) → Tx → Type 0
    FineTx n (Const k) = A (constant k)
    FineTx n (Address label) = A (literal label)
    FineTx n (Temp i) = A (temporary i)
    FineTx n FrameAddress = Unit {0}
    FineTx n (Binary _ x y) = FineTx n x × FineTx n y
    FineTx n (Load x) = FineTx n x
    FineTx n (LoadByte x) = FineTx n x
    FineTx n (Call label xs) = A (function label) × FineTxs n xs
    FineTx n (Service k x) = A (constant k) × FineTx n x
    FineTx n (After s x) = FineTs n s × FineTx n x

    pub FineTxs : (loops : ℕ) → Txs → Type 0
    FineTxs n no_txs = Unit {0}
    FineTxs n (tx x xs) = FineTx n x × FineTxs n xs

    pub FineCond : (loops : ℕ) → Cond → Type 0
    FineCond n (Compare _ x y) = FineTx n x × FineTx n y
    FineCond n (Not c) = FineCond n c
    FineCond n (Both c d) = FineCond n c × FineCond n d
    FineCond n (Either c d) = FineCond n c × FineCond n d

  pub join_fine_txs : (n : ℕ) (xs ys : Txs) → FineTxs n xs → FineTxs n ys → FineTxs n (join_txs xs ys)
  join_fine_txs n no_txs ys h k = k
  join_fine_txs n (tx x xs) ys h k = (h.0, join_fine_txs n xs ys h.1 k)

  pub join_fine_stms : (n : ℕ) (ss ts : Stms) → FineStms n ss → FineStms n ts → FineStms n (join_stms ss ts)
  join_fine_stms n no_stms ts h k = k
  join_fine_stms n (stm s ss) ts h k = (h.0, join_fine_stms n ss ts h.1 k)

  -- where breaks are looked at, they stand in loops
  module _ (asked : B) where
    mutual
      pub breaks_ts : (n : ℕ) (s : Ts) → FineTs n s → BreaksWithin n s
      breaks_ts n (Move i x) h = breaks_tx n x h.1
      breaks_ts n (Store x y) h = (breaks_tx n x h.0, breaks_tx n y h.1)
      breaks_ts n (StoreByte x y) h = (breaks_tx n x h.0, breaks_tx n y h.1)
      breaks_ts n (Do x) h = breaks_tx n x h
      breaks_ts n (If c s t) h = (breaks_cond n c h.0, breaks_ts n s h.1, breaks_ts n t h.2)
      breaks_ts n (Loop s) h = breaks_ts (n + 1) s h
      breaks_ts n (Break k) h = h asked
      breaks_ts n (Fault k) h = tt
      breaks_ts n (Seq ss) h = breaks_stms n ss h
      breaks_ts n (Return x) h = breaks_tx n x h

      breaks_stms : (n : ℕ) (ss : Stms) → FineStms n ss → BreaksWithinStms n ss
      breaks_stms n no_stms h = tt
      breaks_stms n (stm s ss) h = (breaks_ts n s h.0, breaks_stms n ss h.1)

      breaks_tx : (n : ℕ) (x : Tx) → FineTx n x → BreaksWithinTx n x
      breaks_tx n (Const _) h = tt
      breaks_tx n (Address _) h = tt
      breaks_tx n (Temp _) h = tt
      breaks_tx n FrameAddress h = tt
      breaks_tx n (Binary _ x y) h = (breaks_tx n x h.0, breaks_tx n y h.1)
      breaks_tx n (Load x) h = breaks_tx n x h
      breaks_tx n (LoadByte x) h = breaks_tx n x h
      breaks_tx n (Call _ xs) h = breaks_txs n xs h.1
      breaks_tx n (Service _ x) h = breaks_tx n x h.1
      breaks_tx n (After s x) h = (breaks_ts n s h.0, breaks_tx n x h.1)

      breaks_txs : (n : ℕ) (xs : Txs) → FineTxs n xs → BreaksWithinTxs n xs
      breaks_txs n no_txs h = tt
      breaks_txs n (tx x xs) h = (breaks_tx n x h.0, breaks_txs n xs h.1)

      breaks_cond : (n : ℕ) (c : Cond) → FineCond n c → BreaksWithinCond n c
      breaks_cond n (Compare _ x y) h = (breaks_tx n x h.0, breaks_tx n y h.1)
      breaks_cond n (Not c) h = breaks_cond n c h
      breaks_cond n (Both c d) h = (breaks_cond n c h.0, breaks_cond n d h.1)
      breaks_cond n (Either c d) h = (breaks_cond n c h.0, breaks_cond n d h.1)

  -- what is named is allowed
  mutual
    pub names_ts : (n : ℕ) (s : Ts) (after : List Named) → FineTs n s → Each A after → Each A (named_ts s after)
    names_ts n (Move i x) after h k = (h.0, names_tx n x after h.1 k)
    names_ts n (Store x y) after h k = names_tx n x (named_tx y after) h.0 (names_tx n y after h.1 k)
    names_ts n (StoreByte x y) after h k = names_tx n x (named_tx y after) h.0 (names_tx n y after h.1 k)
    names_ts n (Do x) after h k = names_tx n x after h k
    names_ts n (If c s t) after h k =
        names_cond n c (named_ts s (named_ts t after)) h.0
        (names_ts n s (named_ts t after) h.1 (names_ts n t after h.2 k))
    names_ts n (Loop s) after h k = names_ts (n + 1) s after h k
    names_ts n (Break _) after h k = k
    names_ts n (Fault _) after h k = (h, k)
    names_ts n (Seq ss) after h k = names_stms n ss after h k
    names_ts n (Return x) after h k = names_tx n x after h k

    names_stms : (n : ℕ) (ss : Stms) (after : List Named) → FineStms n ss → Each A after → Each A (named_stms ss after)
    names_stms n no_stms after h k = k
    names_stms n (stm s ss) after h k = names_ts n s (named_stms ss after) h.0 (names_stms n ss after h.1 k)

    names_tx : (n : ℕ) (x : Tx) (after : List Named) → FineTx n x → Each A after → Each A (named_tx x after)
    names_tx n (Const _) after h k = (h, k)
    names_tx n (Address _) after h k = (h, k)
    names_tx n (Temp _) after h k = (h, k)
    names_tx n FrameAddress after h k = k
    names_tx n (Binary _ x y) after h k = names_tx n x (named_tx y after) h.0 (names_tx n y after h.1 k)
    names_tx n (Load x) after h k = names_tx n x after h k
    names_tx n (LoadByte x) after h k = names_tx n x after h k
    names_tx n (Call _ xs) after h k = (h.0, names_txs n xs after h.1 k)
    names_tx n (Service _ x) after h k = (h.0, names_tx n x after h.1 k)
    names_tx n (After s x) after h k = names_ts n s (named_tx x after) h.0 (names_tx n x after h.1 k)

    names_txs : (n : ℕ) (xs : Txs) (after : List Named) → FineTxs n xs → Each A after → Each A (named_txs xs after)
    names_txs n no_txs after h k = k
    names_txs n (tx x xs) after h k = names_tx n x (named_txs xs after) h.0 (names_txs n xs after h.1 k)

    names_cond : (n : ℕ) (c : Cond) (after : List Named) → FineCond n c → Each A after → Each A (named_cond c after)
    names_cond n (Compare _ x y) after h k = names_tx n x (named_tx y after) h.0 (names_tx n y after h.1 k)
    names_cond n (Not c) after h k = names_cond n c after h k
    names_cond n (Both c d) after h k = names_cond n c (named_cond d after) h.0 (names_cond n d after h.1 k)
    names_cond n (Either c d) after h k = names_cond n c (named_cond d after) h.0 (names_cond n d after h.1 k)

-- where more is allowed, no less is fine
module _ (B : Type 0) (A W : Named → Type 0) (more : (x : Named) → A x → W x) where
  mutual
    pub widen_ts : (n : ℕ) (s : Ts) → FineTs B A n s → FineTs B W n s
    widen_ts n (Move i x) h = (more (temporary i) h.0, widen_tx n x h.1)
    widen_ts n (Store x y) h = (widen_tx n x h.0, widen_tx n y h.1)
    widen_ts n (StoreByte x y) h = (widen_tx n x h.0, widen_tx n y h.1)
    widen_ts n (Do x) h = widen_tx n x h
    widen_ts n (If c s t) h = (widen_cond n c h.0, widen_ts n s h.1, widen_ts n t h.2)
    widen_ts n (Loop s) h = widen_ts (n + 1) s h
    widen_ts n (Break k) h = h
    widen_ts n (Fault k) h = more (fault k) h
    widen_ts n (Seq ss) h = widen_stms n ss h
    widen_ts n (Return x) h = widen_tx n x h

    pub widen_stms : (n : ℕ) (ss : Stms) → FineStms B A n ss → FineStms B W n ss
    widen_stms n no_stms h = tt
    widen_stms n (stm s ss) h = (widen_ts n s h.0, widen_stms n ss h.1)

    pub widen_tx : (n : ℕ) (x : Tx) → FineTx B A n x → FineTx B W n x
    widen_tx n (Const k) h = more (constant k) h
    widen_tx n (Address label) h = more (literal label) h
    widen_tx n (Temp i) h = more (temporary i) h
    widen_tx n FrameAddress h = tt
    widen_tx n (Binary _ x y) h = (widen_tx n x h.0, widen_tx n y h.1)
    widen_tx n (Load x) h = widen_tx n x h
    widen_tx n (LoadByte x) h = widen_tx n x h
    widen_tx n (Call label xs) h = (more (function label) h.0, widen_txs n xs h.1)
    widen_tx n (Service k x) h = (more (constant k) h.0, widen_tx n x h.1)
    widen_tx n (After s x) h = (widen_ts n s h.0, widen_tx n x h.1)

    pub widen_txs : (n : ℕ) (xs : Txs) → FineTxs B A n xs → FineTxs B W n xs
    widen_txs n no_txs h = tt
    widen_txs n (tx x xs) h = (widen_tx n x h.0, widen_txs n xs h.1)

    pub widen_cond : (n : ℕ) (c : Cond) → FineCond B A n c → FineCond B W n c
    widen_cond n (Compare _ x y) h = (widen_tx n x h.0, widen_tx n y h.1)
    widen_cond n (Not c) h = widen_cond n c h
    widen_cond n (Both c d) h = (widen_cond n c h.0, widen_cond n d h.1)
    widen_cond n (Either c d) h = (widen_cond n c h.0, widen_cond n d h.1)

-- each of a list is each that it contains
pub each_contained : {X : Type 0} (P : X → Type 0) (xs : List X) → Each P xs → (x : X) → Contains xs x → P x
each_contained P [] h x c = absurd (omega (arith, c.1))
each_contained P (y ∷ ys) h x (zero, l, e) = subst P e h.0
each_contained P (y ∷ ys) h x (suc k, l, e) = each_contained P ys h.1 x (k, omega arith, e)
