-- How far a tree goes for what it reads and writes: its accesses of memory, one within another. A
-- frame further out is found by a load of each static link on the way.
use Rattle.std.specs.Prelude.{ℕ, zero, suc}
use Rattle.tg_tree.specs.Tree.{Tx, Const, Address, Temp, FrameAddress, Binary, Load, LoadByte, Call}
use Rattle.tg_tree.specs.Tree.{Service, After, Txs, no_txs, tx, Cond, Compare, Not, Both, Either}
use Rattle.tg_tree.specs.Tree.{Ts, Move, Store, StoreByte, Do, If, Loop, Break, Fault, Seq, Return}
use Rattle.tg_tree.specs.Tree.{Stms, no_stms, stm}

-- an access, whose address has one less
abbrev pub Accessed : (most : ℕ) → (address : ℕ → Type 0) → Type 0
Accessed zero address = ⊥
Accessed (suc n) address = address n

-- at most so many accesses stand one within another
abbrev mutual
  pub AccessesWithin : (most : ℕ) → Ts → Type 0
  AccessesWithin n (Move _ x) = AccessesWithinTx n x
  AccessesWithin n (Store x y) = Accessed n (λ k. AccessesWithinTx k x) × AccessesWithinTx n y
  AccessesWithin n (StoreByte x y) = Accessed n (λ k. AccessesWithinTx k x) × AccessesWithinTx n y
  AccessesWithin n (Do x) = AccessesWithinTx n x
  AccessesWithin n (If c s t) =
      AccessesWithinCond n c × AccessesWithin n s × AccessesWithin n t
  AccessesWithin n (Loop s) = AccessesWithin n s
  AccessesWithin n (Break _) = Unit {0}
  AccessesWithin n (Fault _) = Unit {0}
  AccessesWithin n (Seq ss) = AccessesWithinStms n ss
  AccessesWithin n (Return x) = AccessesWithinTx n x

  pub AccessesWithinStms : (most : ℕ) → Stms → Type 0
  AccessesWithinStms n no_stms = Unit {0}
  AccessesWithinStms n (stm s ss) = AccessesWithin n s × AccessesWithinStms n ss

  pub AccessesWithinTx : (most : ℕ) → Tx → Type 0
  AccessesWithinTx n (Const _) = Unit {0}
  AccessesWithinTx n (Address _) = Unit {0}
  AccessesWithinTx n (Temp _) = Unit {0}
  AccessesWithinTx n FrameAddress = Unit {0}
  AccessesWithinTx n (Binary _ x y) = AccessesWithinTx n x × AccessesWithinTx n y
  AccessesWithinTx n (Load x) = Accessed n (λ k. AccessesWithinTx k x)
  AccessesWithinTx n (LoadByte x) = Accessed n (λ k. AccessesWithinTx k x)
  AccessesWithinTx n (Call _ xs) = AccessesWithinTxs n xs
  AccessesWithinTx n (Service _ x) = AccessesWithinTx n x
  AccessesWithinTx n (After s x) = AccessesWithin n s × AccessesWithinTx n x

  pub AccessesWithinTxs : (most : ℕ) → Txs → Type 0
  AccessesWithinTxs n no_txs = Unit {0}
  AccessesWithinTxs n (tx x xs) = AccessesWithinTx n x × AccessesWithinTxs n xs

  pub AccessesWithinCond : (most : ℕ) → Cond → Type 0
  AccessesWithinCond n (Compare _ x y) = AccessesWithinTx n x × AccessesWithinTx n y
  AccessesWithinCond n (Not c) = AccessesWithinCond n c
  AccessesWithinCond n (Both c d) = AccessesWithinCond n c × AccessesWithinCond n d
  AccessesWithinCond n (Either c d) = AccessesWithinCond n c × AccessesWithinCond n d
