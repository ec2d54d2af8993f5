-- What is left to fold: nothing. Of constants, no operator has two unless it stops the run there,
-- and no comparison has two but a right side that is known; and no copy is left that the next
-- statement could read.
use Rattle.std.specs.Prelude.{◌≡◌, ◌⊎◌, ℕ, Bool, true, false, Option, Some, None}
use Rattle.tg_tree.specs.declared.operators.Bin.{Bin}
use Rattle.tg_tree.specs.declared.operators.Rel.{Rel}
use Rattle.tg_tree.specs.Tree.{Tx, Const, Address, Temp, FrameAddress, Binary, Load, LoadByte, Call}
use Rattle.tg_tree.specs.Tree.{Service, After, Txs, no_txs, tx, Cond, Compare, Not, Both, Either}
use Rattle.tg_tree.specs.Tree.{Ts, Move, Store, StoreByte, Do, If, Loop, Break, Fault, Seq, Return}
use Rattle.tg_tree.specs.Tree.{Stms, no_stms, stm}
use Rattle.tg_tree.specs.Operators.{Given, word, stops_by, operate, holds}
use Rattle.tg_fold.specs.Sides.{constants}
use Rattle.tg_fold.specs.Copies.{copy, takes_copy}

abbrev pub IsStop : Given → Type 0
IsStop (word _) = ⊥
IsStop (stops_by _) = Unit {0}

-- constants stand on both sides of an operator only where it stops the run
abbrev pub StopsOn : Bin → Option (ℕ × ℕ) → Type 0
StopsOn op None = Unit {0}
StopsOn op (Some p) = IsStop (operate op p.0 p.1)

-- a comparison of constants comes out so
abbrev pub IsKnownAs : Bool → Rel → Option (ℕ × ℕ) → Type 0
IsKnownAs b rel None = ⊥
IsKnownAs b rel (Some p) = holds rel p.0 p.1 ≡ b

abbrev pub ComesOut : Bool → Cond → Type 0
ComesOut b (Compare rel x y) = IsKnownAs b rel (constants x y)
ComesOut b (Not _) = ⊥
ComesOut b (Both _ _) = ⊥
ComesOut b (Either _ _) = ⊥

-- the statement doesn't take a copy that stands before it
abbrev pub LeavesCopy : Option (ℕ × ℕ) → Ts → Type 0
LeavesCopy None s = Unit {0}
LeavesCopy (Some p) s = takes_copy p.0 p.1 s ≡ false

abbrev mutual
  pub IsFolded : Ts → Type 0
  IsFolded (Move _ x) = IsFoldedTx x
  IsFolded (Store x y) = IsFoldedTx x × IsFoldedTx y
  IsFolded (StoreByte x y) = IsFoldedTx x × IsFoldedTx y
  IsFolded (Do x) = IsFoldedTx x
  IsFolded (If c s t) = IsFoldedCond c × IsFolded s × IsFolded t
  IsFolded (Loop s) = IsFolded s
  IsFolded (Break _) = Unit {0}
  IsFolded (Fault _) = Unit {0}
  IsFolded (Seq ss) = AreFolded None ss
  IsFolded (Return x) = IsFoldedTx x

  -- statements after one that copies so
  pub AreFolded : (before : Option (ℕ × ℕ)) → Stms → Type 0
  AreFolded before no_stms = Unit {0}
  AreFolded before (stm s ss) = LeavesCopy before s × IsFolded s × AreFolded (copy s) ss

  pub IsFoldedTx : Tx → Type 0
  IsFoldedTx (Const _) = Unit {0}
  IsFoldedTx (Address _) = Unit {0}
  IsFoldedTx (Temp _) = Unit {0}
  IsFoldedTx FrameAddress = Unit {0}
  IsFoldedTx (Binary op x y) = StopsOn op (constants x y) × IsFoldedTx x × IsFoldedTx y
  IsFoldedTx (Load x) = IsFoldedTx x
  IsFoldedTx (LoadByte x) = IsFoldedTx x
  IsFoldedTx (Call _ xs) = AreFoldedTxs xs
  IsFoldedTx (Service _ x) = IsFoldedTx x
  IsFoldedTx (After s x) = IsFolded s × IsFoldedTx x

  pub AreFoldedTxs : Txs → Type 0
  AreFoldedTxs no_txs = Unit {0}
  AreFoldedTxs (tx x xs) = IsFoldedTx x × AreFoldedTxs xs

  -- a right side that is known, after a left one that acts, is one comparison
  pub IsFoldedCond : Cond → Type 0
  IsFoldedCond (Compare _ x y) = (constants x y ≡ None) × IsFoldedTx x × IsFoldedTx y
  IsFoldedCond (Not c) = IsFoldedCond c
  IsFoldedCond (Both c d) = IsFoldedCond c × (IsFoldedCond d ⊎ ComesOut false d)
  IsFoldedCond (Either c d) = IsFoldedCond c × (IsFoldedCond d ⊎ ComesOut true d)
