-- What the code's trees, instructions and names of temporaries keep to: numbers are words, and no
-- name has a comma.
use Rattle.std.specs.Prelude.{ℕ, ◌<◌, ◌^◌, ◌≢◌, List, [], ◌∷◌}
use Rattle.std.specs.List.{All}
use Rattle.tg_tree.specs.Tree.{Tx, Const, Address, Temp, FrameAddress, Binary, Load, LoadByte, Call}
use Rattle.tg_tree.specs.Tree.{Service, After, Txs, no_txs, tx, Cond, Compare, Not, Both, Either}
use Rattle.tg_tree.specs.Tree.{Ts, Move, Store, StoreByte, Do, If, Loop, Break, Fault, Seq, Return}
use Rattle.tg_tree.specs.Tree.{Stms, no_stms, stm, Linear, Mark, Do', Jump, Branch, Fault', Return'}

abbrev pub IsWord : ℕ → Type 0
IsWord n = n < 2 ^ 32

-- 44 is a comma
abbrev pub HaveNoCommas : (names : List (List ℕ)) → Type 0
HaveNoCommas names = All (All (λ byte. byte ≢ 44)) names

-- each number of a tree is a word
abbrev mutual
  pub NumbersFit : Ts → Type 0
  NumbersFit (Move t x) = IsWord t × NumbersFitTx x
  NumbersFit (Store x y) = NumbersFitTx x × NumbersFitTx y
  NumbersFit (StoreByte x y) = NumbersFitTx x × NumbersFitTx y
  NumbersFit (Do x) = NumbersFitTx x
  NumbersFit (If c s t) = NumbersFitCond c × NumbersFit s × NumbersFit t
  NumbersFit (Loop s) = NumbersFit s
  NumbersFit (Break n) = IsWord n
  NumbersFit (Fault n) = IsWord n
  NumbersFit (Seq ss) = NumbersFitStms ss
  NumbersFit (Return x) = NumbersFitTx x

  pub NumbersFitStms : Stms → Type 0
  NumbersFitStms no_stms = Unit {0}
  NumbersFitStms (stm s ss) = NumbersFit s × NumbersFitStms ss

  pub NumbersFitTx : Tx → Type 0
  NumbersFitTx (Const n) = IsWord n
  NumbersFitTx (Address label) = IsWord label
  NumbersFitTx (Temp t) = IsWord t
  NumbersFitTx FrameAddress = Unit {0}
  NumbersFitTx (Binary op x y) = NumbersFitTx x × NumbersFitTx y
  NumbersFitTx (Load x) = NumbersFitTx x
  NumbersFitTx (LoadByte x) = NumbersFitTx x
  NumbersFitTx (Call label xs) = IsWord label × NumbersFitTxs xs
  NumbersFitTx (Service n x) = IsWord n × NumbersFitTx x
  NumbersFitTx (After s x) = NumbersFit s × NumbersFitTx x

  pub NumbersFitTxs : Txs → Type 0
  NumbersFitTxs no_txs = Unit {0}
  NumbersFitTxs (tx x xs) = NumbersFitTx x × NumbersFitTxs xs

  pub NumbersFitCond : Cond → Type 0
  NumbersFitCond (Compare rel x y) = NumbersFitTx x × NumbersFitTx y
  NumbersFitCond (Not c) = NumbersFitCond c
  NumbersFitCond (Both c d) = NumbersFitCond c × NumbersFitCond d
  NumbersFitCond (Either c d) = NumbersFitCond c × NumbersFitCond d

abbrev pub NumbersFitFlat : List Linear → Type 0
NumbersFitFlat [] = Unit {0}
NumbersFitFlat (Mark m ∷ rest) = IsWord m × NumbersFitFlat rest
NumbersFitFlat (Do' s ∷ rest) = NumbersFit s × NumbersFitFlat rest
NumbersFitFlat (Jump m ∷ rest) = IsWord m × NumbersFitFlat rest
NumbersFitFlat (Branch _ x y m ∷ rest) =
    NumbersFitTx x × NumbersFitTx y × IsWord m × NumbersFitFlat rest
NumbersFitFlat (Fault' n ∷ rest) = IsWord n × NumbersFitFlat rest
NumbersFitFlat (Return' x ∷ rest) = NumbersFitTx x × NumbersFitFlat rest
