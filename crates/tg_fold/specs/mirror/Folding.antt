-- Folding, a function on plain trees (Appel, chapter 17, on trees): an operator on constants gives
-- a constant, a condition that is known chooses, and copies go on to the next statement.
use Rattle.std.specs.Prelude.{ℕ, Bool, true, false, not, if◌then◌else◌, Option, Some, None}
use Rattle.tg_tree.specs.declared.operators.Bin.{Bin}
use Rattle.tg_tree.specs.declared.operators.Rel.{Rel}
use Rattle.tg_tree.specs.declared.operators.Rel.TheVariants.{Equal, NotEqual}
use Rattle.tg_tree.specs.Tree.{Tx, Const, Address, Temp, FrameAddress, Binary, Load, LoadByte, Call}
use Rattle.tg_tree.specs.Tree.{Service, After, Txs, no_txs, tx, Cond, Compare, Not, Both, Either}
use Rattle.tg_tree.specs.Tree.{Ts, Move, Store, StoreByte, Do, If, Loop, Break, Fault, Seq, Return}
use Rattle.tg_tree.specs.Tree.{Stms, no_stms, stm}
use Rattle.tg_tree.specs.Operators.{Given, word, stops_by, operate, holds}
use Rattle.tg_fold.specs.Sides.{constants}
use Rattle.tg_fold.specs.Copies.{copy, takes_copy, renamed}

-- Constants.

-- what an operator makes of two sides that are constants, where the run goes on
abbrev pub given_word : Given → Option ℕ
given_word (word n) = Some n
given_word (stops_by _) = None

abbrev pub word_of : Bin → Option (ℕ × ℕ) → Option ℕ
word_of op None = None
word_of op (Some p) = given_word (operate op p.0 p.1)

abbrev pub constant_or : Option ℕ → Tx → Tx
constant_or None x = x
constant_or (Some n) x = Const n

-- what stops the run stays
abbrev pub operated : Bin → Tx → Tx → Tx
operated op x y = constant_or (word_of op (constants x y)) (Binary op x y)

-- Conditions: one that is known, or what is left of it.
pub data Tested : Type 0 where
  Known : Bool → Tested
  Open : Cond → Tested

abbrev pub compared_by : Rel → Option (ℕ × ℕ) → Cond → Tested
compared_by rel None c = Open c
compared_by rel (Some p) c = Known (holds rel p.0 p.1)

abbrev pub compared : Rel → Tx → Tx → Tested
compared rel x y = compared_by rel (constants x y) (Compare rel x y)

abbrev pub negated : Tested → Tested
negated (Known b) = Known (not b)
negated (Open c) = Open (Not c)

-- a comparison that never holds, and one that always does
abbrev pub zeros : Rel → Cond
zeros rel = Compare rel (Const 0) (Const 0)

abbrev pub never : Cond
never = zeros NotEqual

abbrev pub always : Cond
always = zeros Equal

-- A left side that is known decides. A right side that is known doesn't, since the left one acts.
abbrev pub both_of : Tested → Tested → Tested
both_of (Known b) d = if b then d else Known false
both_of (Open c) (Known b) = Open (if b then c else Both c never)
both_of (Open c) (Open d) = Open (Both c d)

abbrev pub either_of : Tested → Tested → Tested
either_of (Known b) d = if b then Known true else d
either_of (Open c) (Known b) = Open (if b then Either c always else c)
either_of (Open c) (Open d) = Open (Either c d)

abbrev pub chosen : Tested → (this other : Ts) → Ts
chosen (Known b) s t = if b then s else t
chosen (Open c) s t = If c s t

-- Copies: a statement takes the one that stands before it, and so on through a sequence.
abbrev pub passed : (before : Option (ℕ × ℕ)) → Ts → Ts
passed None s = s
passed (Some p) s = if takes_copy p.0 p.1 s then renamed p.0 p.1 s else s

abbrev pub passed_on : (before : Option (ℕ × ℕ)) → Stms → Stms
passed_on before no_stms = no_stms
passed_on before (stm s ss) =
    stm (passed before s) (passed_on (copy (passed before s)) ss)

-- Folding.
abbrev mutual
  pub folded_tx : Tx → Tx
  folded_tx (Const n) = Const n
  folded_tx (Address label) = Address label
  folded_tx (Temp i) = Temp i
  folded_tx FrameAddress = FrameAddress
  folded_tx (Binary op x y) = operated op (folded_tx x) (folded_tx y)
  folded_tx (Load x) = Load (folded_tx x)
  folded_tx (LoadByte x) = LoadByte (folded_tx x)
  folded_tx (Call label xs) = Call label (folded_txs xs)
  folded_tx (Service n x) = Service n (folded_tx x)
  folded_tx (After s x) = After (folded s) (folded_tx x)

  pub folded_txs : Txs → Txs
  folded_txs no_txs = no_txs
  folded_txs (tx x xs) = tx (folded_tx x) (folded_txs xs)

  pub tested : Cond → Tested
  tested (Compare rel x y) = compared rel (folded_tx x) (folded_tx y)
  tested (Not c) = negated (tested c)
  tested (Both c d) = both_of (tested c) (tested d)
  tested (Either c d) = either_of (tested c) (tested d)

  pub folded : Ts → Ts
  folded (Move i x) = Move i (folded_tx x)
  folded (Store x y) = Store (folded_tx x) (folded_tx y)
  folded (StoreByte x y) = StoreByte (folded_tx x) (folded_tx y)
  folded (Do x) = Do (folded_tx x)
  folded (If c s t) = chosen (tested c) (folded s) (folded t)
  folded (Loop s) = Loop (folded s)
  folded (Break k) = Break k
  folded (Fault n) = Fault n
  folded (Seq ss) = Seq (passed_on None (each_folded ss))
  folded (Return x) = Return (folded_tx x)

  pub each_folded : Stms → Stms
  each_folded no_stms = no_stms
  each_folded (stm s ss) = stm (folded s) (each_folded ss)
