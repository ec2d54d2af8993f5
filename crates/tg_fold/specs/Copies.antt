-- Copies between temporaries, and the temporaries that a part assigns and reads, through calls,
-- conditions and nested statements.
use Rattle.std.specs.Prelude.{ℕ, ◌==◌, ◌||◌, ◌&&◌, not, Bool, false, Option, Some, None}
use Rattle.std.specs.Prelude.{if◌then◌else◌}
use Rattle.tg_tree.specs.Tree.{Tx, Const, Address, Temp, FrameAddress, Binary, Load, LoadByte, Call}
use Rattle.tg_tree.specs.Tree.{Service, After, Txs, no_txs, tx, Cond, Compare, Not, Both, Either}
use Rattle.tg_tree.specs.Tree.{Ts, Move, Store, StoreByte, Do, If, Loop, Break, Fault, Seq, Return}
use Rattle.tg_tree.specs.Tree.{Stms, no_stms, stm}

-- whether a temporary is assigned anywhere in a part
abbrev mutual
  pub assigns : (temp : ℕ) → Ts → Bool
  assigns i (Move j x) = (i == j) || assigns_tx i x
  assigns i (Store x y) = assigns_tx i x || assigns_tx i y
  assigns i (StoreByte x y) = assigns_tx i x || assigns_tx i y
  assigns i (Do x) = assigns_tx i x
  assigns i (If c s t) = assigns_cond i c || (assigns i s || assigns i t)
  assigns i (Loop s) = assigns i s
  assigns i (Break _) = false
  assigns i (Fault _) = false
  assigns i (Seq ss) = assigns_stms i ss
  assigns i (Return x) = assigns_tx i x

  pub assigns_stms : (temp : ℕ) → Stms → Bool
  assigns_stms i no_stms = false
  assigns_stms i (stm s ss) = assigns i s || assigns_stms i ss

  pub assigns_tx : (temp : ℕ) → Tx → Bool
  assigns_tx i (Const _) = false
  assigns_tx i (Address _) = false
  assigns_tx i (Temp _) = false
  assigns_tx i FrameAddress = false
  assigns_tx i (Binary _ x y) = assigns_tx i x || assigns_tx i y
  assigns_tx i (Load x) = assigns_tx i x
  assigns_tx i (LoadByte x) = assigns_tx i x
  assigns_tx i (Call _ xs) = assigns_txs i xs
  assigns_tx i (Service _ x) = assigns_tx i x
  assigns_tx i (After s x) = assigns i s || assigns_tx i x

  pub assigns_txs : (temp : ℕ) → Txs → Bool
  assigns_txs i no_txs = false
  assigns_txs i (tx x xs) = assigns_tx i x || assigns_txs i xs

  pub assigns_cond : (temp : ℕ) → Cond → Bool
  assigns_cond i (Compare _ x y) = assigns_tx i x || assigns_tx i y
  assigns_cond i (Not c) = assigns_cond i c
  assigns_cond i (Both c d) = assigns_cond i c || assigns_cond i d
  assigns_cond i (Either c d) = assigns_cond i c || assigns_cond i d

-- whether it is read anywhere in one
abbrev mutual
  pub reads : (temp : ℕ) → Ts → Bool
  reads i (Move _ x) = reads_tx i x
  reads i (Store x y) = reads_tx i x || reads_tx i y
  reads i (StoreByte x y) = reads_tx i x || reads_tx i y
  reads i (Do x) = reads_tx i x
  reads i (If c s t) = reads_cond i c || (reads i s || reads i t)
  reads i (Loop s) = reads i s
  reads i (Break _) = false
  reads i (Fault _) = false
  reads i (Seq ss) = reads_stms i ss
  reads i (Return x) = reads_tx i x

  pub reads_stms : (temp : ℕ) → Stms → Bool
  reads_stms i no_stms = false
  reads_stms i (stm s ss) = reads i s || reads_stms i ss

  pub reads_tx : (temp : ℕ) → Tx → Bool
  reads_tx i (Const _) = false
  reads_tx i (Address _) = false
  reads_tx i (Temp j) = i == j
  reads_tx i FrameAddress = false
  reads_tx i (Binary _ x y) = reads_tx i x || reads_tx i y
  reads_tx i (Load x) = reads_tx i x
  reads_tx i (LoadByte x) = reads_tx i x
  reads_tx i (Call _ xs) = reads_txs i xs
  reads_tx i (Service _ x) = reads_tx i x
  reads_tx i (After s x) = reads i s || reads_tx i x

  pub reads_txs : (temp : ℕ) → Txs → Bool
  reads_txs i no_txs = false
  reads_txs i (tx x xs) = reads_tx i x || reads_txs i xs

  pub reads_cond : (temp : ℕ) → Cond → Bool
  reads_cond i (Compare _ x y) = reads_tx i x || reads_tx i y
  reads_cond i (Not c) = reads_cond i c
  reads_cond i (Both c d) = reads_cond i c || reads_cond i d
  reads_cond i (Either c d) = reads_cond i c || reads_cond i d

-- what a statement copies: the temporary that it assigns, and the one that it reads
abbrev pub copy : Ts → Option (ℕ × ℕ)
copy (Move a (Temp b)) = Some (a, b)
copy _ = None

-- whether a statement takes a copy of b to a: it assigns neither anywhere, and reads a
abbrev pub takes_copy : (a b : ℕ) → Ts → Bool
takes_copy a b s = not (a == b) && (not (assigns a s) && (not (assigns b s) && reads a s))

-- b is read wherever a was
abbrev pub instead : (a b : ℕ) → ℕ → ℕ
instead a b i = if i == a then b else i

abbrev mutual
  pub renamed : (a b : ℕ) → Ts → Ts
  renamed a b (Move i x) = Move i (renamed_tx a b x)
  renamed a b (Store x y) = Store (renamed_tx a b x) (renamed_tx a b y)
  renamed a b (StoreByte x y) = StoreByte (renamed_tx a b x) (renamed_tx a b y)
  renamed a b (Do x) = Do (renamed_tx a b x)
  renamed a b (If c s t) = If (renamed_cond a b c) (renamed a b s) (renamed a b t)
  renamed a b (Loop s) = Loop (renamed a b s)
  renamed a b (Break k) = Break k
  renamed a b (Fault n) = Fault n
  renamed a b (Seq ss) = Seq (renamed_stms a b ss)
  renamed a b (Return x) = Return (renamed_tx a b x)

  pub renamed_stms : (a b : ℕ) → Stms → Stms
  renamed_stms a b no_stms = no_stms
  renamed_stms a b (stm s ss) = stm (renamed a b s) (renamed_stms a b ss)

  pub renamed_tx : (a b : ℕ) → Tx → Tx
  renamed_tx a b (Const n) = Const n
  renamed_tx a b (Address label) = Address label
  renamed_tx a b (Temp i) = Temp (instead a b i)
  renamed_tx a b FrameAddress = FrameAddress
  renamed_tx a b (Binary op x y) = Binary op (renamed_tx a b x) (renamed_tx a b y)
  renamed_tx a b (Load x) = Load (renamed_tx a b x)
  renamed_tx a b (LoadByte x) = LoadByte (renamed_tx a b x)
  renamed_tx a b (Call label xs) = Call label (renamed_txs a b xs)
  renamed_tx a b (Service n x) = Service n (renamed_tx a b x)
  renamed_tx a b (After s x) = After (renamed a b s) (renamed_tx a b x)

  pub renamed_txs : (a b : ℕ) → Txs → Txs
  renamed_txs a b no_txs = no_txs
  renamed_txs a b (tx x xs) = tx (renamed_tx a b x) (renamed_txs a b xs)

  pub renamed_cond : (a b : ℕ) → Cond → Cond
  renamed_cond a b (Compare rel x y) = Compare rel (renamed_tx a b x) (renamed_tx a b y)
  renamed_cond a b (Not c) = Not (renamed_cond a b c)
  renamed_cond a b (Both c d) = Both (renamed_cond a b c) (renamed_cond a b d)
  renamed_cond a b (Either c d) = Either (renamed_cond a b c) (renamed_cond a b d)
