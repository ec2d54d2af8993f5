-- The shapes of trees that passes ask for and give.
use Rattle.std.specs.Prelude.{ℕ, ◌+◌, ◌<◌, ◌≢◌, ◌&&◌, List, [], ◌∷◌, Bool, true, false}
use Rattle.std.specs.List.{Contains, AllPairs}
use Rattle.tg_tree.specs.Tree.{Tx, Const, Address, Temp, FrameAddress, Binary, Load, LoadByte, Call}
use Rattle.tg_tree.specs.Tree.{Service, After, Txs, no_txs, tx, Cond, Compare, Not, Both, Either}
use Rattle.tg_tree.specs.Tree.{Ts, Move, Store, StoreByte, Do, If, Loop, Break, Fault, Seq, Return}
use Rattle.tg_tree.specs.Tree.{Stms, no_stms, stm, Linear, Mark, Do', Jump, Branch, Fault', Return'}

-- each break stands inside more loops than it leaves, counted from so many around the tree
abbrev mutual
  pub BreaksWithin : (loops : ℕ) → Ts → Type 0
  BreaksWithin n (Move _ x) = BreaksWithinTx n x
  BreaksWithin n (Store x y) = BreaksWithinTx n x × BreaksWithinTx n y
  BreaksWithin n (StoreByte x y) = BreaksWithinTx n x × BreaksWithinTx n y
  BreaksWithin n (Do x) = BreaksWithinTx n x
  BreaksWithin n (If c s t) = BreaksWithinCond n c × BreaksWithin n s × BreaksWithin n t
  BreaksWithin n (Loop s) = BreaksWithin (n + 1) s
  BreaksWithin n (Break k) = k < n
  BreaksWithin n (Fault _) = Unit {0}
  BreaksWithin n (Seq ss) = BreaksWithinStms n ss
  BreaksWithin n (Return x) = BreaksWithinTx n x

  pub BreaksWithinStms : (loops : ℕ) → Stms → Type 0
  BreaksWithinStms n no_stms = Unit {0}
  BreaksWithinStms n (stm s ss) = BreaksWithin n s × BreaksWithinStms n ss

  pub BreaksWithinTx : (loops : ℕ) → Tx → Type 0
  BreaksWithinTx n (Const _) = Unit {0}
  BreaksWithinTx n (Address _) = Unit {0}
  BreaksWithinTx n (Temp _) = Unit {0}
  BreaksWithinTx n FrameAddress = Unit {0}
  BreaksWithinTx n (Binary _ x y) = BreaksWithinTx n x × BreaksWithinTx n y
  BreaksWithinTx n (Load x) = BreaksWithinTx n x
  BreaksWithinTx n (LoadByte x) = BreaksWithinTx n x
  BreaksWithinTx n (Call _ xs) = BreaksWithinTxs n xs
  BreaksWithinTx n (Service _ x) = BreaksWithinTx n x
  BreaksWithinTx n (After s x) = BreaksWithin n s × BreaksWithinTx n x

  pub BreaksWithinTxs : (loops : ℕ) → Txs → Type 0
  BreaksWithinTxs n no_txs = Unit {0}
  BreaksWithinTxs n (tx x xs) = BreaksWithinTx n x × BreaksWithinTxs n xs

  pub BreaksWithinCond : (loops : ℕ) → Cond → Type 0
  BreaksWithinCond n (Compare _ x y) = BreaksWithinTx n x × BreaksWithinTx n y
  BreaksWithinCond n (Not c) = BreaksWithinCond n c
  BreaksWithinCond n (Both c d) = BreaksWithinCond n c × BreaksWithinCond n d
  BreaksWithinCond n (Either c d) = BreaksWithinCond n c × BreaksWithinCond n d

-- the last statement is a return or a fault
abbrev mutual
  pub EndsFunction : Ts → Type 0
  EndsFunction (Fault _) = Unit {0}
  EndsFunction (Return _) = Unit {0}
  EndsFunction (Seq ss) = LastEndsFunction ss
  EndsFunction _ = ⊥

  pub LastEndsFunction : Stms → Type 0
  LastEndsFunction no_stms = ⊥
  LastEndsFunction (stm s no_stms) = EndsFunction s
  LastEndsFunction (stm s (stm t ss)) = LastEndsFunction (stm t ss)

-- a body that is closed, as a statement and as statements
pub record IsClosed (body : Ts) : Type 0 where
  pub breaks : BreaksWithin 0 body
  pub last : EndsFunction body

pub record AreClosed (body : Stms) : Type 0 where
  pub breaks : BreaksWithinStms 0 body
  pub last : LastEndsFunction body

-- an expression without call, service and statement
abbrev pub IsFlat : Tx → Type 0
IsFlat (Binary _ x y) = IsFlat x × IsFlat y
IsFlat (Load x) = IsFlat x
IsFlat (LoadByte x) = IsFlat x
IsFlat (Call _ _) = ⊥
IsFlat (Service _ _) = ⊥
IsFlat (After _ _) = ⊥
IsFlat _ = Unit {0}

abbrev pub AreFlat : Txs → Type 0
AreFlat no_txs = Unit {0}
AreFlat (tx x xs) = IsFlat x × AreFlat xs

-- the tests of both, and of the expressions of a condition
abbrev pub is_flat : Tx → Bool
is_flat (Binary _ x y) = is_flat x && is_flat y
is_flat (Load x) = is_flat x
is_flat (LoadByte x) = is_flat x
is_flat (Call _ _) = false
is_flat (Service _ _) = false
is_flat (After _ _) = false
is_flat _ = true

abbrev pub are_flat : Txs → Bool
are_flat no_txs = true
are_flat (tx x xs) = is_flat x && are_flat xs

abbrev pub is_flat_condition : Cond → Bool
is_flat_condition (Compare _ x y) = is_flat x && is_flat y
is_flat_condition (Not c) = is_flat_condition c
is_flat_condition (Both c d) = is_flat_condition c && is_flat_condition d
is_flat_condition (Either c d) = is_flat_condition c && is_flat_condition d

-- flat, or a call or a service of flat expressions
abbrev pub IsFlatOrEffect : Tx → Type 0
IsFlatOrEffect (Call _ xs) = AreFlat xs
IsFlatOrEffect (Service _ x) = IsFlat x
IsFlatOrEffect x = IsFlat x

-- a statement that is flat
abbrev pub IsFlatStatement : Ts → Type 0
IsFlatStatement (Move _ x) = IsFlatOrEffect x
IsFlatStatement (Store x y) = IsFlat x × IsFlat y
IsFlatStatement (StoreByte x y) = IsFlat x × IsFlat y
IsFlatStatement (Do x) = IsFlatOrEffect x
IsFlatStatement _ = ⊥

-- Canonical statements: each expression is flat but for a call or service that is a whole right
-- side.
abbrev pub IsFlatCond : Cond → Type 0
IsFlatCond (Compare _ x y) = IsFlat x × IsFlat y
IsFlatCond (Not c) = IsFlatCond c
IsFlatCond (Both c d) = IsFlatCond c × IsFlatCond d
IsFlatCond (Either c d) = IsFlatCond c × IsFlatCond d

abbrev mutual
  pub IsCanonical : Ts → Type 0
  IsCanonical (If c s t) = IsFlatCond c × IsCanonical s × IsCanonical t
  IsCanonical (Loop s) = IsCanonical s
  IsCanonical (Break _) = Unit {0}
  IsCanonical (Fault _) = Unit {0}
  IsCanonical (Seq ss) = AreCanonical ss
  IsCanonical (Return x) = IsFlat x
  IsCanonical (Move t x) = IsFlatStatement (Move t x)
  IsCanonical (Store x y) = IsFlatStatement (Store x y)
  IsCanonical (StoreByte x y) = IsFlatStatement (StoreByte x y)
  IsCanonical (Do x) = IsFlatStatement (Do x)

  pub AreCanonical : Stms → Type 0
  AreCanonical no_stms = Unit {0}
  AreCanonical (stm s ss) = IsCanonical s × AreCanonical ss

-- Flat code: its statements and expressions are flat.
abbrev pub IsFlatCode : List Linear → Type 0
IsFlatCode [] = Unit {0}
IsFlatCode (Mark _ ∷ rest) = IsFlatCode rest
IsFlatCode (Do' s ∷ rest) = IsFlatStatement s × IsFlatCode rest
IsFlatCode (Jump _ ∷ rest) = IsFlatCode rest
IsFlatCode (Branch _ x y _ ∷ rest) = IsFlat x × IsFlat y × IsFlatCode rest
IsFlatCode (Fault' _ ∷ rest) = IsFlatCode rest
IsFlatCode (Return' x ∷ rest) = IsFlat x × IsFlatCode rest

-- the marks that stand in it, and those that it goes to
abbrev pub marks : List Linear → List ℕ
marks [] = []
marks (Mark m ∷ rest) = m ∷ marks rest
marks (_ ∷ rest) = marks rest

abbrev pub targets : List Linear → List ℕ
targets [] = []
targets (Jump m ∷ rest) = m ∷ targets rest
targets (Branch _ _ _ m ∷ rest) = m ∷ targets rest
targets (_ ∷ rest) = targets rest

-- the last element doesn't go on to a next one
abbrev pub EndsCode : List Linear → Type 0
EndsCode [] = ⊥
EndsCode (Jump _ ∷ []) = Unit {0}
EndsCode (Fault' _ ∷ []) = Unit {0}
EndsCode (Return' _ ∷ []) = Unit {0}
EndsCode (_ ∷ []) = ⊥
EndsCode (_ ∷ e ∷ rest) = EndsCode (e ∷ rest)

-- flat code whose marks differ, and that goes to none but its own
pub record IsWellMarked (code : List Linear) : Type 0 where
  pub apart : AllPairs (λ a b. a ≢ b) (marks code)
  pub there : (m : ℕ) → Contains (targets code) m → Contains (marks code) m
  pub last : EndsCode code
