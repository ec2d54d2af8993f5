-- The plain tree: what the code's tree says, without its boxes and vectors.
use Rattle.std.specs.Prelude.{ℕ, List}
use Rattle.tg_frame.specs.declared.accesses.Access.{Access}
use Rattle.tg_tree.specs.declared.operators.Bin.{Bin}
use Rattle.tg_tree.specs.declared.operators.Rel.{Rel}

mutual
  -- an expression; labels, temporaries and services are numbers
  pub data Tx : Type 0 where
    Const : ℕ → Tx
    Address : (label : ℕ) → Tx
    Temp : ℕ → Tx
    FrameAddress : Tx
    Binary : Bin → (left right : Tx) → Tx
    Load : Tx → Tx
    LoadByte : Tx → Tx
    Call : (label : ℕ) → Txs → Tx
    Service : ℕ → Tx → Tx
    After : Ts → Tx → Tx

  pub data Txs : Type 0 where
    no_txs : Txs
    tx : Tx → Txs → Txs

  pub data Cond : Type 0 where
    Compare : Rel → (left right : Tx) → Cond
    Not : Cond → Cond
    Both : Cond → Cond → Cond
    Either : Cond → Cond → Cond

  -- a statement
  pub data Ts : Type 0 where
    Move : (temp : ℕ) → Tx → Ts
    Store : (address value : Tx) → Ts
    StoreByte : (address value : Tx) → Ts
    Do : Tx → Ts
    If : Cond → (this other : Ts) → Ts
    Loop : Ts → Ts
    Break : ℕ → Ts
    Fault : ℕ → Ts
    Seq : Stms → Ts
    Return : Tx → Ts

  pub data Stms : Type 0 where
    no_stms : Stms
    stm : Ts → Stms → Stms

-- an element of the flat form
pub data Linear : Type 0 where
  Mark : ℕ → Linear
  Do' : Ts → Linear
  Jump : ℕ → Linear
  Branch : Rel → (left right : Tx) → (mark : ℕ) → Linear
  Fault' : ℕ → Linear
  Return' : Tx → Linear

-- a function with a body of some form: its label, the homes of its parameters, its slots,
-- temporaries and words for arguments
pub record Function (Body : Type 0) : Type 0 where
  pub label : ℕ
  pub params : List Access
  pub slots : ℕ
  pub temps : ℕ
  pub out : ℕ
  pub body : Body

-- a literal's label and bytes
pub record Literal : Type 0 where
  pub label : ℕ
  pub text : List ℕ

pub record Code (Body : Type 0) : Type 0 where
  pub functions : List (Function Body)
  pub literals : List Literal
