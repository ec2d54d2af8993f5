-- The plain tree: what the code's tree says, without its boxes and vectors.
use Rattle.std.specs.Prelude.{ℕ, List, Option}
use Rattle.tg_base.specs.declared.ids.Span.{Span}
use Rattle.tg_syntax.specs.declared.tokens.Ident.{Ident}
use Rattle.tg_syntax.specs.declared.trees.Param.{Param}
use Rattle.tg_syntax.specs.declared.trees.Op.{Op}

pub data Form : Type 0 where
  Alias : Ident → Form
  Fields : List Param → Form
  Array : Ident → Form

pub record TypeDec : Type 0 where
  pub name : Ident
  pub form : Form

mutual
  -- an expression, which begins with its span
  pub data Exp : Type 0 where
    Nil : Span → Exp
    Break : Span → Exp
    Int : Span → ℕ → Exp
    Text : Span → List ℕ → Exp
    Read : Span → LValue → Exp
    Call : Span → Ident → Exps → Exp
    Neg : Span → Exp → Exp
    Binary : Span → Op → (at : ℕ) → (left right : Exp) → Exp
    Make : Span → Ident → Inits → Exp
    Fill : Span → Ident → (size value : Exp) → Exp
    Assign : Span → LValue → Exp → Exp
    If : Span → (test this other : Exp) → Exp
    When : Span → (test this : Exp) → Exp
    While : Span → (test body : Exp) → Exp
    For : Span → Ident → (low high body : Exp) → Exp
    Let : Span → Decs → Exps → Exp
    Seq : Span → Exps → Exp

  -- an l-value
  pub data LValue : Type 0 where
    Simple : Ident → LValue
    Field : LValue → Ident → LValue
    Index : LValue → Exp → LValue

  pub data Exps : Type 0 where
    no_exps : Exps
    exp : Exp → Exps → Exps

  pub data Inits : Type 0 where
    no_inits : Inits
    init : Ident → Exp → Inits → Inits

  pub data Decs : Type 0 where
    no_decs : Decs
    types : List TypeDec → Decs → Decs
    variable : Ident → Option Ident → Exp → Decs → Decs
    functions : FunDecs → Decs → Decs

  pub data FunDecs : Type 0 where
    no_functions : FunDecs
    function : Ident → List Param → Option Ident → Exp → FunDecs → FunDecs
