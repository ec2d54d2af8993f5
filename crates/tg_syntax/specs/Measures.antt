-- The nodes of a body.
use Rattle.std.specs.Prelude.{ℕ, ◌+◌, min, length, sum_by}
use Rattle.tg_syntax.specs.Tree.{Form, Alias, Fields, Array, TypeDec, Exp, Nil, Break, Int, Text}
use Rattle.tg_syntax.specs.Tree.{Read, Call, Neg, Binary, Make, Fill, Assign, If, When, While, For}
use Rattle.tg_syntax.specs.Tree.{Let, Seq, LValue, Simple, Field, Index, Exps, no_exps, exp, Inits}
use Rattle.tg_syntax.specs.Tree.{no_inits, init, Decs, no_decs, types, variable, functions, FunDecs}
use Rattle.tg_syntax.specs.Tree.{no_functions, function}

abbrev pub form_size : Form → ℕ
form_size (Alias _) = 1
form_size (Fields fields) = 1 + length fields
form_size (Array _) = 1

abbrev pub type_size : TypeDec → ℕ
type_size d = 1 + form_size d.form

-- one for each declaration and parameter, and nothing for the bodies
abbrev pub functions_size : FunDecs → ℕ
functions_size no_functions = 0
functions_size (function _ params _ _ rest) = 1 + length params + functions_size rest

abbrev mutual
  pub size : Exp → ℕ
  size (Nil _) = 1
  size (Break _) = 1
  size (Int _ _) = 1
  size (Text _ _) = 1
  size (Read _ v) = 1 + place_size v
  size (Call _ _ args) = 1 + exps_size args
  size (Neg _ a) = 1 + size a
  size (Binary _ _ _ a b) = 1 + size a + size b
  size (Make _ _ inits) = 1 + inits_size inits
  size (Fill _ _ a b) = 1 + size a + size b
  size (Assign _ v a) = 1 + place_size v + size a
  size (If _ c a b) = 1 + size c + size a + size b
  size (When _ c a) = 1 + size c + size a
  size (While _ c a) = 1 + size c + size a
  size (For _ _ l h a) = 1 + size l + size h + size a
  size (Let _ ds es) = 1 + decs_size ds + exps_size es
  size (Seq _ es) = 1 + exps_size es

  pub place_size : LValue → ℕ
  place_size (Simple _) = 1
  place_size (Field v _) = 1 + place_size v
  place_size (Index v e) = 1 + place_size v + size e

  pub exps_size : Exps → ℕ
  exps_size no_exps = 0
  exps_size (exp e rest) = size e + exps_size rest

  pub inits_size : Inits → ℕ
  inits_size no_inits = 0
  inits_size (init _ e rest) = 1 + size e + inits_size rest

  pub decs_size : Decs → ℕ
  decs_size no_decs = 0
  decs_size (types ts rest) = sum_by type_size ts + decs_size rest
  decs_size (variable _ _ e rest) = 1 + size e + decs_size rest
  decs_size (functions fs rest) = functions_size fs + decs_size rest

-- a number, or the greatest of 32 bits where it is as large or larger
abbrev pub saturated : ℕ → ℕ
saturated n = min n 4294967295
