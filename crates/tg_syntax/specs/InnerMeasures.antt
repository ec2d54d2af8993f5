-- The nodes of the bodies of the functions that a text declares.
use Rattle.std.specs.Prelude.{ℕ, ◌+◌}
use Rattle.tg_syntax.specs.Tree.{Exp, Nil, Break, Int, Text, Read, Call, Neg, Binary, Make, Fill}
use Rattle.tg_syntax.specs.Tree.{Assign, If, When, While, For, Let, Seq, LValue, Simple, Field}
use Rattle.tg_syntax.specs.Tree.{Index, Exps, no_exps, exp, Inits, no_inits, init, Decs, no_decs}
use Rattle.tg_syntax.specs.Tree.{types, variable, functions, FunDecs, no_functions, function}
use Rattle.tg_syntax.specs.Measures.{size}

-- the nodes of the bodies of the functions that a text declares, at any depth
abbrev mutual
  pub inner : Exp → ℕ
  inner (Nil _) = 0
  inner (Break _) = 0
  inner (Int _ _) = 0
  inner (Text _ _) = 0
  inner (Read _ v) = inner_place v
  inner (Call _ _ args) = inner_exps args
  inner (Neg _ a) = inner a
  inner (Binary _ _ _ a b) = inner a + inner b
  inner (Make _ _ inits) = inner_inits inits
  inner (Fill _ _ a b) = inner a + inner b
  inner (Assign _ v a) = inner_place v + inner a
  inner (If _ c a b) = inner c + inner a + inner b
  inner (When _ c a) = inner c + inner a
  inner (While _ c a) = inner c + inner a
  inner (For _ _ l h a) = inner l + inner h + inner a
  inner (Let _ ds es) = inner_decs ds + inner_exps es
  inner (Seq _ es) = inner_exps es

  pub inner_place : LValue → ℕ
  inner_place (Simple _) = 0
  inner_place (Field v _) = inner_place v
  inner_place (Index v e) = inner_place v + inner e

  pub inner_exps : Exps → ℕ
  inner_exps no_exps = 0
  inner_exps (exp e rest) = inner e + inner_exps rest

  pub inner_inits : Inits → ℕ
  inner_inits no_inits = 0
  inner_inits (init _ e rest) = inner e + inner_inits rest

  pub inner_decs : Decs → ℕ
  inner_decs no_decs = 0
  inner_decs (types _ rest) = inner_decs rest
  inner_decs (variable _ _ e rest) = inner e + inner_decs rest
  inner_decs (functions fs rest) = inner_functions fs + inner_decs rest

  pub inner_functions : FunDecs → ℕ
  inner_functions no_functions = 0
  inner_functions (function _ _ _ body rest) = size body + inner body + inner_functions rest
