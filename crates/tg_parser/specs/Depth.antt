-- The depth of a tree: the nodes on the longest way from it to a node of its own, both counted. A
-- list and a declaration are as deep as the deepest of their expressions.
use Rattle.std.specs.Prelude.{ℕ, suc, max}
use Rattle.tg_syntax.specs.Tree.{Exp, Nil, Break, Int, Text, Read, Call, Neg, Binary, Make, Fill}
use Rattle.tg_syntax.specs.Tree.{Assign, If, When, While, For, Let, Seq, LValue, Simple, Field}
use Rattle.tg_syntax.specs.Tree.{Index, Exps, no_exps, exp, Inits, no_inits, init, Decs, no_decs}
use Rattle.tg_syntax.specs.Tree.{types, variable, functions, FunDecs, no_functions, function}

abbrev mutual
  pub depth : Exp → ℕ
  depth (Nil _) = 1
  depth (Break _) = 1
  depth (Int _ _) = 1
  depth (Text _ _) = 1
  depth (Read _ v) = suc (place_depth v)
  depth (Call _ _ args) = suc (exps_depth args)
  depth (Neg _ a) = suc (depth a)
  depth (Binary _ _ _ a b) = suc (max (depth a) (depth b))
  depth (Make _ _ inits) = suc (inits_depth inits)
  depth (Fill _ _ a b) = suc (max (depth a) (depth b))
  depth (Assign _ v a) = suc (max (place_depth v) (depth a))
  depth (If _ c a b) = suc (max (depth c) (max (depth a) (depth b)))
  depth (When _ c a) = suc (max (depth c) (depth a))
  depth (While _ c a) = suc (max (depth c) (depth a))
  depth (For _ _ l h a) = suc (max (depth l) (max (depth h) (depth a)))
  depth (Let _ ds es) = suc (max (decs_depth ds) (exps_depth es))
  depth (Seq _ es) = suc (exps_depth es)

  pub place_depth : LValue → ℕ
  place_depth (Simple _) = 1
  place_depth (Field v _) = suc (place_depth v)
  place_depth (Index v e) = suc (max (place_depth v) (depth e))

  pub exps_depth : Exps → ℕ
  exps_depth no_exps = 0
  exps_depth (exp e rest) = max (depth e) (exps_depth rest)

  pub inits_depth : Inits → ℕ
  inits_depth no_inits = 0
  inits_depth (init _ e rest) = max (depth e) (inits_depth rest)

  pub decs_depth : Decs → ℕ
  decs_depth no_decs = 0
  decs_depth (types _ rest) = decs_depth rest
  decs_depth (variable _ _ e rest) = max (depth e) (decs_depth rest)
  decs_depth (functions fs rest) = max (functions_depth fs) (decs_depth rest)

  pub functions_depth : FunDecs → ℕ
  functions_depth no_functions = 0
  functions_depth (function _ _ _ body rest) = max (depth body) (functions_depth rest)

-- the greatest depth of a tree that the parser gives
abbrev pub most_depth : ℕ
most_depth = 8000
