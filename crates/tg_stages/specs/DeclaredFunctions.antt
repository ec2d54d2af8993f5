-- The functions that a text declares, at any depth, by their identifiers in the order of the text.
use Rattle.std.specs.Prelude.{List, [], ◌∷◌, ◌++◌}
use Rattle.tg_syntax.specs.declared.tokens.Ident.{Ident}
use Rattle.tg_syntax.specs.Tree.{Exp, Nil, Break, Int, Text, Read, Call, Neg, Binary, Make, Fill}
use Rattle.tg_syntax.specs.Tree.{Assign, If, When, While, For, Let, Seq, LValue, Simple, Field}
use Rattle.tg_syntax.specs.Tree.{Index, Exps, no_exps, exp, Inits, no_inits, init, Decs, no_decs}
use Rattle.tg_syntax.specs.Tree.{types, variable, functions, FunDecs, no_functions, function}

abbrev mutual
  pub declared : Exp → List Ident
  declared (Nil _) = []
  declared (Break _) = []
  declared (Int _ _) = []
  declared (Text _ _) = []
  declared (Read _ v) = declared_place v
  declared (Call _ _ args) = declared_exps args
  declared (Neg _ a) = declared a
  declared (Binary _ _ _ a b) = declared a ++ declared b
  declared (Make _ _ inits) = declared_inits inits
  declared (Fill _ _ a b) = declared a ++ declared b
  declared (Assign _ v a) = declared_place v ++ declared a
  declared (If _ c a b) = declared c ++ (declared a ++ declared b)
  declared (When _ c a) = declared c ++ declared a
  declared (While _ c a) = declared c ++ declared a
  declared (For _ _ l h a) = declared l ++ (declared h ++ declared a)
  declared (Let _ ds es) = declared_decs ds ++ declared_exps es
  declared (Seq _ es) = declared_exps es

  pub declared_place : LValue → List Ident
  declared_place (Simple _) = []
  declared_place (Field v _) = declared_place v
  declared_place (Index v e) = declared_place v ++ declared e

  pub declared_exps : Exps → List Ident
  declared_exps no_exps = []
  declared_exps (exp e rest) = declared e ++ declared_exps rest

  pub declared_inits : Inits → List Ident
  declared_inits no_inits = []
  declared_inits (init _ e rest) = declared e ++ declared_inits rest

  pub declared_decs : Decs → List Ident
  declared_decs no_decs = []
  declared_decs (types _ rest) = declared_decs rest
  declared_decs (variable _ _ e rest) = declared e ++ declared_decs rest
  declared_decs (functions fs rest) = declared_functions fs ++ declared_decs rest

  -- a function stands before those in its body
  pub declared_functions : FunDecs → List Ident
  declared_functions no_functions = []
  declared_functions (function f _ _ body rest) =
      f ∷ (declared body ++ declared_functions rest)
