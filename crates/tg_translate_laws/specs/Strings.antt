-- The strings of a program's text, in the order of the text.
use Rattle.std.specs.Prelude.{ℕ, List, [], ◌∷◌, ◌++◌}
use Rattle.tg_syntax.specs.Tree.{Exp, Nil, Break, Int, Text, Read, Call, Neg, Binary, Make, Fill}
use Rattle.tg_syntax.specs.Tree.{Assign, If, When, While, For, Let, Seq, LValue, Simple, Field}
use Rattle.tg_syntax.specs.Tree.{Index, Exps, no_exps, exp, Inits, no_inits, init, Decs, no_decs}
use Rattle.tg_syntax.specs.Tree.{types, variable, functions, FunDecs, no_functions, function}

abbrev mutual
  pub strings : Exp → List (List ℕ)
  strings (Nil _) = []
  strings (Break _) = []
  strings (Int _ _) = []
  strings (Text _ bytes) = bytes ∷ []
  strings (Read _ v) = place_strings v
  strings (Call _ _ args) = exps_strings args
  strings (Neg _ x) = strings x
  strings (Binary _ _ _ x y) = strings x ++ strings y
  strings (Make _ _ inits) = inits_strings inits
  strings (Fill _ _ x y) = strings x ++ strings y
  strings (Assign _ v x) = place_strings v ++ strings x
  strings (If _ c x y) = strings c ++ (strings x ++ strings y)
  strings (When _ c x) = strings c ++ strings x
  strings (While _ c x) = strings c ++ strings x
  strings (For _ _ low high x) = strings low ++ (strings high ++ strings x)
  strings (Let _ ds es) = decs_strings ds ++ exps_strings es
  strings (Seq _ es) = exps_strings es

  pub place_strings : LValue → List (List ℕ)
  place_strings (Simple _) = []
  place_strings (Field v _) = place_strings v
  place_strings (Index v x) = place_strings v ++ strings x

  pub exps_strings : Exps → List (List ℕ)
  exps_strings no_exps = []
  exps_strings (exp x rest) = strings x ++ exps_strings rest

  pub inits_strings : Inits → List (List ℕ)
  inits_strings no_inits = []
  inits_strings (init _ x rest) = strings x ++ inits_strings rest

  pub decs_strings : Decs → List (List ℕ)
  decs_strings no_decs = []
  decs_strings (types _ rest) = decs_strings rest
  decs_strings (variable _ _ x rest) = strings x ++ decs_strings rest
  decs_strings (functions fs rest) = bodies_strings fs ++ decs_strings rest

  pub bodies_strings : FunDecs → List (List ℕ)
  bodies_strings no_functions = []
  bodies_strings (function _ _ _ x rest) = strings x ++ bodies_strings rest
