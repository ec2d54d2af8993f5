-- What a text has outside the functions that it declares, in the order of the text: the variables
-- that it declares, and the uses of variables.
use Rattle.std.specs.Prelude.{List, [], ◌∷◌, ◌++◌, None}
use Rattle.tg_syntax.specs.Tree.{Exp, Nil, Break, Int, Text, Read, Call, Neg, Binary, Make, Fill}
use Rattle.tg_syntax.specs.Tree.{Assign, If, When, While, For, Let, Seq, LValue, Simple, Field}
use Rattle.tg_syntax.specs.Tree.{Index, Exps, no_exps, exp, Inits, no_inits, init, Decs, no_decs}
use Rattle.tg_syntax.specs.Tree.{types, variable, functions}
use Rattle.tg_variables.specs.declared.parts.Part.{Part}
use Rattle.tg_variables.specs.declared.parts.Part.TheVariants.{Declares, Uses}

abbrev mutual
  pub parts : Exp → List Part
  parts (Nil _) = []
  parts (Break _) = []
  parts (Int _ _) = []
  parts (Text _ _) = []
  parts (Read _ v) = place_parts v
  parts (Call _ _ args) = exps_parts args
  parts (Neg _ a) = parts a
  parts (Binary _ _ _ a b) = parts a ++ parts b
  parts (Make _ _ inits) = inits_parts inits
  parts (Fill _ _ a b) = parts a ++ parts b
  parts (Assign _ v a) = place_parts v ++ parts a
  parts (If _ c a b) = parts c ++ (parts a ++ parts b)
  parts (When _ c a) = parts c ++ parts a
  parts (While _ c a) = parts c ++ parts a
  parts (For _ x low high a) = Declares x None ∷ (parts low ++ (parts high ++ parts a))
  parts (Let _ ds es) = decs_parts ds ++ exps_parts es
  parts (Seq _ es) = exps_parts es

  pub place_parts : LValue → List Part
  place_parts (Simple x) = Uses x ∷ []
  place_parts (Field v _) = place_parts v
  place_parts (Index v e) = place_parts v ++ parts e

  pub exps_parts : Exps → List Part
  exps_parts no_exps = []
  exps_parts (exp e rest) = parts e ++ exps_parts rest

  pub inits_parts : Inits → List Part
  inits_parts no_inits = []
  inits_parts (init _ e rest) = parts e ++ inits_parts rest

  pub decs_parts : Decs → List Part
  decs_parts no_decs = []
  decs_parts (types _ rest) = decs_parts rest
  decs_parts (variable x t e rest) = Declares x t ∷ (parts e ++ decs_parts rest)
  decs_parts (functions _ rest) = decs_parts rest
