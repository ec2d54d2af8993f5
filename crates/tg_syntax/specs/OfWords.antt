-- A tree whose ints are words and whose strings are bytes, as those of a text are (a numeral is at
-- most 2^31 - 1, an escape at most 255). A tree alone has numbers without bound, and what memory
-- gives back of a number is a word: without this a translation doesn't keep the meaning.
use Rattle.std.specs.Prelude.{◌<◌, ◌^◌, All}
use Rattle.tg_syntax.specs.Tree.{Exp, Nil, Break, Int, Text, Read, Call, Neg, Binary, Make, Fill}
use Rattle.tg_syntax.specs.Tree.{Assign, If, When, While, For, Let, Seq, LValue, Simple, Field}
use Rattle.tg_syntax.specs.Tree.{Index, Exps, no_exps, exp, Inits, no_inits, init, Decs, no_decs}
use Rattle.tg_syntax.specs.Tree.{types, variable, functions, FunDecs, no_functions, function}

abbrev mutual
  pub OfWords : Exp → Type 0
  OfWords (Nil _) = Unit {0}
  OfWords (Break _) = Unit {0}
  OfWords (Int _ n) = n < 2 ^ 31
  OfWords (Text _ bytes) = All (λ b. b < 256) bytes
  OfWords (Read _ v) = PlaceOfWords v
  OfWords (Call _ _ args) = ExpsOfWords args
  OfWords (Neg _ a) = OfWords a
  OfWords (Binary _ _ _ a b) = OfWords a × OfWords b
  OfWords (Make _ _ inits) = InitsOfWords inits
  OfWords (Fill _ _ a b) = OfWords a × OfWords b
  OfWords (Assign _ v a) = PlaceOfWords v × OfWords a
  OfWords (If _ c a b) = OfWords c × OfWords a × OfWords b
  OfWords (When _ c a) = OfWords c × OfWords a
  OfWords (While _ c a) = OfWords c × OfWords a
  OfWords (For _ _ l h a) = OfWords l × OfWords h × OfWords a
  OfWords (Let _ ds es) = DecsOfWords ds × ExpsOfWords es
  OfWords (Seq _ es) = ExpsOfWords es

  pub PlaceOfWords : LValue → Type 0
  PlaceOfWords (Simple _) = Unit {0}
  PlaceOfWords (Field v _) = PlaceOfWords v
  PlaceOfWords (Index v e) = PlaceOfWords v × OfWords e

  pub ExpsOfWords : Exps → Type 0
  ExpsOfWords no_exps = Unit {0}
  ExpsOfWords (exp e rest) = OfWords e × ExpsOfWords rest

  pub InitsOfWords : Inits → Type 0
  InitsOfWords no_inits = Unit {0}
  InitsOfWords (init _ e rest) = OfWords e × InitsOfWords rest

  pub DecsOfWords : Decs → Type 0
  DecsOfWords no_decs = Unit {0}
  DecsOfWords (types _ rest) = DecsOfWords rest
  DecsOfWords (variable _ _ e rest) = OfWords e × DecsOfWords rest
  DecsOfWords (functions fs rest) = BodiesOfWords fs × DecsOfWords rest

  pub BodiesOfWords : FunDecs → Type 0
  BodiesOfWords no_functions = Unit {0}
  BodiesOfWords (function _ _ _ e rest) = OfWords e × BodiesOfWords rest
