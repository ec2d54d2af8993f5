-- Expressions that assign no variable of the function that they stand in: a value that stands in a
-- variable's temporary stays there while they are evaluated. A call assigns none, since what a
-- nested function assigns escapes.
use Rattle.std.specs.Prelude.{◌&&◌, Bool, true, false}
use Rattle.tg_syntax.specs.Tree.{
  Exp,
  Nil,
  Int,
  Text,
  Read,
  Call,
  Neg,
  Binary,
  Make,
  Fill,
  If,
  Seq,
  LValue,
  Simple,
  Field,
  Index,
  Exps,
  no_exps,
  exp,
  Inits,
  no_inits,
  init,
}

abbrev mutual
  pub assigns_nothing : Exp → Bool
  assigns_nothing (Nil _) = true
  assigns_nothing (Int _ _) = true
  assigns_nothing (Text _ _) = true
  assigns_nothing (Read _ v) = place_assigns_nothing v
  assigns_nothing (Call _ _ args) = all_assign_nothing args
  assigns_nothing (Neg _ a) = assigns_nothing a
  assigns_nothing (Binary _ _ _ a b) = assigns_nothing a && assigns_nothing b
  assigns_nothing (Make _ _ inits) = inits_assign_nothing inits
  assigns_nothing (Fill _ _ a b) = assigns_nothing a && assigns_nothing b
  assigns_nothing (If _ c a b) = assigns_nothing c && (assigns_nothing a && assigns_nothing b)
  assigns_nothing (Seq _ es) = all_assign_nothing es
  assigns_nothing _ = false

  pub place_assigns_nothing : LValue → Bool
  place_assigns_nothing (Simple _) = true
  place_assigns_nothing (Field v _) = place_assigns_nothing v
  place_assigns_nothing (Index v e) = place_assigns_nothing v && assigns_nothing e

  pub all_assign_nothing : Exps → Bool
  all_assign_nothing no_exps = true
  all_assign_nothing (exp e rest) = assigns_nothing e && all_assign_nothing rest

  pub inits_assign_nothing : Inits → Bool
  inits_assign_nothing no_inits = true
  inits_assign_nothing (init _ e rest) = assigns_nothing e && inits_assign_nothing rest
