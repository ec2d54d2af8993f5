-- The texts of a program's functions: each without the functions that it declares.
use Rattle.std.specs.Prelude.{ℕ, ◌+◌, List, [], ◌∷◌, ◌++◌, Some, None}
use Rattle.tg_syntax.specs.Tree.{Exp, Nil, Break, Int, Text, Read, Call, Neg, Binary, Make, Fill}
use Rattle.tg_syntax.specs.Tree.{Assign, If, When, While, For, Let, Seq, LValue, Simple, Field}
use Rattle.tg_syntax.specs.Tree.{Index, Exps, no_exps, exp, Inits, no_inits, init, Decs, no_decs}
use Rattle.tg_syntax.specs.Tree.{types, variable, functions, FunDecs, no_functions, function}
use Rattle.tg_syntax.specs.declared.tokens.Ident.{Ident}
use Rattle.tg_syntax.specs.declared.trees.Param.{Param}
use Rattle.tg_variables.specs.declared.functions.OwnText.{OwnText}
use Rattle.tg_variables.specs.Parts.{parts}

-- a function of this level
abbrev pub own_text : (level : ℕ) → Ident → List Param → Exp → OwnText
own_text l f params body =
    record { function = Some f; level = l; parameters = params; parts = parts body }

-- The functions that a text of this level declares, at any depth, in the order of the text; a
-- function stands before those in its body.
abbrev mutual
  pub texts : (level : ℕ) → Exp → List OwnText
  texts l (Nil _) = []
  texts l (Break _) = []
  texts l (Int _ _) = []
  texts l (Text _ _) = []
  texts l (Read _ v) = place_texts l v
  texts l (Call _ _ args) = exps_texts l args
  texts l (Neg _ a) = texts l a
  texts l (Binary _ _ _ a b) = texts l a ++ texts l b
  texts l (Make _ _ inits) = inits_texts l inits
  texts l (Fill _ _ a b) = texts l a ++ texts l b
  texts l (Assign _ v a) = place_texts l v ++ texts l a
  texts l (If _ c a b) = texts l c ++ (texts l a ++ texts l b)
  texts l (When _ c a) = texts l c ++ texts l a
  texts l (While _ c a) = texts l c ++ texts l a
  texts l (For _ _ low high a) = texts l low ++ (texts l high ++ texts l a)
  texts l (Let _ ds es) = decs_texts l ds ++ exps_texts l es
  texts l (Seq _ es) = exps_texts l es

  pub place_texts : (level : ℕ) → LValue → List OwnText
  place_texts l (Simple _) = []
  place_texts l (Field v _) = place_texts l v
  place_texts l (Index v e) = place_texts l v ++ texts l e

  pub exps_texts : (level : ℕ) → Exps → List OwnText
  exps_texts l no_exps = []
  exps_texts l (exp e rest) = texts l e ++ exps_texts l rest

  pub inits_texts : (level : ℕ) → Inits → List OwnText
  inits_texts l no_inits = []
  inits_texts l (init _ e rest) = texts l e ++ inits_texts l rest

  pub decs_texts : (level : ℕ) → Decs → List OwnText
  decs_texts l no_decs = []
  decs_texts l (types _ rest) = decs_texts l rest
  decs_texts l (variable _ _ e rest) = texts l e ++ decs_texts l rest
  decs_texts l (functions fs rest) = functions_texts l fs ++ decs_texts l rest

  pub functions_texts : (level : ℕ) → FunDecs → List OwnText
  functions_texts l no_functions = []
  functions_texts l (function f params _ body rest) =
      own_text (l + 1) f params body ∷ (texts (l + 1) body ++ functions_texts l rest)

-- the program's body, which is of level 0 and has no parameters
abbrev pub body_text : Exp → OwnText
body_text body = record { function = None; level = 0; parameters = []; parts = parts body }

-- the program's body, and then all functions that it declares
abbrev pub program_texts : Exp → List OwnText
program_texts body = body_text body ∷ texts 0 body
