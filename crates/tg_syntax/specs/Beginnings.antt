-- Where the parts of a text begin that have a place of their own: its identifiers, which are uses,
-- declared names, fields, parameters and types, and the operators between two expressions.
use Rattle.std.specs.Prelude.{ℕ, ◌≢◌, ◌<◌, List, [], ◌∷◌, Option, Some, None}
use Rattle.std.specs.List.{AllPairs}
use Rattle.tg_syntax.specs.declared.tokens.Ident.{Ident}
use Rattle.tg_syntax.specs.declared.trees.Param.{Param}
use Rattle.tg_syntax.specs.Tree.{Form, Alias, Fields, Array, TypeDec, Exp, Nil, Break, Int, Text}
use Rattle.tg_syntax.specs.Tree.{Read, Call, Neg, Binary, Make, Fill, Assign, If, When, While, For}
use Rattle.tg_syntax.specs.Tree.{Let, Seq, LValue, Simple, Field, Index, Exps, no_exps, exp, Inits}
use Rattle.tg_syntax.specs.Tree.{no_inits, init, Decs, no_decs, types, variable, functions, FunDecs}
use Rattle.tg_syntax.specs.Tree.{no_functions, function}

abbrev pub param_beginnings : List Param → (before : List ℕ) → List ℕ
param_beginnings [] before = before
param_beginnings (p ∷ ps) before =
    param_beginnings ps (p.kind.span.from ∷ p.name.span.from ∷ before)

abbrev pub form_beginnings : Form → (before : List ℕ) → List ℕ
form_beginnings (Alias x) before = x.span.from ∷ before
form_beginnings (Fields ps) before = param_beginnings ps before
form_beginnings (Array x) before = x.span.from ∷ before

abbrev pub type_beginnings : List TypeDec → (before : List ℕ) → List ℕ
type_beginnings [] before = before
type_beginnings (d ∷ ds) before =
    type_beginnings ds (form_beginnings d.form (d.name.span.from ∷ before))

-- a type's name that may be left out
abbrev pub kind_beginnings : Option Ident → (before : List ℕ) → List ℕ
kind_beginnings None before = before
kind_beginnings (Some x) before = x.span.from ∷ before

-- the bytes at which they begin, in the order of the text, the last first, and then those before
abbrev mutual
  pub beginnings : Exp → (before : List ℕ) → List ℕ
  beginnings (Nil _) before = before
  beginnings (Break _) before = before
  beginnings (Int _ _) before = before
  beginnings (Text _ _) before = before
  beginnings (Read _ v) before = place_beginnings v before
  beginnings (Call _ f args) before = exps_beginnings args (f.span.from ∷ before)
  beginnings (Neg _ a) before = beginnings a before
  beginnings (Binary _ _ at a b) before = beginnings b (at ∷ beginnings a before)
  beginnings (Make _ x inits) before = inits_beginnings inits (x.span.from ∷ before)
  beginnings (Fill _ x size value) before =
      beginnings value (beginnings size (x.span.from ∷ before))
  beginnings (Assign _ v e) before = beginnings e (place_beginnings v before)
  beginnings (If _ test this other) before =
      beginnings other (beginnings this (beginnings test before))
  beginnings (When _ test this) before = beginnings this (beginnings test before)
  beginnings (While _ test body) before = beginnings body (beginnings test before)
  beginnings (For _ x low high body) before =
      beginnings body (beginnings high (beginnings low (x.span.from ∷ before)))
  beginnings (Let _ ds es) before = exps_beginnings es (decs_beginnings ds before)
  beginnings (Seq _ es) before = exps_beginnings es before

  pub place_beginnings : LValue → (before : List ℕ) → List ℕ
  place_beginnings (Simple x) before = x.span.from ∷ before
  place_beginnings (Field v f) before = f.span.from ∷ place_beginnings v before
  place_beginnings (Index v e) before = beginnings e (place_beginnings v before)

  pub exps_beginnings : Exps → (before : List ℕ) → List ℕ
  exps_beginnings no_exps before = before
  exps_beginnings (exp e rest) before = exps_beginnings rest (beginnings e before)

  pub inits_beginnings : Inits → (before : List ℕ) → List ℕ
  inits_beginnings no_inits before = before
  inits_beginnings (init f e rest) before =
      inits_beginnings rest (beginnings e (f.span.from ∷ before))

  pub decs_beginnings : Decs → (before : List ℕ) → List ℕ
  decs_beginnings no_decs before = before
  decs_beginnings (types ds rest) before = decs_beginnings rest (type_beginnings ds before)
  decs_beginnings (variable x kind e rest) before =
      decs_beginnings rest (beginnings e (kind_beginnings kind (x.span.from ∷ before)))
  decs_beginnings (functions fs rest) before = decs_beginnings rest (function_beginnings fs before)

  pub function_beginnings : FunDecs → (before : List ℕ) → List ℕ
  function_beginnings no_functions before = before
  function_beginnings (function f ps result body rest) before =
      let header = kind_beginnings result (param_beginnings ps (f.span.from ∷ before)) in
      function_beginnings rest (beginnings body header)

-- no two begin at the same byte
abbrev pub BeginsApart : Exp → Type 0
BeginsApart body = AllPairs (λ a b. a ≢ b) (beginnings body [])

-- each begins after those before it
abbrev pub BeginsInOrder : Exp → Type 0
BeginsInOrder body = AllPairs (λ a b. b < a) (beginnings body [])
