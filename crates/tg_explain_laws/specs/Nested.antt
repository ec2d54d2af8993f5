-- Spans nest: what a part consists of stands within its span, one after another in the order of the
-- text, and no identifier or expression is empty.
use Rattle.std.specs.Prelude.{ℕ, ◌<◌, ◌≤◌, List, [], ◌∷◌, Option, Some, None}
use Rattle.tg_base.specs.declared.ids.Span.{Span}
use Rattle.tg_syntax.specs.declared.tokens.Ident.{Ident}
use Rattle.tg_syntax.specs.declared.trees.Param.{Param}
use Rattle.tg_syntax.specs.Spans.{span_of}
use Rattle.tg_syntax.specs.Tree.{Form, Alias, Fields, Array, TypeDec, Exp, Nil, Break, Int, Text}
use Rattle.tg_syntax.specs.Tree.{Read, Call, Neg, Binary, Make, Fill, Assign, If, When, While, For}
use Rattle.tg_syntax.specs.Tree.{Let, Seq, LValue, Simple, Field, Index, Exps, no_exps, exp, Inits}
use Rattle.tg_syntax.specs.Tree.{no_inits, init, Decs, no_decs, types, variable, functions, FunDecs}
use Rattle.tg_syntax.specs.Tree.{no_functions, function}

-- a span with a byte at least stands between two bytes
abbrev pub Within : (from to : ℕ) → Span → Type 0
Within from to s = (from ≤ s.from) × (s.from < s.to) × (s.to ≤ to)

-- names with their types
abbrev pub ParamsNest : (from to : ℕ) → List Param → Type 0
ParamsNest from to [] = from ≤ to
ParamsNest from to (p ∷ ps) =
    Within from to p.name.span × Within p.name.span.to to p.kind.span
    × ParamsNest p.kind.span.to to ps

abbrev pub FormNests : (from to : ℕ) → Form → Type 0
FormNests from to (Alias x) = Within from to x.span
FormNests from to (Fields ps) = ParamsNest from to ps
FormNests from to (Array x) = Within from to x.span

-- up to a byte where the next one may begin
abbrev pub TypesNest : (from to : ℕ) → List TypeDec → Type 0
TypesNest from to [] = from ≤ to
TypesNest from to (d ∷ ds) =
    Within from to d.name.span
    × (next : ℕ) × FormNests d.name.span.to next d.form × TypesNest next to ds

-- a type's name that may be left out
abbrev pub KindNests : (from to : ℕ) → Option Ident → Type 0
KindNests from to None = from ≤ to
KindNests from to (Some x) = Within from to x.span

abbrev mutual
  pub Nests : Exp → Type 0
  Nests (Nil _) = Unit {0}
  Nests (Break _) = Unit {0}
  Nests (Int _ _) = Unit {0}
  Nests (Text _ _) = Unit {0}
  Nests (Read s v) = PlaceNests s.from s.to v
  Nests (Call s f args) = Within s.from s.to f.span × ExpsNest f.span.to s.to args
  Nests (Neg s a) = Within s.from s.to (span_of a) × Nests a
  Nests (Binary s _ at a b) =
      Within s.from at (span_of a) × Within at s.to (span_of b) × Nests a × Nests b
  Nests (Make s x inits) = Within s.from s.to x.span × InitsNest x.span.to s.to inits
  Nests (Fill s x size value) =
      Within s.from s.to x.span × Within x.span.to s.to (span_of size)
      × Within (span_of size).to s.to (span_of value) × Nests size × Nests value
  Nests (Assign s v e) =
      PlaceNests s.from (span_of e).from v × Within s.from s.to (span_of e) × Nests e
  Nests (If s test this other) =
      Within s.from s.to (span_of test) × Within (span_of test).to s.to (span_of this)
      × Within (span_of this).to s.to (span_of other) × Nests test × Nests this × Nests other
  Nests (When s test this) =
      Within s.from s.to (span_of test) × Within (span_of test).to s.to (span_of this)
      × Nests test × Nests this
  Nests (While s test body) =
      Within s.from s.to (span_of test) × Within (span_of test).to s.to (span_of body)
      × Nests test × Nests body
  Nests (For s x low high body) =
      Within s.from s.to x.span × Within x.span.to s.to (span_of low)
      × Within (span_of low).to s.to (span_of high) × Within (span_of high).to s.to (span_of body)
      × Nests low × Nests high × Nests body
  Nests (Let s ds es) = (next : ℕ) × DecsNest s.from next ds × ExpsNest next s.to es
  Nests (Seq s es) = ExpsNest s.from s.to es

  pub PlaceNests : (from to : ℕ) → LValue → Type 0
  PlaceNests from to (Simple x) = Within from to x.span
  PlaceNests from to (Field v f) = PlaceNests from f.span.from v × Within from to f.span
  PlaceNests from to (Index v e) =
      PlaceNests from (span_of e).from v × Within from to (span_of e) × Nests e

  pub ExpsNest : (from to : ℕ) → Exps → Type 0
  ExpsNest from to no_exps = from ≤ to
  ExpsNest from to (exp e rest) =
      Within from to (span_of e) × Nests e × ExpsNest (span_of e).to to rest

  pub InitsNest : (from to : ℕ) → Inits → Type 0
  InitsNest from to no_inits = from ≤ to
  InitsNest from to (init f e rest) =
      Within from to f.span × Within f.span.to to (span_of e) × Nests e
      × InitsNest (span_of e).to to rest

  pub DecsNest : (from to : ℕ) → Decs → Type 0
  DecsNest from to no_decs = from ≤ to
  DecsNest from to (types ds rest) =
      (next : ℕ) × TypesNest from next ds × DecsNest next to rest
  DecsNest from to (variable x kind e rest) =
      Within from to x.span × KindNests x.span.to (span_of e).from kind
      × Within x.span.to to (span_of e) × Nests e × DecsNest (span_of e).to to rest
  DecsNest from to (functions fs rest) =
      (next : ℕ) × FunctionsNest from next fs × DecsNest next to rest

  pub FunctionsNest : (from to : ℕ) → FunDecs → Type 0
  FunctionsNest from to no_functions = from ≤ to
  FunctionsNest from to (function f ps result body rest) =
      Within from to f.span
      × (next : ℕ) × ParamsNest f.span.to next ps × KindNests next (span_of body).from result
      × Within next to (span_of body) × Nests body × FunctionsNest (span_of body).to to rest
