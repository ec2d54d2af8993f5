-- Each part of a tree begins at such a byte: its expressions, its identifiers, and the operators
-- between two expressions.
use Rattle.std.specs.Prelude.{ℕ, List, Option, Bool, IsTrue}
use Rattle.tg_syntax.specs.declared.tokens.Ident.{Ident}
use Rattle.tg_syntax.specs.declared.trees.Param.{Param}
use Rattle.tg_syntax.specs.Tree.{Form, TypeDec, Exp, LValue, Exps, Inits, Decs, FunDecs}
use Rattle.tg_syntax.specs.Throughout.{ThroughParams, ThroughForm, ThroughTypes, ThroughKind}
use Rattle.tg_syntax.specs.Throughout.{Throughout, ThroughPlace, ThroughExps, ThroughInits}
use Rattle.tg_syntax.specs.Throughout.{ThroughDecs, ThroughFunctions}

abbrev pub IdentBegins : (here : ℕ → Bool) → Ident → Type 0
IdentBegins here x = IsTrue (here x.span.from)

abbrev pub IsHere : (here : ℕ → Bool) → (at : ℕ) → Type 0
IsHere here at = IsTrue (here at)

abbrev pub BeginsWithin : (here : ℕ → Bool) → Exp → Type 0
BeginsWithin here e = Throughout (IdentBegins here) (IsHere here) e

-- the same of the parts of a tree
abbrev pub ParamsBegin : (here : ℕ → Bool) → List Param → Type 0
ParamsBegin here ps = ThroughParams (IdentBegins here) (IsHere here) ps

abbrev pub FormBegins : (here : ℕ → Bool) → Form → Type 0
FormBegins here f = ThroughForm (IdentBegins here) (IsHere here) f

abbrev pub TypesBegin : (here : ℕ → Bool) → List TypeDec → Type 0
TypesBegin here ds = ThroughTypes (IdentBegins here) (IsHere here) ds

abbrev pub KindBegins : (here : ℕ → Bool) → Option Ident → Type 0
KindBegins here kind = ThroughKind (IdentBegins here) (IsHere here) kind

abbrev pub PlaceBegins : (here : ℕ → Bool) → LValue → Type 0
PlaceBegins here v = ThroughPlace (IdentBegins here) (IsHere here) v

abbrev pub ExpsBegin : (here : ℕ → Bool) → Exps → Type 0
ExpsBegin here es = ThroughExps (IdentBegins here) (IsHere here) es

abbrev pub InitsBegin : (here : ℕ → Bool) → Inits → Type 0
InitsBegin here inits = ThroughInits (IdentBegins here) (IsHere here) inits

abbrev pub DecsBegin : (here : ℕ → Bool) → Decs → Type 0
DecsBegin here ds = ThroughDecs (IdentBegins here) (IsHere here) ds

abbrev pub FunctionsBegin : (here : ℕ → Bool) → FunDecs → Type 0
FunctionsBegin here fs = ThroughFunctions (IdentBegins here) (IsHere here) fs
