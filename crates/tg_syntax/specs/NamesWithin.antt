-- Each identifier's name is a place in a list of names of this length.
use Rattle.std.specs.Prelude.{ℕ, ◌<◌, List, Option}
use Rattle.tg_syntax.specs.declared.tokens.Ident.{Ident}
use Rattle.tg_syntax.specs.declared.trees.Param.{Param}
use Rattle.tg_syntax.specs.Tree.{Form, TypeDec, Exp, LValue, Exps, Inits, Decs, FunDecs}
use Rattle.tg_syntax.specs.Throughout.{ThroughParams, ThroughForm, ThroughTypes, ThroughKind}
use Rattle.tg_syntax.specs.Throughout.{Throughout, ThroughPlace, ThroughExps, ThroughInits}
use Rattle.tg_syntax.specs.Throughout.{ThroughDecs, ThroughFunctions}

abbrev pub NameIsWithin : (length : ℕ) → Ident → Type 0
NameIsWithin n x = x.name.0 < n

-- of a byte nothing is said
abbrev pub AnyByte : (at : ℕ) → Type 0
AnyByte at = Unit {0}

abbrev pub NamesWithin : (length : ℕ) → Exp → Type 0
NamesWithin n e = Throughout (NameIsWithin n) AnyByte e

-- the same of the parts of a tree
abbrev pub ParamsWithin : (length : ℕ) → List Param → Type 0
ParamsWithin n ps = ThroughParams (NameIsWithin n) AnyByte ps

abbrev pub FormWithin : (length : ℕ) → Form → Type 0
FormWithin n f = ThroughForm (NameIsWithin n) AnyByte f

abbrev pub TypesWithin : (length : ℕ) → List TypeDec → Type 0
TypesWithin n ds = ThroughTypes (NameIsWithin n) AnyByte ds

abbrev pub KindWithin : (length : ℕ) → Option Ident → Type 0
KindWithin n kind = ThroughKind (NameIsWithin n) AnyByte kind

abbrev pub PlaceWithin : (length : ℕ) → LValue → Type 0
PlaceWithin n v = ThroughPlace (NameIsWithin n) AnyByte v

abbrev pub ExpsWithin : (length : ℕ) → Exps → Type 0
ExpsWithin n es = ThroughExps (NameIsWithin n) AnyByte es

abbrev pub InitsWithin : (length : ℕ) → Inits → Type 0
InitsWithin n inits = ThroughInits (NameIsWithin n) AnyByte inits

abbrev pub DecsWithin : (length : ℕ) → Decs → Type 0
DecsWithin n ds = ThroughDecs (NameIsWithin n) AnyByte ds

abbrev pub FunctionsWithin : (length : ℕ) → FunDecs → Type 0
FunctionsWithin n fs = ThroughFunctions (NameIsWithin n) AnyByte fs
