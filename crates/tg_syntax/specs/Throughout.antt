-- A fact of each identifier of a tree, and one of each byte at which an expression or an operator
-- between two expressions begins.
use Rattle.std.specs.Prelude.{ℕ, List, [], ◌∷◌, Option, Some, None}
use Rattle.tg_syntax.specs.declared.tokens.Ident.{Ident}
use Rattle.tg_syntax.specs.declared.trees.Param.{Param}
use Rattle.tg_syntax.specs.Tree.{Form, Alias, Fields, Array, TypeDec, Exp, Nil, Break, Int, Text}
use Rattle.tg_syntax.specs.Tree.{Read, Call, Neg, Binary, Make, Fill, Assign, If, When, While, For}
use Rattle.tg_syntax.specs.Tree.{Let, Seq, LValue, Simple, Field, Index, Exps, no_exps, exp, Inits}
use Rattle.tg_syntax.specs.Tree.{no_inits, init, Decs, no_decs, types, variable, functions, FunDecs}
use Rattle.tg_syntax.specs.Tree.{no_functions, function}

module _ (OfIdent : Ident → Type 0) (OfByte : (at : ℕ) → Type 0) where
  abbrev pub ThroughParams : List Param → Type 0
  ThroughParams [] = Unit {0}
  ThroughParams (p ∷ ps) = OfIdent p.name × OfIdent p.kind × ThroughParams ps

  abbrev pub ThroughForm : Form → Type 0
  ThroughForm (Alias x) = OfIdent x
  ThroughForm (Fields ps) = ThroughParams ps
  ThroughForm (Array x) = OfIdent x

  abbrev pub ThroughTypes : List TypeDec → Type 0
  ThroughTypes [] = Unit {0}
  ThroughTypes (d ∷ ds) = OfIdent d.name × ThroughForm d.form × ThroughTypes ds

  -- a type's name that may be left out
  abbrev pub ThroughKind : Option Ident → Type 0
  ThroughKind None = Unit {0}
  ThroughKind (Some x) = OfIdent x

  abbrev mutual
    pub Throughout : Exp → Type 0
    Throughout (Nil s) = OfByte s.from
    Throughout (Break s) = OfByte s.from
    Throughout (Int s _) = OfByte s.from
    Throughout (Text s _) = OfByte s.from
    Throughout (Read s v) = OfByte s.from × ThroughPlace v
    Throughout (Call s f args) = OfByte s.from × OfIdent f × ThroughExps args
    Throughout (Neg s a) = OfByte s.from × Throughout a
    Throughout (Binary s _ at a b) = OfByte s.from × OfByte at × Throughout a × Throughout b
    Throughout (Make s x inits) = OfByte s.from × OfIdent x × ThroughInits inits
    Throughout (Fill s x n e) = OfByte s.from × OfIdent x × Throughout n × Throughout e
    Throughout (Assign s v e) = OfByte s.from × ThroughPlace v × Throughout e
    Throughout (If s c a b) = OfByte s.from × Throughout c × Throughout a × Throughout b
    Throughout (When s c a) = OfByte s.from × Throughout c × Throughout a
    Throughout (While s c a) = OfByte s.from × Throughout c × Throughout a
    Throughout (For s x l h a) =
        OfByte s.from × OfIdent x × Throughout l × Throughout h × Throughout a
    Throughout (Let s ds es) = OfByte s.from × ThroughDecs ds × ThroughExps es
    Throughout (Seq s es) = OfByte s.from × ThroughExps es

    pub ThroughPlace : LValue → Type 0
    ThroughPlace (Simple x) = OfIdent x
    ThroughPlace (Field v f) = ThroughPlace v × OfIdent f
    ThroughPlace (Index v e) = ThroughPlace v × Throughout e

    pub ThroughExps : Exps → Type 0
    ThroughExps no_exps = Unit {0}
    ThroughExps (exp e rest) = Throughout e × ThroughExps rest

    pub ThroughInits : Inits → Type 0
    ThroughInits no_inits = Unit {0}
    ThroughInits (init f e rest) = OfIdent f × Throughout e × ThroughInits rest

    pub ThroughDecs : Decs → Type 0
    ThroughDecs no_decs = Unit {0}
    ThroughDecs (types ds rest) = ThroughTypes ds × ThroughDecs rest
    ThroughDecs (variable x kind e rest) =
        OfIdent x × ThroughKind kind × Throughout e × ThroughDecs rest
    ThroughDecs (functions fs rest) = ThroughFunctions fs × ThroughDecs rest

    pub ThroughFunctions : FunDecs → Type 0
    ThroughFunctions no_functions = Unit {0}
    ThroughFunctions (function f ps result body rest) =
        OfIdent f × ThroughParams ps × ThroughKind result × Throughout body × ThroughFunctions rest
