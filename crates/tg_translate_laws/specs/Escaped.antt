-- How many variables of each function of a program's text escape: its parameters, those that its
-- text declares, and those of its loops. The functions nested in it have counts of their own.
use Rattle.std.specs.Prelude.{ℕ, ◌+◌, List, [], ◌∷◌, ◌++◌, Bool, true, false}
use Rattle.tg_syntax.specs.declared.trees.Param.{Param}
use Rattle.tg_syntax.specs.Tree.{Exp, Nil, Break, Int, Text, Read, Call, Neg, Binary, Make, Fill}
use Rattle.tg_syntax.specs.Tree.{Assign, If, When, While, For, Let, Seq, LValue, Simple, Field}
use Rattle.tg_syntax.specs.Tree.{Index, Exps, no_exps, exp, Inits, no_inits, init, Decs, no_decs}
use Rattle.tg_syntax.specs.Tree.{types, variable, functions, FunDecs, no_functions, function}
use Rattle.tg_translate.specs.mirror.Functions.{at_of}

-- one for a byte that escapes
abbrev pub one_of : (escapes : Bool) → ℕ
one_of true = 1
one_of false = 0

module _ (escapes : (at : ℕ) → Bool) where
  abbrev pub params_escaping : List Param → ℕ
  params_escaping [] = 0
  params_escaping (p ∷ params) = one_of (escapes (at_of p.name)) + params_escaping params

  -- of a text, without the functions that it declares
  abbrev mutual
    pub escaping : Exp → ℕ
    escaping (Nil _) = 0
    escaping (Break _) = 0
    escaping (Int _ _) = 0
    escaping (Text _ _) = 0
    escaping (Read _ v) = place_escaping v
    escaping (Call _ _ args) = exps_escaping args
    escaping (Neg _ x) = escaping x
    escaping (Binary _ _ _ x y) = escaping x + escaping y
    escaping (Make _ _ inits) = inits_escaping inits
    escaping (Fill _ _ x y) = escaping x + escaping y
    escaping (Assign _ v x) = place_escaping v + escaping x
    escaping (If _ c x y) = escaping c + (escaping x + escaping y)
    escaping (When _ c x) = escaping c + escaping x
    escaping (While _ c x) = escaping c + escaping x
    escaping (For _ i low high x) =
        escaping low + (escaping high + (one_of (escapes (at_of i)) + escaping x))
    escaping (Let _ ds es) = decs_escaping ds + exps_escaping es
    escaping (Seq _ es) = exps_escaping es

    pub place_escaping : LValue → ℕ
    place_escaping (Simple _) = 0
    place_escaping (Field v _) = place_escaping v
    place_escaping (Index v x) = place_escaping v + escaping x

    pub exps_escaping : Exps → ℕ
    exps_escaping no_exps = 0
    exps_escaping (exp x rest) = escaping x + exps_escaping rest

    pub inits_escaping : Inits → ℕ
    inits_escaping no_inits = 0
    inits_escaping (init _ x rest) = escaping x + inits_escaping rest

    pub decs_escaping : Decs → ℕ
    decs_escaping no_decs = 0
    decs_escaping (types _ rest) = decs_escaping rest
    decs_escaping (variable y _ x rest) =
        one_of (escapes (at_of y)) + escaping x + decs_escaping rest
    decs_escaping (functions _ rest) = decs_escaping rest

  -- of each function that a text declares at any depth, in the order of the text
  abbrev mutual
    pub escaping_inside : Exp → List ℕ
    escaping_inside (Nil _) = []
    escaping_inside (Break _) = []
    escaping_inside (Int _ _) = []
    escaping_inside (Text _ _) = []
    escaping_inside (Read _ v) = place_escaping_inside v
    escaping_inside (Call _ _ args) = exps_escaping_inside args
    escaping_inside (Neg _ x) = escaping_inside x
    escaping_inside (Binary _ _ _ x y) = escaping_inside x ++ escaping_inside y
    escaping_inside (Make _ _ inits) = inits_escaping_inside inits
    escaping_inside (Fill _ _ x y) = escaping_inside x ++ escaping_inside y
    escaping_inside (Assign _ v x) = place_escaping_inside v ++ escaping_inside x
    escaping_inside (If _ c x y) = escaping_inside c ++ (escaping_inside x ++ escaping_inside y)
    escaping_inside (When _ c x) = escaping_inside c ++ escaping_inside x
    escaping_inside (While _ c x) = escaping_inside c ++ escaping_inside x
    escaping_inside (For _ _ low high x) =
        escaping_inside low ++ (escaping_inside high ++ escaping_inside x)
    escaping_inside (Let _ ds es) = decs_escaping_inside ds ++ exps_escaping_inside es
    escaping_inside (Seq _ es) = exps_escaping_inside es

    pub place_escaping_inside : LValue → List ℕ
    place_escaping_inside (Simple _) = []
    place_escaping_inside (Field v _) = place_escaping_inside v
    place_escaping_inside (Index v x) = place_escaping_inside v ++ escaping_inside x

    pub exps_escaping_inside : Exps → List ℕ
    exps_escaping_inside no_exps = []
    exps_escaping_inside (exp x rest) = escaping_inside x ++ exps_escaping_inside rest

    pub inits_escaping_inside : Inits → List ℕ
    inits_escaping_inside no_inits = []
    inits_escaping_inside (init _ x rest) = escaping_inside x ++ inits_escaping_inside rest

    pub decs_escaping_inside : Decs → List ℕ
    decs_escaping_inside no_decs = []
    decs_escaping_inside (types _ rest) = decs_escaping_inside rest
    decs_escaping_inside (variable _ _ x rest) = escaping_inside x ++ decs_escaping_inside rest
    decs_escaping_inside (functions fs rest) = functions_escaping fs ++ decs_escaping_inside rest

    pub functions_escaping : FunDecs → List ℕ
    functions_escaping no_functions = []
    functions_escaping (function _ params _ x rest) =
        (params_escaping params + escaping x) ∷ (escaping_inside x ++ functions_escaping rest)

  -- of the program's body, and then of the functions that it declares
  abbrev pub program_escaping : Exp → List ℕ
  program_escaping e = escaping e ∷ escaping_inside e
