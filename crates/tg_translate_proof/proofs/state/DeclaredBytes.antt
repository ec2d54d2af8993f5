-- How often a byte is declared in a text: as a variable's or a function's. It is so at most as often
-- as a part of the text begins there.
use Rattle.std.proofs.Common.{◌≤◌, ℕ, ◌+◌, List, [], ◌∷◌, Option, Some, None, arith}
use Rattle.tg_syntax.specs.declared.tokens.Ident.{Ident}
use Rattle.tg_syntax.specs.declared.trees.Param.{Param}
use Rattle.tg_syntax.specs.Tree.{Form, Alias, Fields, Array, TypeDec, Exp, Nil, Break, Int, Text, Read, Call, Neg, Binary, Make, Fill, Assign, If}
use Rattle.tg_syntax.specs.Tree.{When, While, For, Let, Seq, LValue, Simple, Field, Index, Exps, no_exps, exp, Inits, no_inits, init, Decs, no_decs}
use Rattle.tg_syntax.specs.Tree.{types, variable, functions, FunDecs, no_functions, function}
use Rattle.tg_syntax.specs.Beginnings.{param_beginnings, form_beginnings, type_beginnings, kind_beginnings, beginnings, place_beginnings}
use Rattle.tg_syntax.specs.Beginnings.{exps_beginnings, inits_beginnings, decs_beginnings, function_beginnings}
use Rattle.tg_typecheck.specs.Scopes.{at_of}
use Rattle.tg_translate_laws.proofs.Counts.{same, times}

-- the bytes of a list
abbrev pub many : ℕ → List ℕ → ℕ
many k xs = times (λ x. x) k xs

module _ (k : ℕ) where
  abbrev pub params_declare : List Param → ℕ
  params_declare [] = 0
  params_declare (p ∷ ps) = same (at_of p.name) k + params_declare ps

  -- the names of a group's functions
  abbrev pub names_declare : FunDecs → ℕ
  names_declare no_functions = 0
  names_declare (function f _ _ _ rest) = same (at_of f) k + names_declare rest

  abbrev mutual
    pub declares : Exp → ℕ
    declares (Nil _) = 0
    declares (Break _) = 0
    declares (Int _ _) = 0
    declares (Text _ _) = 0
    declares (Read _ v) = place_declares v
    declares (Call _ f args) = exps_declare args
    declares (Neg _ a) = declares a
    declares (Binary _ _ _ a b) = declares a + declares b
    declares (Make _ _ inits) = inits_declare inits
    declares (Fill _ _ a b) = declares a + declares b
    declares (Assign _ v a) = place_declares v + declares a
    declares (If _ c a b) = declares c + (declares a + declares b)
    declares (When _ c a) = declares c + declares a
    declares (While _ c a) = declares c + declares a
    declares (For _ x l h a) = declares l + (declares h + (same (at_of x) k + declares a))
    declares (Let _ ds es) = decs_declare ds + exps_declare es
    declares (Seq _ es) = exps_declare es

    pub place_declares : LValue → ℕ
    place_declares (Simple x) = 0
    place_declares (Field v _) = place_declares v
    place_declares (Index v e) = place_declares v + declares e

    pub exps_declare : Exps → ℕ
    exps_declare no_exps = 0
    exps_declare (exp e rest) = declares e + exps_declare rest

    pub inits_declare : Inits → ℕ
    inits_declare no_inits = 0
    inits_declare (init _ e rest) = declares e + inits_declare rest

    pub decs_declare : Decs → ℕ
    decs_declare no_decs = 0
    decs_declare (types _ rest) = decs_declare rest
    decs_declare (variable x _ e rest) = same (at_of x) k + declares e + decs_declare rest
    decs_declare (functions fs rest) = names_declare fs + (bodies_declare fs + decs_declare rest)

    -- without the names of the functions
    pub bodies_declare : FunDecs → ℕ
    bodies_declare no_functions = 0
    bodies_declare (function f ps _ body rest) = params_declare ps + declares body + bodies_declare rest

  -- Each is a part that begins there.

  params_begin : (ps : List Param) (before : List ℕ) → params_declare ps + many k before ≤ many k (param_beginnings ps before)
  params_begin [] before = omega arith
  params_begin (p ∷ ps) before = let h = params_begin ps (p.kind.span.from ∷ p.name.span.from ∷ before) in omega (arith, h)

  kind_begins : (o : Option Ident) (before : List ℕ) → many k before ≤ many k (kind_beginnings o before)
  kind_begins None before = omega arith
  kind_begins (Some x) before = omega arith

  form_begins : (f : Form) (before : List ℕ) → many k before ≤ many k (form_beginnings f before)
  form_begins (Alias x) before = omega arith
  form_begins (Fields ps) before = let h = params_begin ps before in omega (arith, h)
  form_begins (Array x) before = omega arith

  types_begin : (ds : List TypeDec) (before : List ℕ) → many k before ≤ many k (type_beginnings ds before)
  types_begin [] before = omega arith
  types_begin (d ∷ ds) before =
      let f = form_begins d.form (d.name.span.from ∷ before) in
      let h = types_begin ds (form_beginnings d.form (d.name.span.from ∷ before)) in
      omega (arith, f, h)

  mutual
    pub begin_there : (e : Exp) (before : List ℕ) → declares e + many k before ≤ many k (beginnings e before)
    begin_there (Nil _) before = omega arith
    begin_there (Break _) before = omega arith
    begin_there (Int _ _) before = omega arith
    begin_there (Text _ _) before = omega arith
    begin_there (Read _ v) before = place_begins v before
    begin_there (Call _ f args) before = let h = exps_begin args (f.span.from ∷ before) in omega (arith, h)
    begin_there (Neg _ a) before = begin_there a before
    begin_there (Binary _ _ at a b) before =
        let h = begin_there a before in let i = begin_there b (at ∷ beginnings a before) in omega (arith, h, i)
    begin_there (Make _ x inits) before = let h = inits_begin inits (x.span.from ∷ before) in omega (arith, h)
    begin_there (Fill _ x a b) before =
        let h = begin_there a (x.span.from ∷ before) in let i = begin_there b (beginnings a (x.span.from ∷ before)) in omega (arith, h, i)
    begin_there (Assign _ v a) before = let h = place_begins v before in let i = begin_there a (place_beginnings v before) in omega (arith, h, i)
    begin_there (If _ c a b) before =
        let h = begin_there c before in
        let i = begin_there a (beginnings c before) in
        let j = begin_there b (beginnings a (beginnings c before)) in
        omega (arith, h, i, j)
    begin_there (When _ c a) before = let h = begin_there c before in let i = begin_there a (beginnings c before) in omega (arith, h, i)
    begin_there (While _ c a) before = let h = begin_there c before in let i = begin_there a (beginnings c before) in omega (arith, h, i)
    begin_there (For _ x l m a) before =
        let h = begin_there l (x.span.from ∷ before) in
        let i = begin_there m (beginnings l (x.span.from ∷ before)) in
        let j = begin_there a (beginnings m (beginnings l (x.span.from ∷ before))) in
        omega (arith, h, i, j)
    begin_there (Let _ ds es) before = let h = decs_begin ds before in let i = exps_begin es (decs_beginnings ds before) in omega (arith, h, i)
    begin_there (Seq _ es) before = exps_begin es before

    place_begins : (v : LValue) (before : List ℕ) → place_declares v + many k before ≤ many k (place_beginnings v before)
    place_begins (Simple x) before = omega arith
    place_begins (Field v f) before = let h = place_begins v before in omega (arith, h)
    place_begins (Index v e) before = let h = place_begins v before in let i = begin_there e (place_beginnings v before) in omega (arith, h, i)

    exps_begin : (es : Exps) (before : List ℕ) → exps_declare es + many k before ≤ many k (exps_beginnings es before)
    exps_begin no_exps before = omega arith
    exps_begin (exp e rest) before = let h = begin_there e before in let i = exps_begin rest (beginnings e before) in omega (arith, h, i)

    inits_begin : (is : Inits) (before : List ℕ) → inits_declare is + many k before ≤ many k (inits_beginnings is before)
    inits_begin no_inits before = omega arith
    inits_begin (init f e rest) before =
        let h = begin_there e (f.span.from ∷ before) in let i = inits_begin rest (beginnings e (f.span.from ∷ before)) in omega (arith, h, i)

    decs_begin : (ds : Decs) (before : List ℕ) → decs_declare ds + many k before ≤ many k (decs_beginnings ds before)
    decs_begin no_decs before = omega arith
    decs_begin (types ts rest) before = let h = types_begin ts before in let i = decs_begin rest (type_beginnings ts before) in omega (arith, h, i)
    decs_begin (variable x kind e rest) before =
        let start = x.span.from ∷ before in
        let g = kind_begins kind start in
        let h = begin_there e (kind_beginnings kind start) in
        let i = decs_begin rest (beginnings e (kind_beginnings kind start)) in
        omega (arith, g, h, i)
    decs_begin (functions fs rest) before =
        let h = functions_begin fs before in let i = decs_begin rest (function_beginnings fs before) in omega (arith, h, i)

    functions_begin : (fs : FunDecs) (before : List ℕ) → names_declare fs + bodies_declare fs + many k before ≤ many k (function_beginnings fs before)
    functions_begin no_functions before = omega arith
    functions_begin (function f ps result body rest) before =
        let start = f.span.from ∷ before in
        let b1 = param_beginnings ps start in
        let b2 = kind_beginnings result b1 in
        let g = params_begin ps start in
        let h = kind_begins result b1 in
        let i = begin_there body b2 in
        let j = functions_begin rest (beginnings body b2) in
        omega (arith, g, h, i, j)
