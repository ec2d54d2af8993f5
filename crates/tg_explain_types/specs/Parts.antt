-- The declarations and the calls of a program, in the order of its text: those of a group come
-- before its bodies. A variable is seen behind its declaration, a group from its first name on,
-- each up to the end of its `let`; parameters and loop variables in their bodies (Appel, appendix
-- A.2).
use Rattle.std.specs.Prelude.{ℕ, suc, List, [], ◌∷◌, ◌++◌, length, map}
use Rattle.tg_base.specs.declared.ids.Span.{Span}
use Rattle.tg_syntax.specs.declared.tokens.Ident.{Ident}
use Rattle.tg_syntax.specs.declared.trees.Param.{Param}
use Rattle.tg_syntax.specs.Spans.{span_of}
use Rattle.tg_syntax.specs.Tree.{TypeDec, Exp, Nil, Break, Int, Text, Read, Call, Neg, Binary, Make}
use Rattle.tg_syntax.specs.Tree.{Fill, Assign, If, When, While, For, Let, Seq, LValue, Simple}
use Rattle.tg_syntax.specs.Tree.{Field, Index, Exps, no_exps, exp, Inits, no_inits, init, Decs}
use Rattle.tg_syntax.specs.Tree.{no_decs, types, variable, functions, FunDecs, no_functions}
use Rattle.tg_syntax.specs.Tree.{function}
use Rattle.tg_explain_types.specs.declared.declarations.Sort.{Sort}
use Rattle.tg_explain_types.specs.declared.declarations.Sort.TheVariants.{Variable, LoopVariable}
use Rattle.tg_explain_types.specs.declared.declarations.Sort.TheVariants.{Function, TypeName}
use Rattle.tg_explain_types.specs.declared.declarations.Part.{Part}
use Rattle.tg_explain_types.specs.declared.declarations.Part.TheVariants.{Declared, Called}

abbrev pub declared : Ident → Sort → Span → Part
declared x sort seen = Declared (record { ident = x; sort = sort; seen = seen })

abbrev pub between : (from to : ℕ) → Span
between from to = record { from = from; to = to }

abbrev pub expression_count : Exps → ℕ
expression_count no_exps = 0
expression_count (exp _ rest) = suc (expression_count rest)

abbrev pub types_start : List TypeDec → ℕ
types_start [] = 0
types_start (d ∷ ds) = d.name.span.from

abbrev pub type_parts : List TypeDec → (seen : Span) → List Part
type_parts ds seen = map (λ d. declared d.name TypeName seen) ds

abbrev pub param_parts : List Param → (seen : Span) → List Part
param_parts ps seen = map (λ p. declared p.name Variable seen) ps

abbrev pub functions_start : FunDecs → ℕ
functions_start no_functions = 0
functions_start (function f _ _ _ _) = f.span.from

-- the names of a group, behind those before
abbrev pub named_parts : FunDecs → (seen : Span) → (before : List Part) → List Part
named_parts no_functions seen before = before
named_parts (function f ps _ _ rest) seen before =
    named_parts rest seen (before ++ declared f (Function (length ps)) seen ∷ [])

-- the parts before, and then those of a tree
abbrev mutual
  pub exp_parts : Exp → (before : List Part) → List Part
  exp_parts (Nil _) before = before
  exp_parts (Break _) before = before
  exp_parts (Int _ _) before = before
  exp_parts (Text _ _) before = before
  exp_parts (Read _ v) before = place_parts v before
  exp_parts (Call _ f args) before =
      exps_parts args (before ++ Called f (expression_count args) ∷ [])
  exp_parts (Neg _ a) before = exp_parts a before
  exp_parts (Binary _ _ _ a b) before = exp_parts b (exp_parts a before)
  exp_parts (Make _ _ inits) before = inits_parts inits before
  exp_parts (Fill _ _ size value) before = exp_parts value (exp_parts size before)
  exp_parts (Assign _ v e) before = exp_parts e (place_parts v before)
  exp_parts (If _ test this other) before =
      exp_parts other (exp_parts this (exp_parts test before))
  exp_parts (When _ test this) before = exp_parts this (exp_parts test before)
  exp_parts (While _ test body) before = exp_parts body (exp_parts test before)
  exp_parts (For _ x low high body) before =
      exp_parts body
      (exp_parts high (exp_parts low before) ++ declared x LoopVariable (span_of body) ∷ [])
  exp_parts (Let s ds es) before = exps_parts es (decs_parts ds s.to before)
  exp_parts (Seq _ es) before = exps_parts es before

  pub place_parts : LValue → (before : List Part) → List Part
  place_parts (Simple _) before = before
  place_parts (Field v _) before = place_parts v before
  place_parts (Index v e) before = exp_parts e (place_parts v before)

  pub exps_parts : Exps → (before : List Part) → List Part
  exps_parts no_exps before = before
  exps_parts (exp e rest) before = exps_parts rest (exp_parts e before)

  pub inits_parts : Inits → (before : List Part) → List Part
  inits_parts no_inits before = before
  inits_parts (init _ e rest) before = inits_parts rest (exp_parts e before)

  -- declarations of a `let` that ends at a byte
  pub decs_parts : Decs → (end : ℕ) → (before : List Part) → List Part
  decs_parts no_decs end before = before
  decs_parts (types ds rest) end before =
      decs_parts rest end (before ++ type_parts ds (between (types_start ds) end))
  decs_parts (variable x _ e rest) end before =
      decs_parts rest end
      (exp_parts e before ++ declared x Variable (between (span_of e).to end) ∷ [])
  decs_parts (functions fs rest) end before =
      decs_parts rest end
      (bodies_parts fs (named_parts fs (between (functions_start fs) end) before))

  pub bodies_parts : FunDecs → (before : List Part) → List Part
  bodies_parts no_functions before = before
  bodies_parts (function _ ps _ body rest) before =
      bodies_parts rest (exp_parts body (before ++ param_parts ps (span_of body)))
