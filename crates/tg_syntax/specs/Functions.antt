-- The functions of a program and their measures: byte, level, nodes and hops. The program's body
-- is a function too, of level 0.
use Rattle.std.specs.Prelude.{ℕ, suc, ◌+◌, ◌-◌, ◌==◌, List, [], ◌∷◌, ◌++◌, length, sum_by}
use Rattle.std.specs.Prelude.{if◌then◌else◌}
use Rattle.tg_syntax.specs.declared.tokens.Ident.{Ident}
use Rattle.tg_syntax.specs.declared.trees.Param.{Param}
use Rattle.tg_syntax.specs.Tree.{Exp, Nil, Break, Int, Text, Read, Call, Neg, Binary, Make, Fill}
use Rattle.tg_syntax.specs.Tree.{Assign, If, When, While, For, Let, Seq, LValue, Simple, Field}
use Rattle.tg_syntax.specs.Tree.{Index, Exps, no_exps, exp, Inits, no_inits, init, Decs, no_decs}
use Rattle.tg_syntax.specs.Tree.{types, variable, functions, FunDecs, no_functions, function}
use Rattle.tg_syntax.specs.Spans.{span_of}
use Rattle.tg_syntax.specs.Measures.{size}

-- a name that a place of the text sees, and the level of the function that declares it
pub record Declaration : Type 0 where
  pub name : ℕ
  pub level : ℕ

-- what a place sees, innermost first; a name that isn't among them is a standard function's
abbrev pub Levels : Type 0
Levels = List Declaration

-- the levels that a use crosses in a text of this level; a standard function's crosses none
abbrev pub crossed : (here : ℕ) → Levels → Ident → ℕ
crossed here [] x = 0
crossed here (d ∷ seen) x = if d.name == x.name.0 then here - d.level else crossed here seen x

-- with what is declared in a text of this level
abbrev pub own : (here : ℕ) → Ident → Levels → Levels
own here x seen = record { name = x.name.0; level = here } ∷ seen

abbrev pub own_params : (here : ℕ) → List Param → Levels → Levels
own_params here [] seen = seen
own_params here (p ∷ params) seen = own_params here params (own here p.name seen)

abbrev pub own_functions : (here : ℕ) → FunDecs → Levels → Levels
own_functions here no_functions seen = seen
own_functions here (function f _ _ _ rest) seen = own_functions here rest (own here f seen)

abbrev pub own_decs : (here : ℕ) → Decs → Levels → Levels
own_decs here no_decs seen = seen
own_decs here (types _ rest) seen = own_decs here rest seen
own_decs here (variable x _ _ rest) seen = own_decs here rest (own here x seen)
own_decs here (functions fs rest) seen = own_decs here rest (own_functions here fs seen)

-- the levels that a text of this level crosses: at each use of a variable and each call of a
-- declared function, without the bodies of the functions that it declares
abbrev mutual
  pub hops : (here : ℕ) → Levels → Exp → ℕ
  hops n seen (Nil _) = 0
  hops n seen (Break _) = 0
  hops n seen (Int _ _) = 0
  hops n seen (Text _ _) = 0
  hops n seen (Read _ v) = place_hops n seen v
  hops n seen (Call _ f args) = crossed n seen f + exps_hops n seen args
  hops n seen (Neg _ a) = hops n seen a
  hops n seen (Binary _ _ _ a b) = hops n seen a + hops n seen b
  hops n seen (Make _ _ inits) = inits_hops n seen inits
  hops n seen (Fill _ _ a b) = hops n seen a + hops n seen b
  hops n seen (Assign _ v a) = place_hops n seen v + hops n seen a
  hops n seen (If _ c a b) = hops n seen c + hops n seen a + hops n seen b
  hops n seen (When _ c a) = hops n seen c + hops n seen a
  hops n seen (While _ c a) = hops n seen c + hops n seen a
  hops n seen (For _ x l h a) = hops n seen l + hops n seen h + hops n (own n x seen) a
  hops n seen (Let _ ds es) = decs_hops n seen ds + exps_hops n (own_decs n ds seen) es
  hops n seen (Seq _ es) = exps_hops n seen es

  pub place_hops : (here : ℕ) → Levels → LValue → ℕ
  place_hops n seen (Simple x) = crossed n seen x
  place_hops n seen (Field v _) = place_hops n seen v
  place_hops n seen (Index v e) = place_hops n seen v + hops n seen e

  pub exps_hops : (here : ℕ) → Levels → Exps → ℕ
  exps_hops n seen no_exps = 0
  exps_hops n seen (exp e rest) = hops n seen e + exps_hops n seen rest

  pub inits_hops : (here : ℕ) → Levels → Inits → ℕ
  inits_hops n seen no_inits = 0
  inits_hops n seen (init _ e rest) = hops n seen e + inits_hops n seen rest

  pub decs_hops : (here : ℕ) → Levels → Decs → ℕ
  decs_hops n seen no_decs = 0
  decs_hops n seen (types _ rest) = decs_hops n seen rest
  decs_hops n seen (variable x _ e rest) = hops n seen e + decs_hops n (own n x seen) rest
  decs_hops n seen (functions fs rest) = decs_hops n (own_functions n fs seen) rest

-- of a function: its body's nodes and one for each of its own parameters
abbrev pub function_nodes : List Param → (body : Exp) → ℕ
function_nodes params body = length params + size body

-- of a function of this level, which sees these names
abbrev pub function_hops : (level : ℕ) → Levels → List Param → (body : Exp) → ℕ
function_hops level seen params body = hops level (own_params level params seen) body

-- a function of the source: the byte of its name, or where the program begins; its level; the nodes
-- of its body, and those with its own parameters; the levels that its text crosses
pub record Measures : Type 0 where
  pub at : ℕ
  pub level : ℕ
  pub size : ℕ
  pub nodes : ℕ
  pub hops : ℕ

abbrev pub measures : (at level : ℕ) → Levels → List Param → (body : Exp) → Measures
measures at level seen params body =
    record {
      at = at;
      level = level;
      size = size body;
      nodes = function_nodes params body;
      hops = function_hops level seen params body;
    }

-- the functions that a text of this level declares at any depth, in the order of the text
abbrev mutual
  pub declared : (here : ℕ) → Levels → Exp → List Measures
  declared n seen (Nil _) = []
  declared n seen (Break _) = []
  declared n seen (Int _ _) = []
  declared n seen (Text _ _) = []
  declared n seen (Read _ v) = declared_place n seen v
  declared n seen (Call _ _ args) = declared_exps n seen args
  declared n seen (Neg _ a) = declared n seen a
  declared n seen (Binary _ _ _ a b) = declared n seen a ++ declared n seen b
  declared n seen (Make _ _ inits) = declared_inits n seen inits
  declared n seen (Fill _ _ a b) = declared n seen a ++ declared n seen b
  declared n seen (Assign _ v a) = declared_place n seen v ++ declared n seen a
  declared n seen (If _ c a b) = declared n seen c ++ (declared n seen a ++ declared n seen b)
  declared n seen (When _ c a) = declared n seen c ++ declared n seen a
  declared n seen (While _ c a) = declared n seen c ++ declared n seen a
  declared n seen (For _ x l h a) =
      declared n seen l ++ (declared n seen h ++ declared n (own n x seen) a)
  declared n seen (Let _ ds es) = declared_decs n seen ds ++ declared_exps n (own_decs n ds seen) es
  declared n seen (Seq _ es) = declared_exps n seen es

  pub declared_place : (here : ℕ) → Levels → LValue → List Measures
  declared_place n seen (Simple _) = []
  declared_place n seen (Field v _) = declared_place n seen v
  declared_place n seen (Index v e) = declared_place n seen v ++ declared n seen e

  pub declared_exps : (here : ℕ) → Levels → Exps → List Measures
  declared_exps n seen no_exps = []
  declared_exps n seen (exp e rest) = declared n seen e ++ declared_exps n seen rest

  pub declared_inits : (here : ℕ) → Levels → Inits → List Measures
  declared_inits n seen no_inits = []
  declared_inits n seen (init _ e rest) = declared n seen e ++ declared_inits n seen rest

  pub declared_decs : (here : ℕ) → Levels → Decs → List Measures
  declared_decs n seen no_decs = []
  declared_decs n seen (types _ rest) = declared_decs n seen rest
  declared_decs n seen (variable x _ e rest) =
      declared n seen e ++ declared_decs n (own n x seen) rest
  declared_decs n seen (functions fs rest) =
      let inside = own_functions n fs seen in
      declared_functions n inside fs ++ declared_decs n inside rest

  -- of a group, which sees itself
  pub declared_functions : (here : ℕ) → Levels → FunDecs → List Measures
  declared_functions n seen no_functions = []
  declared_functions n seen (function f params _ body rest) =
      measures f.span.from (suc n) seen params body ∷
      (declared (suc n) (own_params (suc n) params seen) body ++ declared_functions n seen rest)

-- the program's body, and then the functions that it declares
abbrev pub program_functions : Exp → List Measures
program_functions body = measures (span_of body).from 0 [] [] body ∷ declared 0 [] body

-- the nodes of all bodies of a program
abbrev pub program_size : Exp → ℕ
program_size body = sum_by (λ f. f.size) (program_functions body)
