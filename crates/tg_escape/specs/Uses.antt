-- The uses of declared names in a text, each with the functions that it lies in (Appel, chapter 6).
-- A variable and a function are named by the byte of their declaring identifier; a function's
-- parameters and the variables of its loops are declared in it too. The program's body lies in no
-- function: a text's level is the number of functions that it lies in.
use Rattle.std.specs.Prelude.{ℕ, List, [], ◌∷◌, ◌++◌, length, Option, Some, None}
use Rattle.tg_symbols.specs.Tables.{looked_up}
use Rattle.tg_syntax.specs.declared.tokens.Ident.{Ident}
use Rattle.tg_syntax.specs.declared.trees.Param.{Param}
use Rattle.tg_syntax.specs.Tree.{Exp, Nil, Break, Int, Text, Read, Call, Neg, Binary, Make, Fill}
use Rattle.tg_syntax.specs.Tree.{Assign, If, When, While, For, Let, Seq, LValue, Simple, Field}
use Rattle.tg_syntax.specs.Tree.{Index, Exps, no_exps, exp, Inits, no_inits, init, Decs, no_decs}
use Rattle.tg_syntax.specs.Tree.{types, variable, functions, FunDecs, no_functions, function}

-- what a name is declared to be: a variable, with its byte, or a function; each with the level of
-- the text that declares it
pub data DeclaredAs : Type 0 where
  a_variable : (at level : ℕ) → DeclaredAs
  a_function : (level : ℕ) → DeclaredAs

-- names with what they are declared to be, the innermost first
abbrev pub Seen : Type 0
Seen = List (ℕ × DeclaredAs)

abbrev pub declare : Ident → DeclaredAs → Seen → Seen
declare x d seen = (x.name.0, d) ∷ seen

abbrev pub declare_variable : (level : ℕ) → Ident → Seen → Seen
declare_variable level x seen = declare x (a_variable x.span.from level) seen

abbrev pub declare_params : (level : ℕ) → List Param → Seen → Seen
declare_params level [] seen = seen
declare_params level (p ∷ ps) seen = declare_params level ps (declare_variable level p.name seen)

abbrev pub declare_functions : (level : ℕ) → FunDecs → Seen → Seen
declare_functions level no_functions seen = seen
declare_functions level (function f _ _ _ rest) seen =
    declare_functions level rest (declare f (a_function level) seen)

abbrev pub declare_all : (level : ℕ) → Decs → Seen → Seen
declare_all level no_decs seen = seen
declare_all level (types _ rest) seen = declare_all level rest seen
declare_all level (variable x _ _ rest) seen =
    declare_all level rest (declare_variable level x seen)
declare_all level (functions fs rest) seen =
    declare_all level rest (declare_functions level fs seen)

-- a use of a declared name: what the name is declared to be, and the bytes of the functions that
-- the use lies in, the outermost first
pub record Use : Type 0 where
  pub of : DeclaredAs
  pub within : List ℕ

-- a use of a name, before the uses that come after it; a standard function's name isn't declared
abbrev pub used : (within : List ℕ) → Option DeclaredAs → List Use → List Use
used within (Some d) after = record { of = d; within = within } ∷ after
used within None after = after

-- the uses in a text within these functions, in the order of the text, those in the bodies of the
-- functions that it declares among them
abbrev mutual
  pub uses : Exp → (within : List ℕ) → Seen → List Use → List Use
  uses (Nil _) within seen after = after
  uses (Break _) within seen after = after
  uses (Int _ _) within seen after = after
  uses (Text _ _) within seen after = after
  uses (Read _ v) within seen after = place_uses v within seen after
  uses (Call _ f args) within seen after =
      used within (looked_up f.name.0 seen) (exps_uses args within seen after)
  uses (Neg _ a) within seen after = uses a within seen after
  uses (Binary _ _ _ a b) within seen after = uses a within seen (uses b within seen after)
  uses (Make _ _ inits) within seen after = inits_uses inits within seen after
  uses (Fill _ _ a b) within seen after = uses a within seen (uses b within seen after)
  uses (Assign _ v a) within seen after = place_uses v within seen (uses a within seen after)
  uses (If _ c a b) within seen after =
      uses c within seen (uses a within seen (uses b within seen after))
  uses (When _ c a) within seen after = uses c within seen (uses a within seen after)
  uses (While _ c a) within seen after = uses c within seen (uses a within seen after)
  uses (For _ x low high a) within seen after =
      uses low within seen (uses high within seen
      (uses a within (declare_variable (length within) x seen) after))
  uses (Let _ ds es) within seen after =
      decs_uses ds within seen
      (exps_uses es within (declare_all (length within) ds seen) after)
  uses (Seq _ es) within seen after = exps_uses es within seen after

  pub place_uses : LValue → (within : List ℕ) → Seen → List Use → List Use
  place_uses (Simple x) within seen after = used within (looked_up x.name.0 seen) after
  place_uses (Field v _) within seen after = place_uses v within seen after
  place_uses (Index v e) within seen after =
      place_uses v within seen (uses e within seen after)

  pub exps_uses : Exps → (within : List ℕ) → Seen → List Use → List Use
  exps_uses no_exps within seen after = after
  exps_uses (exp e rest) within seen after =
      uses e within seen (exps_uses rest within seen after)

  pub inits_uses : Inits → (within : List ℕ) → Seen → List Use → List Use
  inits_uses no_inits within seen after = after
  inits_uses (init _ e rest) within seen after =
      uses e within seen (inits_uses rest within seen after)

  pub decs_uses : Decs → (within : List ℕ) → Seen → List Use → List Use
  decs_uses no_decs within seen after = after
  decs_uses (types _ rest) within seen after = decs_uses rest within seen after
  decs_uses (variable x _ e rest) within seen after =
      uses e within seen
      (decs_uses rest within (declare_variable (length within) x seen) after)
  decs_uses (functions fs rest) within seen after =
      let inside = declare_functions (length within) fs seen in
      functions_uses fs within inside (decs_uses rest within inside after)

  -- with all functions of the group declared
  pub functions_uses : FunDecs → (within : List ℕ) → Seen → List Use → List Use
  functions_uses no_functions within seen after = after
  functions_uses (function f params _ body rest) within seen after =
      let inner = within ++ f.span.from ∷ [] in
      uses body inner (declare_params (length inner) params seen)
      (functions_uses rest within seen after)

-- of a function's body, which lies in the function too
abbrev pub function_uses : Ident → List Param → (body : Exp) → (within : List ℕ) → Seen → List Use →
    List Use
function_uses f params body within seen after =
    let inner = within ++ f.span.from ∷ [] in
    uses body inner (declare_params (length inner) params seen) after

-- of a program: its body lies in no function and sees no declaration
abbrev pub uses_of : Exp → List Use
uses_of body = uses body [] [] []
