-- Lists with one more at their end. Consecutive type declarations, and consecutive function
-- declarations, are one group.
use Rattle.std.specs.Prelude.{List, [], ◌∷◌, ◌++◌, Option}
use Rattle.tg_syntax.specs.declared.tokens.Ident.{Ident}
use Rattle.tg_syntax.specs.declared.trees.Param.{Param}
use Rattle.tg_syntax.specs.Tree.{TypeDec, Exp, Exps, no_exps, exp, Inits, no_inits, init, Decs}
use Rattle.tg_syntax.specs.Tree.{no_decs, types, variable, functions, FunDecs, no_functions}
use Rattle.tg_syntax.specs.Tree.{function}

abbrev pub snoc : Exps → Exp → Exps
snoc no_exps e = exp e no_exps
snoc (exp x xs) e = exp x (snoc xs e)

abbrev pub snoc_init : Inits → Ident → Exp → Inits
snoc_init no_inits f e = init f e no_inits
snoc_init (init x v xs) f e = init x v (snoc_init xs f e)

-- one declaration
pub data Dec : Type 0 where
  one_type : TypeDec → Dec
  one_variable : Ident → Option Ident → Exp → Dec
  one_function : Ident → List Param → Option Ident → Exp → Dec

abbrev pub one_declaration : Dec → Decs
one_declaration (one_type d) = types (d ∷ []) no_decs
one_declaration (one_variable x t e) = variable x t e no_decs
one_declaration (one_function f params result e) =
    functions (function f params result e no_functions) no_decs

abbrev pub snoc_function : FunDecs → Ident → List Param → Option Ident → Exp → FunDecs
snoc_function no_functions f params result e = function f params result e no_functions
snoc_function (function g ps r b rest) f params result e =
    function g ps r b (snoc_function rest f params result e)

-- after one group alone: in it, where it is of its kind
abbrev pub behind_types : List TypeDec → Dec → Decs
behind_types ts (one_type d) = types (ts ++ d ∷ []) no_decs
behind_types ts d = types ts (one_declaration d)

abbrev pub behind_functions : FunDecs → Dec → Decs
behind_functions fs (one_function f params result e) =
    functions (snoc_function fs f params result e) no_decs
behind_functions fs d = functions fs (one_declaration d)

-- after all: in the last group, where that is of its kind
abbrev pub snoc_dec : Decs → Dec → Decs
snoc_dec no_decs d = one_declaration d
snoc_dec (types ts no_decs) d = behind_types ts d
snoc_dec (functions fs no_decs) d = behind_functions fs d
snoc_dec (types ts rest) d = types ts (snoc_dec rest d)
snoc_dec (variable x t e rest) d = variable x t e (snoc_dec rest d)
snoc_dec (functions fs rest) d = functions fs (snoc_dec rest d)

-- a group of types doesn't come first, nor one of functions
abbrev pub NoTypesFirst : Decs → Type 0
NoTypesFirst (types ts rest) = ⊥
NoTypesFirst _ = Unit {0}

abbrev pub NoFunctionsFirst : Decs → Type 0
NoFunctionsFirst (functions fs rest) = ⊥
NoFunctionsFirst _ = Unit {0}

-- each group is as long as possible: no two neighbours are groups of types, or of functions
abbrev pub AreLongest : Decs → Type 0
AreLongest no_decs = Unit {0}
AreLongest (types ts rest) = NoTypesFirst rest × AreLongest rest
AreLongest (variable x t e rest) = AreLongest rest
AreLongest (functions fs rest) = NoFunctionsFirst rest × AreLongest rest
