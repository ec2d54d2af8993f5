-- What nests between two bytes begins no later than it ends.
use Rattle.std.proofs.Common.{ℕ, ◌≤◌, List, [], ◌∷◌, Option, Some, None, arith}
use Rattle.tg_syntax.specs.declared.tokens.Ident.{Ident}
use Rattle.tg_syntax.specs.declared.trees.Param.{Param}
use Rattle.tg_syntax.specs.Tree.{Form, Alias, Fields, Array, TypeDec, Exps, no_exps, exp, Decs, no_decs, types, variable, functions, FunDecs}
use Rattle.tg_syntax.specs.Tree.{no_functions, function}
use Rattle.tg_explain_laws.specs.Nested.{ParamsNest, FormNests, TypesNest, KindNests, ExpsNest, DecsNest, FunctionsNest}

pub params_order : (ps : List Param) (p q : ℕ) → ParamsNest p q ps → p ≤ q
params_order [] p q h = h
params_order (o ∷ ps) p q h = omega arith

pub kind_order : (k : Option Ident) (p q : ℕ) → KindNests p q k → p ≤ q
kind_order None p q h = h
kind_order (Some x) p q h = omega arith

pub form_order : (f : Form) (p q : ℕ) → FormNests p q f → p ≤ q
form_order (Alias x) p q h = omega arith
form_order (Fields ps) p q h = params_order ps p q h
form_order (Array x) p q h = omega arith

pub types_order : (ds : List TypeDec) (p q : ℕ) → TypesNest p q ds → p ≤ q
types_order [] p q h = h
types_order (d ∷ ds) p q h = omega arith

pub exps_order : (es : Exps) (p q : ℕ) → ExpsNest p q es → p ≤ q
exps_order no_exps p q h = h
exps_order (exp e rest) p q h = omega arith

pub functions_order : (fs : FunDecs) (p q : ℕ) → FunctionsNest p q fs → p ≤ q
functions_order no_functions p q h = h
functions_order (function f ps k e rest) p q h = omega arith

pub decs_order : (ds : Decs) (p q : ℕ) → DecsNest p q ds → p ≤ q
decs_order no_decs p q h = h
decs_order (types ts rest) p q h =
    let k = types_order ts p h.0 h.1 in
    let l = decs_order rest h.0 q h.2 in
    omega arith
decs_order (variable x k e rest) p q h = omega arith
decs_order (functions fs rest) p q h =
    let k = functions_order fs p h.0 h.1 in
    let l = decs_order rest h.0 q h.2 in
    omega arith
