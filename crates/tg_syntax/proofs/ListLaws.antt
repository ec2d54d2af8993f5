-- The plain list of the code's list is that of its items, and what is made from a vector has the plain list of that vector.
use Rattle.std.proofs.Common.{◌≡◌, Vec, Global, refl, sym, ap, ◌∙◌}
use mathlib.Core.Former.{Count}
use Rattle.tg_base.specs.declared.ids.Span.{Span}
use Rattle.tg_syntax.specs.declared.trees.Exp.{Exp}
use Rattle.tg_syntax.specs.declared.trees.Init.{Init}
use Rattle.tg_syntax.specs.declared.trees.FunDec.{FunDec}
use Rattle.tg_syntax.specs.declared.trees.Decs.{Decs}
use Rattle.tg_syntax.specs.declared.trees.Exps.{Exps, Exps', out-Exps, outs-Exps', roll-Exps, out-roll-Exps, Row_of-Exp, end_of-Exp, more_of-Exp}
use Rattle.tg_syntax.specs.declared.trees.Exps.{items-the_row-Exp, items_shown-the_row-Exp-1}
use Rattle.tg_syntax.specs.declared.trees.Inits.{Inits, Inits', out-Inits, outs-Inits', roll-Inits, out-roll-Inits, Row_of-Init, end_of-Init}
use Rattle.tg_syntax.specs.declared.trees.Inits.{more_of-Init, items-the_row-Init, items_shown-the_row-Init-3}
use Rattle.tg_syntax.specs.declared.trees.FunDecs.{FunDecs, FunDecs', out-FunDecs, outs-FunDecs', roll-FunDecs, out-roll-FunDecs, Row_of-FunDec}
use Rattle.tg_syntax.specs.declared.trees.FunDecs.{end_of-FunDec, more_of-FunDec, items-the_row-FunDec, items_shown-the_row-FunDec-2}
use Rattle.tg_syntax.specs.declared.trees.Kind.{Kind, Let, Let', Row_of-Dec, end_of-Dec, more_of-Dec, items-the_row-Dec, items_hidden-the_row-Dec-0}
use Rattle.tg_syntax.specs.Tree.{Let as PlainLet, exp, init, function}
use Rattle.tg_syntax.specs.glue.Plain.{plain_kind, plain_exps, plain_exp_row, plain_inits, plain_init_row, plain_functions, plain_function_row, plain_dec}
use Rattle.tg_syntax.specs.glue.Plain.{plain_decs}
use Rattle.tg_syntax.specs.glue.Lists.{exps_of, inits_of, decs_of, functions_of}

plain_exp_row-items : (n : Count) (row : Row_of-Exp n) → plain_exp_row row ≡ exps_of (items-the_row-Exp n row)
plain_exp_row-items n end_of-Exp = refl
plain_exp_row-items n (more_of-Exp s e rest) = ap (exp (plain_kind e s)) (plain_exp_row-items _ rest)

plain_init_row-items : (n : Count) (row : Row_of-Init n) → plain_init_row row ≡ inits_of (items-the_row-Init n row)
plain_init_row-items n end_of-Init = refl
plain_init_row-items n (more_of-Init f s e rest) = ap (init f (plain_kind e s)) (plain_init_row-items _ rest)

plain_function_row-items : (n : Count) (row : Row_of-FunDec n) → plain_function_row row ≡ functions_of (items-the_row-FunDec n row)
plain_function_row-items n end_of-FunDec = refl
plain_function_row-items n (more_of-FunDec f params result s e rest) = ap (function f params result (plain_kind e s)) (plain_function_row-items _ rest)

plain_decs-items : (n : Count) (row : Row_of-Dec n) → plain_decs row ≡ decs_of (items-the_row-Dec n row)
plain_decs-items n end_of-Dec = refl
plain_decs-items n (more_of-Dec d rest) = ap (plain_dec d) (plain_decs-items _ rest)

-- expressions
pub plain_exps-items : (es : Exps) → plain_exps es ≡ exps_of (out-Exps es).items.items
plain_exps-items (Exps' shape row) =
    plain_exp_row-items _ row ∙ ap exps_of (sym (items_shown-the_row-Exp-1 shape row)) ∙ ap (λ x. exps_of x.items.items) (sym (outs-Exps' shape row))

pub plain_exps-made : (items : Vec Exp Global) → plain_exps (roll-Exps (record { items = items })) ≡ exps_of items.items
plain_exps-made items = plain_exps-items (roll-Exps (record { items = items })) ∙ ap (λ x. exps_of x.items.items) (out-roll-Exps (record { items = items }))

-- fields' values
pub plain_inits-items : (is : Inits) → plain_inits is ≡ inits_of (out-Inits is).items.items
plain_inits-items (Inits' shape row) =
    plain_init_row-items _ row ∙ ap inits_of (sym (items_shown-the_row-Init-3 shape row)) ∙ ap (λ x. inits_of x.items.items) (sym (outs-Inits' shape row))

pub plain_inits-made : (items : Vec Init Global) → plain_inits (roll-Inits (record { items = items })) ≡ inits_of items.items
plain_inits-made items = plain_inits-items (roll-Inits (record { items = items })) ∙ ap (λ x. inits_of x.items.items)
    (out-roll-Inits (record { items = items }))

-- functions
pub plain_functions-items : (fs : FunDecs) → plain_functions fs ≡ functions_of (out-FunDecs fs).items.items
plain_functions-items (FunDecs' shape row) =
    plain_function_row-items _ row ∙ ap functions_of (sym (items_shown-the_row-FunDec-2 shape row))
    ∙ ap (λ x. functions_of x.items.items) (sym (outs-FunDecs' shape row))

pub plain_functions-made : (items : Vec FunDec Global) → plain_functions (roll-FunDecs (record { items = items })) ≡ functions_of items.items
plain_functions-made items = plain_functions-items (roll-FunDecs (record { items = items }))
    ∙ ap (λ x. functions_of x.items.items) (out-roll-FunDecs (record { items = items }))

-- declarations, which a `Let` holds as its own row
abbrev decs_row : Kind → (n : Count) × Row_of-Dec n
decs_row (Let' _ row _) = (_, row)
decs_row _ = (_, end_of-Dec)

pub plain_kind-Let : (decs : Decs) (es : Exps) (s : Span) → plain_kind (Let decs es) s ≡ PlainLet s (decs_of decs.items.items) (plain_exps es)
plain_kind-Let decs es s =
    let row = decs_row (Let decs es) in
    ap (λ ds. PlainLet s ds (plain_exps es)) (plain_decs-items row.0 row.1 ∙ ap decs_of (items_hidden-the_row-Dec-0 decs.items))
