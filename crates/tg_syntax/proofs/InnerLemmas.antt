-- The nodes of the bodies that the code's lists declare, as sums over their items.
use Rattle.std.proofs.Common.{◌≡◌, ℕ, ◌+◌, sum_by, refl, ap, ◌∙◌, arith}
use Rattle.tg_base.specs.declared.ids.Span.{Span}
use Rattle.tg_syntax.specs.declared.trees.Exp.{Exp}
use Rattle.tg_syntax.specs.declared.trees.Init.{Init}
use Rattle.tg_syntax.specs.declared.trees.FunDec.{FunDec}
use Rattle.tg_syntax.specs.declared.trees.Dec.{Dec, Types, Variable', Functions}
use Rattle.tg_syntax.specs.declared.trees.Decs.{Decs}
use Rattle.tg_syntax.specs.declared.trees.Kind.{Let}
use Rattle.tg_syntax.specs.declared.trees.Exps.{Exps, out-Exps}
use Rattle.tg_syntax.specs.declared.trees.Inits.{Inits, out-Inits}
use Rattle.tg_syntax.specs.declared.trees.FunDecs.{FunDecs, out-FunDecs}
use Rattle.tg_syntax.specs.Tree.{Decs as PlainDecs, no_decs}
use Rattle.tg_syntax.specs.glue.Plain.{plain, plain_kind, plain_exps, plain_inits, plain_functions, plain_dec}
use Rattle.tg_syntax.specs.glue.Lists.{exps_of, inits_of, decs_of, functions_of}
use Rattle.tg_syntax.specs.Measures.{size}
use Rattle.tg_syntax.specs.InnerMeasures.{inner, inner_exps, inner_inits, inner_functions, inner_decs}
use Rattle.tg_syntax.proofs.ListLaws.{plain_exps-items, plain_inits-items, plain_functions-items, plain_kind-Let}
use Rattle.tg_syntax.proofs.SizeLemmas.{sum_of_items}

abbrev pub exp_inner : Exp → ℕ
exp_inner e = inner (plain e)

abbrev pub init_inner : Init → ℕ
init_inner i = inner (plain i.value)

abbrev pub function_inner : FunDec → ℕ
function_inner f = size (plain f.body) + inner (plain f.body)

abbrev pub dec_inner : Dec → ℕ
dec_inner d = inner_decs (plain_dec d no_decs)

inner_decs-plain_dec : (d : Dec) (rest : PlainDecs) → inner_decs (plain_dec d rest) ≡ dec_inner d + inner_decs rest
inner_decs-plain_dec (Types ds) rest = omega arith
inner_decs-plain_dec (Variable' x t s e) rest = omega arith
inner_decs-plain_dec (Functions fs) rest = omega arith

pub inner_exps-plain_exps : (es : Exps) → inner_exps (plain_exps es) ≡ sum_by exp_inner (out-Exps es).items.items
inner_exps-plain_exps es = ap inner_exps (plain_exps-items es) ∙ sum_of_items (λ xs. inner_exps (exps_of xs)) exp_inner refl (λ _ _. refl) _

pub inner_inits-plain_inits : (is : Inits) → inner_inits (plain_inits is) ≡ sum_by init_inner (out-Inits is).items.items
inner_inits-plain_inits is = ap inner_inits (plain_inits-items is) ∙ sum_of_items (λ xs. inner_inits (inits_of xs)) init_inner refl (λ _ _. refl) _

pub inner_functions-plain_functions : (fs : FunDecs) → inner_functions (plain_functions fs) ≡ sum_by function_inner (out-FunDecs fs).items.items
inner_functions-plain_functions fs =
    ap inner_functions (plain_functions-items fs) ∙ sum_of_items (λ xs. inner_functions (functions_of xs)) function_inner refl (λ _ _. refl) _

pub inner-Let : (decs : Decs) (es : Exps) (s : Span) → inner (plain_kind (Let decs es) s) ≡ sum_by dec_inner decs.items.items + inner_exps (plain_exps es)
inner-Let decs es s =
    ap inner (plain_kind-Let decs es s) ∙
    ap (λ k. k + inner_exps (plain_exps es))
    (sum_of_items (λ ds. inner_decs (decs_of ds)) dec_inner refl (λ d ds. inner_decs-plain_dec d (decs_of ds)) decs.items.items)
