-- The nodes of the code's lists, as sums over their items.
use Rattle.std.proofs.Common.{◌≡◌, ℕ, ◌+◌, List, [], ◌∷◌, map, sum_by, refl, ap, ◌∙◌, length, arith}
use Rattle.std.proofs.lemmas.List.Sums.{sum_by-cons}
use Rattle.tg_base.specs.declared.ids.Span.{Span}
use Rattle.tg_syntax.specs.declared.trees.Exp.{Exp}
use Rattle.tg_syntax.specs.declared.trees.Init.{Init}
use Rattle.tg_syntax.specs.declared.trees.FunDec.{FunDec}
use Rattle.tg_syntax.specs.declared.trees.Dec.{Dec, Types, Variable', Functions}
use Rattle.tg_syntax.specs.declared.trees.Decs.{Decs}
use Rattle.tg_syntax.specs.declared.trees.Kind.{Let}
use Rattle.tg_syntax.specs.declared.trees.Exps.{Exps, out-Exps}
use Rattle.tg_syntax.specs.declared.trees.Inits.{Inits, out-Inits}
use Rattle.tg_syntax.specs.declared.trees.FunDecs.{FunDecs, out-FunDecs}
use Rattle.tg_syntax.specs.Tree.{Decs as PlainDecs, no_decs}
use Rattle.tg_syntax.specs.glue.Plain.{plain, plain_kind, plain_exps, plain_inits, plain_functions, plain_dec}
use Rattle.tg_syntax.specs.glue.Lists.{exps_of, inits_of, decs_of, functions_of}
use Rattle.tg_syntax.specs.Measures.{size, exps_size, inits_size, functions_size, decs_size}
use Rattle.tg_syntax.proofs.ListLaws.{plain_exps-items, plain_inits-items, plain_functions-items, plain_kind-Let}

abbrev pub exp_size : Exp → ℕ
exp_size e = size (plain e)

abbrev pub init_size : Init → ℕ
init_size i = 1 + size (plain i.value)

abbrev pub function_size : FunDec → ℕ
function_size f = 1 + length f.params

abbrev pub dec_size : Dec → ℕ
dec_size d = decs_size (plain_dec d no_decs)

-- what is 0 of no items, and of more the first's and that of the rest, is a sum over the items
pub sum_of_items : {A : Type 0} (of : List A → ℕ) (one : A → ℕ) → of [] ≡ 0 → ((x : A) (xs : List A) → of (x ∷ xs) ≡ one x + of xs) →
    (xs : List A) → of xs ≡ sum_by one xs
sum_of_items of one none more [] = none
sum_of_items of one none more (x ∷ xs) = rw sum_by-cons (more x xs ∙ ap (λ k. one x + k) (sum_of_items of one none more xs))

decs_size-plain_dec : (d : Dec) (rest : PlainDecs) → decs_size (plain_dec d rest) ≡ dec_size d + decs_size rest
decs_size-plain_dec (Types ds) rest = omega arith
decs_size-plain_dec (Variable' x t s e) rest = omega arith
decs_size-plain_dec (Functions fs) rest = omega arith

pub exps_size-plain_exps : (es : Exps) → exps_size (plain_exps es) ≡ sum_by exp_size (out-Exps es).items.items
exps_size-plain_exps es = ap exps_size (plain_exps-items es) ∙ sum_of_items (λ xs. exps_size (exps_of xs)) exp_size refl (λ _ _. refl) _

pub inits_size-plain_inits : (is : Inits) → inits_size (plain_inits is) ≡ sum_by init_size (out-Inits is).items.items
inits_size-plain_inits is = ap inits_size (plain_inits-items is) ∙ sum_of_items (λ xs. inits_size (inits_of xs)) init_size refl (λ _ _. refl) _

pub functions_size-plain_functions : (fs : FunDecs) → functions_size (plain_functions fs) ≡ sum_by function_size (out-FunDecs fs).items.items
functions_size-plain_functions fs =
    ap functions_size (plain_functions-items fs) ∙ sum_of_items (λ xs. functions_size (functions_of xs)) function_size refl (λ _ _. refl) _

pub size-Let : (decs : Decs) (es : Exps) (s : Span) → size (plain_kind (Let decs es) s) ≡ 1 + sum_by dec_size decs.items.items + exps_size (plain_exps es)
size-Let decs es s =
    ap size (plain_kind-Let decs es s) ∙
    ap (λ k. 1 + k + exps_size (plain_exps es))
    (sum_of_items (λ ds. decs_size (decs_of ds)) dec_size refl (λ d ds. decs_size-plain_dec d (decs_of ds)) decs.items.items)

-- a sum over the types, each made plain
pub sum_by-map : {A B : Type 0} (f : B → ℕ) (g : A → B) (xs : List A) → sum_by f (map g xs) ≡ sum_by (λ x. f (g x)) xs
sum_by-map f g xs = sum_of_items (λ ys. sum_by f (map g ys)) (λ x. f (g x)) refl (λ y ys. sum_by-cons f (g y) (map g ys)) xs
