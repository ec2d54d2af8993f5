-- Lists of the code's trees are no deeper than a number if each of their items is none.
use Rattle.std.proofs.Common.{◌≡◌, ℕ, ◌+◌, ◌-◌, ◌≤◌, max, List, [], ◌∷◌, sum_by, refl, ap, ◌∙◌, arith}
use Rattle.std.proofs.lemmas.List.Sums.{sum_by-cons}
use Rattle.tg_base.specs.declared.ids.Span.{Span}
use Rattle.tg_syntax.specs.declared.trees.Exp.{Exp}
use Rattle.tg_syntax.specs.declared.trees.Init.{Init}
use Rattle.tg_syntax.specs.declared.trees.FunDec.{FunDec}
use Rattle.tg_syntax.specs.declared.trees.Dec.{Dec, Types, Variable', Functions}
use Rattle.tg_syntax.specs.declared.trees.Decs.{Decs}
use Rattle.tg_syntax.specs.declared.trees.Kind.{Let}
use Rattle.tg_syntax.specs.declared.trees.Exps.{Exps, out-Exps}
use Rattle.tg_syntax.specs.declared.trees.Inits.{Inits, out-Inits}
use Rattle.tg_syntax.specs.declared.trees.FunDecs.{FunDecs, out-FunDecs}
use Rattle.tg_syntax.specs.Tree.{Decs as PlainDecs, no_decs}
use Rattle.tg_syntax.specs.glue.Plain.{plain, plain_kind, plain_exps, plain_inits, plain_functions, plain_dec}
use Rattle.tg_syntax.specs.glue.Lists.{exps_of, inits_of, decs_of, functions_of}
use Rattle.tg_syntax.proofs.ListLaws.{plain_exps-items, plain_inits-items, plain_functions-items, plain_kind-Let}
use Rattle.tg_parser.specs.Depth.{depth, exps_depth, inits_depth, decs_depth, functions_depth}

-- how much deeper an item is than a number
abbrev pub exp_excess : ℕ → Exp → ℕ
exp_excess n e = depth (plain e) - n

abbrev pub init_excess : ℕ → Init → ℕ
init_excess n i = depth (plain i.value) - n

abbrev pub function_excess : ℕ → FunDec → ℕ
function_excess n f = depth (plain f.body) - n

abbrev pub dec_excess : ℕ → Dec → ℕ
dec_excess n d = decs_depth (plain_dec d no_decs) - n

-- what is as deep as the deepest item is within a number that no item exceeds
within_items : {A : Type 0} (n : ℕ) (of : List A → ℕ) (one : A → ℕ) → of [] ≡ 0 → ((x : A) (xs : List A) → of (x ∷ xs) ≡ max (one x) (of xs)) →
    (xs : List A) → sum_by (λ x. one x - n) xs ≡ 0 → of xs ≤ n
within_items n of one none more [] z = omega (arith, none)
within_items n of one none more (x ∷ xs) z =
    let e = sum_by-cons (λ x. one x - n) x xs in
    omega (arith, more x xs, e, z, within_items n of one none more xs (omega (arith, e, z)))

decs_depth-plain_dec : (d : Dec) (rest : PlainDecs) → decs_depth (plain_dec d rest) ≡ max (decs_depth (plain_dec d no_decs)) (decs_depth rest)
decs_depth-plain_dec (Types ds) rest = omega arith
decs_depth-plain_dec (Variable' x t s e) rest = omega arith
decs_depth-plain_dec (Functions fs) rest = omega arith

pub exps_within : (es : Exps) (n : ℕ) → sum_by (exp_excess n) (out-Exps es).items.items ≡ 0 → exps_depth (plain_exps es) ≤ n
exps_within es n z =
    omega (arith, ap exps_depth (plain_exps-items es), within_items n (λ xs. exps_depth (exps_of xs)) (λ e. depth (plain e)) refl (λ _ _. refl) (out-Exps es).items.items z)

pub inits_within : (is : Inits) (n : ℕ) → sum_by (init_excess n) (out-Inits is).items.items ≡ 0 → inits_depth (plain_inits is) ≤ n
inits_within is n z =
    omega (arith, ap inits_depth (plain_inits-items is), within_items n (λ xs. inits_depth (inits_of xs)) (λ i. depth (plain i.value)) refl (λ _ _. refl) (out-Inits is).items.items z)

pub functions_within : (fs : FunDecs) (n : ℕ) → sum_by (function_excess n) (out-FunDecs fs).items.items ≡ 0 → functions_depth (plain_functions fs) ≤ n
functions_within fs n z =
    omega (
      arith,
      ap functions_depth (plain_functions-items fs),
      within_items n (λ xs. functions_depth (functions_of xs)) (λ f. depth (plain f.body)) refl (λ _ _. refl) (out-FunDecs fs).items.items z,
    )

-- declarations and what sees them
pub let_within : (decs : Decs) (es : Exps) (s : Span) (n : ℕ) → sum_by (dec_excess n) decs.items.items ≡ 0 → exps_depth (plain_exps es) ≤ n →
    depth (plain_kind (Let decs es) s) ≤ n + 1
let_within decs es s n z l =
    omega (
      arith,
      ap depth (plain_kind-Let decs es s),
      l,
      within_items n (λ ds. decs_depth (decs_of ds)) (λ d. decs_depth (plain_dec d no_decs)) refl (λ d ds. decs_depth-plain_dec d (decs_of ds)) decs.items.items z,
    )
