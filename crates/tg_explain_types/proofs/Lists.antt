-- The parts of the code's lists, as folds over their items.
use Rattle.std.proofs.Common.{◌≡◌, ℕ, suc, List, [], ◌∷◌, ◌++◌, map, length, take, refl, sym, ap, ◌∙◌}
use Rattle.std.proofs.Math.Seq.{take-length}
use Rattle.std.specs.Prelude.{fold}
use Rattle.tg_base.specs.declared.ids.Span.{Span}
use Rattle.tg_syntax.specs.declared.trees.Exp.{Exp}
use Rattle.tg_syntax.specs.declared.trees.Init.{Init}
use Rattle.tg_syntax.specs.declared.trees.FunDec.{FunDec}
use Rattle.tg_syntax.specs.declared.trees.TypeDec.{TypeDec}
use Rattle.tg_syntax.specs.declared.trees.Dec.{Dec, Types, Variable', Functions}
use Rattle.tg_syntax.specs.declared.trees.Decs.{Decs}
use Rattle.tg_syntax.specs.declared.trees.Kind.{Kind, Nil, If', None', Let, Call}
use Rattle.tg_syntax.specs.declared.trees.Exps.{Exps, out-Exps}
use Rattle.tg_syntax.specs.declared.trees.Inits.{Inits, out-Inits}
use Rattle.tg_syntax.specs.declared.trees.FunDecs.{FunDecs, out-FunDecs}
use Rattle.tg_syntax.specs.Tree.{Decs as PlainDecs, no_decs, FunDecs as PlainFunDecs, function}
use Rattle.tg_syntax.specs.Spans.{span_of}
use Rattle.tg_syntax.specs.declared.tokens.Ident.{Ident}
use Rattle.tg_syntax.specs.glue.Plain.{plain, plain_kind, plain_exps, plain_inits, plain_functions, plain_dec, plain_type}
use Rattle.tg_syntax.specs.glue.Lists.{exps_of, inits_of, decs_of, functions_of}
use Rattle.tg_syntax.proofs.ListLaws.{plain_exps-items, plain_inits-items, plain_functions-items, plain_kind-Let}
use Rattle.tg_explain_types.specs.declared.declarations.Sort.TheVariants.{Function, TypeName}
use Rattle.tg_explain_types.specs.declared.declarations.Part.{Part}
use Rattle.tg_explain_types.specs.declared.declarations.Part.TheVariants.{Called}
use Rattle.tg_explain_types.specs.glue.Starts.{first_start}
use Rattle.tg_explain_types.specs.Parts.{exp_parts, exps_parts, inits_parts, decs_parts, bodies_parts, named_parts, param_parts, declared}
use Rattle.tg_explain_types.specs.Parts.{expression_count, functions_start, types_start, type_parts, between}

abbrev pub with_exp : List Part → Exp → List Part
with_exp before e = exp_parts (plain e) before

abbrev pub with_init : List Part → Init → List Part
with_init before i = exp_parts (plain i.value) before

abbrev pub with_dec : ℕ → List Part → Dec → List Part
with_dec end before d = decs_parts (plain_dec d no_decs) end before

abbrev pub with_body : List Part → FunDec → List Part
with_body before f = exp_parts (plain f.body) (before ++ param_parts f.params f.body.span)

abbrev pub with_name : Span → List Part → FunDec → List Part
with_name seen before f = before ++ declared f.name (Function (length f.params)) seen ∷ []

-- what goes over a list item by item is a fold over the items
pub is_fold : {A : Type 0} (of : List A → List Part → List Part) (step : List Part → A → List Part) → ((before : List Part) → of [] before ≡ before) →
    ((x : A) (xs : List A) (before : List Part) → of (x ∷ xs) before ≡ of xs (step before x)) → (xs : List A) (before : List Part) →
    of xs before ≡ fold step before xs
is_fold of step none more [] before = none before
is_fold of step none more (x ∷ xs) before = more x xs before ∙ is_fold of step none more xs (step before x)

decs_more : (d : Dec) (rest : PlainDecs) (end : ℕ) (before : List Part) → decs_parts (plain_dec d rest) end before ≡ decs_parts rest end (with_dec end before d)
decs_more (Types ds) rest end before = refl
decs_more (Variable' x t s e) rest end before = refl
decs_more (Functions fs) rest end before = refl

pub exps_fold : (es : Exps) (before : List Part) → exps_parts (plain_exps es) before ≡ fold with_exp before (out-Exps es).items.items
exps_fold es before = ap (λ w. exps_parts w before) (plain_exps-items es) ∙ is_fold (λ xs. exps_parts (exps_of xs)) with_exp (λ _. refl) (λ _ _ _. refl) (out-Exps es).items.items before

pub inits_fold : (is : Inits) (before : List Part) → inits_parts (plain_inits is) before ≡ fold with_init before (out-Inits is).items.items
inits_fold is before =
    ap (λ w. inits_parts w before) (plain_inits-items is) ∙ is_fold (λ xs. inits_parts (inits_of xs)) with_init (λ _. refl) (λ _ _ _. refl) (out-Inits is).items.items before

-- where an expression stands
kind_span : (k : Kind) (s : Span) → span_of (plain_kind k s) ≡ s
kind_span Nil s = refl
kind_span (If' _ _ _ _ _ _ None') s = refl
kind_span _ s = refl

body_more : (f : FunDec) (rest : PlainFunDecs) (before : List Part) →
    bodies_parts (function f.name f.params f.result (plain f.body) rest) before ≡ bodies_parts rest (with_body before f)
body_more f rest before =
    ap (λ s. bodies_parts rest (exp_parts (plain f.body) (before ++ param_parts f.params s))) (kind_span f.body.kind f.body.span)

pub bodies_fold : (fs : FunDecs) (before : List Part) → bodies_parts (plain_functions fs) before ≡ fold with_body before (out-FunDecs fs).items.items
bodies_fold fs before =
    ap (λ w. bodies_parts w before) (plain_functions-items fs)
    ∙ is_fold (λ xs. bodies_parts (functions_of xs)) with_body (λ _. refl) (λ f rest w. body_more f (functions_of rest) w) (out-FunDecs fs).items.items before

pub names_fold : (fs : FunDecs) (seen : Span) (before : List Part) →
    named_parts (plain_functions fs) seen before ≡ fold (with_name seen) before (out-FunDecs fs).items.items
names_fold fs seen before =
    ap (λ w. named_parts w seen before) (plain_functions-items fs)
    ∙ is_fold (λ xs. named_parts (functions_of xs) seen) (with_name seen) (λ _. refl) (λ _ _ _. refl) (out-FunDecs fs).items.items before

pub decs_fold : (ds : List Dec) (end : ℕ) (before : List Part) → decs_parts (decs_of ds) end before ≡ fold (with_dec end) before ds
decs_fold ds end before = is_fold (λ xs. decs_parts (decs_of xs) end) (with_dec end) (λ _. refl) (λ d xs w. decs_more d (decs_of xs) end w) ds before

-- the whole list, once its end is reached
pub fold_end : {A : Type 0} (step : List Part → A → List Part) (xs : List A) (i : ℕ) (before all : List Part) → all ≡ fold step before (take i xs) →
    i ≡ length xs → all ≡ fold step before xs
fold_end step xs i before all inv e = inv ∙ ap (λ k. fold step before (take k xs)) e ∙ ap (fold step before) (take-length xs)

-- arguments are counted by their items
count_items : (es : List Exp) → expression_count (exps_of es) ≡ length es
count_items [] = refl
count_items (e ∷ es) = ap suc (count_items es)

pub count_is : (es : Exps) → expression_count (plain_exps es) ≡ length (out-Exps es).items.items
count_is es = ap expression_count (plain_exps-items es) ∙ count_items (out-Exps es).items.items

-- the first name of a group
start_items : (fs : List FunDec) → functions_start (functions_of fs) ≡ first_start fs
start_items [] = refl
start_items (f ∷ fs) = refl

pub start_is : (fs : FunDecs) → functions_start (plain_functions fs) ≡ first_start (out-FunDecs fs).items.items
start_is fs = ap functions_start (plain_functions-items fs) ∙ start_items (out-FunDecs fs).items.items

-- a call, and a `let`
pub call_parts : (k : Kind) (name : Ident) (args : Exps) (s : Span) (n : ℕ) (before pushed : List Part) → k ≡ Call name args → n ≡ expression_count (plain_exps args) →
    pushed ≡ before ++ Called name n ∷ [] → exps_parts (plain_exps args) pushed ≡ exp_parts (plain_kind k s) before
call_parts k name args s n before pushed e c p =
    ap (exps_parts (plain_exps args)) (p ∙ ap (λ m. before ++ Called name m ∷ []) c) ∙ sym (ap (λ x. exp_parts (plain_kind x s) before) e)

pub let_parts : (k : Kind) (ds : Decs) (es : Exps) (s : Span) (before pushed : List Part) → k ≡ Let ds es → pushed ≡ decs_parts (decs_of ds.items.items) s.to before →
    exps_parts (plain_exps es) pushed ≡ exp_parts (plain_kind k s) before
let_parts k ds es s before pushed e p =
    ap (exps_parts (plain_exps es)) p ∙ sym (ap (λ x. exp_parts x before) (ap (λ x. plain_kind x s) e ∙ plain_kind-Let ds es s))

-- a group of types
abbrev pub type_part : Span → TypeDec → Part
type_part seen d = declared d.name TypeName seen

types_items : (ds : List TypeDec) (seen : Span) → map (type_part seen) ds ≡ type_parts (map plain_type ds) seen
types_items [] seen = refl
types_items (d ∷ ds) seen = ap (λ w. type_part seen d ∷ w) (types_items ds seen)

pub types_end : (ds : List TypeDec) (i from end : ℕ) (before all : List Part) → all ≡ before ++ map (type_part (between from end)) (take i ds) →
    i ≡ length ds → from ≡ types_start (map plain_type ds) →
    all ≡ before ++ type_parts (map plain_type ds) (between (types_start (map plain_type ds)) end)
types_end ds i from end before all inv e f =
    inv ∙ ap (λ k. before ++ map (type_part (between from end)) (take k ds)) e ∙ ap (λ w. before ++ map (type_part (between from end)) w) (take-length ds)
    ∙ ap (λ w. before ++ w) (types_items ds (between from end)) ∙ ap (λ n. before ++ type_parts (map plain_type ds) (between n end)) f
