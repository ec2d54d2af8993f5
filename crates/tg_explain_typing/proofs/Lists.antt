-- The facts of the code's lists, as folds over their items.
use Rattle.std.proofs.Common.{◌≡◌, ℕ, suc, zero, ◌+◌, ◌<◌, List, [], ◌∷◌, ◌++◌, length, take, drop, get_or, refl, sym, ap, ◌∙◌, arith}
use Rattle.tg_explain_typing.specs.declared.types.Ty.TheVariants.{Nothing}
use Rattle.std.proofs.Math.Seq.{take-length}
use Rattle.std.proofs.lemmas.List.{at_drop_more, at_drop_all}
use Rattle.std.specs.Prelude.{fold}
use Rattle.tg_base.specs.declared.ids.Span.{Span}
use Rattle.tg_syntax.specs.declared.tokens.Ident.{Ident}
use Rattle.tg_syntax.specs.declared.trees.Exp.{Exp}
use Rattle.tg_syntax.specs.declared.trees.Init.{Init}
use Rattle.tg_syntax.specs.declared.trees.FunDec.{FunDec}
use Rattle.tg_syntax.specs.declared.trees.Dec.{Dec, Types, Variable', Functions}
use Rattle.tg_syntax.specs.declared.trees.Decs.{Decs}
use Rattle.tg_syntax.specs.declared.trees.Kind.{Kind, Nil, If', None', Let}
use Rattle.tg_syntax.specs.declared.trees.Exps.{Exps, out-Exps}
use Rattle.tg_syntax.specs.declared.trees.Inits.{Inits, out-Inits}
use Rattle.tg_syntax.specs.declared.trees.FunDecs.{FunDecs, out-FunDecs}
use Rattle.tg_syntax.specs.Tree.{Decs as PlainDecs, no_decs, FunDecs as PlainFunDecs, function}
use Rattle.tg_syntax.specs.Spans.{span_of}
use Rattle.tg_syntax.specs.glue.Plain.{plain, plain_kind, plain_exps, plain_inits, plain_functions, plain_dec}
use Rattle.tg_syntax.specs.glue.Lists.{exps_of, inits_of, decs_of, functions_of}
use Rattle.tg_syntax.proofs.ListLaws.{plain_exps-items, plain_inits-items, plain_functions-items, plain_kind-Let}
use Rattle.tg_explain_typing.specs.declared.facts.Fact.{Fact}
use Rattle.tg_explain_typing.specs.declared.facts.Fact.TheVariants.{Given}
use Rattle.tg_explain_typing.specs.glue.Bodies.{body_facts, header_of, first_start}
use Rattle.tg_explain_typing.specs.Synthesis.{exp_type, last_type}
use Rattle.tg_explain_typing.specs.Facts.{exp_facts, exps_facts, args_facts, inits_facts, decs_facts, bodies_facts, headers_facts, given, passed, ended}
use Rattle.tg_explain_typing.specs.Facts.{opened_facts, functions_start}

abbrev pub with_exp : (text : List ℕ) (at : ℕ) → List Fact → Exp → List Fact
with_exp text at before e = exp_facts text at (plain e) before

abbrev pub with_init : (text : List ℕ) (at : ℕ) → Ident → List Fact → Init → List Fact
with_init text at x before i = given text at x i.field (plain i.value) (exp_facts text at (plain i.value) (before ++ Given x.span.from i.field ∷ []))

abbrev pub with_dec : (text : List ℕ) (at end : ℕ) → List Fact → Dec → List Fact
with_dec text at end before d = decs_facts text at (plain_dec d no_decs) end before

-- what goes over a list item by item is a fold over the items
pub is_fold : {A : Type 0} (of : List A → List Fact → List Fact) (step : List Fact → A → List Fact) → ((before : List Fact) → of [] before ≡ before) →
    ((x : A) (xs : List A) (before : List Fact) → of (x ∷ xs) before ≡ of xs (step before x)) → (xs : List A) (before : List Fact) →
    of xs before ≡ fold step before xs
is_fold of step none more [] before = none before
is_fold of step none more (x ∷ xs) before = more x xs before ∙ is_fold of step none more xs (step before x)

decs_more : (text : List ℕ) (at : ℕ) (d : Dec) (rest : PlainDecs) (end : ℕ) (before : List Fact) →
    decs_facts text at (plain_dec d rest) end before ≡ decs_facts text at rest end (with_dec text at end before d)
decs_more text at (Types ds) rest end before = refl
decs_more text at (Variable' x t s e) rest end before = refl
decs_more text at (Functions fs) rest end before = refl

pub exps_fold : (text : List ℕ) (at : ℕ) (es : Exps) (before : List Fact) →
    exps_facts text at (plain_exps es) before ≡ fold (with_exp text at) before (out-Exps es).items.items
exps_fold text at es before =
    ap (λ w. exps_facts text at w before) (plain_exps-items es)
    ∙ is_fold (λ xs. exps_facts text at (exps_of xs)) (with_exp text at) (λ _. refl) (λ _ _ _. refl) (out-Exps es).items.items before

pub inits_fold : (text : List ℕ) (at : ℕ) (x : Ident) (is : Inits) (before : List Fact) →
    inits_facts text at x (plain_inits is) before ≡ fold (with_init text at x) before (out-Inits is).items.items
inits_fold text at x is before =
    ap (λ w. inits_facts text at x w before) (plain_inits-items is)
    ∙ is_fold (λ xs. inits_facts text at x (inits_of xs)) (with_init text at x) (λ _. refl) (λ _ _ _. refl) (out-Inits is).items.items before

-- where an expression stands
pub kind_span : (k : Kind) (s : Span) → span_of (plain_kind k s) ≡ s
kind_span Nil s = refl
kind_span (If' _ _ _ _ _ _ None') s = refl
kind_span _ s = refl

body_more : (text : List ℕ) (at : ℕ) (f : FunDec) (rest : PlainFunDecs) (before : List Fact) →
    bodies_facts text at (function f.name f.params f.result (plain f.body) rest) before ≡ bodies_facts text at rest (body_facts text at f before)
body_more text at f rest before =
    ap (λ s. bodies_facts text at rest (ended text at f.result (plain f.body) (exp_facts text at (plain f.body) (opened_facts text f.name f.params s before))))
    (kind_span f.body.kind f.body.span)

pub bodies_fold : (text : List ℕ) (at : ℕ) (fs : FunDecs) (before : List Fact) →
    bodies_facts text at (plain_functions fs) before ≡ fold (λ w f. body_facts text at f w) before (out-FunDecs fs).items.items
bodies_fold text at fs before =
    ap (λ w. bodies_facts text at w before) (plain_functions-items fs)
    ∙ is_fold (λ xs. bodies_facts text at (functions_of xs)) (λ w f. body_facts text at f w) (λ _. refl)
    (λ f rest w. body_more text at f (functions_of rest) w) (out-FunDecs fs).items.items before

headers_items : (text : List ℕ) (fs : List FunDec) (seen : Span) (before : List Fact) →
    headers_facts text (functions_of fs) seen before ≡ fold (λ w f. header_of text f seen w) before fs
headers_items text fs seen before =
    is_fold (λ xs. headers_facts text (functions_of xs) seen) (λ w f. header_of text f seen w) (λ _. refl) (λ _ _ _. refl) fs before

pub headers_fold : (text : List ℕ) (fs : FunDecs) (seen : Span) (before : List Fact) →
    headers_facts text (plain_functions fs) seen before ≡ fold (λ w f. header_of text f seen w) before (out-FunDecs fs).items.items
headers_fold text fs seen before =
    ap (λ w. headers_facts text w seen before) (plain_functions-items fs) ∙ headers_items text (out-FunDecs fs).items.items seen before

pub decs_fold : (text : List ℕ) (at : ℕ) (ds : List Dec) (end : ℕ) (before : List Fact) →
    decs_facts text at (decs_of ds) end before ≡ fold (with_dec text at end) before ds
decs_fold text at ds end before =
    is_fold (λ xs. decs_facts text at (decs_of xs) end) (with_dec text at end) (λ _. refl) (λ d xs w. decs_more text at d (decs_of xs) end w) ds before

-- the whole list, once its end is reached
pub fold_end : {A : Type 0} (step : List Fact → A → List Fact) (xs : List A) (i : ℕ) (before all : List Fact) → all ≡ fold step before (take i xs) →
    i ≡ length xs → all ≡ fold step before xs
fold_end step xs i before all inv e = inv ∙ ap (λ k. fold step before (take k xs)) e ∙ ap (fold step before) (take-length xs)

-- one argument more
pub args_step : (text : List ℕ) (at : ℕ) (f : Ident) (xs : List Exp) (i : ℕ) (d : Exp) (all : List Fact) → i < length xs →
    args_facts text at f i (exps_of (drop i xs)) all
    ≡ args_facts text at f (suc i) (exps_of (drop (i + 1) xs)) (passed text at f i (plain (get_or xs i d)) (exp_facts text at (plain (get_or xs i d)) all))
args_step text at f xs i d all h = at_drop_more (λ ys. args_facts text at f i (exps_of ys) all) xs i d h

-- the last of a list
pub last_step : (text : List ℕ) (facts : List Fact) (xs : List Exp) (i : ℕ) → i + 1 < length xs →
    last_type text facts (exps_of (drop (i + 1) xs)) ≡ last_type text facts (exps_of (drop i xs))
last_step text facts [] i h = absurd (omega arith)
last_step text facts (x ∷ []) i h = absurd (omega arith)
last_step text facts (x ∷ y ∷ ys) zero h = refl
last_step text facts (x ∷ y ∷ ys) (suc i) h =
    let e : suc i + 1 ≡ suc (i + 1) = omega arith in
    ap (λ k. last_type text facts (exps_of (drop k (x ∷ y ∷ ys)))) e ∙ last_step text facts (y ∷ ys) i (omega arith)

pub last_one : (text : List ℕ) (facts : List Fact) (xs : List Exp) (i : ℕ) (d : Exp) → i + 1 ≡ length xs →
    exp_type text facts (plain (get_or xs i d)) ≡ last_type text facts (exps_of (drop i xs))
last_one text facts [] i d h = absurd (omega arith)
last_one text facts (x ∷ []) zero d h = refl
last_one text facts (x ∷ []) (suc i) d h = absurd (omega arith)
last_one text facts (x ∷ y ∷ ys) zero d h = absurd (omega arith)
last_one text facts (x ∷ y ∷ ys) (suc i) d h = last_one text facts (y ∷ ys) i d (omega arith)

pub last_end : (text : List ℕ) (facts : List Fact) (xs : List Exp) (i : ℕ) → i ≡ length xs → Nothing ≡ last_type text facts (exps_of (drop i xs))
last_end text facts xs i e = sym (at_drop_all (λ ys. last_type text facts (exps_of ys)) xs i (omega arith))

pub last_of_items : (text : List ℕ) (facts : List Fact) (es : Exps) (xs : List Exp) → xs ≡ (out-Exps es).items.items →
    last_type text facts (exps_of xs) ≡ last_type text facts (plain_exps es)
last_of_items text facts es xs e = ap (λ w. last_type text facts (exps_of w)) e ∙ sym (ap (last_type text facts) (plain_exps-items es))

-- the first name of a group
start_items : (fs : List FunDec) → functions_start (functions_of fs) ≡ first_start fs
start_items [] = refl
start_items (f ∷ fs) = refl

pub start_is : (fs : FunDecs) → functions_start (plain_functions fs) ≡ first_start (out-FunDecs fs).items.items
start_is fs = ap functions_start (plain_functions-items fs) ∙ start_items (out-FunDecs fs).items.items

-- a `let`
pub let_facts : (text : List ℕ) (at : ℕ) (k : Kind) (ds : Decs) (es : Exps) (s : Span) (before pushed : List Fact) → k ≡ Let ds es →
    pushed ≡ decs_facts text at (decs_of ds.items.items) s.to before → exps_facts text at (plain_exps es) pushed ≡ exp_facts text at (plain_kind k s) before
let_facts text at k ds es s before pushed e p =
    ap (exps_facts text at (plain_exps es)) p ∙ sym (ap (λ x. exp_facts text at x before) (ap (λ x. plain_kind x s) e ∙ plain_kind-Let ds es s))
