-- The first function above a limit, in lists one after another.
use Rattle.std.specs.Prelude.{Option, Some, None, is_some, nat_lt, if◌then◌else◌}
use Rattle.std.proofs.Common.{◌≡◌, ℕ, suc, ◌+◌, ◌<◌, List, [], ◌∷◌, ◌++◌, length, drop, get_or, Bool, true, false, refl, sym, ap, ◌∙◌, arith}
use Rattle.std.proofs.lemmas.List.{append-nil}
use Rattle.tg_syntax.specs.declared.trees.Exp.{Exp as CodeExp}
use Rattle.tg_syntax.specs.declared.trees.Init.{Init as CodeInit}
use Rattle.tg_syntax.specs.declared.trees.Dec.{Dec as CodeDec, Types, Variable', Functions}
use Rattle.tg_syntax.specs.declared.trees.FunDec.{FunDec as CodeFunDec}
use Rattle.tg_syntax.specs.declared.trees.Exps.{Exps as CodeExps, out-Exps}
use Rattle.tg_syntax.specs.declared.trees.Inits.{Inits as CodeInits, out-Inits}
use Rattle.tg_syntax.specs.declared.trees.FunDecs.{FunDecs as CodeFunDecs, out-FunDecs}
use Rattle.tg_syntax.specs.declared.tokens.Ident.{Ident}
use Rattle.tg_syntax.specs.Measures.{size}
use Rattle.tg_syntax.specs.Tree.{Exp, Exps, Decs, no_decs, FunDecs}
use Rattle.tg_syntax.specs.glue.Plain.{plain, plain_kind, plain_exps, plain_inits, plain_functions, plain_dec}
use Rattle.tg_syntax.proofs.ListLaws.{plain_exps-items, plain_inits-items, plain_functions-items}
use Rattle.tg_syntax.specs.glue.Lists.{exps_of, inits_of, decs_of, functions_of}
use Rattle.tg_typecheck.specs.declared.faults.TypeRule.{TypeRule}
use Rattle.tg_typecheck.specs.declared.faults.TypeRule.TheVariants.{T20, T21}
use Rattle.tg_typecheck.specs.declared.limits.Limit.{Limit}
use Rattle.tg_typecheck.specs.glue.Faults.{rule_and_byte}
use Rattle.tg_syntax.specs.Functions.{Measures, Levels, measures, own, own_params, own_functions, own_decs, declared, declared_exps, declared_inits}
use Rattle.tg_syntax.specs.Functions.{declared_decs, declared_functions}
use Rattle.tg_syntax.proofs.FunctionLaws.{texts, same_texts, same_exps_texts, same_decs_texts, same_functions_texts}
use Rattle.tg_typecheck.specs.Limits.{above, first_above}
use Rattle.tg_typecheck.proofs.TreeSteps.{from_here, none_left}

abbrev pub or_else : Option (TypeRule × ℕ) → Option (TypeRule × ℕ) → Option (TypeRule × ℕ)
or_else (Some f) o = Some f
or_else None o = o

either : (b : Bool) (f : TypeRule × ℕ) (x y : Option (TypeRule × ℕ)) → (if b then Some f else or_else x y) ≡ or_else (if b then Some f else x) y
either true f x y = refl
either false f x y = refl

append : (a b : List Measures) → first_above (a ++ b) ≡ or_else (first_above a) (first_above b)
append [] b = refl
append (f ∷ a) b =
    ap (λ o. above T20 f.at f.level 32 (above T21 f.at f.size 4096 o)) (append a b)
    ∙ (ap (λ o. above T20 f.at f.level 32 o) (either (nat_lt 4096 f.size) (T21, f.at) (first_above a) (first_above b)) ∙ either (nat_lt 32 f.level)
    (T20, f.at) (above T21 f.at f.size 4096 (first_above a)) (first_above b))

-- the names that are seen change no limit
over_texts : (fs : List Measures) → first_above (texts fs) ≡ first_above fs
over_texts [] = refl
over_texts (f ∷ fs) = ap (λ o. above T20 f.at f.level 32 (above T21 f.at f.size 4096 o)) (over_texts fs)

alike : (a b : List Measures) → texts a ≡ texts b → first_above a ≡ first_above b
alike a b e = sym (over_texts a) ∙ (ap first_above e ∙ over_texts b)

pub unseen : (n : ℕ) (seen : Levels) (e : Exp) → first_above (declared n seen e) ≡ first_above (declared n [] e)
unseen n seen e = alike _ _ (same_texts n seen [] e)

pub unseen_exps : (n : ℕ) (seen : Levels) (es : Exps) → first_above (declared_exps n seen es) ≡ first_above (declared_exps n [] es)
unseen_exps n seen es = alike _ _ (same_exps_texts n seen [] es)

unseen_decs : (n : ℕ) (seen : Levels) (ds : Decs) → first_above (declared_decs n seen ds) ≡ first_above (declared_decs n [] ds)
unseen_decs n seen ds = alike _ _ (same_decs_texts n seen [] ds)

unseen_functions : (n : ℕ) (seen : Levels) (fs : FunDecs) → first_above (declared_functions n seen fs) ≡ first_above (declared_functions n [] fs)
unseen_functions n seen fs = alike _ _ (same_functions_texts n seen [] fs)

-- a limit in the first list, or else in the second
pub in_first : {l : Limit} (a : List Measures) (b : List Measures) → rule_and_byte (Some l) ≡ first_above a → rule_and_byte (Some l) ≡ first_above (a ++ b)
in_first a b e = ap (λ o. or_else o (first_above b)) e ∙ sym (append a b)

pub in_second : (o : Option Limit) (a : List Measures) (b : List Measures) → rule_and_byte None ≡ first_above a → rule_and_byte o ≡ first_above b →
    rule_and_byte o ≡ first_above (a ++ b)
in_second _ a b e d = d ∙ (ap (λ o. or_else o (first_above b)) e ∙ sym (append a b))

-- the first of a list's parts that has a limit
abbrev pub first_in : {X : Type 0} → (X → Option (TypeRule × ℕ)) → List X → Option (TypeRule × ℕ)
first_in f [] = None
first_in f (x ∷ xs) = or_else (f x) (first_in f xs)

-- what is left of a list, where nothing before is above a limit
pub none_here : {X : Type 0} (f : X → Option (TypeRule × ℕ)) (xs : List X) (k : ℕ) (x : X) (o : Option Limit) → first_in f xs ≡ first_in f (drop k xs) →
    k < length xs → x ≡ get_or xs k x → is_some o ≡ false → rule_and_byte o ≡ f x → first_in f xs ≡ first_in f (drop (k + 1) xs)
none_here f xs k x (Some m) h l i s e = absurd (cc)
none_here f xs k x None h l i s e = h ∙ (ap (λ ys. first_in f ys) (from_here xs k x l i) ∙ ap (λ o. or_else o (first_in f (drop (k + 1) xs))) (sym e))

pub one_here : {X : Type 0} (f : X → Option (TypeRule × ℕ)) (xs : List X) (k : ℕ) (x : X) (o : Option Limit) → first_in f xs ≡ first_in f (drop k xs) →
    k < length xs → x ≡ get_or xs k x → is_some o ≡ true → rule_and_byte o ≡ f x → rule_and_byte o ≡ first_in f xs
one_here f xs k x None h l i s e = absurd (cc)
one_here f xs k x (Some m) h l i s e = ap (λ o. or_else o (first_in f (drop (k + 1) xs))) e ∙ (ap (λ ys. first_in f ys) (sym (from_here xs k x l i)) ∙ sym h)

pub none_in : {X : Type 0} (f : X → Option (TypeRule × ℕ)) (xs : List X) (k : ℕ) → first_in f xs ≡ first_in f (drop k xs) → k ≡ length xs →
    rule_and_byte None ≡ first_in f xs
none_in f xs k h e = sym (h ∙ ap (λ ys. first_in f ys) (none_left xs k e))

-- the lists of a tree
abbrev pub exp_limit : ℕ → CodeExp → Option (TypeRule × ℕ)
exp_limit n e = first_above (declared n [] (plain e))

abbrev pub init_limit : ℕ → CodeInit → Option (TypeRule × ℕ)
init_limit n i = first_above (declared n [] (plain i.value))

abbrev pub dec_limit : ℕ → CodeDec → Option (TypeRule × ℕ)
dec_limit n d = first_above (declared_decs n [] (plain_dec d no_decs))

abbrev pub limit_at_level : ℕ → CodeFunDec → Option (TypeRule × ℕ)
limit_at_level m f = above T20 f.name.span.from m 32 (above T21 f.name.span.from (size (plain f.body)) 4096 (first_above (declared m [] (plain f.body))))

abbrev pub function_limit : ℕ → CodeFunDec → Option (TypeRule × ℕ)
function_limit n f = limit_at_level (suc n) f

pub one_level_up : (n : ℕ) (f : CodeFunDec) → limit_at_level (n + 1) f ≡ function_limit n f
one_level_up n f =
    let e : n + 1 ≡ suc n = omega arith in
    ap (λ m. limit_at_level m f) e

exps_in : (n : ℕ) (es : List CodeExp) → first_above (declared_exps n [] (exps_of es)) ≡ first_in (exp_limit n) es
exps_in n [] = refl
exps_in n (e ∷ es) = append (declared n [] (plain e)) (declared_exps n [] (exps_of es)) ∙ ap (λ o. or_else (exp_limit n e) o) (exps_in n es)

pub exps_are : (n : ℕ) (es : CodeExps) → first_above (declared_exps n [] (plain_exps es)) ≡ first_in (exp_limit n) (out-Exps es).items.items
exps_are n es = ap (λ x. first_above (declared_exps n [] x)) (plain_exps-items es) ∙ exps_in n (out-Exps es).items.items

inits_in : (n : ℕ) (is : List CodeInit) → first_above (declared_inits n [] (inits_of is)) ≡ first_in (init_limit n) is
inits_in n [] = refl
inits_in n (i ∷ is) = append (declared n [] (plain i.value)) (declared_inits n [] (inits_of is)) ∙ ap (λ o. or_else (init_limit n i) o) (inits_in n is)

pub inits_are : (n : ℕ) (is : CodeInits) → first_above (declared_inits n [] (plain_inits is)) ≡ first_in (init_limit n) (out-Inits is).items.items
inits_are n is = ap (λ x. first_above (declared_inits n [] x)) (plain_inits-items is) ∙ inits_in n (out-Inits is).items.items

behind : (a : List Measures) (b : List Measures) → first_above (a ++ b) ≡ or_else (first_above (a ++ [])) (first_above b)
behind a b = append a b ∙ ap (λ x. or_else (first_above x) (first_above b)) (sym (append-nil a))

dec_first : (n : ℕ) (d : CodeDec) (rest : Decs) → first_above (declared_decs n [] (plain_dec d rest)) ≡ or_else (dec_limit n d)
    (first_above (declared_decs n [] rest))
dec_first n (Types ds) rest = refl
dec_first n (Variable' x t s e) rest =
    behind (declared n [] (plain_kind e s)) (declared_decs n (own n x []) rest) ∙ ap (λ o. or_else (first_above (declared n [] (plain_kind e s) ++ [])) o)
    (unseen_decs n (own n x []) rest)
dec_first n (Functions fs) rest =
    let seen : Levels = own_functions n (plain_functions fs) [] in
    behind (declared_functions n seen (plain_functions fs)) (declared_decs n seen rest) ∙ ap
    (λ o. or_else (first_above (declared_functions n seen (plain_functions fs) ++ [])) o) (unseen_decs n seen rest)

pub decs_are : (n : ℕ) (ds : List CodeDec) → first_above (declared_decs n [] (decs_of ds)) ≡ first_in (dec_limit n) ds
decs_are n [] = refl
decs_are n (d ∷ ds) = dec_first n d (decs_of ds) ∙ ap (λ o. or_else (dec_limit n d) o) (decs_are n ds)

abbrev own_limit : ℕ → CodeFunDec → Option (TypeRule × ℕ) → Option (TypeRule × ℕ)
own_limit n f o = above T20 f.name.span.from (suc n) 32 (above T21 f.name.span.from (size (plain f.body)) 4096 o)

functions_in : (n : ℕ) (fs : List CodeFunDec) → first_above (declared_functions n [] (functions_of fs)) ≡ first_in (function_limit n) fs
functions_in n [] = refl
functions_in n (f ∷ fs) =
    let seen : Levels = own_params (suc n) f.params [] in
    append (measures f.name.span.from (suc n) [] f.params (plain f.body) ∷ declared (suc n) seen (plain f.body)) (declared_functions n [] (functions_of fs))
    ∙ (ap (λ o. or_else (own_limit n f o) (first_above (declared_functions n [] (functions_of fs)))) (unseen (suc n) seen (plain f.body)) ∙ ap
    (λ o. or_else (function_limit n f) o) (functions_in n fs))

pub functions_are : (n : ℕ) (fs : CodeFunDecs) → first_above (declared_functions n [] (plain_functions fs)) ≡ first_in (function_limit n)
    (out-FunDecs fs).items.items
functions_are n fs = ap (λ x. first_above (declared_functions n [] x)) (plain_functions-items fs) ∙ functions_in n (out-FunDecs fs).items.items

-- declarations, and a body that sees them
pub let_limit : (n : ℕ) (ds : Decs) (es : Exps) → first_above (declared_decs n [] ds ++ declared_exps n [] es) ≡ first_above
    (declared_decs n [] ds ++ declared_exps n (own_decs n ds []) es)
let_limit n ds es =
    append (declared_decs n [] ds) (declared_exps n [] es)
    ∙ (ap (λ o. or_else (first_above (declared_decs n [] ds)) o) (sym (unseen_exps n (own_decs n ds []) es)) ∙ sym
    (append (declared_decs n [] ds) (declared_exps n (own_decs n ds []) es)))

-- the bounds of a loop, and a body that sees its variable
pub for_limit : (n : ℕ) (x : Ident) (low high body : Exp) →
    first_above (declared n [] low ++ (declared n [] high ++ declared n [] body)) ≡ first_above
    (declared n [] low ++ (declared n [] high ++ declared n (own n x []) body))
for_limit n x low high body =
    let l = first_above (declared n [] low) in
    let h = first_above (declared n [] high) in
    append (declared n [] low) (declared n [] high ++ declared n [] body)
    ∙ (ap (λ o. or_else l o) (append (declared n [] high) (declared n [] body)
    ∙ (ap (λ o. or_else h o) (sym (unseen n (own n x []) body)) ∙ sym (append (declared n [] high) (declared n (own n x []) body)))) ∙ sym
    (append (declared n [] low) (declared n [] high ++ declared n (own n x []) body)))

-- a group, which sees itself
pub group_limit : (n : ℕ) (fs : FunDecs) → first_above (declared_functions n [] fs) ≡ first_above (declared_functions n (own_functions n fs []) fs ++ [])
group_limit n fs =
    let seen : Levels = own_functions n fs [] in
    sym (unseen_functions n seen fs) ∙ ap first_above (sym (append-nil (declared_functions n seen fs)))
