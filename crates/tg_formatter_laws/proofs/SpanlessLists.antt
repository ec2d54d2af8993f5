-- Lists of a tree with one more at their end, without the places of the text, and the right end of a tree.
use Rattle.std.proofs.Common.{◌≡◌, List, [], ◌∷◌, ◌++◌, Bool, map, Option, refl, sym, ap, ◌∙◌}
use Rattle.std.specs.Prelude.{option_map}
use Rattle.tg_syntax.specs.declared.tokens.Ident.{Ident}
use Rattle.tg_syntax.specs.declared.trees.Param.{Param}
use Rattle.tg_syntax.specs.Tree.{TypeDec, Exp, Nil, Break, Int, Text, Read, Call, Neg, Binary, Make, Fill, Assign, If, When, While, For, Let, Seq}
use Rattle.tg_syntax.specs.Tree.{Exps, no_exps, exp, Inits, no_inits, init, Decs, no_decs, types, variable, functions, FunDecs, no_functions, function}
use Rattle.tg_syntax.specs.Tails.{ends_tail, is_short}
use Rattle.tg_syntax.specs.Groups.{snoc, snoc_init, Dec, one_type, one_variable, one_function, one_declaration, snoc_function, behind_types, behind_functions}
use Rattle.tg_syntax.specs.Groups.{snoc_dec}
use Rattle.tg_formatter_laws.specs.Spans.{spanless_ident, spanless_param, spanless_type, without_spans, spanless_exps, spanless_inits, spanless_decs}
use Rattle.tg_formatter_laws.specs.Spans.{spanless_functions}

-- places change nothing of the right end
pub tail_is : (e : Exp) → ends_tail (without_spans e) ≡ ends_tail e
tail_is (Neg _ a) = tail_is a
tail_is (Binary _ _ _ a b) = tail_is b
tail_is (Assign _ v a) = tail_is a
tail_is (Fill _ x a b) = refl
tail_is (If _ c a b) = refl
tail_is (When _ c a) = refl
tail_is (While _ c a) = refl
tail_is (For _ x l h a) = refl
tail_is (Nil _) = refl
tail_is (Break _) = refl
tail_is (Int _ n) = refl
tail_is (Text _ bytes) = refl
tail_is (Read _ v) = refl
tail_is (Call _ f es) = refl
tail_is (Make _ x is) = refl
tail_is (Let _ ds es) = refl
tail_is (Seq _ es) = refl

pub short_is : (e : Exp) → is_short (without_spans e) ≡ is_short e
short_is (Neg _ a) = short_is a
short_is (Binary _ _ _ a b) = short_is b
short_is (Assign _ v a) = short_is a
short_is (Fill _ x a b) = short_is b
short_is (If _ c a b) = short_is b
short_is (When _ c a) = refl
short_is (While _ c a) = short_is a
short_is (For _ x l h a) = short_is a
short_is (Nil _) = refl
short_is (Break _) = refl
short_is (Int _ n) = refl
short_is (Text _ bytes) = refl
short_is (Read _ v) = refl
short_is (Call _ f es) = refl
short_is (Make _ x is) = refl
short_is (Let _ ds es) = refl
short_is (Seq _ es) = refl

pub same_tail : (a b : Exp) (t : Bool) → without_spans a ≡ without_spans b → ends_tail b ≡ t → ends_tail a ≡ t
same_tail a b t e h = sym (tail_is a) ∙ (ap ends_tail e ∙ (tail_is b ∙ h))

pub same_short : (a b : Exp) (t : Bool) → without_spans a ≡ without_spans b → is_short b ≡ t → is_short a ≡ t
same_short a b t e h = sym (short_is a) ∙ (ap is_short e ∙ (short_is b ∙ h))

-- what is made of parts that are the same
pub both : {A B C : Type 0} (f : A → B → C) {x y : A} {z w : B} → x ≡ y → z ≡ w → f x z ≡ f y w
both f {x} {y} {z} {w} e g = ap (λ a. f a z) e ∙ ap (f y) g

pub all_three : {A B C D : Type 0} (f : A → B → C → D) {x y : A} {z w : B} {u v : C} → x ≡ y → z ≡ w → u ≡ v → f x z u ≡ f y w v
all_three f {x} {y} {z} {w} {u} {v} e g h = ap (λ a. f a z u) e ∙ (ap (λ a. f y a u) g ∙ ap (f y w) h)

-- lists
map_more : {A B : Type 0} (f : A → B) (xs : List A) (x : A) → map f (xs ++ x ∷ []) ≡ map f xs ++ f x ∷ []
map_more f [] x = refl
map_more f (y ∷ xs) x = ap (λ l. f y ∷ l) (map_more f xs x)

exps_more : (es : Exps) (e : Exp) → spanless_exps (snoc es e) ≡ snoc (spanless_exps es) (without_spans e)
exps_more no_exps e = refl
exps_more (exp f es) e = ap (λ l. exp (without_spans f) l) (exps_more es e)

inits_more : (is : Inits) (x : Ident) (e : Exp) → spanless_inits (snoc_init is x e) ≡ snoc_init (spanless_inits is) (spanless_ident x) (without_spans e)
inits_more no_inits x e = refl
inits_more (init y f is) x e = ap (λ l. init (spanless_ident y) (without_spans f) l) (inits_more is x e)

functions_more : (fs : FunDecs) (f : Ident) (ps : List Param) (k : Option Ident) (e : Exp) →
    spanless_functions (snoc_function fs f ps k e) ≡
    snoc_function (spanless_functions fs) (spanless_ident f) (map spanless_param ps) (option_map spanless_ident k) (without_spans e)
functions_more no_functions f ps k e = refl
functions_more (function g qs r b fs) f ps k e =
    ap (λ l. function (spanless_ident g) (map spanless_param qs) (option_map spanless_ident r) (without_spans b) l) (functions_more fs f ps k e)

abbrev pub spanless_dec : Dec → Dec
spanless_dec (one_type d) = one_type (spanless_type d)
spanless_dec (one_variable x k e) = one_variable (spanless_ident x) (option_map spanless_ident k) (without_spans e)
spanless_dec (one_function f ps k e) =
    one_function (spanless_ident f) (map spanless_param ps) (option_map spanless_ident k) (without_spans e)

alone_is : (d : Dec) → spanless_decs (one_declaration d) ≡ one_declaration (spanless_dec d)
alone_is (one_type d) = refl
alone_is (one_variable x k e) = refl
alone_is (one_function f ps k e) = refl

behind_types_is : (ts : List TypeDec) (d : Dec) → spanless_decs (behind_types ts d) ≡ behind_types (map spanless_type ts) (spanless_dec d)
behind_types_is ts (one_type d) = ap (λ l. types l no_decs) (map_more spanless_type ts d)
behind_types_is ts (one_variable x k e) = refl
behind_types_is ts (one_function f ps k e) = refl

behind_functions_is : (fs : FunDecs) (d : Dec) → spanless_decs (behind_functions fs d) ≡ behind_functions (spanless_functions fs) (spanless_dec d)
behind_functions_is fs (one_type d) = refl
behind_functions_is fs (one_variable x k e) = refl
behind_functions_is fs (one_function f ps k e) = ap (λ l. functions l no_decs) (functions_more fs f ps k e)

decs_more_is : (ds : Decs) (d : Dec) → spanless_decs (snoc_dec ds d) ≡ snoc_dec (spanless_decs ds) (spanless_dec d)
decs_more_is no_decs d = alone_is d
decs_more_is (types ts no_decs) d = behind_types_is ts d
decs_more_is (types ts (types us rest)) d = ap (types (map spanless_type ts)) (decs_more_is (types us rest) d)
decs_more_is (types ts (variable x k e rest)) d = ap (types (map spanless_type ts)) (decs_more_is (variable x k e rest) d)
decs_more_is (types ts (functions fs rest)) d = ap (types (map spanless_type ts)) (decs_more_is (functions fs rest) d)
decs_more_is (variable x k e rest) d =
    ap (variable (spanless_ident x) (option_map spanless_ident k) (without_spans e)) (decs_more_is rest d)
decs_more_is (functions fs no_decs) d = behind_functions_is fs d
decs_more_is (functions fs (types us rest)) d = ap (functions (spanless_functions fs)) (decs_more_is (types us rest) d)
decs_more_is (functions fs (variable x k e rest)) d = ap (functions (spanless_functions fs)) (decs_more_is (variable x k e rest) d)
decs_more_is (functions fs (functions gs rest)) d = ap (functions (spanless_functions fs)) (decs_more_is (functions gs rest) d)

-- one more at the end of lists that are the same
pub params_grow : (ps qs : List Param) (p q : Param) → map spanless_param qs ≡ map spanless_param ps → spanless_param q ≡ spanless_param p →
    map spanless_param (qs ++ q ∷ []) ≡ map spanless_param (ps ++ p ∷ [])
params_grow ps qs p q e f = map_more spanless_param qs q ∙ (both (λ l a. l ++ a ∷ []) e f ∙ sym (map_more spanless_param ps p))

pub exps_grow : (es fs : Exps) (e f : Exp) → spanless_exps fs ≡ spanless_exps es → without_spans f ≡ without_spans e →
    spanless_exps (snoc fs f) ≡ spanless_exps (snoc es e)
exps_grow es fs e f h k = exps_more fs f ∙ (both snoc h k ∙ sym (exps_more es e))

pub inits_grow : (is js : Inits) (x y : Ident) (e f : Exp) → spanless_inits js ≡ spanless_inits is → spanless_ident y ≡ spanless_ident x →
    without_spans f ≡ without_spans e → spanless_inits (snoc_init js y f) ≡ spanless_inits (snoc_init is x e)
inits_grow is js x y e f h i k = inits_more js y f ∙ (all_three snoc_init h i k ∙ sym (inits_more is x e))

pub decs_grow : (ds es : Decs) (d e : Dec) → spanless_decs es ≡ spanless_decs ds → spanless_dec e ≡ spanless_dec d →
    spanless_decs (snoc_dec es e) ≡ spanless_decs (snoc_dec ds d)
decs_grow ds es d e h k = decs_more_is es e ∙ (both snoc_dec h k ∙ sym (decs_more_is ds d))
