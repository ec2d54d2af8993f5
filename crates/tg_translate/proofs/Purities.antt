-- Whether each of a list assigns nothing, as far as a walk over it has come.
use Rattle.std.proofs.Common.{◌≡◌, ℕ, ◌+◌, ◌<◌, List, [], ◌∷◌, length, drop, get_or, refl, sym, ap, ◌∙◌, Bool, true, false, ◌&&◌}
use Rattle.std.proofs.Math.Seq.{drop-length}
use Rattle.std.proofs.lemmas.List.{drop_more}
use Rattle.tg_syntax.specs.declared.trees.Exp.{Exp as CodeExp}
use Rattle.tg_syntax.specs.declared.trees.Init.{Init as CodeInit}
use Rattle.tg_syntax.specs.glue.Plain.{plain}
use Rattle.tg_syntax.specs.glue.Lists.{exps_of, inits_of}
use Rattle.tg_translate.specs.mirror.Purity.{assigns_nothing, all_assign_nothing, inits_assign_nothing}

and_assoc : (a b c : Bool) → ((a && b) && c) ≡ (a && (b && c))
and_assoc true b c = refl
and_assoc false b c = refl

and_true : (a : Bool) → (a && true) ≡ a
and_true true = refl
and_true false = refl

from_here : {A : Type 0} (xs : List A) (k : ℕ) (x : A) → k < length xs → x ≡ get_or xs k x → drop k xs ≡ x ∷ drop (k + 1) xs
from_here xs k x l i = drop_more xs k x l ∙ ap (λ y. y ∷ drop (k + 1) xs) (sym i)

none_left : {A : Type 0} (xs : List A) (k : ℕ) → k ≡ length xs → drop k xs ≡ []
none_left xs k e = ap (λ j. drop j xs) e ∙ drop-length xs

pub exp_on :
    (es : List CodeExp) (k : ℕ) (all w : Bool) (e : CodeExp) →
    w ≡ (all && all_assign_nothing (exps_of (drop k es))) → k < length es → e ≡ get_or es k e →
    w ≡ ((all && assigns_nothing (plain e)) && all_assign_nothing (exps_of (drop (k + 1) es)))
exp_on es k all w e h l i =
    h ∙ (ap (λ ys. all && all_assign_nothing (exps_of ys)) (from_here es k e l i)
    ∙ sym (and_assoc all (assigns_nothing (plain e)) (all_assign_nothing (exps_of (drop (k + 1) es)))))

pub exps_end :
    (es : List CodeExp) (k : ℕ) (all w : Bool) →
    w ≡ (all && all_assign_nothing (exps_of (drop k es))) → k ≡ length es → all ≡ w
exps_end es k all w h e =
    sym (h ∙ (ap (λ ys. all && all_assign_nothing (exps_of ys)) (none_left es k e) ∙ and_true all))

pub init_on :
    (is : List CodeInit) (k : ℕ) (all w : Bool) (x : CodeInit) →
    w ≡ (all && inits_assign_nothing (inits_of (drop k is))) → k < length is → x ≡ get_or is k x →
    w ≡ ((all && assigns_nothing (plain x.value)) && inits_assign_nothing (inits_of (drop (k + 1) is)))
init_on is k all w x h l i =
    h ∙ (ap (λ ys. all && inits_assign_nothing (inits_of ys)) (from_here is k x l i)
    ∙ sym (and_assoc all (assigns_nothing (plain x.value)) (inits_assign_nothing (inits_of (drop (k + 1) is)))))

pub inits_end :
    (is : List CodeInit) (k : ℕ) (all w : Bool) →
    w ≡ (all && inits_assign_nothing (inits_of (drop k is))) → k ≡ length is → all ≡ w
inits_end is k all w h e =
    sym (h ∙ (ap (λ ys. all && inits_assign_nothing (inits_of ys)) (none_left is k e) ∙ and_true all))
