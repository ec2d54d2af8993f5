-- Walks over parameters, functions of a group and fields, as far as they have come.
use Rattle.std.proofs.Common.{
  ◌≡◌,
  ℕ,
  suc,
  ◌+◌,
  ◌<◌,
  List,
  [],
  ◌∷◌,
  ◌++◌,
  length,
  drop,
  get_or,
  map,
  refl,
  sym,
  ap,
  ◌∙◌,
  arith,
  Bool,
  true,
  false,
  append_assoc,
  append-nil,
}
use Rattle.std.proofs.Math.Seq.{drop-length}
use Rattle.std.proofs.lemmas.List.{drop_more}
use Rattle.tg_frame.specs.declared.accesses.Access.{Access}
use Rattle.tg_frame.specs.Homes.{homes_from, homes_of}
use Rattle.tg_syntax.specs.declared.trees.Param.{Param}
use Rattle.tg_syntax.specs.declared.trees.FunDec.{FunDec as CodeFunDec}
use Rattle.tg_syntax.specs.glue.Lists.{functions_of}
use Rattle.tg_tree.specs.Tree.{Stms}
use Rattle.tg_translate.specs.declared.homes.Home.{Home}
use Rattle.tg_translate.specs.declared.homes.Callee.{Callee}
use Rattle.tg_translate.specs.declared.operands.Operand.{Operand}
use Rattle.tg_translate.specs.mirror.States.{TranslationState, Translated, drawn}
use Rattle.tg_translate.specs.mirror.Wants.{followed}
use Rattle.tg_translate.specs.mirror.Constructs.{store_field, store_fields}
use Rattle.tg_translate.specs.mirror.Functions.{at_of, asked, parameters, own_homes, declare_functions}

from_here : {A : Type 0} (xs : List A) (k : ℕ) (x : A) → k < length xs → x ≡ get_or xs k x → drop k xs ≡ x ∷ drop (k + 1) xs
from_here xs k x l i = drop_more xs k x l ∙ ap (λ y. y ∷ drop (k + 1) xs) (sym i)

none_left : {A : Type 0} (xs : List A) (k : ℕ) → k ≡ length xs → drop k xs ≡ []
none_left xs k e = ap (λ j. drop j xs) e ∙ drop-length xs

own_is : (hs : List Access) → own_homes hs ≡ drop 1 hs
own_is [] = refl
own_is (x ∷ hs) = refl

-- parameters, whose homes stand after the link's
pub params_begin : (level : ℕ) (ps : List Param) (hs : List Access) (seen : List (ℕ × Home)) →
    parameters level ps (own_homes hs) seen ≡ parameters level (drop 0 ps) (drop (0 + 1) hs) seen
params_begin level ps hs seen = ap (λ gs. parameters level ps gs seen) (own_is hs)

pub param_on :
    (level : ℕ) (ps : List Param) (hs : List Access) (k : ℕ) (all seen : List (ℕ × Home)) (p : Param) (home : Access) →
    all ≡ parameters level (drop k ps) (drop (k + 1) hs) seen → k < length ps → length hs ≡ length ps + 1 → p ≡ get_or ps k p →
    home ≡ get_or hs (k + 1) home →
    all ≡ parameters level (drop (k + 1) ps) (drop (k + 1 + 1) hs) ((at_of p.name, record { level = level; access = home }) ∷ seen)
param_on level ps hs k all seen p home w l n i j =
    w ∙ (ap (λ qs. parameters level qs (drop (k + 1) hs) seen) (from_here ps k p l i)
    ∙ ap (λ gs. parameters level (p ∷ drop (k + 1) ps) gs seen) (from_here hs (k + 1) home (omega (arith, l, n)) j))

pub params_end :
    (level : ℕ) (ps : List Param) (hs : List Access) (k : ℕ) (all seen : List (ℕ × Home)) →
    all ≡ parameters level (drop k ps) (drop (k + 1) hs) seen → k ≡ length ps → all ≡ seen
params_end level ps hs k all seen w e = w ∙ ap (λ qs. parameters level qs (drop (k + 1) hs) seen) (none_left ps k e)

pub length-homes_from : (slots temps : ℕ) (asked : List Bool) → length (homes_from slots temps asked) ≡ length asked
length-homes_from slots temps [] = refl
length-homes_from slots temps (true ∷ asked) = ap suc (length-homes_from (slots + 1) temps asked)
length-homes_from slots temps (false ∷ asked) = ap suc (length-homes_from slots (temps + 1) asked)

-- which parameters go into the frame
pub asked_on :
    (f : ℕ → Bool) (ps : List Param) (k : ℕ) (all so_far : List Bool) (p : Param) →
    all ≡ so_far ++ map (λ q. f (at_of q.name)) (drop k ps) → k < length ps → p ≡ get_or ps k p →
    all ≡ (so_far ++ f (at_of p.name) ∷ []) ++ map (λ q. f (at_of q.name)) (drop (k + 1) ps)
asked_on f ps k all so_far p w l i =
    w ∙ (ap (λ qs. so_far ++ map (λ q. f (at_of q.name)) qs) (from_here ps k p l i)
    ∙ sym (append_assoc so_far (f (at_of p.name) ∷ []) (map (λ q. f (at_of q.name)) (drop (k + 1) ps))))

pub asked_end :
    (f : ℕ → Bool) (ps : List Param) (k : ℕ) (all so_far : List Bool) →
    all ≡ so_far ++ map (λ q. f (at_of q.name)) (drop k ps) → k ≡ length ps → all ≡ so_far
asked_end f ps k all so_far w e = w ∙ (ap (λ qs. so_far ++ map (λ q. f (at_of q.name)) qs) (none_left ps k e) ∙ append-nil so_far)

-- the functions of a group
abbrev pub with_callee : (at : ℕ) → Callee → TranslationState → TranslationState
with_callee at callee s = record s { label = s.label + 1; callees = (at, callee) ∷ s.callees }

pub function_on :
    (level : ℕ) (fs : List CodeFunDec) (k : ℕ) (all : Translated (Unit {0})) (s t : TranslationState) (f : CodeFunDec) →
    all ≡ declare_functions level (functions_of (drop k fs)) s → k < length fs → f ≡ get_or fs k f →
    with_callee (at_of f.name) (record { level = level; label = record { 0 = s.label } }) s ≡ t →
    all ≡ declare_functions level (functions_of (drop (k + 1) fs)) t
function_on level fs k all s t f w l i m =
    w ∙ (ap (λ gs. declare_functions level (functions_of gs) s) (from_here fs k f l i) ∙ ap (declare_functions level (functions_of (drop (k + 1) fs))) m)

pub functions_end :
    (level : ℕ) (fs : List CodeFunDec) (k : ℕ) (all : Translated (Unit {0})) (s : TranslationState) →
    all ≡ declare_functions level (functions_of (drop k fs)) s → k ≡ length fs → all ≡ drawn tt s
functions_end level fs k all s w e = w ∙ ap (λ gs. declare_functions level (functions_of gs) s) (none_left fs k e)

-- fields that are stored
pub field_on :
    (r field next : ℕ) (xs : List Operand) (k : ℕ) (all so_far : Stms) (x : Operand) →
    all ≡ store_fields so_far r field (drop k xs) → k < length xs → x ≡ get_or xs k x → next ≡ field + 1 →
    all ≡ store_fields (followed so_far (store_field r field x)) r next (drop (k + 1) xs)
field_on r field next xs k all so_far x w l i n =
    w ∙ (ap (store_fields so_far r field) (from_here xs k x l i)
    ∙ ap (λ j. store_fields (followed so_far (store_field r field x)) r j (drop (k + 1) xs)) (omega (arith, n)))

pub fields_end :
    (r field : ℕ) (xs : List Operand) (k : ℕ) (all so_far : Stms) →
    all ≡ store_fields so_far r field (drop k xs) → k ≡ length xs → all ≡ so_far
fields_end r field xs k all so_far w e = w ∙ ap (store_fields so_far r field) (none_left xs k e)

pub length-asked : (f : ℕ → Bool) (kept : Bool) (ps : List Param) → length (asked f kept ps) ≡ length ps + 1
length-asked f kept [] = refl
length-asked f kept (p ∷ ps) = ap suc (length-asked f kept ps) ∙ omega arith
