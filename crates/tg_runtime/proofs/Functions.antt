-- Lists of functions, put together.
use Rattle.std.proofs.Common.{◌≡◌, List, [], ◌∷◌, ◌++◌, map, ap, ◌∙◌}
use Rattle.std.proofs.lemmas.List.{map-append}
use Rattle.tg_tree.specs.declared.fragments.Fragment.{Fragment}
use Rattle.tg_tree.specs.declared.fragments.Literal.{Literal}
use Rattle.tg_tree.specs.Tree.{Ts, Function, Code}
use Rattle.tg_tree.specs.glue.Plain.{plain_fragment, plain_literal}

-- one more list after those before it
pub joined :
    (xs ys all : List Fragment) (us vs : List (Function Ts)) →
    all ≡ xs ++ ys → map plain_fragment xs ≡ us → map plain_fragment ys ≡ vs → map plain_fragment all ≡ us ++ vs
joined xs ys all us vs e g h =
    ap (map plain_fragment) e ∙ (map-append plain_fragment xs ys ∙ (ap (λ l. l ++ map plain_fragment ys) g ∙ ap (λ l. us ++ l) h))

-- one more function after those before it
pub pushed :
    (x : Fragment) (xs all : List Fragment) {u : Function Ts} {us : List (Function Ts)} →
    all ≡ xs ++ x ∷ [] → map plain_fragment xs ≡ us → plain_fragment x ≡ u → map plain_fragment all ≡ us ++ u ∷ []
pushed x xs all {u} {us} e g h = joined xs (x ∷ []) all us (u ∷ []) e g (ap (λ f. f ∷ []) h)

abbrev pub code : List (Function Ts) → List Literal → Code Ts
code fs literals = record { functions = fs; literals = map plain_literal literals }

pub code_is : (fs gs : List (Function Ts)) (literals : List Literal) → fs ≡ gs → literals ≡ [] → code fs literals ≡ code gs []
code_is fs gs literals e f = ap (λ l. code l literals) e ∙ ap (code gs) f
