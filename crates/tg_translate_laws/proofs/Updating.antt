-- A place that a value reads first, where it is the place that is assigned, has no strings, and no functions are declared in it.
use Rattle.std.proofs.Common.{◌≡◌, ℕ, true, List, [], ◌++◌, refl, ap, ◌∙◌}
use Rattle.std.proofs.lemmas.Bool.{and_parts}
use Rattle.tg_syntax.specs.Functions.{Measures, Levels, declared, declared_place}
use Rattle.tg_syntax.specs.Tree.{Exp, Int, Read, Binary, LValue, Simple, Field, Index}
use Rattle.tg_translate.specs.mirror.Scopes.{Findings}
use Rattle.tg_translate.specs.mirror.Updates.{is_same_place, is_same_index}
use Rattle.tg_translate_laws.specs.Escaped.{escaping_inside, place_escaping_inside}
use Rattle.tg_translate_laws.specs.Strings.{strings, place_strings}

abbrev IsNothing : List (List ℕ) → List ℕ → List Measures → Type 0
IsNothing texts counts functions = (texts ≡ []) × (counts ≡ []) × (functions ≡ [])

none_append : {A : Type 0} {xs ys : List A} → xs ≡ [] → ys ≡ [] → xs ++ ys ≡ []
none_append {ys = ys} h k = ap (λ zs. zs ++ ys) h ∙ k

module _ (findings : Findings) (n : ℕ) (seen : Levels) where
  abbrev IsQuiet : Exp → Type 0
  IsQuiet e = IsNothing (strings e) (escaping_inside findings.escapes e) (declared n seen e)

  abbrev IsQuietPlace : LValue → Type 0
  IsQuietPlace v = IsNothing (place_strings v) (place_escaping_inside findings.escapes v) (declared_place n seen v)

  mutual
    pub same_is_quiet : (v w : LValue) → is_same_place findings.meaning v w ≡ true → IsQuietPlace w
    same_is_quiet (Simple _) (Simple _) e = (refl, refl, refl)
    same_is_quiet (Field v _) (Field w _) e = same_is_quiet v w (and_parts _ _ e).1
    same_is_quiet (Index v a) (Index w b) e =
        let same = and_parts _ _ e in
        let h = same_is_quiet v w same.0 in
        let k = index_is_quiet a b same.1 in
        (none_append h.0 k.0, none_append h.1 k.1, none_append h.2 k.2)
    same_is_quiet v w e = cc

    index_is_quiet : (a b : Exp) → is_same_index findings.meaning a b ≡ true → IsQuiet b
    index_is_quiet (Int _ _) (Int _ _) e = (refl, refl, refl)
    index_is_quiet (Read _ v) (Read _ w) e = same_is_quiet v w e
    index_is_quiet (Binary _ _ _ a b) (Binary _ _ _ c d) e =
        let same = and_parts _ _ (and_parts _ _ e).1 in
        let h = index_is_quiet a c same.0 in
        let k = index_is_quiet b d same.1 in
        (none_append h.0 k.0, none_append h.1 k.1, none_append h.2 k.2)
    index_is_quiet a b e = cc
