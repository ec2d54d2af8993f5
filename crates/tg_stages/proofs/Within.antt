-- The names of the functions that a text declares are among those of its identifiers.
use Rattle.std.proofs.Common.{ℕ, ◌<◌, List, ◌++◌, length, get_or, Bool, refl}
use Rattle.std.specs.Prelude.{IsTrue, nat_lt}
use Rattle.std.specs.List.{list_all}
use Rattle.std.proofs.lemmas.Bool.{lt-ltb, ltb-true}
use Rattle.tg_instr.proofs.Tests.{both_hold, all_at, all_append}
use Rattle.tg_syntax.specs.declared.tokens.Ident.{Ident}
use Rattle.tg_syntax.specs.Tree.{Exp, Nil, Break, Int, Text, Read, Call, Neg, Binary, Make, Fill}
use Rattle.tg_syntax.specs.Tree.{Assign, If, When, While, For, Let, Seq, LValue, Simple, Field}
use Rattle.tg_syntax.specs.Tree.{Index, Exps, no_exps, exp, Inits, no_inits, init, Decs, no_decs}
use Rattle.tg_syntax.specs.Tree.{types, variable, functions, FunDecs, no_functions, function}
use Rattle.tg_syntax.specs.NamesWithin.{NamesWithin, PlaceWithin, ExpsWithin, InitsWithin, DecsWithin, FunctionsWithin}
use Rattle.tg_stages.specs.DeclaredFunctions.{declared, declared_place, declared_exps, declared_inits, declared_decs, declared_functions}

pub name_at : (n : ℕ) (fs : List Ident) (at : ℕ) (d : Ident) → at < length fs → IsTrue (list_all (λ (f : Ident). nat_lt f.name.0 n) fs) →
    (get_or fs at d).name.0 < n
name_at n fs at d h all = ltb-true _ n (all_at (λ (f : Ident). nat_lt f.name.0 n) fs at d h all)

module _ (n : ℕ) where
  abbrev is_within : Ident → Bool
  is_within f = nat_lt f.name.0 n

  together : (xs ys : List Ident) → IsTrue (list_all is_within xs) → IsTrue (list_all is_within ys) → IsTrue (list_all is_within (xs ++ ys))
  together xs ys h k = all_append is_within xs ys h k

  mutual
    pub names_within : (e : Exp) → NamesWithin n e → IsTrue (list_all (λ (f : Ident). nat_lt f.name.0 n) (declared e))
    names_within (Nil _) h = refl
    names_within (Break _) h = refl
    names_within (Int _ _) h = refl
    names_within (Text _ _) h = refl
    names_within (Read _ v) h = of_place v h.1
    names_within (Call _ f args) h = of_exps args h.2
    names_within (Neg _ a) h = names_within a h.1
    names_within (Binary _ _ _ a b) h = together (declared a) (declared b) (names_within a h.2) (names_within b h.3)
    names_within (Make _ _ is) h = of_inits is h.2
    names_within (Fill _ _ a b) h = together (declared a) (declared b) (names_within a h.2) (names_within b h.3)
    names_within (Assign _ v a) h = together (declared_place v) (declared a) (of_place v h.1) (names_within a h.2)
    names_within (If _ c a b) h =
        together (declared c) (declared a ++ declared b) (names_within c h.1)
        (together (declared a) (declared b) (names_within a h.2) (names_within b h.3))
    names_within (When _ c a) h = together (declared c) (declared a) (names_within c h.1) (names_within a h.2)
    names_within (While _ c a) h = together (declared c) (declared a) (names_within c h.1) (names_within a h.2)
    names_within (For _ _ low high a) h =
        together (declared low) (declared high ++ declared a) (names_within low h.2)
        (together (declared high) (declared a) (names_within high h.3) (names_within a h.4))
    names_within (Let _ ds es) h = together (declared_decs ds) (declared_exps es) (of_decs ds h.1) (of_exps es h.2)
    names_within (Seq _ es) h = of_exps es h.1

    of_place : (v : LValue) → PlaceWithin n v → IsTrue (list_all is_within (declared_place v))
    of_place (Simple x) h = refl
    of_place (Field v f) h = of_place v h.0
    of_place (Index v e) h = together (declared_place v) (declared e) (of_place v h.0) (names_within e h.1)

    of_exps : (es : Exps) → ExpsWithin n es → IsTrue (list_all is_within (declared_exps es))
    of_exps no_exps h = refl
    of_exps (exp e rest) h = together (declared e) (declared_exps rest) (names_within e h.0) (of_exps rest h.1)

    of_inits : (is : Inits) → InitsWithin n is → IsTrue (list_all is_within (declared_inits is))
    of_inits no_inits h = refl
    of_inits (init f e rest) h = together (declared e) (declared_inits rest) (names_within e h.1) (of_inits rest h.2)

    of_decs : (ds : Decs) → DecsWithin n ds → IsTrue (list_all is_within (declared_decs ds))
    of_decs no_decs h = refl
    of_decs (types ts rest) h = of_decs rest h.1
    of_decs (variable x kind e rest) h = together (declared e) (declared_decs rest) (names_within e h.2) (of_decs rest h.3)
    of_decs (functions fs rest) h = together (declared_functions fs) (declared_decs rest) (of_functions fs h.0) (of_decs rest h.1)

    of_functions : (fs : FunDecs) → FunctionsWithin n fs → IsTrue (list_all is_within (declared_functions fs))
    of_functions no_functions h = refl
    of_functions (function f ps result body rest) h =
        both_hold (is_within f) (list_all is_within (declared body ++ declared_functions rest)) (lt-ltb f.name.0 n h.0)
        (together (declared body) (declared_functions rest) (names_within body h.3) (of_functions rest h.4))
