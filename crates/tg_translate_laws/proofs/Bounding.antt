-- Functions of accepted programs are small.
use Rattle.std.proofs.Common.{◌≡◌, ◌≤◌, ◌+◌, ℕ, suc, Bool, true, false, Option, Some, None, List, [], ◌∷◌, ◌++◌, refl, subst, arith}
use Rattle.std.specs.Prelude.{nat_lt, if◌then◌else◌}
use Rattle.std.specs.List.{AllZip}
use Rattle.std.proofs.lemmas.Bool.Decides.{nat_tests}
use Rattle.tg_syntax.specs.Tree as source
use Rattle.tg_syntax.specs.Tree.{Exp, Nil, Break, Int, Text, Read, Call, Neg, Binary, Make, Fill, Assign, If, When, While, For, Let, Seq, Simple}
use Rattle.tg_syntax.specs.Tree.{Field, Index, Exps, no_exps, exp, Inits, no_inits, init, Decs, no_decs, types, variable, functions, FunDecs}
use Rattle.tg_syntax.specs.Tree.{no_functions, function}
use Rattle.tg_syntax.specs.Measures.{size, place_size, exps_size, inits_size, decs_size, functions_size}
use Rattle.tg_syntax.specs.InnerMeasures.{inner, inner_place, inner_exps, inner_inits}
use Rattle.tg_syntax.specs.InnerMeasures.{inner_decs, inner_functions}
use Rattle.tg_syntax.specs.Functions.{Measures, Levels, own, own_params, own_functions, own_decs, declared, declared_place, declared_exps}
use Rattle.tg_syntax.specs.Functions.{declared_inits, declared_decs, declared_functions, program_functions, program_size}
use Rattle.tg_syntax.specs.Spans.{span_of}
use Rattle.tg_syntax.proofs.FunctionLaws.{program_size_is}
use Rattle.tg_tree.specs.Tree.{Ts, Function}
use Rattle.tg_typecheck.specs.declared.faults.TypeRule.{TypeRule}
use Rattle.tg_typecheck.specs.declared.faults.TypeRule.TheVariants.{T20, T21, T22}
use Rattle.tg_typecheck.specs.laws.Laws.{CheckedHasType}
use Rattle.tg_typecheck.specs.Limits.{above, first_above}
use Rattle.tg_translate.specs.mirror.Scopes.{found}
use Rattle.tg_translate.specs.mirror.Translate.{translated}
use Rattle.tg_translate_laws.specs.laws.Laws.{FunctionIsWithin, FunctionIsSmall, CheckedFramesAreSmall, CheckedConstantsAreWords}
use Rattle.tg_translate_laws.proofs.Fine.{Each, each_append, each_contained}
use Rattle.tg_translate_laws.proofs.Near.{wider}
use Rattle.tg_translate_laws.proofs.Measured.{functions_are_within}
use Rattle.tg_translate_laws.proofs.WordWalk.{constants_are_words}

-- No function has more nodes than the bodies of the program.
module _ (most : ℕ) where
  abbrev Few : Measures → Type 0
  Few m = m.nodes ≤ most

  together : (ms ks : List Measures) → Each Few ms → Each Few ks → Each Few (ms ++ ks)
  together ms ks h k = each_append Few ms ks h k

  mutual
    few_nodes : (n : ℕ) (seen : Levels) (e : Exp) → size e + inner e ≤ most → Each Few (declared n seen e)
    few_nodes n seen (Nil _) l = tt
    few_nodes n seen (Break _) l = tt
    few_nodes n seen (Int _ _) l = tt
    few_nodes n seen (Text _ _) l = tt
    few_nodes n seen (Read _ v) l = few_in_place n seen v (omega (arith, l))
    few_nodes n seen (Call _ _ args) l = few_in_exps n seen args (omega (arith, l))
    few_nodes n seen (Neg _ x) l = few_nodes n seen x (omega (arith, l))
    few_nodes n seen (Binary _ _ _ x y) l = together _ _ (few_nodes n seen x (omega (arith, l))) (few_nodes n seen y (omega (arith, l)))
    few_nodes n seen (Make _ _ inits) l = few_in_inits n seen inits (omega (arith, l))
    few_nodes n seen (Fill _ _ x y) l = together _ _ (few_nodes n seen x (omega (arith, l))) (few_nodes n seen y (omega (arith, l)))
    few_nodes n seen (Assign _ v x) l = together _ _ (few_in_place n seen v (omega (arith, l))) (few_nodes n seen x (omega (arith, l)))
    few_nodes n seen (If _ c x y) l =
        together _ _ (few_nodes n seen c (omega (arith, l))) (together _ _ (few_nodes n seen x (omega (arith, l))) (few_nodes n seen y (omega (arith, l))))
    few_nodes n seen (When _ c x) l = together _ _ (few_nodes n seen c (omega (arith, l))) (few_nodes n seen x (omega (arith, l)))
    few_nodes n seen (While _ c x) l = together _ _ (few_nodes n seen c (omega (arith, l))) (few_nodes n seen x (omega (arith, l)))
    few_nodes n seen (For _ i low high x) l =
        together _ _ (few_nodes n seen low (omega (arith, l)))
        (together _ _ (few_nodes n seen high (omega (arith, l))) (few_nodes n (own n i seen) x (omega (arith, l))))
    few_nodes n seen (Let _ ds es) l = together _ _ (few_in_decs n seen ds (omega (arith, l))) (few_in_exps n (own_decs n ds seen) es (omega (arith, l)))
    few_nodes n seen (Seq _ es) l = few_in_exps n seen es (omega (arith, l))

    few_in_place : (n : ℕ) (seen : Levels) (v : source.LValue) → place_size v + inner_place v ≤ most → Each Few (declared_place n seen v)
    few_in_place n seen (Simple _) l = tt
    few_in_place n seen (Field v _) l = few_in_place n seen v (omega (arith, l))
    few_in_place n seen (Index v x) l = together _ _ (few_in_place n seen v (omega (arith, l))) (few_nodes n seen x (omega (arith, l)))

    few_in_exps : (n : ℕ) (seen : Levels) (es : Exps) → exps_size es + inner_exps es ≤ most → Each Few (declared_exps n seen es)
    few_in_exps n seen no_exps l = tt
    few_in_exps n seen (exp x rest) l = together _ _ (few_nodes n seen x (omega (arith, l))) (few_in_exps n seen rest (omega (arith, l)))

    few_in_inits : (n : ℕ) (seen : Levels) (is : Inits) → inits_size is + inner_inits is ≤ most → Each Few (declared_inits n seen is)
    few_in_inits n seen no_inits l = tt
    few_in_inits n seen (init _ x rest) l = together _ _ (few_nodes n seen x (omega (arith, l))) (few_in_inits n seen rest (omega (arith, l)))

    few_in_decs : (n : ℕ) (seen : Levels) (ds : Decs) → decs_size ds + inner_decs ds ≤ most → Each Few (declared_decs n seen ds)
    few_in_decs n seen no_decs l = tt
    few_in_decs n seen (types _ rest) l = few_in_decs n seen rest (omega (arith, l))
    few_in_decs n seen (variable i _ x rest) l = together _ _ (few_nodes n seen x (omega (arith, l))) (few_in_decs n (own n i seen) rest (omega (arith, l)))
    few_in_decs n seen (functions fs rest) l =
        let inside = own_functions n fs seen in together _ _ (few_in_functions n inside fs (omega (arith, l))) (few_in_decs n inside rest (omega (arith, l)))

    few_in_functions : (n : ℕ) (seen : Levels) (fs : FunDecs) → functions_size fs + inner_functions fs ≤ most → Each Few (declared_functions n seen fs)
    few_in_functions n seen no_functions l = tt
    few_in_functions n seen (function _ params _ x rest) l = (
      omega (arith, l),
      together _ _ (few_nodes (suc n) (own_params (suc n) params seen) x (omega (arith, l))) (few_in_functions n seen rest (omega (arith, l))),
    )

-- An accepted program is within the limits.

not_above : (b : Bool) (number limit : ℕ) (f : TypeRule × ℕ) (otherwise : Option (TypeRule × ℕ)) → nat_lt limit number ≡ b →
    (if b then Some f else otherwise) ≡ None → (number ≤ limit) × (otherwise ≡ None)
not_above true number limit f otherwise e h = cc
not_above false number limit f otherwise e h = (grind (arith, nat_tests, e), h)

pub within_limit : (rule : TypeRule) (at number limit : ℕ) (otherwise : Option (TypeRule × ℕ)) →
    above rule at number limit otherwise ≡ None → (number ≤ limit) × (otherwise ≡ None)
within_limit rule at number limit otherwise h = not_above (nat_lt limit number) number limit (rule, at) otherwise refl h

small : (m : Measures) (f : Function Ts) → m.nodes ≤ 32768 → m.level ≤ 32 → m.size ≤ 4096 → FunctionIsWithin m f → FunctionIsSmall f
small m f n l k h =
    let s = h.slots in
    let t = h.temps in
    let long = h.short l in
    let room = h.small l in
    let deep = h.shallow l in
    record {
      slots = omega (arith, s, n);
      temps = omega (arith, t, n);
      accesses = wider (suc m.level) 33 f.body (omega (arith, l)) h.accesses;
      short = omega (arith, long, n, k);
      small = omega (arith, room, n, k);
      shallow = omega (arith, deep, k);
    }

all_small : (ms : List Measures) (fs : List (Function Ts)) → Each (Few 32768) ms → first_above ms ≡ None → AllZip FunctionIsWithin ms fs → Each FunctionIsSmall fs
all_small [] [] h e k = tt
all_small [] (f ∷ fs) h e k = absurd k
all_small (m ∷ ms) [] h e k = absurd k
all_small (m ∷ ms) (f ∷ fs) h e k =
    let level = within_limit T20 m.at m.level 32 (above T21 m.at m.size 4096 (first_above ms)) e in
    let size = within_limit T21 m.at m.size 4096 (first_above ms) level.1 in
    (small m f h.0 level.0 size.0 k.0, all_small ms fs h.1 size.1 k.1)

pub checked_frames_are_small : CheckedHasType → CheckedFramesAreSmall
checked_frames_are_small typed p escapes links f a c =
    let body = p.body in
    let findings = found p.notes escapes links in
    let limit = within_limit T22 (span_of body).from (program_size body) 32768 (first_above (program_functions body)) (typed p a).limits in
    let nodes : size body + inner body ≤ 32768 = subst (λ n. n ≤ 32768) (program_size_is body) limit.0 in
    each_contained FunctionIsSmall (translated findings body).functions
    (all_small (program_functions body) (translated findings body).functions (omega (arith, nodes), few_nodes 32768 0 [] body nodes) limit.1
    (functions_are_within findings body))
    f c

pub checked_constants_are_words : CheckedHasType → CheckedConstantsAreWords
checked_constants_are_words typed p escapes links a o fields =
    let body = p.body in
    let limit = within_limit T22 (span_of body).from (program_size body) 32768 (first_above (program_functions body)) (typed p a).limits in
    let nodes : size body + inner body ≤ 32768 = subst (λ n. n ≤ 32768) (program_size_is body) limit.0 in
    constants_are_words (found p.notes escapes links) fields body o (omega (arith, nodes))
