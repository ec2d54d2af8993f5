-- The functions of a text are few.
use Rattle.std.proofs.Common.{ℕ, suc, ◌+◌, ◌-◌, ◌*◌, ◌≡◌, ◌≤◌, List, [], ◌∷◌, ◌++◌, length, sum_by, refl, arith}
use Rattle.std.proofs.lemmas.List.Sums.{sum_by-append, sum_by-cons}
use Rattle.tg_syntax.specs.declared.trees.Param.{Param}
use Rattle.tg_syntax.specs.Tree.{Exp, Nil, Break, Int, Text, Read, Call, Neg, Binary, Make, Fill, Assign, If, When, While, For, Let, Seq, LValue}
use Rattle.tg_syntax.specs.Tree.{Simple, Field, Index, Exps, no_exps, exp, Inits, no_inits, init, Decs, no_decs, types, variable, functions, FunDecs}
use Rattle.tg_syntax.specs.Tree.{no_functions, function}
use Rattle.tg_syntax.specs.Measures.{size, place_size, exps_size, inits_size, decs_size, functions_size}
use Rattle.tg_syntax.specs.InnerMeasures.{inner, inner_place, inner_exps, inner_inits}
use Rattle.tg_syntax.specs.InnerMeasures.{inner_decs, inner_functions}
use Rattle.tg_syntax.specs.Spans.{span_of}
use Rattle.tg_syntax.specs.Functions.{Measures, Levels, measures, own, own_params, own_functions, own_decs, declared, declared_place, declared_exps}
use Rattle.tg_syntax.specs.Functions.{declared_inits, declared_decs, declared_functions, program_functions, program_size}
use Rattle.tg_syntax.proofs.FunctionLaws.{program_size_is}
use Rattle.tg_code_bounds.specs.laws.Laws.{param_count, FunctionsAreFew}

-- two for each function, and one for each of its parameters
abbrev pub counted : Measures → ℕ
counted m = 2 + param_count m

abbrev pub all_counted : List Measures → ℕ
all_counted ms = sum_by counted ms

joined : (ms ks : List Measures) → all_counted (ms ++ ks) ≡ all_counted ms + all_counted ks
joined ms ks = sum_by-append counted ms ks

-- a function of its own, with its parameters, before those that its body declares, and others
one_more : (at level : ℕ) (seen : Levels) (params : List Param) (body : Exp) (ms ks : List Measures) (rest : ℕ) →
    all_counted ms + 1 ≤ size body + inner body → all_counted ks ≤ rest →
    all_counted (measures at level seen params body ∷ (ms ++ ks)) ≤ 1 + length params + (size body + inner body + rest)
one_more at level seen params body ms ks rest h k =
    let head : (length params + size body) - size body ≡ length params = omega arith in
    omega (arith, h, k, head, joined ms ks, sum_by-cons counted (measures at level seen params body) (ms ++ ks))

mutual
  few : (n : ℕ) (seen : Levels) (e : Exp) → all_counted (declared n seen e) + 1 ≤ size e + inner e
  few n seen (Nil _) = omega arith
  few n seen (Break _) = omega arith
  few n seen (Int _ _) = omega arith
  few n seen (Text _ _) = omega arith
  few n seen (Read _ v) = let h = few_in_place n seen v in omega (arith, h)
  few n seen (Call _ _ args) = let h = few_in_exps n seen args in omega (arith, h)
  few n seen (Neg _ x) = let h = few n seen x in omega (arith, h)
  few n seen (Binary _ _ _ x y) = let h = few n seen x in let k = few n seen y in omega (arith, h, k, joined (declared n seen x) (declared n seen y))
  few n seen (Make _ _ inits) = let h = few_in_inits n seen inits in omega (arith, h)
  few n seen (Fill _ _ x y) = let h = few n seen x in let k = few n seen y in omega (arith, h, k, joined (declared n seen x) (declared n seen y))
  few n seen (Assign _ v x) =
      let h = few_in_place n seen v in
      let k = few n seen x in
      omega (arith, h, k, joined (declared_place n seen v) (declared n seen x))
  few n seen (If _ c x y) =
      let h = few n seen c in
      let k = few n seen x in
      let l = few n seen y in
      omega (arith, h, k, l, joined (declared n seen c) (declared n seen x ++ declared n seen y), joined (declared n seen x) (declared n seen y))
  few n seen (When _ c x) = let h = few n seen c in let k = few n seen x in omega (arith, h, k, joined (declared n seen c) (declared n seen x))
  few n seen (While _ c x) = let h = few n seen c in let k = few n seen x in omega (arith, h, k, joined (declared n seen c) (declared n seen x))
  few n seen (For _ i low high x) =
      let h = few n seen low in
      let k = few n seen high in
      let l = few n (own n i seen) x in
      omega (
        arith,
        h,
        k,
        l,
        joined (declared n seen low) (declared n seen high ++ declared n (own n i seen) x),
        joined (declared n seen high) (declared n (own n i seen) x),
      )
  few n seen (Let _ ds es) =
      let h = few_in_decs n seen ds in
      let k = few_in_exps n (own_decs n ds seen) es in
      omega (arith, h, k, joined (declared_decs n seen ds) (declared_exps n (own_decs n ds seen) es))
  few n seen (Seq _ es) = let h = few_in_exps n seen es in omega (arith, h)

  few_in_place : (n : ℕ) (seen : Levels) (v : LValue) → all_counted (declared_place n seen v) ≤ place_size v + inner_place v
  few_in_place n seen (Simple _) = omega arith
  few_in_place n seen (Field v _) = let h = few_in_place n seen v in omega (arith, h)
  few_in_place n seen (Index v x) =
      let h = few_in_place n seen v in
      let k = few n seen x in
      omega (arith, h, k, joined (declared_place n seen v) (declared n seen x))

  few_in_exps : (n : ℕ) (seen : Levels) (es : Exps) → all_counted (declared_exps n seen es) ≤ exps_size es + inner_exps es
  few_in_exps n seen no_exps = omega arith
  few_in_exps n seen (exp x rest) =
      let h = few n seen x in
      let k = few_in_exps n seen rest in
      omega (arith, h, k, joined (declared n seen x) (declared_exps n seen rest))

  few_in_inits : (n : ℕ) (seen : Levels) (is : Inits) → all_counted (declared_inits n seen is) ≤ inits_size is + inner_inits is
  few_in_inits n seen no_inits = omega arith
  few_in_inits n seen (init _ x rest) =
      let h = few n seen x in
      let k = few_in_inits n seen rest in
      omega (arith, h, k, joined (declared n seen x) (declared_inits n seen rest))

  few_in_decs : (n : ℕ) (seen : Levels) (ds : Decs) → all_counted (declared_decs n seen ds) ≤ decs_size ds + inner_decs ds
  few_in_decs n seen no_decs = omega arith
  few_in_decs n seen (types _ rest) = let h = few_in_decs n seen rest in omega (arith, h)
  few_in_decs n seen (variable i _ x rest) =
      let h = few n seen x in
      let k = few_in_decs n (own n i seen) rest in
      omega (arith, h, k, joined (declared n seen x) (declared_decs n (own n i seen) rest))
  few_in_decs n seen (functions fs rest) =
      let inside = own_functions n fs seen in
      let h = few_in_functions n inside fs in
      let k = few_in_decs n inside rest in
      omega (arith, h, k, joined (declared_functions n inside fs) (declared_decs n inside rest))

  few_in_functions : (n : ℕ) (seen : Levels) (fs : FunDecs) → all_counted (declared_functions n seen fs) ≤ functions_size fs + inner_functions fs
  few_in_functions n seen no_functions = omega arith
  few_in_functions n seen (function f params _ x rest) =
      let inside = own_params (suc n) params seen in
      let h = few (suc n) inside x in
      let k = few_in_functions n seen rest in
      let both = one_more f.span.from (suc n) seen params x (declared (suc n) inside x) (declared_functions n seen rest) _ h k in
      omega (arith, both)

pub counted_within : (e : Exp) → all_counted (program_functions e) ≤ program_size e + 1
counted_within e =
    let h = few 0 [] e in
    let first = measures (span_of e).from 0 [] [] e in
    let head : param_count first ≡ 0 = omega arith in
    omega (arith, h, head, program_size_is e, sum_by-cons counted first (declared 0 [] e))

-- two for each, and what is counted of each, apart
counted_apart : (ms : List Measures) → all_counted ms ≡ 2 * length ms + sum_by param_count ms
counted_apart [] = refl
counted_apart (m ∷ ms) = let h = counted_apart ms in omega (arith, h, sum_by-cons counted m ms, sum_by-cons param_count m ms)

pub functions_are_few : FunctionsAreFew
functions_are_few e = let h = counted_within e in omega (arith, h, counted_apart (program_functions e))
