-- The nodes of a program are the sum over its functions. Of a function's measures the levels that its text crosses alone
-- depend on the names that it sees.
use Rattle.std.proofs.Common.{◌≡◌, ℕ, suc, ◌+◌, List, [], ◌∷◌, ◌++◌, map, sum_by, refl, sym, ap, ◌∙◌, arith}
use Rattle.std.proofs.lemmas.List.{map-append}
use Rattle.std.proofs.lemmas.List.Sums.{sum_by-append, sum_by-cons}
use Rattle.tg_syntax.specs.Measures.{size}
use Rattle.tg_syntax.specs.InnerMeasures.{inner, inner_place, inner_exps, inner_inits, inner_decs, inner_functions}
use Rattle.tg_syntax.specs.Functions.{Measures, Levels, measures, own, own_params, own_functions, own_decs, declared, declared_place, declared_exps}
use Rattle.tg_syntax.specs.Functions.{declared_inits, declared_decs, declared_functions, program_size}
use Rattle.tg_syntax.specs.Tree.{Exp, Nil, Break, Int, Text, Read, Call, Neg, Binary, Make, Fill, Assign, If, When, While, For, Let, Seq, LValue}
use Rattle.tg_syntax.specs.Tree.{Simple, Field, Index, Exps, no_exps, exp, Inits, no_inits, init, Decs, no_decs, types, variable, functions, FunDecs}
use Rattle.tg_syntax.specs.Tree.{no_functions, function}

abbrev pub sizes_in : List Measures → ℕ
sizes_in fs = sum_by (λ f. f.size) fs

two : (x y : ℕ) (a b : List Measures) → x ≡ sizes_in a → y ≡ sizes_in b → x + y ≡ sizes_in (a ++ b)
two x y a b e d = omega (arith, e, d, sum_by-append (λ (f : Measures). f.size) a b)

three : (x y z : ℕ) (a b c : List Measures) → x ≡ sizes_in a → y ≡ sizes_in b → z ≡ sizes_in c → x + y + z ≡ sizes_in (a ++ (b ++ c))
three x y z a b c e d f = omega (arith, e, two y z b c d f, sum_by-append (λ (g : Measures). g.size) a (b ++ c))

one_more : (x y : ℕ) (f : Measures) (a b : List Measures) → x ≡ sizes_in a → y ≡ sizes_in b → f.size + x + y ≡ sizes_in (f ∷ (a ++ b))
one_more x y f a b e d = omega (arith, two x y a b e d, sum_by-cons)

mutual
  pub inner_is : (n : ℕ) (seen : Levels) (e : Exp) → inner e ≡ sizes_in (declared n seen e)
  inner_is n seen (Nil _) = refl
  inner_is n seen (Break _) = refl
  inner_is n seen (Int _ _) = refl
  inner_is n seen (Text _ _) = refl
  inner_is n seen (Read _ v) = inner_place_is n seen v
  inner_is n seen (Call _ _ args) = inner_exps_is n seen args
  inner_is n seen (Neg _ a) = inner_is n seen a
  inner_is n seen (Binary _ _ _ a b) = two _ _ (declared n seen a) (declared n seen b) (inner_is n seen a) (inner_is n seen b)
  inner_is n seen (Make _ _ inits) = inner_inits_is n seen inits
  inner_is n seen (Fill _ _ a b) = two _ _ (declared n seen a) (declared n seen b) (inner_is n seen a) (inner_is n seen b)
  inner_is n seen (Assign _ v a) = two _ _ (declared_place n seen v) (declared n seen a) (inner_place_is n seen v) (inner_is n seen a)
  inner_is n seen (If _ c a b) =
      three _ _ _ (declared n seen c) (declared n seen a) (declared n seen b) (inner_is n seen c) (inner_is n seen a) (inner_is n seen b)
  inner_is n seen (When _ c a) = two _ _ (declared n seen c) (declared n seen a) (inner_is n seen c) (inner_is n seen a)
  inner_is n seen (While _ c a) = two _ _ (declared n seen c) (declared n seen a) (inner_is n seen c) (inner_is n seen a)
  inner_is n seen (For _ x l h a) =
      three _ _ _ (declared n seen l) (declared n seen h) (declared n (own n x seen) a) (inner_is n seen l) (inner_is n seen h) (inner_is n (own n x seen) a)
  inner_is n seen (Let _ ds es) =
      two _ _ (declared_decs n seen ds) (declared_exps n (own_decs n ds seen) es) (inner_decs_is n seen ds) (inner_exps_is n (own_decs n ds seen) es)
  inner_is n seen (Seq _ es) = inner_exps_is n seen es

  pub inner_place_is : (n : ℕ) (seen : Levels) (v : LValue) → inner_place v ≡ sizes_in (declared_place n seen v)
  inner_place_is n seen (Simple _) = refl
  inner_place_is n seen (Field v _) = inner_place_is n seen v
  inner_place_is n seen (Index v e) = two _ _ (declared_place n seen v) (declared n seen e) (inner_place_is n seen v) (inner_is n seen e)

  pub inner_exps_is : (n : ℕ) (seen : Levels) (es : Exps) → inner_exps es ≡ sizes_in (declared_exps n seen es)
  inner_exps_is n seen no_exps = refl
  inner_exps_is n seen (exp e rest) = two _ _ (declared n seen e) (declared_exps n seen rest) (inner_is n seen e) (inner_exps_is n seen rest)

  pub inner_inits_is : (n : ℕ) (seen : Levels) (is : Inits) → inner_inits is ≡ sizes_in (declared_inits n seen is)
  inner_inits_is n seen no_inits = refl
  inner_inits_is n seen (init _ e rest) = two _ _ (declared n seen e) (declared_inits n seen rest) (inner_is n seen e) (inner_inits_is n seen rest)

  pub inner_decs_is : (n : ℕ) (seen : Levels) (ds : Decs) → inner_decs ds ≡ sizes_in (declared_decs n seen ds)
  inner_decs_is n seen no_decs = refl
  inner_decs_is n seen (types _ rest) = inner_decs_is n seen rest
  inner_decs_is n seen (variable x _ e rest) =
      two _ _ (declared n seen e) (declared_decs n (own n x seen) rest) (inner_is n seen e) (inner_decs_is n (own n x seen) rest)
  inner_decs_is n seen (functions fs rest) =
      two _ _ (declared_functions n (own_functions n fs seen) fs) (declared_decs n (own_functions n fs seen) rest)
      (inner_functions_is n (own_functions n fs seen) fs) (inner_decs_is n (own_functions n fs seen) rest)

  pub inner_functions_is : (n : ℕ) (seen : Levels) (fs : FunDecs) → inner_functions fs ≡ sizes_in (declared_functions n seen fs)
  inner_functions_is n seen no_functions = refl
  inner_functions_is n seen (function f params _ body rest) =
      one_more _ _ (measures f.span.from (suc n) seen params body) (declared (suc n) (own_params (suc n) params seen) body) (declared_functions n seen rest)
      (inner_is (suc n) (own_params (suc n) params seen) body) (inner_functions_is n seen rest)

-- the nodes of a program, as its body's and those of the bodies that it declares
pub program_size_is : (body : Exp) → program_size body ≡ size body + inner body
program_size_is body = omega (arith, inner_is 0 [] body, sum_by-cons)

-- ---- what does not depend on the names that are seen

-- without the levels that are crossed
abbrev pub without_hops : Measures → Measures
without_hops f = record f { hops = 0 }

abbrev pub texts : List Measures → List Measures
texts fs = map without_hops fs

joins : (a b c d : List Measures) → texts a ≡ texts c → texts b ≡ texts d → texts (a ++ b) ≡ texts (c ++ d)
joins a b c d e f = map-append without_hops a b ∙ (ap (λ x. x ++ texts b) e ∙ (ap (λ y. texts c ++ y) f ∙ sym (map-append without_hops c d)))

mutual
  pub same_texts : (n : ℕ) (s t : Levels) (e : Exp) → texts (declared n s e) ≡ texts (declared n t e)
  same_texts n s t (Nil _) = refl
  same_texts n s t (Break _) = refl
  same_texts n s t (Int _ _) = refl
  same_texts n s t (Text _ _) = refl
  same_texts n s t (Read _ v) = same_place_texts n s t v
  same_texts n s t (Call _ _ args) = same_exps_texts n s t args
  same_texts n s t (Neg _ a) = same_texts n s t a
  same_texts n s t (Binary _ _ _ a b) = joins _ _ _ _ (same_texts n s t a) (same_texts n s t b)
  same_texts n s t (Make _ _ inits) = same_inits_texts n s t inits
  same_texts n s t (Fill _ _ a b) = joins _ _ _ _ (same_texts n s t a) (same_texts n s t b)
  same_texts n s t (Assign _ v a) = joins _ _ _ _ (same_place_texts n s t v) (same_texts n s t a)
  same_texts n s t (If _ c a b) = joins _ _ _ _ (same_texts n s t c) (joins _ _ _ _ (same_texts n s t a) (same_texts n s t b))
  same_texts n s t (When _ c a) = joins _ _ _ _ (same_texts n s t c) (same_texts n s t a)
  same_texts n s t (While _ c a) = joins _ _ _ _ (same_texts n s t c) (same_texts n s t a)
  same_texts n s t (For _ x l h a) =
      joins _ _ _ _ (same_texts n s t l) (joins _ _ _ _ (same_texts n s t h) (same_texts n (own n x s) (own n x t) a))
  same_texts n s t (Let _ ds es) = joins _ _ _ _ (same_decs_texts n s t ds) (same_exps_texts n (own_decs n ds s) (own_decs n ds t) es)
  same_texts n s t (Seq _ es) = same_exps_texts n s t es

  pub same_place_texts : (n : ℕ) (s t : Levels) (v : LValue) → texts (declared_place n s v) ≡ texts (declared_place n t v)
  same_place_texts n s t (Simple _) = refl
  same_place_texts n s t (Field v _) = same_place_texts n s t v
  same_place_texts n s t (Index v e) = joins _ _ _ _ (same_place_texts n s t v) (same_texts n s t e)

  pub same_exps_texts : (n : ℕ) (s t : Levels) (es : Exps) → texts (declared_exps n s es) ≡ texts (declared_exps n t es)
  same_exps_texts n s t no_exps = refl
  same_exps_texts n s t (exp e rest) = joins _ _ _ _ (same_texts n s t e) (same_exps_texts n s t rest)

  pub same_inits_texts : (n : ℕ) (s t : Levels) (is : Inits) → texts (declared_inits n s is) ≡ texts (declared_inits n t is)
  same_inits_texts n s t no_inits = refl
  same_inits_texts n s t (init _ e rest) = joins _ _ _ _ (same_texts n s t e) (same_inits_texts n s t rest)

  pub same_decs_texts : (n : ℕ) (s t : Levels) (ds : Decs) → texts (declared_decs n s ds) ≡ texts (declared_decs n t ds)
  same_decs_texts n s t no_decs = refl
  same_decs_texts n s t (types _ rest) = same_decs_texts n s t rest
  same_decs_texts n s t (variable x _ e rest) = joins _ _ _ _ (same_texts n s t e) (same_decs_texts n (own n x s) (own n x t) rest)
  same_decs_texts n s t (functions fs rest) =
      joins _ _ _ _ (same_functions_texts n (own_functions n fs s) (own_functions n fs t) fs)
      (same_decs_texts n (own_functions n fs s) (own_functions n fs t) rest)

  pub same_functions_texts : (n : ℕ) (s t : Levels) (fs : FunDecs) → texts (declared_functions n s fs) ≡ texts (declared_functions n t fs)
  same_functions_texts n s t no_functions = refl
  same_functions_texts n s t (function f params _ body rest) =
      ap (λ fs. without_hops (measures f.span.from (suc n) s params body) ∷ fs)
      (joins _ _ _ _ (same_texts (suc n) (own_params (suc n) params s) (own_params (suc n) params t) body) (same_functions_texts n s t rest))
