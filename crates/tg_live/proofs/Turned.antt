-- A list of lists turned round into a table, and the sets of pairs that both stand for.
use Rattle.std.proofs.Common.{◌≡◌, ◌<◌, ◌+◌, ℕ, zero, suc, Bool, true, false, nat_eq, nat_lt, ◌&&◌, ◌||◌, List, [], ◌∷◌, ◌++◌, map, length, replicate}
use Rattle.std.proofs.Common.{set, drop, get_or, refl, sym, ap, ◌∙◌, subst, arith, ⊎_elim}
use Rattle.std.specs.List.{list_any, list_all}
use Rattle.std.specs.Ordering.{nat_cmp, eq_by_cmp, is_eq, ordering_then, on}
use Rattle.std.specs.declared.cmp.Ordering.{Ordering}
use Rattle.std.specs.declared.cmp.Ordering.TheVariants.{Less, Equal, Greater}
use Rattle.std.specs.Cmp.{IsTotalOrder, nat_cmp_total, unsigned_tied}
use Rattle.std.specs.FinSet.{contains, from_list, contains-from_list, same_set, IsAntisymmetric, nat_cmp-IsAntisymmetric}
use Rattle.std.proofs.lemmas.Cmp.{then_total}
use Rattle.std.proofs.lemmas.Bool.{eq-eqb, ne_eqb, cases_eq, and_parts, ltb-true}
use Rattle.std.proofs.lemmas.List.{drop_more, length-map, map-set, get_or-map, length-replicate, length-set, get_or-set_same, get_or-set_other}
use Rattle.std.proofs.lemmas.List.Folds.{list_any-append}
use Rattle.tg_instr.specs.declared.instr.Instr.{Instr}
use Rattle.tg_live.specs.Flow.{pair_cmp, successors, goes_on, edges_from, flow_of}
use Rattle.tg_live.specs.glue.Tables.{Table, row, push_at, add_to, add_from, have_rows_below, edges_into, IsBefore}

abbrev has : ℕ → List ℕ → Bool
has p ks = list_any (nat_eq p) ks

or_false : (b : Bool) → (b || false) ≡ b
or_false true = refl
or_false false = refl

and_false : (b : Bool) → (b && false) ≡ false
and_false true = refl
and_false false = refl

or_assoc : (a b c : Bool) → (a || (b || c)) ≡ ((a || b) || c)
or_assoc true b c = refl
or_assoc false b c = refl

or_swap : (a b : Bool) → (a || b) ≡ (b || a)
or_swap true true = refl
or_swap true false = refl
or_swap false true = refl
or_swap false false = refl

pub has_push : (p : ℕ) (ks : List ℕ) (v : ℕ) → has p (ks ++ v ∷ []) ≡ (has p ks || nat_eq p v)
has_push p [] v = or_false (nat_eq p v)
has_push p (k ∷ ks) v = ap (λ b. nat_eq p k || b) (has_push p ks v) ∙ or_assoc (nat_eq p k) (has p ks) (nat_eq p v)

pub row_same : {A : Type 0} (t : List (List A)) (n : ℕ) (v : A) → n < length t →
    row (push_at t n v) n ≡ row t n ++ v ∷ []
row_same t n v l = get_or-set_same t n (row t n ++ v ∷ []) [] l

pub row_other : {A : Type 0} (t : List (List A)) (n : ℕ) (v : A) (q : ℕ) → (q ≡ n → ⊥) → row (push_at t n v) q ≡ row t q
row_other t n v q ne = get_or-set_other t n q (row t n ++ v ∷ []) [] ne

row_push : (t : Table) (n v : ℕ) → n < length t → (p q : ℕ) →
    has p (row (push_at t n v) q) ≡ ((nat_eq q n && nat_eq p v) || has p (row t q))
row_push t n v l p q = ⊎_elim same other (cases_eq q n)
  where
    same : q ≡ n → has p (row (push_at t n v) q) ≡ ((nat_eq q n && nat_eq p v) || has p (row t q))
    same e =
        let P : ℕ → Type 0 = λ k. has p (row (push_at t n v) k) ≡ ((nat_eq k n && nat_eq p v) || has p (row t k)) in
        subst P (sym e) (ap (has p) (row_same t n v l)
        ∙ (has_push p (row t n) v ∙ (or_swap (has p (row t n)) (nat_eq p v)
        ∙ ap (λ b. (b && nat_eq p v) || has p (row t n)) (sym (eq-eqb n n refl)))))

    other : (q ≡ n → ⊥) → has p (row (push_at t n v) q) ≡ ((nat_eq q n && nat_eq p v) || has p (row t q))
    other ne = ap (has p) (row_other t n v q ne) ∙ ap (λ b. (b && nat_eq p v) || has p (row t q)) (sym (ne_eqb q n ne))

pub length-push_at : {A : Type 0} (t : List (List A)) (n : ℕ) (v : A) → length (push_at t n v) ≡ length t
length-push_at t n v = length-set t n (row t n ++ v ∷ [])

pub length-add_to : (v : ℕ) (rows : List ℕ) (t : Table) → length (add_to v rows t) ≡ length t
length-add_to v [] t = refl
length-add_to v (n ∷ rows) t = length-add_to v rows (push_at t n v) ∙ length-push_at t n v

pub length-add_from : (at : ℕ) (lists : List (List ℕ)) (t : Table) → length (add_from at lists t) ≡ length t
length-add_from at [] t = refl
length-add_from at (rows ∷ rest) t = length-add_from (suc at) rest (add_to at rows t) ∙ length-add_to at rows t

below_same : (m n : ℕ) (rows : List ℕ) → m ≡ n → list_all (λ k. nat_lt k n) rows ≡ true →
    list_all (λ k. nat_lt k m) rows ≡ true
below_same m n rows e h = let P : ℕ → Type 0 = λ i. list_all (λ k. nat_lt k i) rows ≡ true in subst P (sym e) h

rows_below_same : (m n : ℕ) (lists : List (List ℕ)) → m ≡ n → have_rows_below n lists ≡ true →
    have_rows_below m lists ≡ true
rows_below_same m n lists e h = let P : ℕ → Type 0 = λ i. have_rows_below i lists ≡ true in subst P (sym e) h

shuffle_add : (a h e o : Bool) → ((a && h) || ((e && a) || o)) ≡ ((a && (e || h)) || o)
shuffle_add true true true o = refl
shuffle_add true true false o = refl
shuffle_add true false true o = refl
shuffle_add true false false o = refl
shuffle_add false h true o = refl
shuffle_add false h false o = refl

row_add : (v : ℕ) (rows : List ℕ) (t : Table) → list_all (λ k. nat_lt k (length t)) rows ≡ true → (p q : ℕ) →
    has p (row (add_to v rows t) q) ≡ ((nat_eq p v && has q rows) || has p (row t q))
row_add v [] t w p q = ap (λ b. b || has p (row t q)) (sym (and_false (nat_eq p v)))
row_add v (n ∷ rows) t w p q =
    let h = and_parts (nat_lt n (length t)) (list_all (λ k. nat_lt k (length t)) rows) w in
    row_add v rows (push_at t n v) (below_same _ _ rows (length-push_at t n v) h.1) p q
    ∙ (ap (λ b. (nat_eq p v && has q rows) || b) (row_push t n v (ltb-true n (length t) h.0) p q)
    ∙ shuffle_add (nat_eq p v) (has q rows) (nat_eq q n) (has p (row t q)))

pub add_from_more : (lists : List (List ℕ)) (at : ℕ) (t : Table) → at < length lists →
    add_from at (drop at lists) t ≡ add_from (at + 1) (drop (at + 1) lists) (add_to at (row lists at) t)
add_from_more lists at t l =
    let e : suc at ≡ at + 1 = omega arith in
    ap (λ rest. add_from at rest t) (drop_more lists at [] l)
    ∙ ap (λ n. add_from n (drop (at + 1) lists) (add_to at (row lists at) t)) e

pub push_row : {A T : Type 0} (f : A → List T) (rows : List A) (t : List (List T)) (at : ℕ) (old new : A) (item : T) →
    map f rows ≡ t → at < length t → old ≡ get_or rows at old → f new ≡ f old ++ item ∷ [] →
    map f (set rows at new) ≡ push_at t at item
push_row f rows t at old new item view w is e =
    let l : at < length rows = omega (arith, w, ap (λ u. length u) view, length-map rows f) in
    map-set f rows at new
    ∙ (ap (λ u. set (map f rows) at u) (e ∙ ap (λ u. u ++ item ∷ []) (ap f is ∙ sym (get_or-map f rows at old [] l)))
    ∙ ap (λ u. push_at u at item) view)

-- one of the lists, the first of which stands at a place, stands at p and has q
holds : (at : ℕ) → List (List ℕ) → (p q : ℕ) → Bool
holds at [] p q = false
holds at (list ∷ rest) p q = (nat_eq p at && has q list) || holds (suc at) rest p q

shuffle_from : (h a o : Bool) → (h || (a || o)) ≡ ((a || h) || o)
shuffle_from true true o = refl
shuffle_from true false o = refl
shuffle_from false true o = refl
shuffle_from false false o = refl

row_from : (at : ℕ) (lists : List (List ℕ)) (t : Table) → have_rows_below (length t) lists ≡ true → (p q : ℕ) →
    has p (row (add_from at lists t) q) ≡ (holds at lists p q || has p (row t q))
unfolding holds
row_from at [] t w p q = refl
row_from at (rows ∷ rest) t w p q =
    let h = and_parts (list_all (λ k. nat_lt k (length t)) rows) (have_rows_below (length t) rest) w in
    row_from (suc at) rest (add_to at rows t) (rows_below_same _ _ rest (length-add_to at rows t) h.1) p q
    ∙ (ap (λ b. holds (suc at) rest p q || b) (row_add at rows t h.0 p q)
    ∙ shuffle_from (holds (suc at) rest p q) (nat_eq p at && has q rows) (has p (row t q)))

holds_below : (at : ℕ) (lists : List (List ℕ)) (p q : ℕ) → p < at → holds at lists p q ≡ false
unfolding holds
holds_below at [] p q l = refl
holds_below at (list ∷ rest) p q l =
    ap (λ b. (b && has q list) || holds (suc at) rest p q) (ne_eqb p at (omega arith))
    ∙ holds_below (suc at) rest p q (omega arith)

holds_at : (at : ℕ) (lists : List (List ℕ)) (k p q : ℕ) → p ≡ at + k → holds at lists p q ≡ has q (row lists k)
unfolding holds
holds_at at [] k p q e = refl
holds_at at (list ∷ rest) zero p q e =
    ap (λ b. (b && has q list) || holds (suc at) rest p q) (eq-eqb p at (omega arith))
    ∙ (ap (λ b. has q list || b) (holds_below (suc at) rest p q (omega arith)) ∙ or_false (has q list))
holds_at at (list ∷ rest) (suc k) p q e =
    ap (λ b. (b && has q list) || holds (suc at) rest p q) (ne_eqb p at (omega arith))
    ∙ holds_at (suc at) rest k p q (omega arith)

pub row_none : {A : Type 0} (n q : ℕ) → row (replicate n (let e : List A = [] in e)) q ≡ []
row_none zero q = refl
row_none (suc n) zero = refl
row_none (suc n) (suc q) = row_none n q

-- row q of the table has p where list p has q
pub turned : (lists : List (List ℕ)) (n : ℕ) → have_rows_below n lists ≡ true → (p q : ℕ) →
    has p (row (add_from 0 lists (replicate n [])) q) ≡ has q (row lists p)
turned lists n w p q =
    row_from 0 lists (replicate n []) (rows_below_same _ _ lists (length-replicate n []) w) p q
    ∙ (ap (λ b. holds 0 lists p q || has p b) (row_none n q) ∙ (or_false _ ∙ holds_at 0 lists p p q (omega arith)))

-- Sets of pairs.

pair_total : IsTotalOrder pair_cmp
pair_total = then_total (on_total (λ p. p.0)) (on_total (λ p. p.1))
  where
    on_total : (f : ℕ × ℕ → ℕ) → IsTotalOrder (on f nat_cmp)
    on_total f = record {
      antisymm = λ x y. nat_cmp_total.antisymm (f x) (f y);
      trans = λ x y z. nat_cmp_total.trans (f x) (f y) (f z);
      congr = λ x y z. nat_cmp_total.congr (f x) (f y) (f z);
    }

both_equal : (a b : Ordering) → ordering_then a b ≡ Equal → (a ≡ Equal) × (b ≡ Equal)
both_equal Less b e = absurd (cc)
both_equal Equal b e = (refl, e)
both_equal Greater b e = absurd (cc)

pair_antisymmetric : IsAntisymmetric pair_cmp
pair_antisymmetric x y e =
    let h = both_equal (nat_cmp x.0 y.0) (nat_cmp x.1 y.1) e in
    λ i. (nat_cmp-IsAntisymmetric x.0 y.0 h.0 i, nat_cmp-IsAntisymmetric x.1 y.1 h.1 i)

then_equal : (a b : Ordering) → is_eq (ordering_then a b) ≡ (is_eq a && is_eq b)
then_equal Less b = refl
then_equal Equal b = refl
then_equal Greater b = refl

pair_same : (x y : ℕ × ℕ) → eq_by_cmp pair_cmp x y ≡ (nat_eq x.0 y.0 && nat_eq x.1 y.1)
pair_same x y =
    then_equal (nat_cmp x.0 y.0) (nat_cmp x.1 y.1)
    ∙ (ap (λ b. b && is_eq (nat_cmp x.1 y.1)) (unsigned_tied x.0 y.0)
    ∙ ap (λ b. nat_eq x.0 y.0 && b) (unsigned_tied x.1 y.1))

and_or : (a e h : Bool) → ((a && e) || (a && h)) ≡ (a && (e || h))
and_or true e h = refl
and_or false e h = refl

and_back : (a e : Bool) → (e && a) ≡ (a && e)
and_back true true = refl
and_back true false = refl
and_back false true = refl
and_back false false = refl

-- edges at a place, whose other ends are a list
edges_at : (edge : ℕ → ℕ × ℕ) (x : ℕ × ℕ) (here : Bool) (end : ℕ) →
    ((n : ℕ) → eq_by_cmp pair_cmp x (edge n) ≡ (here && nat_eq end n)) → (ends : List ℕ) →
    list_any (eq_by_cmp pair_cmp x) (map edge ends) ≡ (here && has end ends)
edges_at edge x here end same [] = sym (and_false here)
edges_at edge x here end same (n ∷ ends) =
    ap (λ b. b || list_any (eq_by_cmp pair_cmp x) (map edge ends)) (same n)
    ∙ (ap (λ b. (here && nat_eq end n) || b) (edges_at edge x here end same ends)
    ∙ and_or here (nat_eq end n) (has end ends))

edges_out : (at : ℕ) (nexts : List ℕ) (x : ℕ × ℕ) →
    list_any (eq_by_cmp pair_cmp x) (map (λ next. (at, next)) nexts) ≡ (nat_eq x.0 at && has x.1 nexts)
edges_out at nexts x = edges_at (λ n. (at, n)) x (nat_eq x.0 at) x.1 (λ n. pair_same x (at, n)) nexts

edges_in : (at : ℕ) (befores : List ℕ) (x : ℕ × ℕ) →
    list_any (eq_by_cmp pair_cmp x) (map (λ before. (before, at)) befores) ≡ (nat_eq x.1 at && has x.0 befores)
edges_in at befores x =
    edges_at (λ n. (n, at)) x (nat_eq x.1 at) x.0
    (λ n. pair_same x (n, at) ∙ and_back (nat_eq x.1 at) (nat_eq x.0 n)) befores

edges_from_hold : (at : ℕ) (lists : List (List ℕ)) (x : ℕ × ℕ) →
    list_any (eq_by_cmp pair_cmp x) (edges_from at lists) ≡ holds at lists x.0 x.1
unfolding holds
edges_from_hold at [] x = refl
edges_from_hold at (nexts ∷ rest) x =
    list_any-append (eq_by_cmp pair_cmp x) (map (λ next. (at, next)) nexts) (edges_from (suc at) rest)
    ∙ (ap (λ b. b || list_any (eq_by_cmp pair_cmp x) (edges_from (suc at) rest)) (edges_out at nexts x)
    ∙ ap (λ b. (nat_eq x.0 at && has x.1 nexts) || b) (edges_from_hold (suc at) rest x))

edges_into_hold : (at : ℕ) (t : Table) (x : ℕ × ℕ) →
    list_any (eq_by_cmp pair_cmp x) (edges_into at t) ≡ holds at t x.1 x.0
unfolding holds
edges_into_hold at [] x = refl
edges_into_hold at (befores ∷ rest) x =
    list_any-append (eq_by_cmp pair_cmp x) (map (λ before. (before, at)) befores) (edges_into (suc at) rest)
    ∙ (ap (λ b. b || list_any (eq_by_cmp pair_cmp x) (edges_into (suc at) rest)) (edges_in at befores x)
    ∙ ap (λ b. (nat_eq x.1 at && has x.0 befores) || b) (edges_into_hold (suc at) rest x))

contains_out : (lists : List (List ℕ)) (p q : ℕ) →
    contains (from_list {R = pair_cmp} (edges_from 0 lists)) (p, q) ≡ has q (row lists p)
contains_out lists p q = contains-from_list pair_total (edges_from 0 lists) (p, q)
    ∙ (edges_from_hold 0 lists (p, q) ∙ holds_at 0 lists p p q (omega arith))

contains_in : (t : Table) (p q : ℕ) → contains (from_list {R = pair_cmp} (edges_into 0 t)) (p, q) ≡ has p (row t q)
contains_in t p q = contains-from_list pair_total (edges_into 0 t) (p, q)
    ∙ (edges_into_hold 0 t (p, q) ∙ holds_at 0 t q q p (omega arith))

-- the flow of a code has a pair exactly where the first goes on at the second
pub flow_has : (all : List Instr) (p q : ℕ) → contains (flow_of all) (p, q) ≡ goes_on all p q
flow_has all p q = contains_out (successors all) p q

pub flow_of_table : (all : List Instr) (t : Table) → IsBefore all t →
    from_list {R = pair_cmp} (edges_into 0 t) ≡ flow_of all
flow_of_table all t before =
    same_set pair_total pair_antisymmetric _ _ (λ x. contains_in t x.0 x.1
    ∙ (before x.0 x.1 ∙ sym (flow_has all x.0 x.1)))

pub table_of_flow : (all : List Instr) (t : Table) → from_list {R = pair_cmp} (edges_into 0 t) ≡ flow_of all →
    IsBefore all t
table_of_flow all t e p q = sym (contains_in t p q) ∙ (ap (λ s. contains s (p, q)) e ∙ flow_has all p q)
