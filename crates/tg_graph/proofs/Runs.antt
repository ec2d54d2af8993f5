-- Lists that are linked by index, when a node is taken out or put last.
use Rattle.std.proofs.Common.{◌≡◌, ◌≢◌, ℕ, zero, suc, ◌+◌, ◌<◌, ◌≤◌, true, false, cond, eqb, List, [], ◌∷◌, ◌++◌, length, get_or, set, slice_index}
use Rattle.std.proofs.Common.{refl, sym, ap, ◌∙◌, subst, ⊎_elim, arith, append_assoc}
use Rattle.std.proofs.lemmas.Bool.{cases_eq, eq-eqb, ne_eqb, cond-true, cond-false, lt-ltb, le-ltb}
use Rattle.std.proofs.lemmas.List.{get_or-set_same, get_or-set_other, length-set, append-nil}
use Rattle.std.specs.List.{range_with_len}
use Rattle.tg_graph.specs.Lists.{without}
use Rattle.tg_graph.specs.glue.Chains.{AreInverse, follow, LeadsAlong, joined_to}

run_at : (next : ℕ → ℕ) (n end : ℕ) (y z : ℕ) (xs ys : List ℕ) → y ≡ z → xs ≡ ys → LeadsAlong next n y xs end →
    LeadsAlong next n z ys end
run_at next n end y z xs ys p q r =
    subst (λ (ws : List ℕ). LeadsAlong next n z ws end) q (subst (λ (v : ℕ). LeadsAlong next n v xs end) p r)

-- Without a node.

pub without_same : (x u : ℕ) (us : List ℕ) → x ≡ u → without x (u ∷ us) ≡ without x us
without_same x u us p = let t : eqb x u ≡ true = eq-eqb x u p in rw t refl

pub without_other : (x u : ℕ) (us : List ℕ) → x ≢ u → without x (u ∷ us) ≡ u ∷ without x us
without_other x u us p = let t : eqb x u ≡ false = ne_eqb x u p in rw t refl

-- where a link to x leads once x is taken out
abbrev skipped : (ℕ → ℕ) → ℕ → ℕ → ℕ
skipped next x v = cond (eqb v x) (next x) v

skipped_same : (next : ℕ → ℕ) (x v : ℕ) → v ≡ x → skipped next x v ≡ next x
skipped_same next x v p = cond-true _ _ _ (eq-eqb v x p)

skipped_other : (next : ℕ → ℕ) (x v : ℕ) → v ≢ x → skipped next x v ≡ v
skipped_other next x v p = cond-false _ _ _ (ne_eqb v x p)

skipped_next : (next : ℕ → ℕ) (x : ℕ) → skipped next x (next x) ≡ next x
skipped_next next x = ⊎_elim (λ p. skipped_same next x (next x) p) (λ p. skipped_other next x (next x) p)
    (cases_eq (next x) x)

abbrev Skips : (next new : ℕ → ℕ) (n x : ℕ) → Type 0
Skips next new n x = (u : ℕ) → u < n → x ≢ u → new u ≡ skipped next x (next u)

unlinked : (next new : ℕ → ℕ) (n x end : ℕ) → Skips next new n x → x < n → n ≤ end → (xs : List ℕ) (y : ℕ) →
    LeadsAlong next n y xs end → LeadsAlong new n (skipped next x y) (without x xs) end
unlinked next new n x end s l h [] y r = skipped_other next x y (λ p. omega (arith, p, r, l, h)) ∙ r
unlinked next new n x end s l h (u ∷ us) y r =
    let later : LeadsAlong new n (skipped next x (next u)) (without x us) end =
    unlinked next new n x end s l h us (next u) r.2 in
    ⊎_elim
    (λ (p : x ≡ u).
    let there : skipped next x (next u) ≡ skipped next x y =
    ap (λ v. skipped next x (next v)) (sym p) ∙ (skipped_next next x ∙ sym (skipped_same next x y (r.0 ∙ sym p))) in
    run_at new n end _ _ _ _ there (sym (without_same x u us p)) later)
    (λ (p : x ≢ u).
    run_at new n end _ _ _ _ (sym (skipped_other next x y (λ q. p (sym (sym r.0 ∙ q))))) (sym (without_other x u us p))
    (r.0, r.1, run_at new n end _ _ _ _ (sym (s u r.1 p)) refl later))
    (cases_eq x u)

-- One more node before an end.

-- where a link to the end leads once x is put before it
abbrev led : (end x v : ℕ) → ℕ
led end x v = cond (eqb v end) x v

led_same : (end x v : ℕ) → v ≡ end → led end x v ≡ x
led_same end x v p = cond-true _ _ _ (eq-eqb v end p)

led_other : (end x v : ℕ) → v ≢ end → led end x v ≡ v
led_other end x v p = cond-false _ _ _ (ne_eqb v end p)

pub record Leads (next new : ℕ → ℕ) (n x end : ℕ) : Type 0 where
  pub last : new x ≡ end
  pub others : (u : ℕ) → u < n → x ≢ u → new u ≡ led end x (next u)
  pub apart : (u : ℕ) → u < n → x ≢ u → x ≢ next u

joined_same : (end x e : ℕ) (xs : List ℕ) → e ≡ end → joined_to end (x ∷ []) xs e ≡ xs ++ x ∷ []
joined_same end x e xs p = let t : eqb e end ≡ true = eq-eqb e end p in rw t refl

joined_other : (end x e : ℕ) (xs : List ℕ) → e ≢ end → joined_to end (x ∷ []) xs e ≡ xs
joined_other end x e xs p = let t : eqb e end ≡ false = ne_eqb e end p in rw t (append-nil xs)

linked : (next new : ℕ → ℕ) (n x end e : ℕ) → Leads next new n x end → x < n → n ≤ end → n ≤ e → (xs : List ℕ) (y : ℕ) →
    x ≢ y →
    LeadsAlong next n y xs e → LeadsAlong new n (led end x y) (joined_to end (x ∷ []) xs e) e
linked next new n x end e s l h k [] y a r =
    ⊎_elim
    (λ (p : e ≡ end). run_at new n e _ _ _ _ (sym (led_same end x y (r ∙ p))) (sym (joined_same end x e [] p))
    (refl, l, s.last ∙ sym p))
    (λ (p : e ≢ end). run_at new n e _ _ _ _ (sym (led_other end x y (λ q. p (sym r ∙ q))))
    (sym (joined_other end x e [] p)) r)
    (cases_eq e end)
linked next new n x end e s l h k (u ∷ us) y a r =
    let b : x ≢ u = λ p. a (p ∙ sym r.0) in
    let later : LeadsAlong new n (led end x (next u)) (joined_to end (x ∷ []) us e) e =
    linked next new n x end e s l h k us (next u) (s.apart u r.1 b) r.2 in (
      led_other end x y (λ q. omega (arith, q, r.0, r.1, h))
          ∙ r.0,
      r.1,
      run_at new n e _ _ _ _ (sym (s.others u r.1 b)) refl later,
    )

-- The lists themselves, as the code writes them.

abbrev next_unlinked : (next prev : List ℕ) → ℕ → List ℕ
next_unlinked next prev x = set (set next (get_or prev x 0) (get_or next x 0)) x x

unlinked_at : (next prev : List ℕ) (x u : ℕ) → AreInverse next prev → x < length next → u < length next → x ≢ u →
    get_or (next_unlinked next prev x) u 0 ≡ skipped (λ v. get_or next v 0) x (get_or next u 0)
unlinked_at next prev x u i l m p =
    let first : get_or (next_unlinked next prev x) u 0 ≡ get_or (set next (get_or prev x 0) (get_or next x 0)) u 0 =
    get_or-set_other _ x u x 0 (λ q. p (sym q)) in
    ⊎_elim
    (λ (q : u ≡ get_or prev x 0).
    let there : get_or next u 0 ≡ x = ap (λ v. get_or next v 0) q ∙ (i.back x l).1 in
    let wrote : get_or (set next (get_or prev x 0) (get_or next x 0)) u 0 ≡ get_or next x 0 =
    ap (λ v. get_or (set next (get_or prev x 0) (get_or next x 0)) v 0) q
    ∙ get_or-set_same next _ _ 0 ((i.back x l).0) in
    first ∙ (wrote ∙ sym (skipped_same (λ v. get_or next v 0) x (get_or next u 0) there)))
    (λ (q : u ≢ get_or prev x 0).
    let there : get_or next u 0 ≢ x = λ e. q (sym ((i.ahead u m).1) ∙ ap (λ v. get_or prev v 0) e) in
    first ∙ (get_or-set_other next _ u _ 0 q ∙ sym (skipped_other (λ v. get_or next v 0) x (get_or next u 0) there)))
    (cases_eq u (get_or prev x 0))

pub unlink_runs : (next prev : List ℕ) (x n end : ℕ) (xs : List ℕ) → AreInverse next prev → x < length next → x < n →
    n ≤ end → end < length next →
    LeadsAlong (slice_index next) n (slice_index next end) xs end →
    LeadsAlong (slice_index (next_unlinked next prev x)) n (slice_index (next_unlinked next prev x) end) (without x xs) end
unlink_runs next prev x n end xs i l h k m r =
    run_at _ n end _ _ _ _ (sym (unlinked_at next prev x end i l m (λ p. omega (arith, p, h, k)))) refl
    (unlinked (slice_index next) (slice_index (next_unlinked next prev x)) n x end
    (λ u b p. unlinked_at next prev x u i l (omega (arith, b, k, m)) p) h k xs (slice_index next end) r)

abbrev next_linked : (next prev : List ℕ) → (x end : ℕ) → List ℕ
next_linked next prev x end = set (set next (get_or prev end 0) x) x end

linked_at : (next prev : List ℕ) (x end u : ℕ) → AreInverse next prev → end < length next → u < length next → x ≢ u →
    get_or (next_linked next prev x end) u 0 ≡ led end x (get_or next u 0)
linked_at next prev x end u i l m p =
    let first : get_or (next_linked next prev x end) u 0 ≡ get_or (set next (get_or prev end 0) x) u 0 =
    get_or-set_other _ x u end 0 (λ q. p (sym q)) in
    ⊎_elim
    (λ (q : u ≡ get_or prev end 0).
    let there : get_or next u 0 ≡ end = ap (λ v. get_or next v 0) q ∙ (i.back end l).1 in
    let wrote : get_or (set next (get_or prev end 0) x) u 0 ≡ x =
    ap (λ v. get_or (set next (get_or prev end 0) x) v 0) q ∙ get_or-set_same next _ _ 0 ((i.back end l).0) in
    first ∙ (wrote ∙ sym (led_same end x (get_or next u 0) there)))
    (λ (q : u ≢ get_or prev end 0).
    let there : get_or next u 0 ≢ end = λ e. q (sym ((i.ahead u m).1) ∙ ap (λ v. get_or prev v 0) e) in
    first ∙ (get_or-set_other next _ u _ 0 q ∙ sym (led_other end x (get_or next u 0) there)))
    (cases_eq u (get_or prev end 0))

-- nothing leads to a node that is linked to itself
apart_from : (next prev : List ℕ) (x u : ℕ) → AreInverse next prev → x < length next → get_or next x 0 ≡ x →
    u < length next → x ≢ u →
    x ≢ get_or next u 0
apart_from next prev x u i l a m p = λ q.
    p (sym ((i.ahead x l).1) ∙ (ap (λ v. get_or prev v 0) (a ∙ q) ∙ (i.ahead u m).1))

pub link_runs : (next prev : List ℕ) (x end n e : ℕ) (xs : List ℕ) → AreInverse next prev → end < length next →
    x < length next → get_or next x 0 ≡ x →
    x < n → n ≤ end → n ≤ e → e < length next →
    LeadsAlong (slice_index next) n (slice_index next e) xs e →
    LeadsAlong (slice_index (next_linked next prev x end)) n (slice_index (next_linked next prev x end) e)
    (joined_to end (x ∷ []) xs e) e
link_runs next prev x end n e xs i l b a h k o m r =
    let y : x ≢ e = λ p. omega (arith, p, h, o) in
    let leads : Leads (slice_index next) (slice_index (next_linked next prev x end)) n x end = record {
      last = get_or-set_same _ x end 0 (omega (arith, length-set next (get_or prev end 0) x, b));
      others = λ u c p. linked_at next prev x end u i l (omega (arith, c, k, l)) p;
      apart = λ u c p. apart_from next prev x u i b a (omega (arith, c, k, l)) p;
    } in
    run_at _ n e _ _ _ _ (sym (linked_at next prev x end e i l m y)) refl
    (linked (slice_index next) (slice_index (next_linked next prev x end)) n x end e leads h k o xs (slice_index next e)
    (apart_from next prev x e i b a m y) r)

-- Numbers and nodes one after another.

pub range_more : (a k : ℕ) → range_with_len a (suc k) ≡ range_with_len a k ++ (a + k) ∷ []
range_more a zero = ap (λ v. v ∷ []) (omega arith)
range_more a (suc k) =
    let e : a + 1 + k ≡ a + suc k = omega arith in
    ap (λ vs. a ∷ vs) (range_more (a + 1) k ∙ ap (λ v. range_with_len (a + 1) k ++ v ∷ []) e)

pub range_next : (a k j : ℕ) → a + k ≡ j → range_with_len a (k + 1) ≡ range_with_len a k ++ j ∷ []
range_next a k j e =
    let more : k + 1 ≡ suc k = omega arith in
    ap (range_with_len a) more ∙ (range_more a k ∙ ap (λ i. range_with_len a k ++ i ∷ []) e)

pub range_pushed : (list : List ℕ) (n : ℕ) → list ≡ range_with_len 0 n → list ++ n ∷ [] ≡ range_with_len 0 (n + 1)
range_pushed list n e = ap (λ l. l ++ n ∷ []) e ∙ sym (range_next 0 n n (omega arith))

pub joined_more : (end a k : ℕ) (xs : List ℕ) (e : ℕ) →
    joined_to end ((a + k) ∷ []) (joined_to end (range_with_len a k) xs e) e
    ≡ joined_to end (range_with_len a (suc k)) xs e
joined_more end a k xs e =
    elim (eqb e end) as (λ b. (xs ++ cond b (range_with_len a k) []) ++ cond b ((a + k) ∷ []) []
    ≡ xs ++ cond b (range_with_len a (suc k)) []) [
      | true ↦ append_assoc xs (range_with_len a k) ((a + k) ∷ []) ∙ ap (λ vs. xs ++ vs) (sym (range_more a k))
      | false ↦ append-nil (xs ++ [])
    ]

-- What is found by following chains.

pub follows : (next : ℕ → ℕ) (n end : ℕ) → n ≤ end → (xs : List ℕ) (k y : ℕ) → length xs ≤ k → LeadsAlong next n y xs end →
    follow next n k y ≡ xs
follows next n end h [] zero y l r = refl
follows next n end h [] (suc k) y l r = cond-false _ _ _ (le-ltb y n (omega (arith, r, h)))
follows next n end h (x ∷ xs) zero y l r = absurd (omega (arith, l))
follows next n end h (x ∷ xs) (suc k) y l r =
    cond-true _ _ _ (lt-ltb y n (omega (arith, r.0, r.1)))
    ∙ (ap (λ v. v ∷ follow next n k (next v)) r.0
    ∙ ap (λ vs. x ∷ vs) (follows next n end h xs k (next x) (omega (arith, l)) r.2))

pub joined_none : (end : ℕ) (xs : List ℕ) (e : ℕ) → joined_to end [] xs e ≡ xs
joined_none end xs e = elim (eqb e end) as
    (λ b. xs ++ cond b [] [] ≡ xs) [ true ↦ append-nil xs | false ↦ append-nil xs ]
