-- The ends of moves as they are listed and counted at the start.
use Rattle.std.proofs.Common.{◌≡◌, ◌≢◌, ℕ, zero, suc, ◌+◌, ◌<◌, ◌≤◌, Bool, true, false, cond, ◌&&◌, List, [], ◌∷◌, ◌++◌, length, get_or, replicate}
use Rattle.std.proofs.Common.{All, refl, sym, ap, ◌∙◌, subst, ⊎_elim, arith}
use Rattle.std.specs.Prelude.{◌==◌, nat_eq, count_by}
use Rattle.std.proofs.lemmas.Bool.{cases_eq, cases_lt, eq-eqb, ne_eqb}
use Rattle.std.proofs.lemmas.List.{get_or-set_same, get_or-set_other, get_or-replicate, get_or_past, length-replicate, length-set, length_push}
use Rattle.std.proofs.lemmas.List.Elements.{All-head, All-tail}
use Rattle.std.proofs.lemmas.List.Sums.{sum_by_push}
use Rattle.tg_irc_definition.specs.declared.moves.Move.{Move}
use Rattle.tg_irc_definition.specs.Graphs.{bit}
use Rattle.tg_coalescing_round.specs.glue.Lists.{list_at, pushed, raised}
use Rattle.tg_coalescing_round.specs.glue.Tables.{move_at, ends_listed, ends_counted}
use Rattle.tg_coalescing_round.proofs.AdvancingMembers.{count_cons, one_bit}
use Rattle.tg_coalescing_round.proofs.Listing.{length_pushed}
use Rattle.tg_coalescing_round.proofs.Tabling.{listed_more, counted_more, length_listed, length_counted, end_of}

-- how often a number is in a list with one number more
count_push : (k : ℕ) (xs : List ℕ) (y : ℕ) → count_by (nat_eq k) (xs ++ y ∷ []) ≡ count_by (nat_eq k) xs + bit (k == y)
count_push k xs y =
    sum_by_push (λ x. cond (nat_eq k x) 1 0) xs y ∙ ap (λ n. count_by (nat_eq k) xs + n) (cond_bit (nat_eq k y))
  where
    cond_bit : (b : Bool) → cond b 1 0 ≡ bit b
    cond_bit true = refl
    cond_bit false = refl

-- The list at a place, and the counter there, where one end more is there or elsewhere.
module _ (at x : ℕ) where
  pub pushed_same : (i : ℕ) (lists : List (List ℕ)) → at < length lists → at ≡ x →
      list_at (pushed at i lists) x ≡ list_at lists x ++ i ∷ []
  pushed_same i lists l e =
      subst (λ (y : ℕ). list_at (pushed at i lists) y ≡ list_at lists y ++ i ∷ []) e (get_or-set_same lists at _ [] l)

  pub pushed_other : (i : ℕ) (lists : List (List ℕ)) → at ≢ x → list_at (pushed at i lists) x ≡ list_at lists x
  pushed_other i lists d = get_or-set_other lists at x _ [] (λ e. d (sym e))

  pushed_count : (i k : ℕ) (lists : List (List ℕ)) → at < length lists →
      count_by (nat_eq k) (list_at (pushed at i lists) x) ≡
      count_by (nat_eq k) (list_at lists x) + bit ((at == x) && (k == i))
  pushed_count i k lists l =
      ⊎_elim
      (λ (e : at ≡ x).
      ap (count_by (nat_eq k)) (pushed_same i lists l e)
      ∙ (count_push k (list_at lists x) i
      ∙ ap (λ b. count_by (nat_eq k) (list_at lists x) + bit (b && (k == i))) (sym (eq-eqb at x e))))
      (λ (d : at ≢ x).
      let none : bit ((at == x) && (k == i)) ≡ 0 = ap (λ b. bit (b && (k == i))) (ne_eqb at x d) in
      let same = ap (count_by (nat_eq k)) (pushed_other i lists d) in
      omega (arith, none, same))
      (cases_eq at x)

  pushed_length : (i : ℕ) (lists : List (List ℕ)) → at < length lists →
      length (list_at (pushed at i lists) x) ≡ length (list_at lists x) + bit (at == x)
  pushed_length i lists l =
      ⊎_elim
      (λ (e : at ≡ x).
      ap length (pushed_same i lists l e)
      ∙ (length_push (list_at lists x) i ∙ ap (λ b. length (list_at lists x) + bit b) (sym (eq-eqb at x e))))
      (λ (d : at ≢ x).
      let none = ap bit (ne_eqb at x d) in
      let same = ap length (pushed_other i lists d) in
      omega (arith, none, same))
      (cases_eq at x)

  raised_at : (counts : List ℕ) → at < length counts → get_or (raised at counts) x 0 ≡ get_or counts x 0 + bit (at == x)
  raised_at counts l =
      ⊎_elim
      (λ (e : at ≡ x).
      subst (λ (y : ℕ). get_or (raised at counts) y 0 ≡ get_or counts y 0 + 1) e (get_or-set_same counts at _ 0 l)
      ∙ ap (λ b. get_or counts x 0 + bit b) (sym (eq-eqb at x e)))
      (λ (d : at ≢ x).
      let none = ap bit (ne_eqb at x d) in
      let same = get_or-set_other counts at x (get_or counts at 0 + 1) 0 (λ e. d (sym e)) in
      omega (arith, none, same))
      (cases_eq at x)

module _ (moves : List Move) (nodes : ℕ) (ends : All (λ m. (m.to < nodes) × (m.from < nodes)) moves) (x : ℕ) where
  -- one move more
  listed_step : (m k : ℕ) → m < length moves →
      count_by (nat_eq k) (list_at (ends_listed moves nodes (m + 1)) x) ≡
      count_by (nat_eq k) (list_at (ends_listed moves nodes m) x) + bit (((move_at moves m).to == x) && (k == m))
      + bit (((move_at moves m).from == x) && (k == m))
  listed_step m k l =
      let one = move_at moves m in
      let e = end_of moves nodes m l ends in
      let now = ends_listed moves nodes m in
      let size = length_listed moves nodes m in
      ap (λ ls. count_by (nat_eq k) (list_at ls x)) (listed_more moves nodes m)
      ∙ (pushed_count one.from x m k (pushed one.to m now) (omega (arith, length_pushed one.to m now, size, e.1))
      ∙ ap (λ n. n + bit ((one.from == x) && (k == m))) (pushed_count one.to x m k now (omega (arith, size, e.0))))

  pub counted_lengths : (m : ℕ) → m ≤ length moves →
      get_or (ends_counted moves nodes m) x 0 ≡ length (list_at (ends_listed moves nodes m) x)
  counted_lengths zero h =
      ⊎_elim
      (λ (l : x < nodes). get_or-replicate nodes x 0 0 l ∙ sym (ap length (get_or-replicate {A = List ℕ} nodes x [] [] l)))
      (λ (l : nodes ≤ x).
      get_or_past (replicate nodes 0) x 0 (omega (arith, l, length-replicate {A = ℕ} nodes 0))
      ∙ sym (ap length (get_or_past (replicate {A = List ℕ} nodes []) x [] (omega (arith, l, length-replicate {A = List ℕ} nodes [])))))
      (cases_lt x nodes)
  counted_lengths (suc m) h =
      let l : m < length moves = omega (arith, h) in
      let same : m + 1 ≡ suc m = omega arith in
      let one = move_at moves m in
      let e = end_of moves nodes m l ends in
      let counts = ends_counted moves nodes m in
      let lists = ends_listed moves nodes m in
      let size = length_counted moves nodes m in
      let sized = length_listed moves nodes m in
      let first = raised_at one.to x counts (omega (arith, size, e.0)) in
      let second = raised_at one.from x (raised one.to counts)
      (omega (arith, size, length-set counts one.to (get_or counts one.to 0 + 1), e.1)) in
      let third = pushed_length one.to x m lists (omega (arith, sized, e.0)) in
      let fourth = pushed_length one.from x m (pushed one.to m lists)
      (omega (arith, sized, length_pushed one.to m lists, e.1)) in
      subst (λ (n : ℕ). get_or (ends_counted moves nodes n) x 0 ≡ length (list_at (ends_listed moves nodes n) x)) same
      (ap (λ cs. get_or cs x 0) (counted_more moves nodes m)
      ∙ (sums _ _ _ _ _ _ (bit (one.from == x)) (bit (one.to == x)) second first third fourth (counted_lengths m (omega (arith, h)))
      ∙ sym (ap (λ ls. length (list_at ls x)) (listed_more moves nodes m))))
    where
      sums : (a b c d f g p q : ℕ) → a ≡ b + p → b ≡ c + q → d ≡ f + q → g ≡ d + p → c ≡ f → a ≡ g
      sums a b c d f g p q s t u v r = omega (arith, s, t, u, v, r)

  -- a move is listed at a class once for each of its ends there, once it has come, and not before
  pub listed_ends_of : (m k : ℕ) → m ≤ length moves →
      (k < m → count_by (nat_eq k) (list_at (ends_listed moves nodes m) x) ≡
      bit ((move_at moves k).to == x) + bit ((move_at moves k).from == x))
      × (m ≤ k → count_by (nat_eq k) (list_at (ends_listed moves nodes m) x) ≡ 0)
  listed_ends_of zero k h = (λ l. absurd (omega (arith, l)), λ l. ap (count_by (nat_eq k)) none)
    where
      none : list_at (ends_listed moves nodes zero) x ≡ []
      none =
          ⊎_elim (λ (l : x < nodes). get_or-replicate {A = List ℕ} nodes x [] [] l)
          (λ (l : nodes ≤ x).
          get_or_past (replicate {A = List ℕ} nodes []) x [] (omega (arith, l, length-replicate {A = List ℕ} nodes [])))
          (cases_lt x nodes)
  listed_ends_of (suc m) k h =
      let l : m < length moves = omega (arith, h) in
      let same : m + 1 ≡ suc m = omega arith in
      let step = ap (λ n. count_by (nat_eq k) (list_at (ends_listed moves nodes n) x)) (sym same) ∙ listed_step m k l in
      let before = listed_ends_of m k (omega (arith, h)) in (
        λ j. ⊎_elim
            (λ (e : k ≡ m). step ∙ here e (before.1 (omega (arith, e))))
            (λ (d : k ≢ m). step ∙ there d (before.0 (omega (arith, j, d))))
            (cases_eq k m),
        λ j. step ∙ there (λ e. omega (arith, e, j)) (before.1 (omega (arith, j))),
      )
    where
      and_true : (b c : Bool) → c ≡ true → bit (b && c) ≡ bit b
      and_true true c e = ap bit e
      and_true false c e = refl

      and_false : (b c : Bool) → c ≡ false → bit (b && c) ≡ 0
      and_false true c e = ap bit e
      and_false false c e = refl

      here : {n : ℕ} → k ≡ m → n ≡ 0 →
          n + bit (((move_at moves m).to == x) && (k == m)) + bit (((move_at moves m).from == x) && (k == m)) ≡
          bit ((move_at moves k).to == x) + bit ((move_at moves k).from == x)
      here e z =
          let one = and_true ((move_at moves m).to == x) (k == m) (eq-eqb k m e) in
          let two = and_true ((move_at moves m).from == x) (k == m) (eq-eqb k m e) in
          let p = ap (λ j. bit ((move_at moves j).to == x)) e in
          let q = ap (λ j. bit ((move_at moves j).from == x)) e in
          omega (arith, one, two, p, q, z)

      there : {n v : ℕ} → k ≢ m → n ≡ v →
          n + bit (((move_at moves m).to == x) && (k == m)) + bit (((move_at moves m).from == x) && (k == m)) ≡ v
      there d z =
          let one = and_false ((move_at moves m).to == x) (k == m) (ne_eqb k m d) in
          let two = and_false ((move_at moves m).from == x) (k == m) (ne_eqb k m d) in
          omega (arith, one, two, z)

-- where everything passes, everything is counted
pub count_all : (p : ℕ → Bool) (xs : List ℕ) → All (λ i. p i ≡ true) xs → count_by p xs ≡ length xs
count_all p [] h = refl
count_all p (x ∷ xs) h =
    let P = λ (i : ℕ). p i ≡ true in
    let one = one_bit (All-head P x xs h) in
    omega (arith, count_cons p x xs, one, count_all p xs (All-tail P x xs h))
