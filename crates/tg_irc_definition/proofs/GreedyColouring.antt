-- Every step keeps a graph greedily colourable.
use Rattle.std.proofs.Common.{◌≡◌, ◌≢◌, ℕ, zero, suc, ◌<◌, ◌≤◌, true, false, not, ◌&&◌, ◌||◌, ◌⊎◌, inl, inr, refl, sym}
use Rattle.std.proofs.Common.{subst, ◌∙◌, arith, ⊎_elim}
use Rattle.std.specs.Prelude.{nat_lt, ◌==◌}
use Rattle.std.proofs.lemmas.Bool.{ltb-true, lt-ltb}
use Rattle.std.proofs.lemmas.Bool.Decides.{eqb_tells}
use Rattle.tg_irc_definition.specs.Graphs.{colour_count, is_register, Set, Pairs, count, without, neighbours, degree, is_low}
use Rattle.tg_irc_definition.specs.Graphs.{merged, IsGreedilyColourable, registers_alone, without_low}
use Rattle.tg_irc_definition.proofs.Deciding.{clash, both, and_true, either, or_left, or_right, tells, never, not_true}
use Rattle.tg_irc_definition.proofs.Deciding.{from_false, same_node, same_test}
use Rattle.tg_irc_definition.proofs.Counting.{count_le, apart, stays_in, was_in, count_swap}

module _ (n : ℕ) where
  low_is : (S : Set) (e : Pairs) (x : ℕ) → is_low n S e x ≡ true → (is_register x ≡ false) ×
      (degree n S e x < colour_count)
  low_is S e x h = let p = both (not (is_register x)) _ h in (not_true p.0, ltb-true (degree n S e x) colour_count p.1)

  is_low_of : (S : Set) (e : Pairs) (x : ℕ) → is_register x ≡ false → degree n S e x < colour_count →
      is_low n S e x ≡ true
  is_low_of S e x r l = and_true (from_false r) (lt-ltb (degree n S e x) colour_count l)

  -- fewer neighbours keep a node low
  lower : (S T : Set) (e f : Pairs) (x : ℕ) → count (neighbours n T f x) n ≤ count (neighbours n S e x) n →
      is_low n S e x ≡ true → is_low n T f x ≡ true
  lower S T e f x c h = let p = low_is S e x h in let l = p.1 in is_low_of T f x p.0 (omega arith)

  -- a part of a greedily colourable graph is one
  pub part : (e f : Pairs) (T S : Set) → IsGreedilyColourable n e S → ((x : ℕ) → x < n → T x ≡ true → S x ≡ true) →
      ((x y : ℕ) → x < n → y < n → T x ≡ true → T y ≡ true → f x y ≡ true → e x y ≡ true) → IsGreedilyColourable n f T
  part e f T _ (registers_alone S h) sub edges = registers_alone T (λ x l m. h x l (sub x l m))
  part e f T _ (without_low S x l m low r) sub edges =
      by (tells (T x)) (λ z. part e f (without x T) (without x S) r
      (λ y k t. let o = was_in x y T t in stays_in x y S o.0 (sub y k o.1))
      (λ y w ly lw ty tw t. edges y w ly lw (was_in x y T ty).1 (was_in x w T tw).1 t))
      (λ z. part e f T (without x S) r
      (λ y k t. stays_in x y S (λ d. clash (subst (λ w. T w ≡ true) d t) z) (sub y k t)) edges)
    where
      few : T x ≡ true → is_low n T f x ≡ true
      few z =
          lower S T e f x (count_le (neighbours n T f x) (neighbours n S e x) n
          (λ y k t. let o = both (T y) (f x y) t in and_true (sub y k o.0) (edges x y l k z o.0 o.1))) low

      by : (T x ≡ true) ⊎ (T x ≡ false) → (T x ≡ true → IsGreedilyColourable n f (without x T)) →
          (T x ≡ false → IsGreedilyColourable n f T) → IsGreedilyColourable n f T
      by (inl z) h k = without_low T x l z (few z) (h z)
      by (inr z) h k = k z

  -- where no temporary is low, none remains
  pub stuck : (e : Pairs) (S : Set) → IsGreedilyColourable n e S →
      ((x : ℕ) → x < n → S x ≡ true → is_low n S e x ≡ false) → (x : ℕ) → x < n → S x ≡ true → is_register x ≡ true
  stuck e _ (registers_alone S h) k = h
  stuck e _ (without_low S y l m low r) k = absurd (clash low (k y l m))

  -- low nodes below a number may be taken out first
  abbrev minus : Set → Set → ℕ → Set
  minus S low m y = S y && not (nat_lt y m && low y)

  in_minus : (S low : Set) (m y : ℕ) → S y ≡ true → (y < m → low y ≡ true → ⊥) → minus S low m y ≡ true
  in_minus S low m y h never_low = and_true h
      (from_false (never (λ t. let p = both (nat_lt y m) (low y) t in never_low (ltb-true y m p.0) p.1)))

  of_minus : (S low : Set) (m y : ℕ) → minus S low m y ≡ true → (S y ≡ true) × (y < m → low y ≡ true → ⊥)
  of_minus S low m y t =
      let p = both (S y) (not (nat_lt y m && low y)) t in (p.0, λ l h. clash (and_true (lt-ltb y m l) h) (not_true p.1))

  take_many : (e : Pairs) (S low : Set) (m : ℕ) → m ≤ n →
      ((x : ℕ) → x < n → S x ≡ true → low x ≡ true → is_low n S e x ≡ true) → IsGreedilyColourable n e (minus S low m) →
      IsGreedilyColourable n e S
  take_many e S low zero k h r =
      part e e S (minus S low 0) r (λ x l t. in_minus S low 0 x t (λ q _. absurd (omega arith)))
      (λ x y lx ly tx ty t. t)
  take_many e S low (suc m) k h r = take_many e S low m (omega arith) h (by (tells (S m && low m)))
    where
      by : ((S m && low m) ≡ true) ⊎ ((S m && low m) ≡ false) → IsGreedilyColourable n e (minus S low m)
      by (inl f) =
          let p = both (S m) (low m) f in
          without_low (minus S low m) m (omega arith) (in_minus S low m m p.0 (λ q _. absurd (omega arith)))
          (lower S (minus S low m) e e m
          (count_le _ _ n (λ y l t. let o = both (minus S low m y) (e m y) t in
          and_true (of_minus S low m y o.0).0 o.1)) (h m (omega arith) p.0 p.1))
          (part e e (without m (minus S low m)) (minus S low (suc m)) r
          (λ y l t. let o = was_in m y (minus S low m) t in let q = of_minus S low m y o.1 in let d : y ≢ m = o.0 in
          in_minus S low (suc m) y q.0 (λ k z. q.1 (omega arith) z)) (λ x y lx ly tx ty t. t))
      by (inr f) =
          part e e (minus S low m) (minus S low (suc m)) r (λ y l t. let q = of_minus S low m y t in
          in_minus S low (suc m) y q.0
          (λ k z. ⊎_elim (λ d. clash (subst (λ w. (S w && low w) ≡ true) d.1 (and_true q.0 z)) f)
          (λ d. let c = d.1 in q.1 (omega arith) z) (eqb_tells y m))) (λ x y lx ly tx ty t. t)

  -- What a merge of two nodes that don't interfere does.
  module _ (e : Pairs) (S : Set) (colourable : IsGreedilyColourable n e S) (kept gone : ℕ)
      (symmetric : (x y : ℕ) → e x y ≡ e y x) (kept_in : S kept ≡ true) (gone_in : S gone ≡ true) (kept_node : kept < n)
      (gone_node : gone < n) (differ : kept ≢ gone) (itself : e kept kept ≡ false) (no_pair : e kept gone ≡ false) where
    abbrev after_pairs : Pairs
    after_pairs = merged kept gone e

    abbrev after_nodes : Set
    after_nodes = without gone S

    cases : {P : Type 0} (x y : ℕ) → after_pairs x y ≡ true → (e x y ≡ true → P) → (x ≡ kept → e gone y ≡ true → P) →
        (y ≡ kept → e x gone ≡ true → P) → P
    cases x y h old left right =
        ⊎_elim (λ p. ⊎_elim old (λ q. let o = both (x == kept) (e gone y) q in left (same_node _ _ o.0) o.1)
        (either (e x y) (x == kept && e gone y) p)) (λ p. let o = both (y == kept) (e x gone) p in
        right (same_node _ _ o.0) o.1) (either (e x y || (x == kept && e gone y)) (y == kept && e x gone) h)

    -- it raises no other degree
    still_low : (y : ℕ) → y ≢ kept → is_low n S e y ≡ true → is_low n after_nodes after_pairs y ≡ true
    still_low y d =
        lower S after_nodes e after_pairs y
        (count_swap (neighbours n after_nodes after_pairs y) (neighbours n S e y) kept gone n kept_node gone_node
        (never (λ t. (was_in gone gone S (both (after_nodes gone) (after_pairs y gone) t).0).0 refl))
        (λ z l c t. let o = both (after_nodes z) (after_pairs y z) t in
        and_true (was_in gone z S o.0).1 (cases y z o.1 (λ h. h) (λ q _. absurd (d q)) (λ q _. absurd (c q))))
        (λ t. cases y kept (both (after_nodes kept) (after_pairs y kept) t).1 (λ h. inl (and_true kept_in h))
        (λ q _. absurd (d q)) (λ q h. inr (and_true gone_in h))))

    pub by_george : ((z : ℕ) → z < n → S z ≡ true → e gone z ≡ true → (e kept z ≡ true) ⊎ (is_low n S e z ≡ true)) →
        IsGreedilyColourable n after_pairs after_nodes
    by_george test =
        take_many after_pairs after_nodes low n (omega arith)
        (λ x l s f. let o = both (e gone x) (not (e kept x)) f in
        still_low x (λ d. clash (subst (λ w. e gone w ≡ true) d o.0) (symmetric gone kept ∙ no_pair))
        (⊎_elim (λ h. absurd (clash h (not_true o.1))) (λ h. h) (test x l (was_in gone x S s).1 o.0)))
        (part e after_pairs (minus after_nodes low n) S colourable
        (λ x l t. (was_in gone x S (of_minus after_nodes low n x t).0).1) edges)
      where
        low : Set
        low z = e gone z && not (e kept z)

        shared : (z : ℕ) → z < n → minus after_nodes low n z ≡ true → e gone z ≡ true → e kept z ≡ true
        shared z l t h =
            ⊎_elim (λ k. k) (λ k. absurd ((of_minus after_nodes low n z t).1 l (and_true h (from_false k))))
            (tells (e kept z))

        edges : (x y : ℕ) → x < n → y < n → minus after_nodes low n x ≡ true → minus after_nodes low n y ≡ true →
            after_pairs x y ≡ true → e x y ≡ true
        edges x y lx ly tx ty h =
            cases x y h (λ k. k) (λ d k. subst (λ w. e w y ≡ true) (sym d) (shared y ly ty k))
            (λ d k. subst (λ w. e x w ≡ true) (sym d) (symmetric x kept ∙ shared x lx tx (symmetric gone x ∙ k)))

    pub by_briggs : is_register kept ≡ false → count (λ z. S z && (e kept z || e gone z) && not (is_low n S e z)) n <
        colour_count → IsGreedilyColourable n after_pairs after_nodes
    by_briggs temporary few =
        take_many after_pairs after_nodes low n (omega arith)
        (λ x l s f. let o = both (not (x == kept)) (is_low n S e x) f in
        still_low x (λ d. clash (same_test x kept d) (not_true o.0)) o.1)
        (without_low T kept kept_node kept_stays (is_low_of T after_pairs kept temporary (omega (arith, fewer)))
        (part e after_pairs (without kept T) S colourable
        (λ x l t. (was_in gone x S (of_minus after_nodes low n x (was_in kept x T t).1).0).1)
        (λ x y lx ly tx ty h. cases x y h (λ k. k) (λ d _. absurd ((was_in kept x T tx).0 d))
        (λ d _. absurd ((was_in kept y T ty).0 d)))))
      where
        low : Set
        low z = not (z == kept) && is_low n S e z

        T : Set
        T = minus after_nodes low n

        kept_stays : T kept ≡ true
        kept_stays =
            in_minus after_nodes low n kept (stays_in gone kept S differ kept_in)
            (λ l h. clash (same_test kept kept refl) (not_true (both (not (kept == kept)) _ h).0))

        fewer : count (neighbours n T after_pairs kept) n ≤ count
            (λ z. S z && (e kept z || e gone z) && not (is_low n S e z)) n
        fewer =
            count_le (neighbours n T after_pairs kept) (λ z. S z && (e kept z || e gone z) && not (is_low n S e z)) n
            (λ z l t. let o = both (T z) (after_pairs kept z) t in let q = of_minus after_nodes low n z o.0 in
            let joined : (e kept z || e gone z) ≡ true = cases kept z o.1 (λ h. or_left _ _ h)
            (λ _ h. or_right _ _ h) (λ _ h. absurd (clash h no_pair)) in
            let d : z ≢ kept = λ same. ⊎_elim (λ h. clash (subst (λ w. e kept w ≡ true) same h) itself)
            (λ h. clash (subst (λ w. e gone w ≡ true) same h) (symmetric gone kept ∙ no_pair))
            (either (e kept z) (e gone z) joined) in and_true (and_true (was_in gone z S q.0).1 joined)
            (from_false (never (λ h. q.1 l (and_true (apart z kept d) h)))))
