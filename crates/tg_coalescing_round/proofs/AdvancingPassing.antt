-- The tests of a move by lists of neighbours say what those of the definition do.
use Rattle.std.proofs.Common.{◌≡◌, ℕ, zero, suc, ◌+◌, ◌<◌, ◌≤◌, Bool, true, false, not, ◌&&◌, ◌||◌}
use Rattle.std.proofs.Common.{refl, sym, ap, subst, ◌∙◌, arith, ⊎_elim}
use Rattle.std.specs.Prelude.{◌==◌, nat_lt, if◌then◌else◌}
use Rattle.std.proofs.lemmas.Bool.{lt-ltb, ltb-false}
use Rattle.tg_irc_definition.specs.Graphs.{Set, bit, count, is_register}
use Rattle.tg_irc_definition.specs.States.{RoundState, low}
use Rattle.tg_irc_definition.specs.laws.Degrees.{degree_of}
use Rattle.tg_irc_definition.specs.Steps.{allows, george, briggs, high_neighbours}
use Rattle.tg_irc_definition.specs.Steps as steps
use Rattle.tg_irc_definition.proofs.Deciding.{both, and_true, either, or_left, tells, not_true}
use Rattle.tg_irc_definition.proofs.Deciding.{from_false, not_false, or_false, same_node, same_test}
use Rattle.tg_irc_definition.proofs.Deciding.{every_is}
use Rattle.tg_graph.specs.declared.worklists.Worklist.{Worklist}
use Rattle.tg_graph.specs.declared.worklists.Worklist.TheVariants as worklists
use Rattle.tg_graph.specs.Interference.{is_among, interferes, neighbours}
use Rattle.tg_graph.specs.Lists.{nodes_in, number}
use Rattle.tg_graph.proofs.Joining.{stays_below}
use Rattle.tg_coalescing_round.specs.glue.Tables.{is_related}
use Rattle.tg_coalescing_round.specs.glue.Works.{Work, degree_at, is_left, is_open, is_high}
use Rattle.tg_coalescing_round.specs.mirror.Passing.{high_around, high_apart, passes_george, passes_briggs, passes}
use Rattle.tg_coalescing_round.specs.glue.Standing.{shown, state_of, IsOrderly}
use Rattle.tg_coalescing_round.proofs.AdvancingMembers.{same_tests, count_of_list, count_some, count_found}
use Rattle.tg_coalescing_round.proofs.AdvancingOrder.{left_remains}
use Rattle.tg_coalescing_round.proofs.AdvancingListing.{by_tests}
use Rattle.tg_coalescing_round.proofs.AdvancingPossible.{moves_of, low_told}

count_two : (S A B : Set) (n : ℕ) → ((x : ℕ) → x < n → bit (S x) ≡ bit (A x) + bit (B x)) →
    count S n ≡ count A n + count B n
count_two S A B zero h = refl
count_two S A B (suc n) h =
    let here = h n (omega arith) in
    let rest = count_two S A B n (λ x l. h x (omega arith)) in
    omega (arith, here, rest)

is_spill : (b c : Bool) → (3 == number (by_tests b c)) ≡ not b
is_spill true true = refl
is_spill true false = refl
is_spill false c = refl

module _ (w : Work) (h : IsOrderly w) where
  abbrev s : RoundState
  s = state_of w

  -- a node that remains and is high
  module _ (z : ℕ) (l : z < w.graph.nodes) where
    one : (m : Worklist) × ((n : Worklist) → is_among z (nodes_in w.lists n) ≡ (number n == number m))
    one = h.placed.partition.one z (subst (λ n. z < n) (sym h.sized.lists) l)

    -- each list but its own is without it
    elsewhere : (m n : Worklist) → is_among z (nodes_in w.lists m) ≡ true → (number n == number m) ≡ false →
        is_among z (nodes_in w.lists n) ≡ false
    unfolding one
    elsewhere m n e d =
        one.1 n ∙ (ap (λ k. number n == k) (sym (same_node (number m) (number one.0) (sym (one.1 m) ∙ e))) ∙ d)

    of_register : is_register z ≡ true → is_high w.lists z ≡ (s.remaining z && not (low (shown w) s z))
    of_register r =
        let fixed = h.placed.fixed z l ∙ r in
        or_left (is_among z w.lists.fixed) (is_among z w.lists.spill) fixed
        ∙ sym (and_true (left_remains w z l (from_false (or_false
        (elsewhere worklists.Fixed worklists.Stacked fixed refl) (elsewhere worklists.Fixed worklists.Merged fixed refl))))
        (ap (λ b. not (not b && nat_lt (degree_of (shown w) s z) 25)) r))

    of_open : is_register z ≡ false → is_left w.lists z ≡ true →
        is_high w.lists z ≡ (s.remaining z && not (low (shown w) s z))
    of_open r e =
        let o : is_open w z ≡ true = and_true (from_false r) e in
        ap (λ b. b || is_among z w.lists.spill) (h.placed.fixed z l ∙ r)
        ∙ (h.placed.listed z l o worklists.Spill
        ∙ (is_spill (nat_lt (degree_at w z) 25) (is_related w.moves z)
        ∙ (ap not (sym (low_told w (moves_of w h) h.degrees z l o))
        ∙ sym (ap (λ b. b && not (low (shown w) s z)) (left_remains w z l e)))))

    of_gone : is_register z ≡ false → is_left w.lists z ≡ false →
        is_high w.lists z ≡ (s.remaining z && not (low (shown w) s z))
    of_gone r e =
        or_false (h.placed.fixed z l ∙ r)
        (⊎_elim (λ t. elsewhere worklists.Stacked worklists.Spill t refl)
        (λ t. elsewhere worklists.Merged worklists.Spill t refl)
        (either (is_among z w.lists.stacked) (is_among z w.lists.merged) (not_false e)))
        ∙ sym (ap (λ b. b && not (low (shown w) s z))
        (ap (λ b. b && is_left w.lists z) (lt-ltb z w.graph.nodes l) ∙ e))

    pub high_told : is_high w.lists z ≡ (s.remaining z && not (low (shown w) s z))
    high_told =
        ⊎_elim (λ (r : is_register z ≡ true). of_register r)
        (λ (r : is_register z ≡ false).
        ⊎_elim (λ (e : is_left w.lists z ≡ true). of_open r e) (λ (e : is_left w.lists z ≡ false). of_gone r e)
        (tells (is_left w.lists z)))
        (tells (is_register z))

  below : (x z : ℕ) → 25 ≤ x → x < w.graph.nodes → is_among z (neighbours w.graph x) ≡ true → z < w.graph.nodes
  below x z t l e = stays_below w.graph x z h.graph t l (sym (h.graph.exact x z t) ∙ e)

  -- George's test
  module _ (r t : ℕ) (temporary : 25 ≤ t) (l : t < w.graph.nodes) where
    abbrev blocks : Set
    blocks z = is_high w.lists z && not (interferes w.graph r z)

    none_blocks : passes_george w r t ≡ true → (z : ℕ) → z < w.graph.nodes → allows (shown w) s r t z ≡ true
    none_blocks e z k =
        by (s.remaining z) (interferes w.graph t z) (interferes w.graph r z) (low (shown w) s z) refl refl refl refl
      where
        count_zero : high_apart w t r ≡ 0
        count_zero = same_node (high_apart w t r) 0 e

        blocked : interferes w.graph t z ≡ true → s.remaining z ≡ true → low (shown w) s z ≡ false →
            interferes w.graph r z ≡ false → ⊥
        blocked p q f n =
            let some_blocks = count_some blocks z (neighbours w.graph t) (h.graph.exact t z temporary ∙ p)
            (and_true (high_told z k ∙ and_true q (from_false f)) (from_false n)) in
            omega (arith, some_blocks, count_zero)

        by : (a b c d : Bool) → s.remaining z ≡ a → interferes w.graph t z ≡ b → interferes w.graph r z ≡ c →
            low (shown w) s z ≡ d → (not (a && b) || c || d) ≡ true
        by true true true d p q n f = refl
        by true true false true p q n f = refl
        by true true false false p q n f = absurd (blocked q p f n)
        by true false c d p q n f = refl
        by false b c d p q n f = refl

    all_allow : george (shown w) s r t ≡ true → passes_george w r t ≡ true
    all_allow e = same_test (high_apart w t r) 0 (nothing (high_apart w t r) found_none)
      where
        nothing : (n : ℕ) → (0 < n → ⊥) → n ≡ 0
        nothing zero k = refl
        nothing (suc n) k = absurd (k (omega arith))

        clear : (a b c d : Bool) → (not (a && b) || c || d) ≡ true → a ≡ true → b ≡ true → c ≡ false → d ≡ false → ⊥
        clear true true true d p q f g k = cc
        clear true true false true p q f g k = cc
        clear true true false false p q f g k = cc
        clear true false c d p q f g k = cc
        clear false b c d p q f g k = cc

        found_none : 0 < high_apart w t r → ⊥
        found_none more =
            let found = count_found blocks (neighbours w.graph t) more in
            let z = found.0 in
            let k = below t z temporary l found.1 in
            let p = both (is_high w.lists z) (not (interferes w.graph r z)) found.2 in
            let q = both (s.remaining z) (not (low (shown w) s z)) (sym (high_told z k) ∙ p.0) in
            clear (s.remaining z) (interferes w.graph t z) (interferes w.graph r z) (low (shown w) s z)
            ((every_is (allows (shown w) s r t) w.graph.nodes).0 e z k) q.0
            (sym (h.graph.exact t z temporary) ∙ found.1) (not_true p.1) (not_true q.1)

    pub george_told : passes_george w r t ≡ george (shown w) s r t
    george_told =
        same_tests (passes_george w r t) (george (shown w) s r t)
        (λ e. (every_is (allows (shown w) s r t) w.graph.nodes).1 (none_blocks e)) all_allow

  -- Briggs's test
  module _ (x y : ℕ) (x_temporary : 25 ≤ x) (x_node : x < w.graph.nodes) (y_temporary : 25 ≤ y)
      (y_node : y < w.graph.nodes) where
    counted : high_around w x + high_apart w y x ≡ count (high_neighbours (shown w) s x y) w.graph.nodes
    counted =
        let a = count_of_list (is_high w.lists) (neighbours w.graph x) w.graph.nodes (h.graph.distinct x)
        (λ z e. below x z x_temporary x_node e) in
        let b = count_of_list (λ z. is_high w.lists z && not (interferes w.graph x z)) (neighbours w.graph y)
        w.graph.nodes (h.graph.distinct y) (λ z e. below y z y_temporary y_node e) in
        let parts = count_two (high_neighbours (shown w) s x y)
        (λ z. is_among z (neighbours w.graph x) && is_high w.lists z)
        (λ z. is_among z (neighbours w.graph y) && (is_high w.lists z && not (interferes w.graph x z)))
        w.graph.nodes each in
        omega (arith, a, b, parts)
      where
        by : (r p q f : Bool) → bit (r && (p || q) && not f) ≡
            bit (p && (r && not f)) + bit (q && ((r && not f) && not p))
        by true true true true = refl
        by true true true false = refl
        by true true false true = refl
        by true true false false = refl
        by true false true true = refl
        by true false true false = refl
        by true false false f = refl
        by false true true f = refl
        by false true false f = refl
        by false false true f = refl
        by false false false f = refl

        each : (z : ℕ) → z < w.graph.nodes → bit (high_neighbours (shown w) s x y z) ≡
            bit (is_among z (neighbours w.graph x) && is_high w.lists z) +
            bit (is_among z (neighbours w.graph y) && (is_high w.lists z && not (interferes w.graph x z)))
        each z k =
            by (s.remaining z) (interferes w.graph x z) (interferes w.graph y z) (low (shown w) s z)
            ∙ sym (ap (λ c. bit (c && is_high w.lists z) +
            bit (is_among z (neighbours w.graph y) && (is_high w.lists z && not (interferes w.graph x z))))
            (h.graph.exact x z x_temporary)
            ∙ (ap (λ c. bit (interferes w.graph x z && is_high w.lists z) +
            bit (c && (is_high w.lists z && not (interferes w.graph x z)))) (h.graph.exact y z y_temporary)
            ∙ ap (λ c. bit (interferes w.graph x z && c) +
            bit (interferes w.graph y z && (c && not (interferes w.graph x z)))) (high_told z k)))

    pub briggs_told : passes_briggs w x y ≡ briggs (shown w) s x y
    briggs_told = ap (λ n. nat_lt n 25) counted

  -- which of both it is
  pub passes_told : (x y : ℕ) → x < w.graph.nodes → y < w.graph.nodes →
      (is_register x && is_register y) ≡ false → passes w x y ≡ steps.passes (shown w) s x y
  passes_told x y l k apart = by (is_register x) (is_register y) refl refl apart
    where
      by : (a b : Bool) → is_register x ≡ a → is_register y ≡ b → (a && b) ≡ false →
          (if a then passes_george w x y else if b then passes_george w y x else passes_briggs w x y) ≡
          (if a then george (shown w) s x y else if b then george (shown w) s y x else briggs (shown w) s x y)
      by true true p q e = cc
      by true false p q e = george_told x y (ltb-false y 25 q) k
      by false true p q e = george_told y x (ltb-false x 25 p) l
      by false false p q e = briggs_told x y (ltb-false x 25 p) l (ltb-false y 25 q) k
