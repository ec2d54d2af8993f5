-- Which classes may be spilled, as the code and as a round see it.
use Rattle.std.proofs.Common.{◌≡◌, ℕ, zero, suc, ◌+◌, ◌-◌, ◌<◌, ◌≤◌, Bool, true, false, not, ◌&&◌, ◌||◌, ◌⊎◌, inl}
use Rattle.std.proofs.Common.{inr, List, [], ◌∷◌, length, map, get_or, cond, refl, sym, ap, subst, ◌∙◌, arith, ⊎_elim}
use Rattle.std.specs.Prelude.{◌==◌, nat_lt, filter}
use Rattle.std.specs.List.{range_with_len}
use Rattle.std.proofs.lemmas.Bool.{cases_lt, lt-ltb, le-ltb, ltb-false}
use Rattle.std.proofs.lemmas.List.{get_or-map, length-map}
use Rattle.tg_irc_definition.specs.declared.candidates.Candidate.{Candidate}
use Rattle.tg_irc_definition.specs.declared.steps.Step.TheVariants.{Spill}
use Rattle.tg_irc_definition.specs.Graphs.{Set, degree, is_register, some}
use Rattle.tg_irc_definition.specs.Policies.{candidate_at}
use Rattle.tg_irc_definition.specs.States.{Problem, problem, remains}
use Rattle.tg_irc_definition.specs.Steps as steps
use Rattle.tg_irc_definition.specs.Steps.{can, is_allowed}
use Rattle.tg_irc_definition.proofs.Deciding.{clash, both, and_true, either, or_left, or_right, tells, same_node, same_test, some_is, not_true}
use Rattle.tg_graph.specs.Interference.{is_among}
use Rattle.tg_graph.proofs.Members.{among_below, among_above}
use Rattle.tg_coalescing_round.specs.glue.Works.{Work, degree_at, is_left, is_open}
use Rattle.tg_coalescing_round.specs.mirror.Steps.{candidate, candidates}
use Rattle.tg_coalescing_round.specs.glue.Standing.{graph_of, state_of, shown, IsOrderly, IsRunOf}
use Rattle.tg_coalescing_round.proofs.AdvancingMembers.{among_at}
use Rattle.tg_coalescing_round.proofs.AdvancingOrder.{open_remains}
use Rattle.tg_coalescing_round.proofs.AdvancingPossible.{with_parts, at_problem}
use Rattle.tg_coalescing_round.proofs.AdvancingRuns.{own_class}

-- Filters of ranges.

skip_front : (p : Set) (j a k : ℕ) → ((z : ℕ) → a ≤ z → z < a + j → p z ≡ false) →
    filter p (range_with_len a (j + k)) ≡ filter p (range_with_len (a + j) k)
skip_front p zero a k h =
    let e : zero + k ≡ k = omega arith in
    let f : a ≡ a + zero = omega arith in
    ap (λ n. filter p (range_with_len a n)) e ∙ ap (λ b. filter p (range_with_len b k)) f
skip_front p (suc j) a k h =
    let e : suc j + k ≡ suc (j + k) = omega arith in
    let f : (a + 1) + j ≡ a + suc j = omega arith in
    ap (λ n. filter p (range_with_len a n)) e
    ∙ (ap (λ b. cond b (a ∷ filter p (range_with_len (a + 1) (j + k))) (filter p (range_with_len (a + 1) (j + k))))
    (h a (omega arith) (omega arith))
    ∙ (skip_front p j (a + 1) k (λ z l m. h z (omega arith) (omega arith))
    ∙ ap (λ b. filter p (range_with_len b k)) f))

filter_same : (p q : Set) (a k : ℕ) → ((z : ℕ) → a ≤ z → z < a + k → p z ≡ q z) →
    filter p (range_with_len a k) ≡ filter q (range_with_len a k)
filter_same p q a zero h = refl
filter_same p q a (suc k) h =
    ap (λ b. cond b (a ∷ filter p (range_with_len (a + 1) k)) (filter p (range_with_len (a + 1) k)))
    (h a (omega arith) (omega arith))
    ∙ ap (λ xs. cond (q a) (a ∷ xs) xs) (filter_same p q (a + 1) k (λ z l m. h z (omega arith) (omega arith)))

pub among_filter : (p : Set) (z : ℕ) (xs : List ℕ) → is_among z (filter p xs) ≡ true → (p z ≡ true) × (is_among z xs ≡ true)
among_filter p z [] e = cc
among_filter p z (x ∷ xs) e = by (tells (p x)) (among_filter p z xs)
  where
    by : (p x ≡ true) ⊎ (p x ≡ false) →
        (is_among z (filter p xs) ≡ true → (p z ≡ true) × (is_among z xs ≡ true)) →
        (p z ≡ true) × (((z == x) || is_among z xs) ≡ true)
    by (inl t) r =
        ⊎_elim
        (λ s. (subst (λ y. p y ≡ true) (sym (same_node z x s)) t, or_left (z == x) (is_among z xs) s))
        (λ s. let q = r s in (q.0, or_right (z == x) (is_among z xs) q.1))
        (either (z == x) (is_among z (filter p xs))
        (subst (λ b. is_among z (cond b (x ∷ filter p xs) (filter p xs)) ≡ true) t e))
    by (inr t) r =
        let q = r (subst (λ b. is_among z (cond b (x ∷ filter p xs) (filter p xs)) ≡ true) t e) in
        (q.0, or_right (z == x) (is_among z xs) q.1)

pub filter_among : (p : Set) (z : ℕ) (xs : List ℕ) → p z ≡ true → is_among z xs ≡ true → is_among z (filter p xs) ≡ true
filter_among p z [] t e = cc
filter_among p z (x ∷ xs) t e = by (tells (p x)) (either (z == x) (is_among z xs) e) (filter_among p z xs t)
  where
    by : (p x ≡ true) ⊎ (p x ≡ false) → ((z == x) ≡ true) ⊎ (is_among z xs ≡ true) →
        (is_among z xs ≡ true → is_among z (filter p xs) ≡ true) →
        is_among z (cond (p x) (x ∷ filter p xs) (filter p xs)) ≡ true
    by (inl q) (inl s) r =
        subst (λ b. is_among z (cond b (x ∷ filter p xs) (filter p xs)) ≡ true) (sym q)
        (or_left (z == x) (is_among z (filter p xs)) s)
    by (inl q) (inr s) r =
        subst (λ b. is_among z (cond b (x ∷ filter p xs) (filter p xs)) ≡ true) (sym q)
        (or_right (z == x) (is_among z (filter p xs)) (r s))
    by (inr q) (inl s) r = absurd (clash t (subst (λ y. p y ≡ false) (sym (same_node z x s)) q))
    by (inr q) (inr s) r = subst (λ b. is_among z (cond b (x ∷ filter p xs) (filter p xs)) ≡ true) (sym q) (r s)

map_same : {A : Type 0} (f h : ℕ → A) (xs : List ℕ) → ((z : ℕ) → is_among z xs ≡ true → f z ≡ h z) → map f xs ≡ map h xs
map_same f h [] e = refl
map_same f h (x ∷ xs) e =
    ap (λ y. y ∷ map f xs) (e x (or_left (x == x) (is_among x xs) (same_test x x refl)))
    ∙ ap (λ ys. h x ∷ ys) (map_same f h xs (λ z k. e z (or_right (z == x) (is_among z xs) k)))

-- The temporaries that remain, in rising order.

module _ (w : Work) (h : IsOrderly w) where
  abbrev pub open_nodes : List ℕ
  open_nodes = filter (is_left w.lists) (range_with_len 25 (w.graph.nodes - 25))

  pub same_nodes : filter (remains (shown w) (state_of w)) (range_with_len 0 w.graph.nodes) ≡ open_nodes
  same_nodes =
      ap (λ n. filter (remains (shown w) (state_of w)) (range_with_len 0 n)) whole
      ∙ (skip_front (remains (shown w) (state_of w)) 25 0 (w.graph.nodes - 25) registers
      ∙ filter_same (remains (shown w) (state_of w)) (is_left w.lists) 25 (w.graph.nodes - 25) temporaries)
    where
      whole : w.graph.nodes ≡ 25 + (w.graph.nodes - 25)
      whole = let s = h.some in omega (arith, s)

      never_so : (b : Bool) {c : Bool} → c ≡ true → (b && not c) ≡ false
      never_so true e = ap not e
      never_so false e = refl

      registers : (z : ℕ) → 0 ≤ z → z < 0 + 25 → remains (shown w) (state_of w) z ≡ false
      registers z l m = never_so (nat_lt z w.graph.nodes && (state_of w).remaining z) (lt-ltb z 25 (omega arith))

      and_so : (b : Bool) → (b && true) ≡ b
      and_so true = refl
      and_so false = refl

      temporaries : (z : ℕ) → 25 ≤ z → z < 25 + (w.graph.nodes - 25) →
          remains (shown w) (state_of w) z ≡ is_left w.lists z
      temporaries z l m =
          let s = h.some in
          ap (λ b. b && (b && is_left w.lists z) && not (is_register z))
          (lt-ltb z w.graph.nodes (omega (arith, l, m, s)))
          ∙ (ap (λ b. is_left w.lists z && not b) (le-ltb z 25 l) ∙ and_so (is_left w.lists z))

  pub node_in : (z : ℕ) → is_among z open_nodes ≡ true → (z < w.graph.nodes) × (is_open w z ≡ true)
  node_in z e =
      let p = among_filter (is_left w.lists) z (range_with_len 25 (w.graph.nodes - 25)) e in
      let s = h.some in
      let low : 25 ≤ z = ⊎_elim
      (λ (l : z < 25). absurd (clash p.1 (among_below z 25 (w.graph.nodes - 25) l))) (λ (l : 25 ≤ z). l)
      (cases_lt z 25) in
      let high : z < 25 + (w.graph.nodes - 25) = ⊎_elim
      (λ (l : z < 25 + (w.graph.nodes - 25)). l)
      (λ (l : 25 + (w.graph.nodes - 25) ≤ z). absurd (clash p.1 (among_above z 25 (w.graph.nodes - 25) l)))
      (cases_lt z (25 + (w.graph.nodes - 25))) in
      (omega (arith, low, high, s), and_true (ap not (le-ltb z 25 low)) p.0)

  module _ (place : ℕ) (l : place < length (candidates w)) where
    within : place < length open_nodes
    within = omega (arith, l, length-map open_nodes (candidate w))

    pub chosen : ℕ
    chosen = get_or open_nodes place 0

    pub chosen_in : is_among chosen open_nodes ≡ true
    unfolding chosen
    chosen_in = among_at open_nodes place 0 within

    -- the temporary at the place, whatever else is said of it
    pub temp_at : (f : ℕ → Candidate) → ((z : ℕ) → (f z).temp ≡ z - 25) →
        (candidate_at (map f open_nodes) place).temp + 25 ≡ chosen
    unfolding chosen
    temp_at f e =
        let at : candidate_at (map f open_nodes) place ≡ f (get_or open_nodes place 0) =
        get_or-map f open_nodes place 0 _ within in
        let temp = ap (λ (c : Candidate). c.temp) at in
        let low = ltb-false (get_or open_nodes place 0) 25 (not_true (both (not (is_register (get_or open_nodes place 0)))
        (is_left w.lists (get_or open_nodes place 0)) (node_in (get_or open_nodes place 0) chosen_in).1).0) in
        omega (arith, temp, e (get_or open_nodes place 0), low)

    -- a rule that allows all places
    abbrev pub permissive : Problem
    permissive = problem (graph_of w.graph) w.moves.moves [] (λ cs p. true)

    pub can_permissive : can permissive (state_of w) (Spill chosen) ≡ true
    can_permissive =
        and_true (let n = node_in chosen chosen_in in open_remains w chosen n.0 n.1)
        ((some_is (is_allowed permissive (state_of w) chosen) (length (steps.candidates permissive (state_of w)))).1
        (place, few, and_true (same_test _ chosen temp) refl))
      where
        same : steps.candidates permissive (state_of w) ≡ map (steps.candidate permissive (state_of w)) open_nodes
        same = ap (map (steps.candidate permissive (state_of w))) same_nodes

        few : place < length (steps.candidates permissive (state_of w))
        few =
            let m = length-map open_nodes (steps.candidate permissive (state_of w)) in
            omega (arith, ap length same, m, within)

        temp : (candidate_at (steps.candidates permissive (state_of w)) place).temp + 25 ≡ chosen
        temp =
            ap (λ cs. (candidate_at cs place).temp + 25) same
            ∙ temp_at (steps.candidate permissive (state_of w)) (λ z. refl)

    -- what the code tells of a class is what a round does
    module _ (g : Problem) (run : IsRunOf g w) where
      same_candidate : (z : ℕ) → is_among z open_nodes ≡ true → candidate w z ≡ steps.candidate g (state_of w) z
      same_candidate z e =
          let n = node_in z e in
          let p : degree_at w z ≡ degree g.graph.nodes (state_of w).remaining (state_of w).pairs z =
          h.degrees.exact z (open_remains w z n.0 n.1)
          ∙ ap (λ m. degree m (state_of w).remaining (state_of w).pairs z) run.nodes in
          let q = run.uses z n.0 in
          let r = run.made z n.0 (own_class g w run h.sized z n.0 (both (not (is_register z)) (is_left w.lists z) n.1).1) in
          λ i. record { temp = z - 25; degree = p i; uses = q i; made = r i }

      pub same_candidates : candidates w ≡ steps.candidates g (state_of w)
      same_candidates =
          map_same (candidate w) (steps.candidate g (state_of w)) open_nodes same_candidate
          ∙ at_problem g w run.nodes run.moves
          (λ n ms. map (steps.candidate g (state_of w)) open_nodes ≡
          map (steps.candidate g (state_of w))
          (filter (remains (with_parts g w run.nodes run.moves n ms) (state_of w)) (range_with_len 0 n)))
          (ap (map (steps.candidate g (state_of w))) (sym same_nodes))

      pub can_spill : g.rule (candidates w) place ≡ true → can g (state_of w) (Spill chosen) ≡ true
      can_spill allowed =
          and_true
          (at_problem g w run.nodes run.moves
          (λ n ms. remains (with_parts g w run.nodes run.moves n ms) (state_of w) chosen ≡ true)
          (let n = node_in chosen chosen_in in open_remains w chosen n.0 n.1))
          (subst (λ cs. some (λ p. (candidate_at cs p).temp + 25 == chosen && g.rule cs p) (length cs) ≡ true)
          same_candidates
          ((some_is (λ p. (candidate_at (candidates w) p).temp + 25 == chosen && g.rule (candidates w) p)
          (length (candidates w))).1
          (place, l, and_true (same_test _ chosen (temp_at (candidate w) (λ z. refl))) allowed)))
