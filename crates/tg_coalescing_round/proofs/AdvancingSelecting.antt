-- The colours that the code selects over the merged graph are those of the definition.
use Rattle.std.proofs.Common.{◌≡◌, ◌≢◌, ℕ, ◌+◌, ◌-◌, ◌<◌, ◌≤◌, true, false, not, ◌&&◌, ◌⊎◌, List, [], ◌∷◌}
use Rattle.std.proofs.Common.{◌++◌, length, get_or, set, All, Option, Some, None, reverse, refl, sym, ap}
use Rattle.std.proofs.Common.{subst, ◌∙◌, arith, ⊎_elim}
use Rattle.std.specs.Prelude.{◌==◌, find, fold, is_none, if◌then◌else◌}
use Rattle.std.specs.List.{list_any, range_with_len}
use Rattle.std.proofs.lemmas.Bool.{cases_eq, cases_lt, cond-true, cond-false}
use Rattle.std.proofs.lemmas.List.{get_or-map, get_or-set_same, get_or-set_other, length-set}
use Rattle.std.proofs.lemmas.List.{length-map, length-reverse, get_or-reverse}
use Rattle.std.proofs.lemmas.List.FromFn.{length-range_with_len, get_or-range_with_len}
use Rattle.tg_irc_definition.specs.Graphs.{is_register}
use Rattle.tg_irc_definition.specs.States.{Problem, RoundState, members}
use Rattle.tg_irc_definition.specs.Selection.{Colouring, has_colour, sees, is_free, pop, select}
use Rattle.tg_irc_definition.specs.Selection as rounds
use Rattle.tg_irc_definition.specs.laws.Laws.{IsOfClasses}
use Rattle.tg_irc_definition.proofs.Deciding.{clash, both, and_true, or_left, or_right, tells, never, same_node, same_test, some_is}
use Rattle.tg_irc_definition.proofs.Classes.{pairs_are_of_classes}
use Rattle.tg_graph.specs.Interference.{is_among, neighbours}
use Rattle.tg_graph.proofs.Joining.{stays_below}
use Rattle.tg_graph.proofs.Members.{among_within, among_above}
use Rattle.tg_coalescing_round.specs.glue.Works.{Work}
use Rattle.tg_coalescing_round.specs.mirror.Selecting.{Picks, colour_at, own_colour, precoloured, is_taken, first_free, popped, selected}
use Rattle.tg_coalescing_round.specs.glue.Standing.{state_of, IsOrderly, IsRunOf}
use Rattle.tg_coalescing_round.proofs.AdvancingMembers.{same_tests, all_among, any_among, any_found}
use Rattle.tg_coalescing_round.proofs.AdvancingChoosing.{among_filter, filter_among}
use Rattle.tg_coalescing_round.proofs.AdvancingRuns.{holds}

all_reverse : (P : ℕ → Type 0) (xs : List ℕ) → All P xs → All P (reverse xs)
all_reverse P xs h = λ k d l.
    let m : k < length xs = omega (arith, l, length-reverse xs) in
    subst P (sym (get_or-reverse xs k d m)) (h (length xs - 1 - k) d (omega (arith, m)))

module _ (g : Problem) (w : Work) (h : IsOrderly w) (run : IsRunOf g w) where
  abbrev s : RoundState
  s = state_of w

  of_classes : IsOfClasses g s
  of_classes =
      subst (λ t. IsOfClasses g t) (sym run.state) (pairs_are_of_classes g w.steps run.graph run.ends run.steps)

  in_problem : (x : ℕ) → x < w.graph.nodes → x < g.graph.nodes
  in_problem x l = subst (λ n. x < n) run.nodes l

  in_work : (x : ℕ) → x < g.graph.nodes → x < w.graph.nodes
  in_work x l = subst (λ n. x < n) (sym run.nodes) l

  -- the same colours so far, only of classes
  record AreAlike (p : Picks) (c : Colouring) : Type 0 where
    sized : length p.colours ≡ w.graph.nodes
    colours : (x : ℕ) → x < w.graph.nodes → colour_at p.colours x ≡ c.colour x
    spilled : p.spilled ≡ c.spilled
    own : (x k : ℕ) → x < w.graph.nodes → has_colour (c.colour x) k ≡ true → s.alias x ≡ x

  at_first : AreAlike (record { colours = precoloured w.graph.nodes; spilled = [] }) rounds.precoloured
  at_first = record {
    sized = length-map (range_with_len 0 w.graph.nodes) own_colour ∙ length-range_with_len 0 w.graph.nodes;
    colours = λ x l.
        get_or-map own_colour (range_with_len 0 w.graph.nodes) x 0 None
        (subst (λ n. x < n) (sym (length-range_with_len 0 w.graph.nodes)) l)
        ∙ ap own_colour (get_or-range_with_len 0 w.graph.nodes x 0 l ∙ from_zero x);
    spilled = refl;
    own = λ x k l e. by x k l (tells (is_register x)) e;
  }
    where
      from_zero : (x : ℕ) → 0 + x ≡ x
      from_zero x = omega arith

      by : (x k : ℕ) → x < w.graph.nodes → (is_register x ≡ true) ⊎ (is_register x ≡ false) →
          has_colour (if is_register x then Some x else None) k ≡ true → s.alias x ≡ x
      by x k l t e =
          ⊎_elim
          (λ (r : is_register x ≡ true). (holds g w run).classes.remaining_is_own x (in_problem x l)
          ((holds g w run).classes.register_remains x (in_problem x l) r))
          (λ (r : is_register x ≡ false).
          absurd (clash e (ap (λ b. has_colour (if b then Some x else None) k) r)))
          t

  -- a class that is popped
  module _ (p : Picks) (c : Colouring) (x : ℕ) (l : x < w.graph.nodes) (temporary : 25 ≤ x) (own_x : s.alias x ≡ x)
      (alike : AreAlike p c) where
    to_seen : (k : ℕ) → is_taken w.graph p.colours x k ≡ true → list_any (sees g s c k) (members g s x) ≡ true
    to_seen k e =
        any_among (sees g s c k) pair.0 (members g s x)
        (filter_among (λ a. s.alias a == x) pair.0 (range_with_len 0 g.graph.nodes)
        (same_test (s.alias pair.0) x (pair.4 ∙ own_x))
        (let b = pair.2 in among_within pair.0 0 g.graph.nodes (omega arith) (omega (arith, b))))
        ((some_is (λ a. g.graph.pairs pair.0 a && has_colour (c.colour (s.alias a)) k) g.graph.nodes).1 (
          pair.1,
          pair.3,
          and_true pair.6 (subst (λ a. has_colour (c.colour a) k ≡ true) (sym (pair.5 ∙ own_z)) seen),
        ))
      where
        found : (z : ℕ) × (is_among z (neighbours w.graph x) ≡ true) × (has_colour (colour_at p.colours z) k ≡ true)
        found = any_found (λ z. has_colour (colour_at p.colours z) k) (neighbours w.graph x) e

        near : s.pairs x found.0 ≡ true
        near = sym (h.graph.exact x found.0 temporary) ∙ found.1

        below : found.0 < w.graph.nodes
        below = stays_below w.graph x found.0 h.graph temporary l near

        seen : has_colour (c.colour found.0) k ≡ true
        seen = sym (ap (λ o. has_colour o k) (alike.colours found.0 below)) ∙ found.2

        own_z : s.alias found.0 ≡ found.0
        own_z = alike.own found.0 k below seen

        pair : (y z : ℕ) × (y < g.graph.nodes) × (z < g.graph.nodes) × (s.alias y ≡ s.alias x) ×
            (s.alias z ≡ s.alias found.0) × (g.graph.pairs y z ≡ true)
        pair = of_classes.exact x found.0 (in_problem x l) (in_problem found.0 below) near

    from_seen : (k : ℕ) → list_any (sees g s c k) (members g s x) ≡ true → is_taken w.graph p.colours x k ≡ true
    from_seen k e =
        any_among (λ z. has_colour (colour_at p.colours z) k) (s.alias other.0) (neighbours w.graph x)
        (h.graph.exact x (s.alias other.0) temporary ∙ near)
        (ap (λ o. has_colour o k) (alike.colours (s.alias other.0) below) ∙ pair.1)
      where
        found : (y : ℕ) × (is_among y (members g s x) ≡ true) × (sees g s c k y ≡ true)
        found = any_found (sees g s c k) (members g s x) e

        member : ((s.alias found.0 == x) ≡ true) × (is_among found.0 (range_with_len 0 g.graph.nodes) ≡ true)
        member = among_filter (λ a. s.alias a == x) found.0 (range_with_len 0 g.graph.nodes) found.1

        found_below : found.0 < g.graph.nodes
        found_below =
            ⊎_elim (λ (b : found.0 < g.graph.nodes). b)
            (λ (b : g.graph.nodes ≤ found.0).
            absurd (clash member.1 (among_above found.0 0 g.graph.nodes (omega (arith, b)))))
            (cases_lt found.0 g.graph.nodes)

        other : (z : ℕ) × (z < g.graph.nodes) ×
            ((g.graph.pairs found.0 z && has_colour (c.colour (s.alias z)) k) ≡ true)
        other = (some_is (λ a. g.graph.pairs found.0 a && has_colour (c.colour (s.alias a)) k) g.graph.nodes).0 found.2

        pair : (g.graph.pairs found.0 other.0 ≡ true) × (has_colour (c.colour (s.alias other.0)) k ≡ true)
        pair = both (g.graph.pairs found.0 other.0) (has_colour (c.colour (s.alias other.0)) k) other.2

        near : s.pairs x (s.alias other.0) ≡ true
        near =
            subst (λ a. s.pairs a (s.alias other.0) ≡ true) (same_node (s.alias found.0) x member.0)
            (of_classes.keeps found.0 other.0 found_below other.1 pair.0)

        below : s.alias other.0 < w.graph.nodes
        below = in_work (s.alias other.0) ((holds g w run).classes.alias_is_node other.0 other.1)

    first : Option ℕ
    first = find (is_free g s c x) (range_with_len 0 25)

    free_same : first_free (is_taken w.graph p.colours x) ≡ first
    unfolding first
    free_same =
        ap (λ test. find test (range_with_len 0 25))
        (λ i k. not (same_tests (is_taken w.graph p.colours x k) (list_any (sees g s c k) (members g s x)) (to_seen k)
        (from_seen k) i))

    here : (z : ℕ) → z ≡ x → colour_at (popped w.graph p x).colours z ≡ (pop g s c x).colour z
    unfolding first
    here z e =
        ap (λ y. get_or (set p.colours x (first_free (is_taken w.graph p.colours x))) y None) e
        ∙ (get_or-set_same p.colours x (first_free (is_taken w.graph p.colours x)) None
        (subst (λ n. x < n) (sym alike.sized) l)
        ∙ (free_same ∙ sym (cond-true _ _ _ (same_test z x e))))

    there : (z : ℕ) → z ≢ x → z < w.graph.nodes →
        colour_at (popped w.graph p x).colours z ≡ (pop g s c x).colour z
    there z d b =
        get_or-set_other p.colours x z (first_free (is_taken w.graph p.colours x)) None d
        ∙ (alike.colours z b ∙ sym (cond-false _ _ _ (never (λ e. d (same_node z x e)))))

    popped_alike : AreAlike (popped w.graph p x) (pop g s c x)
    unfolding first
    popped_alike = record {
      sized = length-set p.colours x (first_free (is_taken w.graph p.colours x)) ∙ alike.sized;
      colours = λ z b. ⊎_elim (λ (e : z ≡ x). here z e) (λ (d : z ≢ x). there z d b) (cases_eq z x);
      spilled =
          ap (λ o. if is_none o then p.spilled ++ x ∷ [] else p.spilled) free_same
          ∙ ap (λ (sp : List ℕ). if is_none first then sp ++ x ∷ [] else sp) alike.spilled;
      own = λ z k b e. ⊎_elim
          (λ (q : z ≡ x). subst (λ y. s.alias y ≡ y) (sym q) own_x)
          (λ (d : z ≢ x). alike.own z k b
          (sym (ap (λ o. has_colour o k) (cond-false (z == x) first (c.colour z) (never (λ q. d (same_node z x q))))) ∙ e))
          (cases_eq z x);
    }

  -- and then others
  all_alike : (xs : List ℕ) (p : Picks) (c : Colouring) →
      ((x : ℕ) → is_among x xs ≡ true → (x < w.graph.nodes) × (25 ≤ x) × (s.alias x ≡ x)) → AreAlike p c →
      AreAlike (fold (popped w.graph) p xs) (fold (pop g s) c xs)
  all_alike [] p c k alike = alike
  all_alike (x ∷ xs) p c k alike =
      let at = k x (or_left (x == x) (is_among x xs) (same_test x x refl)) in
      all_alike xs (popped w.graph p x) (pop g s c x) (λ y e. k y (or_right (y == x) (is_among y xs) e))
      (popped_alike p c x at.0 at.1 at.2 alike)

  on_stack : (x : ℕ) → is_among x (reverse w.stack) ≡ true → (x < w.graph.nodes) × (25 ≤ x) × (s.alias x ≡ x)
  on_stack x e =
      let at = all_among (λ y. (25 ≤ y) × (y < w.graph.nodes)) x (reverse w.stack)
      (all_reverse (λ y. (25 ≤ y) × (y < w.graph.nodes)) w.stack h.placed.stack_below) e in (
        at.1,
        at.0,
        (holds g w run).classes.stacked_is_own x
            (any_among (λ y. y == x) x (reverse w.stack) e (same_test x x refl)),
      )

  selected_alike : AreAlike (selected w.graph w.stack) (select g s)
  unfolding selected
  selected_alike =
      all_alike (reverse w.stack) (record { colours = precoloured w.graph.nodes; spilled = [] }) rounds.precoloured
      on_stack at_first

  pub colours_same : (x : ℕ) → x < w.graph.nodes →
      colour_at (selected w.graph w.stack).colours x ≡ (select g s).colour x
  colours_same = selected_alike.colours

  pub spilled_same : (selected w.graph w.stack).spilled ≡ (select g s).spilled
  spilled_same = selected_alike.spilled
