-- Uses and facts of the classes after a merge.
use Rattle.std.proofs.Common.{◌≡◌, ◌≢◌, ℕ, zero, suc, ◌+◌, ◌<◌, Bool, true, false, not, ◌&&◌, ◌||◌, List}
use Rattle.std.proofs.Common.{[], ◌∷◌, length, get_or, cond, refl, sym, ap, subst, ◌∙◌, arith}
use Rattle.std.specs.Prelude.{◌==◌, sum_by, filter, if◌then◌else◌}
use Rattle.std.specs.List.{range_with_len}
use Rattle.std.proofs.lemmas.Bool.{cond-true}
use Rattle.std.proofs.lemmas.List.{get_or-set_same, get_or-set_other}
use Rattle.std.proofs.lemmas.List.Elements.{filter_agree}
use Rattle.std.proofs.lemmas.List.Sums.{sum_by-cons}
use Rattle.tg_irc_definition.specs.Graphs.{Set, every}
use Rattle.tg_irc_definition.specs.States.{Problem, RoundState, facts_at, all_made}
use Rattle.tg_irc_definition.proofs.Deciding.{clash, never, same_node, same_test}
use Rattle.tg_coalescing_round.specs.glue.Groupings.{is_made}
use Rattle.tg_coalescing_round.specs.glue.Works.{Work, is_left, alias_of}
use Rattle.tg_coalescing_round.specs.glue.Standing.{state_of, IsOrderly, IsRunOf}
use Rattle.tg_coalescing_round.proofs.AdvancingRuns.{own_class}
use Rattle.tg_coalescing_round.proofs.AdvancingJoining.{by_place, sum_kept, sum_gone, sum_other}
use Rattle.tg_coalescing_round.proofs.AdvancingClasses.{classes_after, alias_after, renamed, named_kept, named_gone, named_other}

-- two sets that share nothing
sum_either : (f : ℕ → ℕ) (p q : Set) → ((z : ℕ) → p z ≡ true → q z ≡ false) → (xs : List ℕ) →
    sum_by f (filter (λ z. p z || q z) xs) ≡ sum_by f (filter p xs) + sum_by f (filter q xs)
sum_either f p q h [] = refl
sum_either f p q h (x ∷ xs) = by (p x) (q x) (h x) (sum_either f p q h xs)
  where
    by : (a b : Bool) → (a ≡ true → b ≡ false) →
        sum_by f (filter (λ z. p z || q z) xs) ≡ sum_by f (filter p xs) + sum_by f (filter q xs) →
        sum_by f (cond (a || b) (x ∷ filter (λ z. p z || q z) xs) (filter (λ z. p z || q z) xs)) ≡
        sum_by f (cond a (x ∷ filter p xs) (filter p xs)) + sum_by f (cond b (x ∷ filter q xs) (filter q xs))
    by true true k r = absurd (clash refl (k refl))
    by true false k r =
        omega (arith, r, sum_by-cons f x (filter (λ z. p z || q z) xs), sum_by-cons f x (filter p xs))
    by false true k r =
        omega (arith, r, sum_by-cons f x (filter (λ z. p z || q z) xs), sum_by-cons f x (filter q xs))
    by false false k r = r

none_filtered : (p : Set) → ((z : ℕ) → p z ≡ false) → (xs : List ℕ) → filter p xs ≡ []
none_filtered p h [] = refl
none_filtered p h (x ∷ xs) =
    ap (λ b. cond b (x ∷ filter p xs) (filter p xs)) (h x) ∙ none_filtered p h xs

every_both : (S T : Set) (n : ℕ) → every (λ z. S z && T z) n ≡ (every S n && every T n)
every_both S T zero = refl
every_both S T (suc n) =
    ap (λ b. (S n && T n) && b) (every_both S T n) ∙ by (S n) (T n) (every S n) (every T n)
  where
    by : (a b c d : Bool) → ((a && b) && (c && d)) ≡ ((a && c) && (b && d))
    by true true c d = refl
    by true false true d = refl
    by true false false d = refl
    by false b c d = refl

module _ (g : Problem) (w : Work) (h : IsOrderly w) (run : IsRunOf g w) (kept gone : ℕ) (l : kept < w.graph.nodes)
    (m : gone < w.graph.nodes) (d : kept ≢ gone) (kept_left : is_left w.lists kept ≡ true)
    (gone_left : is_left w.lists gone ≡ true) where
  abbrev s : RoundState
  s = state_of w

  abbrev pub alias_then : ℕ → ℕ
  alias_then y = renamed kept gone (s.alias y)

  -- Uses.

  uses_inside : (z : ℕ) → z < w.graph.nodes → z < length w.classes.uses
  uses_inside z k = subst (λ j. z < j) (sym (h.grouping.uses_sized ∙ h.sized.classes)) k

  abbrev uses_of : List ℕ → ℕ
  uses_of ys = sum_by (λ y. (facts_at g s y).uses) ys

  Used : ℕ → Type 0
  Used x =
      x < w.graph.nodes → get_or (classes_after w h kept gone l m d).uses x 0 ≡
      uses_of (filter (λ y. alias_then y == x) (range_with_len 0 g.graph.nodes))

  used_kept : Used kept
  unfolding Used
  used_kept b =
      let a = sum_kept w.classes.uses kept gone (uses_inside kept l) (uses_inside gone m) d in
      let parts = sum_either (λ y. (facts_at g s y).uses) (λ y. s.alias y == kept) (λ y. s.alias y == gone)
      (λ z e. never (λ f. d (sym (same_node (s.alias z) kept e) ∙ same_node (s.alias z) gone f)))
      (range_with_len 0 g.graph.nodes) in
      let both = ap uses_of (filter_agree (λ y. (s.alias y == kept) || (s.alias y == gone)) (λ y. alias_then y == kept)
      (λ y. named_kept w h kept gone l m d (s.alias y)) (range_with_len 0 g.graph.nodes)) in
      omega (arith, a, parts, both, run.uses kept l, run.uses gone m)

  used_gone : Used gone
  unfolding Used
  used_gone b =
      sum_gone w.classes.uses kept gone (uses_inside kept l) (uses_inside gone m) d
      ∙ sym (ap uses_of (none_filtered (λ y. alias_then y == gone)
      (λ y. named_gone w h kept gone l m d (s.alias y)) (range_with_len 0 g.graph.nodes)))

  used_other : (z : ℕ) → z ≢ kept → z ≢ gone → Used z
  unfolding Used
  used_other z e f b =
      sum_other w.classes.uses kept gone (uses_inside kept l) (uses_inside gone m) d z e f
      ∙ (run.uses z b
      ∙ ap uses_of (filter_agree (λ y. s.alias y == z) (λ y. alias_then y == z)
      (λ y. named_other w h kept gone l m d (s.alias y) z e f) (range_with_len 0 g.graph.nodes)))

  pub uses_after : (x : ℕ) → x < w.graph.nodes → get_or (classes_after w h kept gone l m d).uses x 0 ≡
      uses_of (filter (λ y. alias_then y == x) (range_with_len 0 g.graph.nodes))
  unfolding Used
  uses_after x b = by_place kept gone Used used_kept used_gone used_other x b

  -- Facts of nodes.

  abbrev pub made_then : ℕ → Bool
  made_then x = every (λ y. not (alias_then y == x) || (facts_at g s y).made) g.graph.nodes

  Made : ℕ → Type 0
  Made x =
      x < w.graph.nodes → get_or (classes_after w h kept gone l m d).aliases x 0 ≡ x →
      is_made (classes_after w h kept gone l m d) x ≡ made_then x

  split : (p q m : Bool) → ((not p || m) && (not q || m)) ≡ (not (p || q) || m)
  split true true true = refl
  split true true false = refl
  split true false true = refl
  split true false false = refl
  split false true m = refl
  split false false m = refl

  made_kept : Made kept
  unfolding Made
  made_kept b own_now =
      get_or-set_same w.classes.made kept (is_made w.classes kept && is_made w.classes gone) false
      (subst (λ j. kept < j) (sym (h.grouping.made_sized ∙ h.sized.classes)) l)
      ∙ (ap (λ c. c && is_made w.classes gone) (run.made kept l (own_class g w run h.sized kept l kept_left))
      ∙ (ap (λ c. all_made g s kept && c) (run.made gone m (own_class g w run h.sized gone m gone_left))
      ∙ (sym (every_both (λ y. not (s.alias y == kept) || (facts_at g s y).made)
      (λ y. not (s.alias y == gone) || (facts_at g s y).made) g.graph.nodes)
      ∙ ap (λ S. every S g.graph.nodes)
      (λ i y. (split (s.alias y == kept) (s.alias y == gone) (facts_at g s y).made
      ∙ ap (λ c. not c || (facts_at g s y).made) (named_kept w h kept gone l m d (s.alias y))) i))))

  made_gone : Made gone
  unfolding Made
  made_gone b own_now =
      absurd (d (sym (alias_after w h kept gone l m d gone 0 m
      ∙ cond-true _ _ _ (same_test (alias_of w gone) gone (own_class g w run h.sized gone m gone_left))) ∙ own_now))

  made_other : (z : ℕ) → z ≢ kept → z ≢ gone → Made z
  unfolding Made
  made_other z e f b own_now =
      get_or-set_other w.classes.made kept z (is_made w.classes kept && is_made w.classes gone) false e
      ∙ (run.made z b (by (alias_of w z == gone) (sym (alias_after w h kept gone l m d z 0 b) ∙ own_now))
      ∙ ap (λ S. every S g.graph.nodes)
      (λ i y. ap (λ c. not c || (facts_at g s y).made) (named_other w h kept gone l m d (s.alias y) z e f) i))
    where
      by : (c : Bool) → (if c then kept else alias_of w z) ≡ z → alias_of w z ≡ z
      by true q = absurd (e (sym q))
      by false q = q

  pub made_after : (x : ℕ) → x < w.graph.nodes → get_or (classes_after w h kept gone l m d).aliases x 0 ≡ x →
      is_made (classes_after w h kept gone l m d) x ≡ made_then x
  unfolding Made
  made_after x b e = by_place kept gone Made made_kept made_gone made_other x b e
