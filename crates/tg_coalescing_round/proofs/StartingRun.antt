-- The work begins as that of a run that has taken no step.
use Rattle.std.proofs.Common.{◌≡◌, ◌≢◌, ℕ, zero, suc, ◌+◌, ◌<◌, ◌≤◌, Bool, true, false, not, ◌&&◌, ◌||◌, List, [], ◌∷◌, length, get_or, map}
use Rattle.std.proofs.Common.{replicate, refl, sym, ap, ◌∙◌, subst, ⊎_elim, arith}
use Rattle.std.specs.Prelude.{◌==◌, nat_lt, filter, sum_by}
use Rattle.std.specs.List.{range_with_len}
use Rattle.std.proofs.lemmas.Bool.{cases_eq, cases_lt, eq-eqb, ne_eqb, cond-true, cond-false}
use Rattle.std.proofs.lemmas.List.{get_or-map, get_or-replicate, get_or_past, length-replicate}
use Rattle.std.proofs.lemmas.List.FromFn.{length-range_with_len}
use Rattle.std.proofs.lemmas.List.Elements.{filter_agree}
use Rattle.tg_graph.specs.Interference.{Interference, interferes}
use Rattle.tg_graph.specs.Lists.{Lists}
use Rattle.tg_graph.proofs.Joining.{either_way, not_itself}
use Rattle.tg_irc_definition.specs.declared.candidates.NodeFacts.{NodeFacts}
use Rattle.tg_irc_definition.specs.declared.moves.Move.{Move}
use Rattle.tg_irc_definition.specs.declared.moves.MoveState.TheVariants.{Ready}
use Rattle.tg_irc_definition.specs.Graphs.{every}
use Rattle.tg_irc_definition.specs.Policies.{Rule}
use Rattle.tg_irc_definition.specs.States.{Problem, problem, start, members, facts_at, all_made}
use Rattle.tg_irc_definition.proofs.Deciding.{clash, either, every_is, not_true, or_left, or_right, from_false, same_test}
use Rattle.tg_coalescing_round.specs.glue.Advancing.{IsGiven}
use Rattle.tg_coalescing_round.specs.glue.Groupings.{is_made}
use Rattle.tg_coalescing_round.specs.glue.Works.{Work, is_left, started}
use Rattle.tg_coalescing_round.specs.glue.Standing.{as_told, graph_of, state_of, IsRunOf}
use Rattle.tg_coalescing_round.proofs.AdvancingListing.{IsShifted, shifted_left}
use Rattle.tg_coalescing_round.proofs.Starting.{with_lists, first_lists, begun, place_in}

-- a number alone in a range
none_same : (x a k : ℕ) → x < a → filter (λ y. y == x) (range_with_len a k) ≡ []
none_same x a zero h = refl
none_same x a (suc k) h =
    cond-false (a == x) _ _ (ne_eqb a x (λ e. omega (arith, e, h))) ∙ none_same x (a + 1) k (omega (arith, h))

one_same : (x a k : ℕ) → a ≤ x → x < a + k → filter (λ y. y == x) (range_with_len a k) ≡ x ∷ []
one_same x a zero h l = absurd (omega (arith, h, l))
one_same x a (suc k) h l =
    ⊎_elim
    (λ (e : a ≡ x).
    cond-true (a == x) _ _ (eq-eqb a x e)
    ∙ (ap (λ ys. a ∷ ys) (none_same x (a + 1) k (omega (arith, e))) ∙ ap (λ y. y ∷ []) e))
    (λ (d : a ≢ x).
    cond-false (a == x) _ _ (ne_eqb a x d) ∙ one_same x (a + 1) k (omega (arith, h, d)) (omega (arith, l)))
    (cases_eq a x)

and_all : (b c : Bool) → c ≡ true → (b && c) ≡ b
and_all true c e = e
and_all false c e = refl

same : (a b : Bool) → (a ≡ true → b ≡ true) → (b ≡ true → a ≡ true) → a ≡ b
same true b f g = sym (f refl)
same false true f g = g refl
same false false f g = refl

module _ (g : Interference) (moves : List Move) (facts : List NodeFacts) (rule : Rule) (given : IsGiven g moves facts) where
  abbrev p : Problem
  p = problem (graph_of g) moves facts rule

  own : (x : ℕ) → get_or (range_with_len 0 (length facts)) x x ≡ x
  own x =
      ⊎_elim (λ (l : x < length facts). place_in (length facts) x x l)
      (λ (l : length facts ≤ x).
      get_or_past (range_with_len 0 (length facts)) x x (omega (arith, l, length-range_with_len 0 (length facts))))
      (cases_lt x (length facts))

  all_ready : (i : ℕ) → as_told (get_or (replicate (length moves) Ready) i Ready) ≡ Ready
  all_ready i =
      ap as_told
      (⊎_elim (λ (l : i < length moves). get_or-replicate (length moves) i Ready Ready l)
      (λ (l : length moves ≤ i).
      get_or_past (replicate (length moves) Ready) i Ready (omega (arith, l, length-replicate (length moves) Ready)))
      (cases_lt i (length moves)))

  module _ (l : Lists) (shifted : IsShifted (first_lists g moves facts given) l) where
    abbrev w : Work
    w = with_lists g moves facts given l

    begins : state_of w ≡ start p
    begins = λ i. record {
      remaining = λ x. and_all (nat_lt x g.nodes) (is_left l x) (shifted_left (first_lists g moves facts given) l shifted x) i;
      pairs = interferes g;
      alias = λ x. own x i;
      states = λ j. all_ready j i;
      stack = [];
    }

    members_one : (x : ℕ) → x < g.nodes → members p (state_of w) x ≡ x ∷ []
    members_one x k =
        filter_agree _ (λ y. y == x) (λ y. ap (λ z. z == x) (own y)) (range_with_len 0 g.nodes)
        ∙ one_same x 0 g.nodes (omega arith) (omega (arith, k))

    uses : (x : ℕ) → x < g.nodes →
        get_or (map (λ (m : NodeFacts). m.uses) facts) x 0 ≡
        sum_by (λ y. (facts_at p (state_of w) y).uses) (members p (state_of w) x)
    uses x k =
        let one = ap (sum_by (λ y. (facts_at p (state_of w) y).uses)) (members_one x k) in
        let read = get_or-map (λ (m : NodeFacts). m.uses) facts x (record { uses = 0; made = false }) 0
        (omega (arith, k, given.sized)) in
        omega (arith, one, read)

    made : (x : ℕ) → x < g.nodes → is_made w.classes x ≡ all_made p (state_of w) x
    made x k =
        let S = λ (y : ℕ). not (get_or (range_with_len 0 (length facts)) y y == x) || (facts_at p (state_of w) y).made in
        get_or-map (λ (m : NodeFacts). m.made) facts x (record { uses = 0; made = false }) false (omega (arith, k, given.sized))
        ∙ same (facts_at p (state_of w) x).made (every S g.nodes)
        (λ e. (every_is S g.nodes).1 (λ y m. ⊎_elim
        (λ (q : y ≡ x). or_right _ _ (ap (λ z. (facts_at p (state_of w) z).made) q ∙ e))
        (λ (d : y ≢ x). or_left _ _ (from_false (ne_eqb _ x (λ q. d (sym (own y) ∙ q)))))
        (cases_eq y x)))
        (λ e. ⊎_elim
        (λ (q : not (get_or (range_with_len 0 (length facts)) x x == x) ≡ true).
        absurd (clash (same_test _ x (own x)) (not_true q)))
        (λ (q : (facts_at p (state_of w) x).made ≡ true). q)
        (either (not (get_or (range_with_len 0 (length facts)) x x == x)) _ ((every_is S g.nodes).0 e x k)))

    run : IsRunOf p w
    run = record {
      graph = record { symmetric = either_way g; irreflexive = λ x. not_itself g x x refl };
      ends = given.ends;
      nodes = refl;
      moves = refl;
      steps = tt;
      state = begins;
      uses = uses;
      made = λ x k e. made x k;
    }

  pub start_run : IsRunOf p (started g moves facts)
  start_run =
      let b = begun g moves facts given in
      subst (IsRunOf p) (sym b.same) (run (started g moves facts).lists b.shifted)
