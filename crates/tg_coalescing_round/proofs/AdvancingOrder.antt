-- What is known of work in order: which nodes remain, which moves end where, what is in each worklist.
use Rattle.std.proofs.Common.{◌≡◌, ℕ, ◌+◌, ◌<◌, Bool, true, false, not, ◌&&◌, ◌||◌, ◌⊎◌, inl, inr}
use Rattle.std.proofs.Common.{length, get_or, refl, sym, ap, subst, ◌∙◌, arith}
use Rattle.std.specs.Prelude.{◌==◌, nat_eq, nat_lt}
use Rattle.std.proofs.lemmas.Bool.{ltb-true, lt-ltb}
use Rattle.std.proofs.lemmas.List.{get_or_default}
use Rattle.tg_irc_definition.specs.declared.moves.Move.{Move}
use Rattle.tg_irc_definition.specs.Graphs.{bit}
use Rattle.tg_irc_definition.specs.States.{Problem, RoundState, remains, is_move_related, touches, is_ready_or_waiting, low}
use Rattle.tg_irc_definition.specs.States as states
use Rattle.tg_irc_definition.specs.laws.Laws.{IsSound}
use Rattle.tg_irc_definition.proofs.Deciding.{both, and_true, either, or_left, or_right}
use Rattle.tg_irc_definition.proofs.Deciding.{same_node, same_test, some_is}
use Rattle.tg_graph.specs.Interference.{is_among, is_register}
use Rattle.tg_graph.proofs.Joining.{either_way, not_itself}
use Rattle.tg_coalescing_round.specs.glue.Lists.{list_at}
use Rattle.tg_coalescing_round.specs.glue.Groupings.{IsGrouping}
use Rattle.tg_coalescing_round.specs.glue.Tables.{IsTable, move_at, state_at, is_unsettled, is_related}
use Rattle.tg_coalescing_round.specs.glue.Works.{Work, is_left, is_open, to, from}
use Rattle.tg_coalescing_round.specs.glue.Standing.{as_told, shown, state_of, IsSized, HasEnds}
use Rattle.tg_coalescing_round.proofs.AdvancingMembers.{same_tests, one_bit, all_among, count_some, count_found}
use Rattle.tg_coalescing_round.proofs.AdvancingWaking.{told_open}

-- a temporary that remains, as the code and as a round see it
module _ (w : Work) where
  pub open_remains : (x : ℕ) → x < w.graph.nodes → is_open w x ≡ true → remains (shown w) (state_of w) x ≡ true
  open_remains x l o =
      let parts = both (not (is_register x)) (is_left w.lists x) o in
      let inside = lt-ltb x w.graph.nodes l in
      and_true (and_true inside (and_true inside parts.1)) parts.0

  pub remains_open : (x : ℕ) → remains (shown w) (state_of w) x ≡ true → (x < w.graph.nodes) × (is_open w x ≡ true)
  remains_open x r =
      let temporary = both (nat_lt x w.graph.nodes && (nat_lt x w.graph.nodes && is_left w.lists x))
      (not (is_register x)) r in
      let inside = both (nat_lt x w.graph.nodes) (nat_lt x w.graph.nodes && is_left w.lists x) temporary.0 in
      let left = both (nat_lt x w.graph.nodes) (is_left w.lists x) inside.1 in
      (ltb-true x w.graph.nodes inside.0, and_true temporary.1 left.1)

  pub left_remains : (x : ℕ) → x < w.graph.nodes → is_left w.lists x ≡ true → (state_of w).remaining x ≡ true
  left_remains x l e = and_true (lt-ltb x w.graph.nodes l) e

-- Moves.

-- what is kept of the moves and of their ends
pub record HasMoves (w : Work) : Type 0 where
  pub sized : IsSized w
  pub grouping : IsGrouping w.classes
  pub table : IsTable w.moves
  pub ends : HasEnds w

module _ (w : Work) (h : HasMoves w) where
  -- an end is a node, and its class stands under one
  module _ (end : Move → ℕ) (i : ℕ) (inside : end (move_at w.moves.moves i) < length w.classes.aliases) where
    class_of : ℕ
    class_of = get_or w.classes.aliases (end (move_at w.moves.moves i)) 0

    class_below : class_of < w.graph.nodes
    unfolding class_of
    class_below =
        let below = h.grouping.aliases_below (end (move_at w.moves.moves i)) 0 inside in
        omega (arith, below, h.sized.classes)

    class_same : get_or w.classes.aliases (end (move_at w.moves.moves i)) (end (move_at w.moves.moves i)) ≡ class_of
    unfolding class_of
    class_same = get_or_default w.classes.aliases (end (move_at w.moves.moves i)) (end (move_at w.moves.moves i)) 0 inside

  module _ (i : ℕ) (l : i < length w.moves.moves) where
    pub inside_both : ((move_at w.moves.moves i).to < length w.classes.aliases) ×
        ((move_at w.moves.moves i).from < length w.classes.aliases)
    inside_both =
        let both_below = h.table.ends_below i (record { to = 0; from = 0 }) l in
        let a = both_below.0 in
        let b = both_below.1 in
        (omega (arith, a, h.sized.classes, h.sized.touching), omega (arith, b, h.sized.classes, h.sized.touching))

    pub to_below : to w i < w.graph.nodes
    unfolding class_of
    to_below = class_below (λ m. m.to) i inside_both.0

    pub from_below : from w i < w.graph.nodes
    unfolding class_of
    from_below = class_below (λ m. m.from) i inside_both.1

    pub to_same : states.to (shown w) (state_of w) i ≡ to w i
    unfolding class_of
    to_same = class_same (λ m. m.to) i inside_both.0

    pub from_same : states.from (shown w) (state_of w) i ≡ from w i
    unfolding class_of
    from_same = class_same (λ m. m.from) i inside_both.1

    -- a move is listed at a class where it ends in it
    pub listed_ends : (x : ℕ) → x < w.graph.nodes → (to w i == x || from w i == x) ≡ true →
        is_among i (list_at w.moves.touching x) ≡ true
    listed_ends x k e =
        let found = count_found (nat_eq i) (list_at w.moves.touching x)
        (some_end (h.ends.listed x i k l) (either (to w i == x) (from w i == x) e)) in
        subst (λ j. is_among j (list_at w.moves.touching x) ≡ true) (sym (same_node i found.0 found.2)) found.1
      where
        some_end : {n : ℕ} {a b : Bool} → n ≡ bit a + bit b → (a ≡ true) ⊎ (b ≡ true) → 0 < n
        some_end q (inl p) = let o = one_bit p in omega (arith, q, o)
        some_end q (inr p) = let o = one_bit p in omega (arith, q, o)

    pub ends_listed : (x : ℕ) → x < w.graph.nodes → is_among i (list_at w.moves.touching x) ≡ true →
        (to w i == x || from w i == x) ≡ true
    ends_listed x k e =
        some_end (to w i == x) (from w i == x) (h.ends.listed x i k l)
        (count_some (nat_eq i) i (list_at w.moves.touching x) e (same_test i i refl))
      where
        some_end : {n : ℕ} (a b : Bool) → n ≡ bit a + bit b → 0 < n → (a || b) ≡ true
        some_end true b q l = refl
        some_end false true q l = refl
        some_end false false q l = absurd (omega (arith, q, l))

  pub unsettled_told : (i : ℕ) → i < length w.moves.moves →
      states.is_unsettled (shown w) (state_of w) i ≡ is_unsettled w.moves i
  unsettled_told i l = ap (λ b. b && is_ready_or_waiting (as_told (state_at w.moves i))) (lt-ltb i _ l)
      ∙ told_open (state_at w.moves i)

  pub unsettled_below : (i : ℕ) → states.is_unsettled (shown w) (state_of w) i ≡ true → i < length w.moves.moves
  unsettled_below i u = ltb-true i _ (both (nat_lt i (length w.moves.moves)) _ u).0

  -- a class with an unsettled move
  related_found : (x : ℕ) → x < w.graph.nodes → is_related w.moves x ≡ true →
      is_move_related (shown w) (state_of w) x ≡ true
  related_found x k e =
      let more = ltb-true 0 (get_or w.moves.unsettled x 0) e in
      let found = count_found (is_unsettled w.moves) (list_at w.moves.touching x)
      (omega (arith, more, h.ends.counted x k)) in
      let i = found.0 in
      let l = all_among (λ j. j < length w.moves.moves) i (list_at w.moves.touching x) (h.table.touching_below x) found.1
      in
      (some_is (touches (shown w) (state_of w) x) (length w.moves.moves)).1 (
        i,
        l,
        and_true (unsettled_told i l ∙ found.2)
            (ap (λ c. (c == x) || (states.from (shown w) (state_of w) i == x)) (to_same i l)
            ∙ (ap (λ c. (to w i == x) || (c == x)) (from_same i l) ∙ ends_listed i l x k found.1)),
      )

  related_by : (x i : ℕ) → x < w.graph.nodes → i < length w.moves.moves → is_unsettled w.moves i ≡ true →
      (to w i == x || from w i == x) ≡ true → is_related w.moves x ≡ true
  related_by x i k l u e =
      let more = count_some (is_unsettled w.moves) i (list_at w.moves.touching x) (listed_ends i l x k e) u in
      lt-ltb 0 (get_or w.moves.unsettled x 0) (omega (arith, more, h.ends.counted x k))

  touching_at : (x i : ℕ) → i < length w.moves.moves → touches (shown w) (state_of w) x i ≡ true →
      (is_unsettled w.moves i ≡ true) × ((to w i == x || from w i == x) ≡ true)
  touching_at x i l t =
      let p = both (states.is_unsettled (shown w) (state_of w) i) _ t in (
        sym (unsettled_told i l) ∙ p.0,
        ap (λ c. (c == x) || (from w i == x)) (sym (to_same i l))
            ∙ (ap (λ c. (states.to (shown w) (state_of w) i == x) || (c == x)) (sym (from_same i l)) ∙ p.1),
      )

  pub related_told : (x : ℕ) → x < w.graph.nodes →
      is_related w.moves x ≡ is_move_related (shown w) (state_of w) x
  related_told x k = same_tests (is_related w.moves x) (is_move_related (shown w) (state_of w) x) (related_found x k)
      (λ e. let found = (some_is (touches (shown w) (state_of w) x) (length w.moves.moves)).0 e in
      let parts = touching_at x found.0 found.1 found.2 in
      related_by x found.0 k found.1 parts.0 parts.1)

  -- the ends of an unsettled move remain
  end_left : (x i : ℕ) → x < w.graph.nodes → i < length w.moves.moves → is_unsettled w.moves i ≡ true →
      (to w i == x || from w i == x) ≡ true → is_left w.lists x ≡ true
  end_left x i k l u e = h.ends.left x k (related_by x i k l u e)

  pub sound : IsSound (shown w) (state_of w)
  sound = record {
    symmetric = either_way w.graph;
    irreflexive = λ x. not_itself w.graph x x refl;
    to_remains = λ i u.
        let l = unsettled_below i u in
        subst (λ x. (x < w.graph.nodes) × ((state_of w).remaining x ≡ true)) (sym (to_same i l)) (
          to_below i l,
          left_remains w (to w i) (to_below i l)
              (end_left (to w i) i (to_below i l) l (sym (unsettled_told i l) ∙ u) (or_left _ _ (same_test (to w i) _ refl))),
        );
    from_remains = λ i u.
        let l = unsettled_below i u in
        subst (λ x. (x < w.graph.nodes) × ((state_of w).remaining x ≡ true)) (sym (from_same i l)) (
          from_below i l,
          left_remains w (from w i) (from_below i l)
              (end_left (from w i) i (from_below i l) l (sym (unsettled_told i l) ∙ u)
              (or_right (to w i == from w i) _ (same_test (from w i) _ refl))),
        );
  }
