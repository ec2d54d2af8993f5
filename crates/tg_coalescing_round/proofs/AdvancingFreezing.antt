-- The unsettled moves of a class are given up, where none is to be tried.
use Rattle.std.proofs.Common.{◌≡◌, ◌≢◌, ℕ, ◌<◌, ◌≤◌, Bool, true, false, ◌&&◌, ◌||◌, List, []}
use Rattle.std.proofs.Common.{◌∷◌, length, refl, sym, ap, subst, ◌∙◌, arith, ⊎_elim}
use Rattle.std.specs.Prelude.{◌==◌, nat_lt, fold, if◌then◌else◌}
use Rattle.std.proofs.lemmas.Bool.{cases_eq, cases_lt, le-ltb, cond-true, cond-false}
use Rattle.tg_irc_definition.specs.declared.moves.MoveState.{MoveState}
use Rattle.tg_irc_definition.specs.declared.moves.MoveState.TheVariants.{Ready, Waiting, Coalesced, Constrained, Frozen}
use Rattle.tg_irc_definition.specs.Graphs.{Set}
use Rattle.tg_irc_definition.specs.States.{touches, is_ready_or_waiting}
use Rattle.tg_irc_definition.specs.States as states
use Rattle.tg_irc_definition.specs.Steps.{freeze}
use Rattle.tg_irc_definition.proofs.Deciding.{clash, both, and_true, or_left, or_right, never, same_node, same_test}
use Rattle.tg_graph.specs.Interference.{is_among, interferes}
use Rattle.tg_graph.specs.Lists.{Lists}
use Rattle.tg_coalescing_round.specs.glue.Lists.{list_at}
use Rattle.tg_coalescing_round.specs.glue.Tables.{Table, state_at, is_unsettled}
use Rattle.tg_coalescing_round.specs.glue.Works.{Work, settled, to, from}
use Rattle.tg_coalescing_round.specs.mirror.Steps.{freeze_one, given_up}
use Rattle.tg_coalescing_round.specs.glue.Standing.{as_told, shown, state_of, IsOrderly}
use Rattle.tg_coalescing_round.proofs.AdvancingMembers.{same_tests, all_among}
use Rattle.tg_coalescing_round.proofs.AdvancingListing.{IsShifted, shifted_none, shifted_then, shifted_left}
use Rattle.tg_coalescing_round.proofs.AdvancingOrder.{listed_ends, ends_listed, to_same, from_same, unsettled_told}
use Rattle.tg_coalescing_round.proofs.AdvancingPossible.{moves_of}
use Rattle.tg_coalescing_round.proofs.AdvancingKept.{kept_of, HasReadyBut}
use Rattle.tg_coalescing_round.proofs.AdvancingSettling.{table_after, settled_same, settled_shifts, settled_listed, orderly_settled, here, there}

abbrev pub with_states : Work → Lists → List MoveState → List ℕ → Work
with_states w lists states unsettled = record w {
  lists = lists;
  moves = record w.moves { states = states; unsettled = unsettled };
}

-- those of these moves that are unsettled are frozen
pub record IsGivenUp (w v : Work) (moves : Set) : Type 0 where
  pub same : v ≡ with_states w v.lists v.moves.states v.moves.unsettled
  pub lists : IsShifted w.lists v.lists
  pub orderly : IsOrderly v
  pub states : (j : ℕ) → state_at v.moves j ≡
      (if is_unsettled w.moves j && moves j then Frozen else state_at w.moves j)

not_so : (s : MoveState) (a b : Bool) → (a && b) ≡ false → s ≡ (if a && b then Frozen else s)
not_so s a b e = sym (cond-false _ _ _ e)

given_none : (w : Work) → IsOrderly w → (moves : Set) → ((j : ℕ) → (is_unsettled w.moves j && moves j) ≡ false) →
    IsGivenUp w w moves
given_none w h moves e = record {
  same = refl;
  lists = shifted_none w.lists;
  orderly = h;
  states = λ j. not_so (state_at w.moves j) (is_unsettled w.moves j) (moves j) (e j);
}

-- one move
module _ (w : Work) (h : IsOrderly w) (none : w.moves.ready ≡ []) (i : ℕ) (l : i < length w.moves.moves) where
  ready : HasReadyBut w i
  ready = record {
    exact = λ j b d. h.ready.exact j b;
    without = ap (is_among i) none;
    distinct = h.ready.distinct;
    waiting = h.ready.waiting;
  }

  given_unsettled : is_unsettled w.moves i ≡ true → IsGivenUp w (settled i Frozen w) (λ j. j == i)
  given_unsettled u =
      subst (λ v. IsGivenUp w v (λ j. j == i)) (sym (settled_same w (kept_of w h) i l u Frozen refl))
      (record {
        same = refl;
        lists = settled_shifts w (kept_of w h) i l u Frozen refl;
        orderly = orderly_settled w (kept_of w h) i l u Frozen refl (settled i Frozen w).lists
            (settled_shifts w (kept_of w h) i l u Frozen refl) (settled_listed w (kept_of w h) i l u Frozen refl) ready;
        states = λ j. ⊎_elim
            (λ (p : j ≡ i).
            ap (state_at (table j)) p
            ∙ (here w (kept_of w h) i l u Frozen refl
            ∙ sym (cond-true _ _ _ (and_true (ap (is_unsettled w.moves) p ∙ u) (same_test j i p)))))
            (λ (d : j ≢ i).
            there w (kept_of w h) i l u Frozen refl j d
            ∙ not_so (state_at w.moves j) (is_unsettled w.moves j) (j == i)
            (none_both (is_unsettled w.moves j) (never (λ e. d (same_node j i e)))))
            (cases_eq j i);
      })
    where
      table : ℕ → Table
      table j = table_after w (kept_of w h) i l u Frozen refl

      none_both : (a : Bool) {b : Bool} → b ≡ false → (a && b) ≡ false
      none_both true e = e
      none_both false e = refl

  given_one : IsGivenUp w (freeze_one w i) (λ j. j == i)
  given_one = by (is_unsettled w.moves i) refl
    where
      settled_one : (j : ℕ) → is_unsettled w.moves i ≡ false → (is_unsettled w.moves j && (j == i)) ≡ false
      settled_one j u = never (λ e. let p = both (is_unsettled w.moves j) (j == i) e in
          clash (subst (λ z. is_unsettled w.moves z ≡ true) (same_node j i p.1) p.0) u)

      by : (b : Bool) → is_unsettled w.moves i ≡ b → IsGivenUp w (if b then settled i Frozen w else w) (λ j. j == i)
      by true u = given_unsettled u
      by false u = given_none w h (λ j. j == i) (λ j. settled_one j u)

-- one after another
chosen : (s : MoveState) (b c : Bool) →
    (if is_ready_or_waiting (if is_ready_or_waiting s && b then Frozen else s) && c then Frozen
    else (if is_ready_or_waiting s && b then Frozen else s)) ≡
    (if is_ready_or_waiting s && (b || c) then Frozen else s)
chosen Ready true c = refl
chosen Ready false true = refl
chosen Ready false false = refl
chosen Waiting true c = refl
chosen Waiting false true = refl
chosen Waiting false false = refl
chosen Coalesced b c = refl
chosen Constrained b c = refl
chosen Frozen b c = refl

given_then : (w u v : Work) (i : ℕ) (others : Set) → IsGivenUp w u (λ j. j == i) → IsGivenUp u v others →
    IsGivenUp w v (λ j. (j == i) || others j)
given_then w u v i others a b = record {
  same = b.same ∙ ap (λ (x : Work). with_states x v.lists v.moves.states v.moves.unsettled) a.same;
  lists = shifted_then w.lists u.lists v.lists a.lists b.lists;
  orderly = b.orderly;
  states = λ j.
      b.states j
      ∙ (ap (λ s. if is_ready_or_waiting s && others j then Frozen else s) (a.states j)
      ∙ chosen (state_at w.moves j) (j == i) (others j));
}

given_all : (w : Work) (moves : List ℕ) → IsOrderly w → w.moves.ready ≡ [] →
    ((i : ℕ) → is_among i moves ≡ true → i < length w.moves.moves) → IsGivenUp w (fold freeze_one w moves)
    (λ j. is_among j moves)
given_all w [] h none k = given_none w h (λ j. false) (λ j. no (is_unsettled w.moves j))
  where
    no : (a : Bool) → (a && false) ≡ false
    no true = refl
    no false = refl
given_all w (i ∷ moves) h none k =
    let one = given_one w h none i (k i (or_left (i == i) (is_among i moves) (same_test i i refl))) in
    given_then w (freeze_one w i) (fold freeze_one (freeze_one w i) moves) i (λ j. is_among j moves) one
    (given_all (freeze_one w i) moves one.orderly (ap (λ (x : Work). x.moves.ready) one.same ∙ none)
    (λ j e. subst (λ n. j < n) (ap (λ (x : Work). length x.moves.moves) (sym one.same))
    (k j (or_right (j == i) (is_among j moves) e))))

-- those of a class
module _ (w : Work) (h : IsOrderly w) (none : w.moves.ready ≡ []) (x : ℕ) (l : x < w.graph.nodes) where
  abbrev pub of_class : Set
  of_class j = is_among j (list_at w.moves.touching x)

  class_below : (i : ℕ) → of_class i ≡ true → i < length w.moves.moves
  class_below i e =
      all_among (λ j. j < length w.moves.moves) i (list_at w.moves.touching x) (h.table.touching_below x) e

  pub given_class : IsGivenUp w (given_up x w) of_class
  unfolding given_up
  given_class = given_all w (list_at w.moves.touching x) h none class_below

  -- what a round freezes
  touched : (j : ℕ) → touches (shown w) (state_of w) x j ≡ (is_unsettled w.moves j && of_class j)
  touched j = ⊎_elim inside outside (cases_lt j (length w.moves.moves))
    where
      inside : j < length w.moves.moves → touches (shown w) (state_of w) x j ≡ (is_unsettled w.moves j && of_class j)
      inside k =
          ap (λ c. c && (states.to (shown w) (state_of w) j == x || states.from (shown w) (state_of w) j == x))
          (unsettled_told w (moves_of w h) j k)
          ∙ (ap (λ c. is_unsettled w.moves j && (c == x || states.from (shown w) (state_of w) j == x))
          (to_same w (moves_of w h) j k)
          ∙ (ap (λ c. is_unsettled w.moves j && (to w j == x || c == x)) (from_same w (moves_of w h) j k)
          ∙ ap (λ c. is_unsettled w.moves j && c)
          (same_tests (to w j == x || from w j == x) (of_class j) (listed_ends w (moves_of w h) j k x l)
          (ends_listed w (moves_of w h) j k x l))))

      no : (a : Bool) {b : Bool} → b ≡ false → (a && b) ≡ false
      no true e = e
      no false e = refl

      outside : length w.moves.moves ≤ j → touches (shown w) (state_of w) x j ≡ (is_unsettled w.moves j && of_class j)
      outside k =
          ap (λ c. c && is_ready_or_waiting (as_told (state_at w.moves j)) &&
          (states.to (shown w) (state_of w) j == x || states.from (shown w) (state_of w) j == x))
          (le-ltb j (length w.moves.moves) k)
          ∙ sym (no (is_unsettled w.moves j) (never (λ e. let b = class_below j e in omega (arith, b, k))))

  told_given : (c : Bool) (s : MoveState) → as_told (if c then Frozen else s) ≡ (if c then Frozen else as_told s)
  told_given true s = refl
  told_given false s = refl

  pub state_given : (lists : Lists) (states : List MoveState) (unsettled : List ℕ) →
      IsGivenUp w (with_states w lists states unsettled) of_class →
      state_of (with_states w lists states unsettled) ≡ freeze (shown w) (state_of w) x
  state_given lists states unsettled g = λ d. record {
    remaining = λ z. ap (λ c. nat_lt z w.graph.nodes && c) (shifted_left w.lists lists g.lists z) d;
    pairs = interferes w.graph;
    alias = (state_of w).alias;
    states = λ j. told j d;
    stack = (state_of w).stack;
  }
    where
      told : (j : ℕ) → (state_of (with_states w lists states unsettled)).states j ≡
          (freeze (shown w) (state_of w) x).states j
      told j =
          ap as_told (g.states j)
          ∙ (told_given (is_unsettled w.moves j && of_class j) (state_at w.moves j)
          ∙ ap (λ c. if c then Frozen else as_told (state_at w.moves j)) (sym (touched j)))
