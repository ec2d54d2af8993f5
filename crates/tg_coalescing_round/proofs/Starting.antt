-- The work begins in order, as that of a run that has taken no step.
use Rattle.std.proofs.Common.{◌≡◌, ◌≢◌, ℕ, zero, suc, ◌+◌, ◌-◌, ◌<◌, ◌≤◌, Bool, true, false, not, ◌&&◌, ◌||◌, List, [], ◌∷◌, length, get_or, refl}
use Rattle.std.proofs.Common.{sym, ap, ◌∙◌, subst, ⊎_elim, arith}
use Rattle.std.specs.Prelude.{◌==◌, nat_eq, nat_lt, fold}
use Rattle.std.specs.List.{range_with_len, IsDistinct}
use Rattle.std.proofs.lemmas.Bool.{cases_eq, cases_lt, ne_eqb, lt-ltb, le-ltb}
use Rattle.std.proofs.lemmas.List.{get_or-replicate}
use Rattle.std.proofs.lemmas.List.FromFn.{length-range_with_len, get_or-range_with_len}
use Rattle.std.proofs.lemmas.List.Elements.{All-nil}
use Rattle.std.proofs.lemmas.Map.Keys.{IsDistinct-from_apart}
use Rattle.tg_graph.specs.declared.worklists.Worklist.TheVariants.{Fixed}
use Rattle.tg_graph.specs.Interference.{Interference, colours, degree, interferes, is_among, is_register, neighbours}
use Rattle.tg_graph.specs.Lists as lists
use Rattle.tg_graph.specs.Lists.{Lists, nodes_in, number}
use Rattle.tg_graph.proofs.Joining.{few_neighbours, stays_below}
use Rattle.tg_graph.proofs.Members.{among_within}
use Rattle.tg_graph.proofs.Moves.{told_fixed, told_spill}
use Rattle.tg_graph.proofs.Partitions.{start_parts}
use Rattle.tg_irc_definition.specs.declared.candidates.NodeFacts.{NodeFacts}
use Rattle.tg_irc_definition.specs.declared.moves.Move.{Move}
use Rattle.tg_irc_definition.specs.declared.moves.MoveState.TheVariants.{Ready}
use Rattle.tg_irc_definition.specs.Graphs.{bit, count}
use Rattle.tg_irc_definition.specs.States.{is_ready_or_waiting}
use Rattle.tg_irc_definition.proofs.Counting.{count_le}
use Rattle.tg_irc_definition.proofs.Deciding.{and_true, both, clash, not_true}
use Rattle.tg_coalescing_round.specs.glue.Advancing.{IsGiven}
use Rattle.tg_coalescing_round.specs.glue.Lists.{list_at}
use Rattle.tg_coalescing_round.specs.glue.Tables.{move_at, state_at, is_waiting, is_unsettled}
use Rattle.tg_coalescing_round.specs.glue.Works.{Work, alias_of, is_left, relisted, started, to, unlisted}
use Rattle.tg_coalescing_round.specs.glue.Standing.{IsSized, HasDegrees, IsPlaced, HasMembers, HasEnds, HasReady, IsOrderly}
use Rattle.tg_coalescing_round.proofs.AdvancingListing.{IsShifted, IsListed, shifted_none, shifted_then, shifted_left, relisted_shifts, relisted_same}
use Rattle.tg_coalescing_round.proofs.AdvancingListing.{lists_it, lists_other}
use Rattle.tg_coalescing_round.proofs.AdvancingMembers.{count_of_list}
use Rattle.tg_coalescing_round.proofs.AdvancingOrder.{remains_open}
use Rattle.tg_coalescing_round.proofs.Classing.{apart_grouping, singleton_at, no_singleton}
use Rattle.tg_coalescing_round.proofs.FirstDegrees.{length_first, first_register, first_temporary}
use Rattle.tg_coalescing_round.proofs.StartingEnds.{count_all, counted_lengths, listed_ends_of}
use Rattle.tg_coalescing_round.proofs.Tabling.{end_of, length_listed, listed_below, started_table}

pub distinct_range : (a n : ℕ) → IsDistinct nat_eq (range_with_len a n)
distinct_range a n = IsDistinct-from_apart nat_eq (range_with_len a n) (λ i j d l m.
    let size = length-range_with_len a n in
    let first = get_or-range_with_len a n i d (omega (arith, l, m, size)) in
    let second = get_or-range_with_len a n j d (omega (arith, m, size)) in
    ne_eqb _ _ (λ e. omega (arith, e, first, second, l)))

-- the number at a place of a range from 0, whatever stands for a place past it
pub place_in : (n x d : ℕ) → x < n → get_or (range_with_len 0 n) x d ≡ x
place_in n x d l = get_or-range_with_len 0 n x d l ∙ omega arith

temporary_low : (x : ℕ) → not (is_register x) ≡ true → 25 ≤ x
temporary_low x e =
    ⊎_elim (λ (k : x < 25). absurd (clash (lt-ltb x 25 k) (not_true e))) (λ (k : 25 ≤ x). k) (cases_lt x 25)

module _ (g : Interference) (moves : List Move) (facts : List NodeFacts) (given : IsGiven g moves facts) where
  -- everything at the start, with other worklists
  abbrev pub with_lists : Lists → Work
  with_lists l = record (unlisted g moves facts) { lists = l }

  abbrev pub first_lists : Lists
  first_lists = lists.started g.nodes

  -- Each temporary below a number was put where it belongs.
  pub record IsBegun (w : Work) (a : ℕ) : Type 0 where
    pub same : w ≡ with_lists w.lists
    pub shifted : IsShifted first_lists w.lists
    pub listed : (x : ℕ) → colours ≤ x → x < a → IsListed w x

  begun_none : IsBegun (unlisted g moves facts) colours
  begun_none = record {
    same = refl;
    shifted = shifted_none first_lists;
    listed = λ x low l. absurd (omega (arith, low, l));
  }

  begun_more : (w : Work) (a : ℕ) → IsBegun w a → colours ≤ a → a < g.nodes → IsBegun (relisted a w) (a + 1)
  begun_more w a b low l =
      let not_fixed = b.shifted.fixed a ∙ (told_spill g.nodes Fixed a low l ∙ sym (le-ltb a 25 low)) in
      let shifts = relisted_shifts a w (omega (arith, b.shifted.nodes, l)) not_fixed in
      record {
        same = relisted_same a w ∙ ap (λ (v : Work). record v { lists = (relisted a w).lists }) b.same;
        shifted = shifted_then first_lists w.lists (relisted a w).lists b.shifted shifts;
        listed = λ x k m. ⊎_elim
            (λ (e : x ≡ a). subst (λ (y : ℕ). IsListed (relisted a w) y) (sym e) (lists_it a w shifts))
            (λ (d : x ≢ a). lists_other a w shifts x d (b.listed x k (omega (arith, m, d))))
            (cases_eq x a);
      }

  begun_all : (k a : ℕ) (w : Work) → IsBegun w a → colours ≤ a → a + k ≡ g.nodes →
      IsBegun (fold (λ v x. relisted x v) w (range_with_len a k)) g.nodes
  begun_all zero a w b low e = let here : a ≡ g.nodes = omega (arith, e) in subst (IsBegun w) here b
  begun_all (suc k) a w b low e =
      begun_all k (a + 1) (relisted a w) (begun_more w a b low (omega (arith, e))) (omega (arith, low))
      (omega (arith, e))

  pub begun : IsBegun (started g moves facts) g.nodes
  unfolding started
  begun = begun_all (g.nodes - colours) colours (unlisted g moves facts) begun_none (omega arith)
      (omega (arith, given.some))

  -- What holds of such work.
  module _ (l : Lists) (shifted : IsShifted first_lists l)
      (listed : (x : ℕ) → colours ≤ x → x < g.nodes → IsListed (with_lists l) x) where
    abbrev w : Work
    w = with_lists l

    all_left : (x : ℕ) → is_left l x ≡ true
    all_left x = shifted_left first_lists l shifted x

    sized : IsSized w
    sized = record {
      lists = shifted.nodes;
      degrees = length_first g given.some;
      classes = length-range_with_len 0 (length facts) ∙ given.sized;
      touching = length_listed moves g.nodes (length moves);
    }

    alias_is : (x d : ℕ) → x < g.nodes → get_or (range_with_len 0 (length facts)) x d ≡ x
    alias_is x d k = place_in (length facts) x d (omega (arith, k, given.sized))

    degrees_exact : (x : ℕ) → colours ≤ x → x < g.nodes →
        degree g x ≡ count (λ y. (nat_lt y g.nodes && is_left l y) && interferes g x y) g.nodes
    degrees_exact x low k =
        let among = λ (y : ℕ). given.graph.exact x y low in
        let listed = count_of_list (λ y. true) (neighbours g x) g.nodes (given.graph.distinct x)
        (λ y e. stays_below g x y given.graph low k (sym (among y) ∙ e)) in
        let all = count_all (λ y. true) (neighbours g x) (λ i d m. refl) in
        let there = count_le (λ y. is_among y (neighbours g x) && true)
        (λ y. (nat_lt y g.nodes && is_left l y) && interferes g x y) g.nodes
        (λ y m e. and_true (and_true (lt-ltb y g.nodes m) (all_left y)) (sym (among y) ∙ (both _ true e).0)) in
        let back = count_le (λ y. (nat_lt y g.nodes && is_left l y) && interferes g x y)
        (λ y. is_among y (neighbours g x) && true) g.nodes
        (λ y m e. and_true (among y ∙ (both (nat_lt y g.nodes && is_left l y) (interferes g x y) e).1) refl) in
        omega (arith, listed, all, there, back)

    degrees : HasDegrees w
    degrees = record {
      bound = λ x k. ⊎_elim
          (λ (r : x < 25). let none = first_register g given.some x r in omega (arith, none))
          (λ (low : 25 ≤ x).
          let one = first_temporary g given.some x low k in omega (arith, one, few_neighbours g x given.graph low k))
          (cases_lt x 25);
      exact = λ x r.
          let o = remains_open w x r in
          let low = temporary_low x (both (not (is_register x)) (is_left l x) o.1).0 in
          first_temporary g given.some x low o.0 ∙ degrees_exact x low o.0;
    }

    placed : IsPlaced w
    placed = record {
      partition = shifted.kept (start_parts g.nodes given.some);
      fixed = λ x k. shifted.fixed x ∙ ⊎_elim
          (λ (r : x < 25). told_fixed g.nodes Fixed x r ∙ sym (lt-ltb x 25 r))
          (λ (low : 25 ≤ x). told_spill g.nodes Fixed x low k ∙ sym (le-ltb x 25 low))
          (cases_lt x 25);
      stack_below = All-nil _;
      stacked = λ x k. shifted.stacked x;
      listed = λ x k o list. listed x (temporary_low x (both (not (is_register x)) (is_left l x) o).0) k o list;
    }

    members : HasMembers w
    members = record {
      exact = λ x y k. ap (is_among y) (singleton_at (length facts) x (omega (arith, k, given.sized)))
          ∙ (or_none (y == x) ∙ ⊎_elim
          (λ (m : y < g.nodes).
          sym (ap (λ b. b && (alias_of w y == x)) (lt-ltb y g.nodes m) ∙ ap (λ z. z == x) (alias_is y 0 m)))
          (λ (m : g.nodes ≤ y).
          ne_eqb y x (λ e. omega (arith, e, k, m))
          ∙ sym (ap (λ b. b && (alias_of w y == x)) (le-ltb y g.nodes m)))
          (cases_lt y g.nodes));
      distinct = λ x. ⊎_elim
          (λ (k : x < length facts). subst (IsDistinct nat_eq) (sym (singleton_at (length facts) x k)) (alone x))
          (λ (k : length facts ≤ x). subst (IsDistinct nat_eq) (sym (no_singleton (length facts) x k)) nothing)
          (cases_lt x (length facts));
    }
      where
        or_none : (b : Bool) → (b || false) ≡ b
        or_none true = refl
        or_none false = refl

        alone : (x : ℕ) → IsDistinct nat_eq (x ∷ [])
        alone x = IsDistinct-from_apart nat_eq (x ∷ []) (λ i j d p q. absurd (omega (arith, p, q)))

        nothing : IsDistinct nat_eq []
        nothing = IsDistinct-from_apart nat_eq [] (λ i j d p q. absurd (omega (arith, p, q)))

    ready_at : (i : ℕ) → i < length moves → state_at w.moves i ≡ Ready
    ready_at i k = get_or-replicate (length moves) i Ready Ready k

    open_at : (i : ℕ) → i < length moves → is_unsettled w.moves i ≡ true
    open_at i k = ap is_ready_or_waiting (ready_at i k)

    ends : HasEnds w
    ends = record {
      listed = λ x i k m.
          let e = end_of moves g.nodes i m given.ends in
          (listed_ends_of moves g.nodes given.ends x (length moves) i (omega arith)).0 m
          ∙ (ap (λ z. bit (z == x) + bit ((move_at moves i).from == x)) (sym (alias_is _ 0 e.0))
          ∙ ap (λ z. bit (to w i == x) + bit (z == x)) (sym (alias_is _ 0 e.1)));
      counted = λ x k.
          counted_lengths moves g.nodes given.ends x (length moves) (omega arith)
          ∙ sym (count_all (is_unsettled w.moves) (list_at w.moves.touching x)
          (λ j d m. open_at _ (listed_below moves g.nodes (length moves) (length moves) (omega arith) x j d m)));
      left = λ x k r. all_left x;
    }

    ready : HasReady w
    ready = record {
      exact = λ i k.
          among_within i 0 (length moves) (omega arith) (omega (arith, k))
          ∙ sym (and_true (open_at i k) (ap (λ s. not (is_waiting s)) (ready_at i k)));
      distinct = distinct_range 0 (length moves);
      waiting = λ i k e. absurd (clash e (ap is_waiting (ready_at i k)));
    }

    orderly : IsOrderly w
    orderly = record {
      some = given.some;
      few = given.few;
      sized = sized;
      grouping = apart_grouping facts given.few_uses;
      table = started_table moves g.nodes given.few_moves given.ends;
      graph = given.graph;
      degrees = degrees;
      placed = placed;
      members = members;
      ends = ends;
      ready = ready;
    }

  pub start_orderly : IsOrderly (started g moves facts)
  start_orderly =
      let b = begun in
      subst IsOrderly (sym b.same) (orderly (started g moves facts).lists b.shifted
      (λ x low k. subst (λ (v : Work). IsListed v x) b.same (b.listed x low k)))
