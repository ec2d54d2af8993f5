-- A move of work in order has its last state.
use Rattle.std.proofs.Common.{◌≡◌, ◌≢◌, ℕ, ◌+◌, ◌-◌, ◌<◌, true, false, not, ◌&&◌}
use Rattle.std.proofs.Common.{length, get_or, refl, sym, ap, subst, ◌∙◌, arith, ⊎_elim}
use Rattle.std.specs.Prelude.{◌==◌, nat_eq, nat_lt, count_by, if◌then◌else◌}
use Rattle.std.proofs.lemmas.Bool.{cases_eq, ltb-true, lt-ltb, cond-true, cond-false}
use Rattle.std.proofs.lemmas.List.{get_or-set_same, get_or-set_other, length-set}
use Rattle.tg_irc_definition.specs.declared.moves.MoveState.{MoveState}
use Rattle.tg_irc_definition.specs.declared.moves.MoveState.TheVariants.{Ready}
use Rattle.tg_irc_definition.specs.Graphs.{bit}
use Rattle.tg_irc_definition.specs.States.{is_ready_or_waiting}
use Rattle.tg_irc_definition.specs.Steps.{can_move, settle}
use Rattle.tg_irc_definition.specs.laws.Degrees.{degree_of}
use Rattle.tg_irc_definition.proofs.Deciding.{clash, and_true, never, same_node, same_test}
use Rattle.tg_graph.specs.Interference.{is_among, is_register, interferes}
use Rattle.tg_graph.specs.Lists.{Lists, number}
use Rattle.tg_coalescing_round.specs.glue.Lists.{list_at, lowered}
use Rattle.tg_coalescing_round.specs.glue.Tables.{Table, IsTable, state_at, is_waiting, is_unsettled, is_related}
use Rattle.tg_coalescing_round.specs.glue.Tables as tables
use Rattle.tg_coalescing_round.specs.glue.Works.{Work, degree_at, relisted, settled, to, from}
use Rattle.tg_coalescing_round.specs.glue.Standing.{as_told, shown, state_of, IsOrderly, HasDegrees, IsPlaced, HasEnds}
use Rattle.tg_coalescing_round.proofs.AdvancingMembers.{one_bit, no_bit}
use Rattle.tg_coalescing_round.proofs.AdvancingWaking.{waiting_is}
use Rattle.tg_coalescing_round.proofs.AdvancingListing.{IsShifted, shifted_then, shifted_left, IsListed, by_tests}
use Rattle.tg_coalescing_round.proofs.AdvancingListing.{relisted_same, relisted_shifts, lists_it, lists_other}
use Rattle.tg_coalescing_round.proofs.AdvancingOrder.{to_below, from_below, open_remains, remains_open}
use Rattle.tg_coalescing_round.proofs.AdvancingKept.{IsKept, moves_kept, orderly_of, HasReadyBut}
use Rattle.tg_coalescing_round.proofs.AdvancingStates.{lowered_at, sum_lowered, count_split, told_last, last_rests, unmoved}

module _ (w : Work) (k : IsKept w) (i : ℕ) (l : i < length w.moves.moves) (u : is_unsettled w.moves i ≡ true)
    (state : MoveState) (last : is_ready_or_waiting state ≡ false) where
  abbrev pub table_after : Table
  table_after = tables.settled i state (to w i) (from w i) w.moves

  abbrev pub built : Lists → Work
  built lists = record w { lists = lists; moves = table_after }

  pub here : state_at table_after i ≡ state
  here = get_or-set_same w.moves.states i state Ready (subst (λ n. i < n) (sym k.table.states_sized) l)

  pub there : (j : ℕ) → j ≢ i → state_at table_after j ≡ state_at w.moves j
  there j d = get_or-set_other w.moves.states i j state Ready d

  pub told_after : (j : ℕ) → as_told (state_at table_after j) ≡ (if j == i then state else as_told (state_at w.moves j))
  told_after j =
      ⊎_elim
      (λ (p : j ≡ i).
      subst (λ z. as_told (state_at table_after z) ≡ (if z == i then state else as_told (state_at w.moves z))) (sym p)
      (ap as_told here ∙ (told_last state last ∙ sym (cond-true _ _ _ (same_test i i refl)))))
      (λ (d : j ≢ i). ap as_told (there j d) ∙ sym (cond-false _ _ _ (never (λ e. d (same_node j i e)))))
      (cases_eq j i)

  -- the counters
  unsettled_after : (z : ℕ) →
      get_or table_after.unsettled z 0 ≡ get_or w.moves.unsettled z 0 - bit (to w i == z) - bit (from w i == z)
  unsettled_after z =
      lowered_at (from w i) z (lowered (to w i) w.moves.unsettled)
      ∙ ap (λ n. n - bit (from w i == z)) (lowered_at (to w i) z w.moves.unsettled)

  one_less : (j : ℕ) → bit (is_unsettled w.moves j) ≡ bit (is_unsettled table_after j) + bit (i == j)
  one_less j =
      ⊎_elim
      (λ (p : j ≡ i).
      let a : bit (is_unsettled w.moves j) ≡ 1 = one_bit (ap (is_unsettled w.moves) p ∙ u) in
      let b : bit (is_unsettled table_after j) ≡ 0 =
      no_bit (ap (is_unsettled table_after) p ∙ (ap is_ready_or_waiting here ∙ last)) in
      let c : bit (i == j) ≡ 1 = one_bit (same_test i j (sym p)) in
      omega (arith, a, b, c))
      (λ (d : j ≢ i).
      let a : bit (is_unsettled table_after j) ≡ bit (is_unsettled w.moves j) =
      ap (λ s. bit (is_ready_or_waiting s)) (there j d) in
      let c : bit (i == j) ≡ 0 = no_bit (never (λ e. d (sym (same_node i j e)))) in
      omega (arith, a, c))
      (cases_eq j i)

  counted_after : (z : ℕ) → z < w.graph.nodes →
      get_or table_after.unsettled z 0 ≡ count_by (is_unsettled table_after) (list_at w.moves.touching z)
  counted_after z b =
      let split = count_split (is_unsettled w.moves) (is_unsettled table_after) (nat_eq i) one_less
      (list_at w.moves.touching z) in
      omega (arith, split, unsettled_after z, k.ends.counted z b, k.ends.listed z i b l)

  related_before : (z : ℕ) → is_related table_after z ≡ true → is_related w.moves z ≡ true
  related_before z r =
      let more = ltb-true 0 (get_or table_after.unsettled z 0) r in
      lt-ltb 0 (get_or w.moves.unsettled z 0) (omega (arith, more, unsettled_after z))

  table_kept : IsTable table_after
  table_kept = record {
    few = k.table.few;
    states_sized = length-set w.moves.states i state ∙ k.table.states_sized;
    unsettled_sized =
        length-set (lowered (to w i) w.moves.unsettled) (from w i) _
        ∙ (length-set w.moves.unsettled (to w i) _ ∙ k.table.unsettled_sized);
    ends_below = k.table.ends_below;
    ready_below = k.table.ready_below;
    touching_below = k.table.touching_below;
    few_unsettled =
        let a = sum_lowered (from w i) (lowered (to w i) w.moves.unsettled) in
        let b = sum_lowered (to w i) w.moves.unsettled in
        let c = k.table.few_unsettled in
        omega (arith, a, b, c);
  }

  -- The lists.

  abbrev unlisted : Work
  unlisted = record w { moves = table_after }

  abbrev first_listed : Work
  first_listed = relisted (to w i) unlisted

  abbrev both_listed : Work
  both_listed = relisted (from w i) first_listed

  to_node : to w i < w.graph.nodes
  to_node = to_below w (moves_kept w k) i l

  from_node : from w i < w.graph.nodes
  from_node = from_below w (moves_kept w k) i l

  first_shifts : IsShifted w.lists first_listed.lists
  first_shifts =
      relisted_shifts (to w i) unlisted (subst (λ n. to w i < n) (sym k.sized.lists) to_node)
      (k.placed.fixed (to w i) to_node)

  second_shifts : IsShifted first_listed.lists both_listed.lists
  second_shifts =
      relisted_shifts (from w i) first_listed
      (subst (λ n. from w i < n) (sym (first_shifts.nodes ∙ k.sized.lists)) from_node)
      (first_shifts.fixed (from w i) ∙ k.placed.fixed (from w i) from_node)

  pub settled_same : settled i state w ≡ built (settled i state w).lists
  unfolding settled
  settled_same =
      relisted_same (from w i) first_listed
      ∙ ap (λ (v : Work). record v { lists = both_listed.lists }) (relisted_same (to w i) unlisted)

  pub settled_shifts : IsShifted w.lists (settled i state w).lists
  unfolding settled
  settled_shifts = shifted_then w.lists first_listed.lists both_listed.lists first_shifts second_shifts

  -- a node at which the move doesn't end stays where it is
  listed_elsewhere : (z : ℕ) → z < w.graph.nodes → z ≢ to w i → z ≢ from w i → IsListed unlisted z
  listed_elsewhere z b d e o list =
      k.placed.listed z b o list
      ∙ sym (ap (λ n. number list == number (by_tests (nat_lt (degree_at w z) 25) (nat_lt 0 n)))
      (unsettled_after z ∙ same))
    where
      same : get_or w.moves.unsettled z 0 - bit (to w i == z) - bit (from w i == z) ≡ get_or w.moves.unsettled z 0
      same =
          let p : bit (to w i == z) ≡ 0 = no_bit (never (λ q. d (sym (same_node (to w i) z q)))) in
          let q : bit (from w i == z) ≡ 0 = no_bit (never (λ q. e (sym (same_node (from w i) z q)))) in
          omega (arith, p, q)

  listed_both : (z : ℕ) → z < w.graph.nodes → IsListed both_listed z
  listed_both z b =
      ⊎_elim
      (λ (p : z ≡ from w i). subst (λ y. IsListed both_listed y) (sym p) (lists_it (from w i) first_listed second_shifts))
      (λ (d : z ≢ from w i). lists_other (from w i) first_listed second_shifts z d
      (⊎_elim
      (λ (p : z ≡ to w i). subst (λ y. IsListed first_listed y) (sym p) (lists_it (to w i) unlisted first_shifts))
      (λ (e : z ≢ to w i). lists_other (to w i) unlisted first_shifts z e (listed_elsewhere z b e d))
      (cases_eq z (to w i))))
      (cases_eq z (from w i))

  pub settled_listed : (z : ℕ) → z < w.graph.nodes → IsListed (built (settled i state w).lists) z
  unfolding settled
  settled_listed z b =
      subst (λ v. IsListed v z)
      (relisted_same (from w i) first_listed
      ∙ ap (λ (v : Work). record v { lists = both_listed.lists }) (relisted_same (to w i) unlisted))
      (listed_both z b)

  module _ (lists : Lists) (shifts : IsShifted w.lists lists) (listed : (z : ℕ) → z < w.graph.nodes →
      IsListed (built lists) z) where
    pub state_settled : state_of (built lists) ≡ settle (shown w) (state_of w) i state
    state_settled = λ d. record {
      remaining = λ z. ap (λ c. nat_lt z w.graph.nodes && c) (shifted_left w.lists lists shifts z) d;
      pairs = interferes w.graph;
      alias = (state_of w).alias;
      states = λ j. told_after j d;
      stack = (state_of w).stack;
    }

    degrees_kept : HasDegrees (built lists)
    degrees_kept = record {
      bound = k.degrees.bound;
      exact = λ z r.
          let p = remains_open (built lists) z r in
          let o = sym (ap (λ c. not (is_register z) && c) (shifted_left w.lists lists shifts z)) ∙ p.1 in
          k.degrees.exact z (open_remains w z p.0 o) ∙ sym (ap (λ s. degree_of (shown w) s z) state_settled);
    }

    placed_kept : IsPlaced (built lists)
    placed_kept = record {
      partition = shifts.kept k.placed.partition;
      fixed = λ z b. shifts.fixed z ∙ k.placed.fixed z b;
      stack_below = k.placed.stack_below;
      stacked = λ z b. shifts.stacked z ∙ k.placed.stacked z b;
      listed = listed;
    }

    ends_kept : HasEnds (built lists)
    ends_kept = record {
      listed = k.ends.listed;
      counted = counted_after;
      left = λ z b r. shifted_left w.lists lists shifts z ∙ k.ends.left z b (related_before z r);
    }

    pub kept_settled : IsKept (built lists)
    kept_settled = record {
      some = k.some;
      few = k.few;
      sized = record {
        lists = shifts.nodes ∙ k.sized.lists;
        degrees = k.sized.degrees;
        classes = k.sized.classes;
        touching = k.sized.touching;
      };
      grouping = k.grouping;
      table = table_kept;
      graph = k.graph;
      degrees = degrees_kept;
      placed = placed_kept;
      members = record { exact = k.members.exact; distinct = k.members.distinct };
      ends = ends_kept;
    }

    module _ (ready : HasReadyBut w i) where
      exact_kept : (j : ℕ) → j < length w.moves.moves →
          is_among j w.moves.ready ≡ (is_unsettled table_after j && not (is_waiting (state_at table_after j)))
      exact_kept j b =
          ⊎_elim
          (λ (p : j ≡ i). ap (λ z. is_among z w.moves.ready) p
          ∙ (ready.without ∙ sym (ap (λ s. is_ready_or_waiting s && not (is_waiting s)) (ap (state_at table_after) p ∙ here)
          ∙ ap (λ c. c && not (is_waiting state)) last)))
          (λ (d : j ≢ i). ready.exact j b d
          ∙ sym (ap (λ s. is_ready_or_waiting s && not (is_waiting s)) (there j d)))
          (cases_eq j i)

      waiting_kept : (j : ℕ) → j < length w.moves.moves → is_waiting (state_at table_after j) ≡ true →
          can_move (shown w) (state_of (built lists)) j ≡ false
      waiting_kept j b waits =
          let d : j ≢ i = λ p. clash (subst (λ z. is_waiting (state_at table_after z) ≡ true) p waits)
          (ap is_waiting here ∙ last_rests state last) in
          let was : is_waiting (state_at w.moves j) ≡ true = sym (ap is_waiting (there j d)) ∙ waits in
          subst (λ s. can_move (shown w) s j ≡ false) (sym state_settled)
          (unmoved (shown w) (state_of w) (settle (shown w) (state_of w) i state).states j
          (and_true (lt-ltb j _ b) (ap (λ s. is_ready_or_waiting (as_told s)) (waiting_is _ was)))
          (ready.waiting j b was))

      pub orderly_settled : IsOrderly (built lists)
      orderly_settled = orderly_of (built lists) kept_settled
          (record { exact = exact_kept; distinct = ready.distinct; waiting = waiting_kept })
