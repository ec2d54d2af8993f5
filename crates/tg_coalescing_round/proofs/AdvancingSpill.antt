-- Spill.
use Rattle.std.proofs.Common.{◌≡◌, ℕ, ◌+◌, ◌<◌, ◌≤◌, Bool, true, false, not, ◌&&◌, List, [], length, get_or, refl, sym, ap, subst, ◌∙◌, arith}
use Rattle.std.specs.Prelude.{◌==◌, IsFalse, if◌then◌else◌}
use Rattle.std.proofs.lemmas.Bool.{ltb-true}
use Rattle.tg_irc_definition.specs.declared.moves.MoveState.{MoveState}
use Rattle.tg_irc_definition.specs.declared.moves.MoveState.TheVariants.{Frozen}
use Rattle.tg_irc_definition.specs.declared.steps.Step.TheVariants.{Spill}
use Rattle.tg_irc_definition.specs.Graphs.{some}
use Rattle.tg_irc_definition.specs.Policies.{candidate_at}
use Rattle.tg_irc_definition.specs.States.{RoundState, low, is_ready_or_waiting}
use Rattle.tg_irc_definition.specs.Steps.{can, can_move, freeze, take_out}
use Rattle.tg_irc_definition.specs.laws.Laws.{work_left}
use Rattle.tg_irc_definition.specs.laws.Waiting.{is_woken}
use Rattle.tg_irc_definition.proofs.Deciding.{clash, or_left, or_right, or_false, never, same_test}
use Rattle.tg_irc_definition.proofs.Shrinking.{steps_shrink}
use Rattle.tg_irc_definition.proofs.Waiting.{waiting_fails}
use Rattle.tg_graph.specs.Interference.{is_among, is_register, neighbours}
use Rattle.tg_graph.specs.Lists.{Lists}
use Rattle.tg_graph.proofs.Joining.{either_way}
use Rattle.tg_coalescing_round.specs.glue.Lists.{list_at}
use Rattle.tg_coalescing_round.specs.glue.Tables.{Table, state_at, is_waiting, is_unsettled, is_related}
use Rattle.tg_coalescing_round.specs.glue.Works.{Work, is_open, stepped, awake_around, to, from}
use Rattle.tg_coalescing_round.specs.mirror.Steps.{given_up, taken_out, spilled, candidate, candidates}
use Rattle.tg_coalescing_round.specs.glue.Standing.{shown, state_of, IsOrderly}
use Rattle.tg_coalescing_round.specs.glue.Advancing.{Spills, SpillAdvances}
use Rattle.tg_coalescing_round.proofs.AdvancingMembers.{count_found}
use Rattle.tg_coalescing_round.proofs.AdvancingWaking.{IsWoken, requeued, woken_each, woken_classes, wakes_classes}
use Rattle.tg_coalescing_round.proofs.AdvancingListing.{shifted_left}
use Rattle.tg_coalescing_round.proofs.AdvancingLosing.{IsBereft}
use Rattle.tg_coalescing_round.proofs.AdvancingOrder.{to_below, from_below, to_same, from_same, listed_ends}
use Rattle.tg_coalescing_round.proofs.AdvancingPossible.{moves_of, with_parts, at_problem}
use Rattle.tg_coalescing_round.proofs.AdvancingMeasure.{less_left}
use Rattle.tg_coalescing_round.proofs.AdvancingRuns.{goes_on}
use Rattle.tg_coalescing_round.proofs.AdvancingTaking.{out, temporary, state_taken, orderly_taken, none_turned}
use Rattle.tg_coalescing_round.proofs.AdvancingRemoving.{after_all, built_after, built_same, built_bereft}
use Rattle.tg_coalescing_round.proofs.AdvancingSteps.{orderly_stepped, taken}
use Rattle.tg_coalescing_round.proofs.AdvancingFreezing.{IsGivenUp, with_states, of_class, given_class, state_given}
use Rattle.tg_coalescing_round.proofs.AdvancingRousing.{roused, state_roused, orderly_roused}
use Rattle.tg_coalescing_round.proofs.AdvancingChoosing.{chosen, chosen_in, node_in, temp_at, permissive, can_permissive, can_spill}

waits_before : (c : Bool) (s : MoveState) → is_waiting (if c then Frozen else s) ≡ true → is_waiting s ≡ true
waits_before true s e = cc
waits_before false s e = e

-- what is frozen isn't unsettled, and what isn't unsettled stays so
none_open : (s : MoveState) (b : Bool) → b ≡ true →
    is_ready_or_waiting (if is_ready_or_waiting s && b then Frozen else s) ≡ true → ⊥
none_open s true e = by (is_ready_or_waiting s) refl
  where
    by : (c : Bool) → is_ready_or_waiting s ≡ c → is_ready_or_waiting (if c && true then Frozen else s) ≡ true → ⊥
    by true p q = cc
    by false p q = clash q p
none_open s false e = cc

module _ (place : ℕ) (w : Work) (h : IsOrderly w) (simplify : w.lists.simplify ≡ []) (ready : w.moves.ready ≡ [])
    (freezes : w.lists.freeze ≡ []) (l : place < length (candidates w)) where
  x : ℕ
  x = chosen w h place l

  node : x < w.graph.nodes
  unfolding x
  node = (node_in w h (chosen w h place l) (chosen_in w h place l)).0

  opened : is_open w x ≡ true
  unfolding x
  opened = (node_in w h (chosen w h place l) (chosen_in w h place l)).1

  module _ (lists : Lists) (states : List MoveState) (unsettled : List ℕ)
      (b : IsGivenUp w (with_states w lists states unsettled) (of_class w h ready x node)) where
    -- its moves given up, and its neighbours' to be tried again
    abbrev f : Work
    f = with_states w lists states unsettled

    abbrev woken : Table
    woken = woken_each f.moves (neighbours w.graph x)

    rouses : IsWoken f.moves (requeued woken.states woken.ready f.moves)
    rouses =
        subst (λ t. IsWoken f.moves t) (woken_classes f.moves (neighbours w.graph x)).same
        (woken_classes f.moves (neighbours w.graph x))

    abbrev e : Work
    e = roused f b.orderly woken.states woken.ready rouses

    e_same : awake_around x f ≡ e
    e_same = ap (λ (t : Table). record f { moves = t }) (woken_classes f.moves (neighbours w.graph x)).same

    e_orderly : IsOrderly e
    e_orderly = orderly_roused f b.orderly woken.states woken.ready rouses

    e_state : state_of e ≡ freeze (shown w) (state_of w) x
    e_state =
        state_roused f b.orderly woken.states woken.ready rouses
        ∙ state_given w h ready x node lists states unsettled b

    e_open : is_open e x ≡ true
    e_open = ap (λ c. not (is_register x) && c) (shifted_left w.lists lists b.lists x) ∙ opened

    alone : is_related e.moves x ≡ false
    alone =
        never (λ r.
        let more = ltb-true 0 (get_or unsettled x 0) r in
        let found = count_found (is_unsettled f.moves) (list_at w.moves.touching x)
        (omega (arith, more, b.orderly.ends.counted x node)) in
        none_open (state_at w.moves found.0) (is_among found.0 (list_at w.moves.touching x)) found.1
        (ap is_ready_or_waiting (sym (b.states found.0)) ∙ found.2))

    -- then it is taken out
    abbrev v : Work
    v = built_after e e_orderly x node e_open alone

    bereaves : IsBereft (out e e_orderly x node e_open alone) v (λ z. is_among z (neighbours w.graph x))
    bereaves = built_bereft e e_orderly x node e_open alone

    abbrev u : Work
    u = after_all e e_orderly x node e_open alone

    v_state : state_of v ≡ take_out (shown w) (freeze (shown w) (state_of w) x) x
    v_state =
        state_taken e e_orderly x node e_open alone u.lists u.degrees u.moves.states u.moves.ready bereaves
        ∙ ap (λ s. take_out (shown w) s x) e_state

    waited : (i : ℕ) → is_waiting (state_at e.moves i) ≡ true → is_waiting (state_at w.moves i) ≡ true
    waited i waits =
        waits_before (is_unsettled w.moves i && is_among i (list_at w.moves.touching x)) (state_at w.moves i)
        (ap is_waiting (sym (b.states i)) ∙ rouses.waiting i waits)

    abbrev turned : RoundState → ℕ → Bool
    turned s y =
        some (λ z. (s.remaining z && (take_out (shown w) s x).remaining z && not (low (shown w) s z) &&
        low (shown w) (take_out (shown w) s x) z) && s.pairs z y) w.graph.nodes

    not_woken : (i y : ℕ) → is_among i (list_at w.moves.touching y) ≡ true → is_waiting (state_at v.moves i) ≡ true →
        IsFalse (is_woken (permissive w h place l) (state_of w) (Spill x) y)
    not_woken i y ends waits =
        or_false
        (never (λ p. clash (bereaves.moves.waiting i waits)
        (wakes_classes f.moves (neighbours w.graph x) y i (h.graph.exact x y (temporary_x) ∙ p) ends)))
        (subst (λ s. turned s y ≡ false) e_state
        (none_turned e e_orderly x node e_open alone u.lists u.degrees u.moves.states u.moves.ready bereaves y i ends
        waits))
      where
        temporary_x : 25 ≤ x
        temporary_x = temporary e e_orderly x node e_open alone

    still_waits : (i : ℕ) → i < length w.moves.moves → is_waiting (state_at v.moves i) ≡ true →
        can_move (shown v) (state_of v) i ≡ false
    unfolding x
    still_waits i k waits =
        subst (λ s. can_move (shown w) s i ≡ false) (sym v_state)
        (waiting_fails (permissive w h place l) (state_of w) (Spill x) i (either_way w.graph) possible
        (h.ready.waiting i k (waited i (bereaves.moves.waiting i waits)))
        (subst (λ y. IsFalse (is_woken (permissive w h place l) (state_of w) (Spill x) y))
        (sym (to_same w (moves_of w h) i k))
        (not_woken i (to w i) (listed_ends w (moves_of w h) i k (to w i) (to_below w (moves_of w h) i k)
        (or_left _ _ (same_test (to w i) (to w i) refl))) waits))
        (subst (λ y. IsFalse (is_woken (permissive w h place l) (state_of w) (Spill x) y))
        (sym (from_same w (moves_of w h) i k))
        (not_woken i (from w i) (listed_ends w (moves_of w h) i k (from w i) (from_below w (moves_of w h) i k)
        (or_right (to w i == from w i) _ (same_test (from w i) (from w i) refl))) waits)))
      where
        possible : can (permissive w h place l) (state_of w) (Spill x) ≡ true
        possible = can_permissive w h place l

    orderly : IsOrderly (stepped (Spill x) v)
    orderly =
        orderly_stepped (Spill x) v
        (orderly_taken e e_orderly x node e_open alone u.lists u.degrees u.moves.states u.moves.ready bereaves
        still_waits)

    spills : Spills w (stepped (Spill x) v) place
    unfolding x
    spills = record {
      on = record {
        orderly = orderly;
        less = less_left w (stepped (Spill x) v) h orderly refl refl
            (subst (λ s. work_left (shown w) s < work_left (shown w) (state_of w)) (sym v_state)
            (steps_shrink (permissive w h place l) (state_of w) (Spill x) (can_permissive w h place l)));
      };
      run = λ g allowed run.
          goes_on g w run (stepped (Spill x) v) (Spill x)
          (taken g w h run (Spill x) (can_spill w h place l g run allowed) (λ k. simplify) (λ k. ready) (λ k. freezes))
          refl
          (at_problem g w run.nodes run.moves
          (λ n ms. state_of v ≡ take_out (with_parts g w run.nodes run.moves n ms)
          (freeze (with_parts g w run.nodes run.moves n ms) (state_of w) x) x) v_state)
          refl refl refl;
    }

    v_same : taken_out x (awake_around x f) ≡ v
    v_same = ap (taken_out x) e_same ∙ built_same e e_orderly x node e_open alone

  given : IsGivenUp w (given_up x w) (of_class w h ready x node)
  given = given_class w h ready x node

  given_same : IsGivenUp w
      (with_states w (given_up x w).lists (given_up x w).moves.states (given_up x w).moves.unsettled)
      (of_class w h ready x node)
  given_same = subst (λ v. IsGivenUp w v (of_class w h ready x node)) given.same given

  all_spills : Spills w (stepped (Spill x) (taken_out x (awake_around x (given_up x w)))) place
  all_spills =
      subst (λ v. Spills w (stepped (Spill x) v) place)
      (sym (ap (λ v. taken_out x (awake_around x v)) given.same ∙ v_same _ _ _ given_same))
      (spills _ _ _ given_same)

  all_spills_at : Spills w (spilled ((candidate_at (candidates w) place).temp + 25) w) place
  unfolding x
  all_spills_at =
      subst (λ y. Spills w (spilled y w) place) (sym (temp_at w h place l (candidate w) (λ z. refl))) all_spills

pub spill_advances : SpillAdvances
spill_advances place w h simplify ready freezes l = all_spills_at place w h simplify ready freezes l
