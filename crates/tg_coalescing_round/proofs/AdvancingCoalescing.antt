-- The step Coalesce keeps the work in order.
use Rattle.std.proofs.Common.{◌≡◌, ◌≢◌, ℕ, ◌+◌, ◌<◌, ◌≤◌, Bool, true, false, not, ◌&&◌, ◌⊎◌, inl, inr, List, []}
use Rattle.std.proofs.Common.{length, Some, refl, sym, ap, subst, ◌∙◌, arith, ⊎_elim}
use Rattle.std.specs.Prelude.{◌==◌, nat_lt, nat_eq, slice_get, if◌then◌else◌, IsFalse}
use Rattle.std.proofs.lemmas.Bool.{cases_eq, ltb-true, ltb-false}
use Rattle.tg_irc_definition.specs.declared.moves.MoveState.{MoveState}
use Rattle.tg_irc_definition.specs.declared.moves.MoveState.TheVariants.{Coalesced}
use Rattle.tg_irc_definition.specs.Graphs.{bit, count, without}
use Rattle.tg_irc_definition.specs.States.{Problem, RoundState, problem, low}
use Rattle.tg_irc_definition.specs.States as states
use Rattle.tg_irc_definition.specs.Steps.{can_move, after, settle, merge}
use Rattle.tg_irc_definition.specs.laws.Degrees.{degree_of}
use Rattle.tg_irc_definition.specs.laws.Waiting.{is_woken}
use Rattle.tg_irc_definition.proofs.Deciding.{clash, both, and_true, or_false, never}
use Rattle.tg_irc_definition.proofs.Deciding.{not_true, from_false, same_node, same_test, some_is}
use Rattle.tg_irc_definition.proofs.Degrees.{merged_is_less, merged_is_more}
use Rattle.tg_irc_definition.proofs.Waiting.{waiting_fails}
use Rattle.tg_graph.specs.Interference.{Interference, is_among, is_register, interferes}
use Rattle.tg_graph.specs.Lists.{Lists}
use Rattle.tg_graph.proofs.Joining.{either_way}
use Rattle.tg_coalescing_round.specs.glue.Lists.{list_at}
use Rattle.tg_coalescing_round.specs.glue.Tables.{state_at, is_waiting}
use Rattle.tg_coalescing_round.specs.glue.Works.{Work, is_left, is_open, to, from}
use Rattle.tg_coalescing_round.specs.glue.Standing.{shown, state_of, IsOrderly}
use Rattle.tg_coalescing_round.proofs.AdvancingMembers.{count_found, one_bit, is_bit}
use Rattle.tg_coalescing_round.proofs.AdvancingWaking.{requeued}
use Rattle.tg_coalescing_round.proofs.AdvancingListing.{IsShifted, shifted_left, IsListed}
use Rattle.tg_coalescing_round.proofs.AdvancingOrder.{sound, to_below, from_below, to_same, from_same}
use Rattle.tg_coalescing_round.proofs.AdvancingPossible.{moves_of}
use Rattle.tg_coalescing_round.proofs.AdvancingPassingOn.{remade}
use Rattle.tg_coalescing_round.proofs.AdvancingSettling.{built, here, there, state_settled, orderly_settled}
use Rattle.tg_coalescing_round.proofs.AdvancingTrying.{index, unsettled, begun, begun_kept, begun_ready}
use Rattle.tg_coalescing_round.proofs.AdvancingClasses.{renamed}
use Rattle.tg_coalescing_round.proofs.AdvancingEnds.{listed_after}
use Rattle.tg_coalescing_round.proofs.AdvancingMerging.{MayMerge, IsMerged, one, one_there, temporary}
use Rattle.tg_coalescing_round.proofs.AdvancingMerged.{ChangesDegrees, state_merged, degree_other, orderly_merged}
use Rattle.tg_coalescing_round.proofs.AdvancingSafe.{Coalesces, step, are_ends, kept_below, gone_below, kept_remains, gone_remains, kept_gone}
use Rattle.tg_coalescing_round.proofs.AdvancingSafe.{possible}

module _ (i : ℕ) (w : Work) (h : IsOrderly w) (first : slice_get w.moves.ready 0 ≡ Some i) (kept gone : ℕ)
    (c : Coalesces w i kept gone) where
  abbrev s : RoundState
  s = state_of w

  module _ (lists : Lists) (shifts : IsShifted w.lists lists)
      (listed : (z : ℕ) → z < w.graph.nodes →
      IsListed (built (begun i w h first) (begun_kept i w h first) i (index i w h first) (unsettled i w h first) Coalesced refl lists) z)
    where
      abbrev pub once : Work
      once = built (begun i w h first) (begun_kept i w h first) i (index i w h first) (unsettled i w h first) Coalesced refl lists

      pub orderly_once : IsOrderly once
      orderly_once =
          orderly_settled (begun i w h first) (begun_kept i w h first) i (index i w h first) (unsettled i w h first) Coalesced refl lists
          shifts listed (begun_ready i w h first)

      state_once : state_of once ≡ settle (shown w) s i Coalesced
      state_once =
          state_settled (begun i w h first) (begun_kept i w h first) i (index i w h first) (unsettled i w h first) Coalesced refl lists
          shifts listed

      pub may : MayMerge once kept gone
      may = record {
        kept_node = (kept_below i w h first kept gone c);
        kept_left = shifted_left w.lists lists shifts kept ∙ (kept_remains i w h first kept gone c);
        gone_node = (gone_below i w h first kept gone c);
        gone_open = and_true (from_false c.temporary) (shifted_left w.lists lists shifts gone ∙ (gone_remains i w h first kept gone c));
        differ = (kept_gone i w h first kept gone c);
        no_pair = (are_ends i w h first kept gone c).no_pair;
      }

      pub changes : ChangesDegrees once orderly_once kept gone may
      changes = record {
        less = λ y d.
            ap (λ t. degree_of (shown w) t y) state_once
            ∙ (merged_is_less (shown w) s i kept gone (not (is_register kept)) y (sound w (moves_of w h)) (possible i w h first kept gone c) d
            ∙ sym (ap (λ t. degree_of (shown w) (merge (shown w) t kept gone) y +
            bit (interferes w.graph y kept && interferes w.graph y gone)) state_once));
        more =
            ap (λ t. degree_of (shown w) (merge (shown w) t kept gone) kept) state_once
            ∙ (merged_is_more (shown w) s i kept gone (not (is_register kept)) (sound w (moves_of w h)) (possible i w h first kept gone c)
            ∙ sym (ap (λ (t : RoundState). degree_of (shown w) t kept +
            count (λ z. t.remaining z && interferes w.graph gone z && not (interferes w.graph kept z)) w.graph.nodes)
            state_once));
      }

      abbrev pub whole : Work
      whole = one once orderly_once kept gone may

      module _ (g : Interference) (left : Lists) (degrees : List ℕ) (all_states : List MoveState) (ready : List ℕ)
          (b : IsMerged once orderly_once kept gone may
          (remade whole g left degrees (requeued all_states ready whole.moves))) where
        abbrev pub last : Work
        last = remade whole g left degrees (requeued all_states ready whole.moves)

        pub state_last : state_of last ≡ after (shown w) s (step i w h first kept gone c)
        state_last =
            state_merged once orderly_once kept gone may g left degrees all_states ready b changes
            ∙ ap (λ t. merge (shown w) t kept gone) state_once

        -- a move that waits now did before
        waited : (j : ℕ) → is_waiting (state_at last.moves j) ≡ true → is_waiting (state_at w.moves j) ≡ true
        waited j waits =
            let e = b.moves.waiting j waits in
            ⊎_elim
            (λ (p : j ≡ i).
            absurd (clash (subst (λ k. is_waiting (state_at once.moves k) ≡ true) p e)
            (ap is_waiting (here (begun i w h first) (begun_kept i w h first) i (index i w h first) (unsettled i w h first) Coalesced refl))))
            (λ (d : j ≢ i).
            sym (ap is_waiting
            (there (begun i w h first) (begun_kept i w h first) i (index i w h first) (unsettled i w h first) Coalesced refl j d)) ∙ e)
            (cases_eq j i)

        -- it is listed at its ends
        listed_end : (j y : ℕ) → y < w.graph.nodes → j < length w.moves.moves →
            ((renamed kept gone (to w j) ≡ y) ⊎ (renamed kept gone (from w j) ≡ y)) →
            is_among j (list_at whole.moves.touching y) ≡ true
        listed_end j y o k e =
            let counted = listed_after once orderly_once kept gone (kept_below i w h first kept gone c) (gone_below i w h first kept gone c) (kept_gone i w h first kept gone c) y j o k in
            let found = count_found (nat_eq j) (list_at whole.moves.touching y) (more e counted) in
            subst (λ x. is_among x (list_at whole.moves.touching y) ≡ true) (sym (same_node j found.0 found.2)) found.1
          where
            more : {n : ℕ} → ((renamed kept gone (to w j) ≡ y) ⊎ (renamed kept gone (from w j) ≡ y)) →
                n ≡ bit (renamed kept gone (to w j) == y) + bit (renamed kept gone (from w j) == y) → 0 < n
            more e q =
                ⊎_elim (λ (p : renamed kept gone (to w j) ≡ y). let o = one_bit (same_test _ y p) in omega (arith, q, o))
                (λ (p : renamed kept gone (from w j) ≡ y). let o = one_bit (same_test _ y p) in omega (arith, q, o)) e

        renamed_below : (x : ℕ) → x < w.graph.nodes → renamed kept gone x < w.graph.nodes
        renamed_below x k = by (x == gone)
          where
            by : (a : Bool) → (if a then kept else x) < w.graph.nodes
            by true = (kept_below i w h first kept gone c)
            by false = k

        -- a node that turns low has the moves of its neighbours tried again
        turned : (z y j : ℕ) → z ≢ gone → s.remaining z ≡ true → low (shown w) s z ≡ false →
            low (shown w) (after (shown w) s (step i w h first kept gone c)) z ≡ true → interferes w.graph z y ≡ true →
            is_among j (list_at whole.moves.touching y) ≡ true → is_waiting (state_at last.moves j) ≡ false
        turned z y j d r high now pair ends =
            ⊎_elim
            (λ (p : z ≡ kept). absurd (kept_grows p))
            (λ (e : z ≢ kept).
            let counts = gone_both e in
            b.roused z e opened
            (h.graph.exact gone z (temporary once orderly_once kept gone may)
            ∙ (either_way w.graph gone z ∙ counts.2))
            (either_way w.graph kept z ∙ counts.1)
            (degree_other once orderly_once kept gone may g left degrees all_states ready b changes z e inside opened_last
            ∙ (ap (λ t. degree_of (shown w) (merge (shown w) t kept gone) z) state_once ∙ counts.0))
            y j (h.graph.exact z y (ltb-false z 25 (not_true parts.0)) ∙ pair) ends)
            (cases_eq z kept)
          where
            parts : (not (is_register z) ≡ true) ×
                (nat_lt (degree_of (shown w) (after (shown w) s (step i w h first kept gone c)) z) 25 ≡ true)
            parts = both (not (is_register z)) _ now

            was : (nat_lt z w.graph.nodes ≡ true) × (is_left w.lists z ≡ true)
            was = both (nat_lt z w.graph.nodes) (is_left w.lists z) r

            inside : z < w.graph.nodes
            inside = ltb-true z w.graph.nodes was.0

            opened : is_open whole z ≡ true
            opened =
                and_true parts.0 (one_there once orderly_once kept gone may z d
                ∙ (shifted_left w.lists lists shifts z ∙ was.1))

            opened_last : is_open last z ≡ true
            opened_last = ap (λ a. not (is_register z) && a) (shifted_left whole.lists left b.lists z) ∙ opened

            was_high : nat_lt (degree_of (shown w) s z) 25 ≡ false
            was_high = by (is_register z) parts.0 high
              where
                by : (a : Bool) {e : Bool} → not a ≡ true → (not a && e) ≡ false → e ≡ false
                by true p q = cc
                by false p q = q

            kept_grows : z ≡ kept → ⊥
            kept_grows p =
                let more = merged_is_more (shown w) s i kept gone (not (is_register kept)) (sound w (moves_of w h))
                (possible i w h first kept gone c) in
                let a = ltb-false _ 25 (subst (λ x. nat_lt (degree_of (shown w) s x) 25 ≡ false) p was_high) in
                let e = ltb-true _ 25
                (subst (λ x. nat_lt (degree_of (shown w) (after (shown w) s (step i w h first kept gone c)) x) 25 ≡ true) p parts.1) in
                omega (arith, more, a, e)

            gone_both : z ≢ kept → (degree_of (shown w) (after (shown w) s (step i w h first kept gone c)) z ≡ 24) ×
                (interferes w.graph z kept ≡ true) × (interferes w.graph z gone ≡ true)
            gone_both e =
                let less = merged_is_less (shown w) s i kept gone (not (is_register kept)) z (sound w (moves_of w h))
                (possible i w h first kept gone c) e in
                let a = ltb-false _ 25 was_high in
                let f = ltb-true _ 25 parts.1 in
                let small = bit_le (interferes w.graph z kept && interferes w.graph z gone) in
                let pairs = both (interferes w.graph z kept) (interferes w.graph z gone)
                (is_bit (omega (arith, less, a, f, small))) in
                (omega (arith, less, a, f, small), pairs.0, pairs.1)
              where
                bit_le : (a : Bool) → bit a ≤ 1
                bit_le true = omega arith
                bit_le false = omega arith

        -- so no end of a waiting move is woken
        not_woken : (j y : ℕ) → is_among j (list_at whole.moves.touching y) ≡ true →
            is_waiting (state_at last.moves j) ≡ true → IsFalse (is_woken (shown w) s (step i w h first kept gone c) y)
        not_woken j y ends waits =
            or_false
            (or_false
            (never (λ e. clash waits
            (b.awake_kept j (subst (λ x. is_among j (list_at whole.moves.touching x) ≡ true) (same_node y kept e) ends))))
            (never (λ p. clash waits
            (b.awake_at y j (h.graph.exact gone y (temporary once orderly_once kept gone may) ∙ p) ends))))
            (never (λ t.
            let found = (some_is (λ z. (s.remaining z && (after (shown w) s (step i w h first kept gone c)).remaining z &&
            not (low (shown w) s z) && low (shown w) (after (shown w) s (step i w h first kept gone c)) z) && interferes w.graph z y)
            w.graph.nodes).0 t in
            let z = found.0 in
            let p = both _ (interferes w.graph z y) found.2 in
            let q = both _ (low (shown w) (after (shown w) s (step i w h first kept gone c)) z) p.0 in
            let r = both _ (not (low (shown w) s z)) q.0 in
            let k = both (s.remaining z) (without gone s.remaining z) r.0 in
            clash waits (turned z y j
            (λ e. clash (same_test z gone e) (not_true (both (not (z == gone)) _ k.1).0))
            k.0 (not_true r.1) q.1 p.1 ends)))

        still_waits : (j : ℕ) → j < length w.moves.moves → is_waiting (state_at last.moves j) ≡ true →
            can_move (shown last) (state_of last) j ≡ false
        still_waits j k waits =
            subst (λ n. can_move (problem (record { nodes = n; pairs = interferes g }) w.moves.moves [] (λ cs p. false))
            (state_of last) j ≡ false) (sym b.size)
            (subst (λ t. can_move (shown w) t j ≡ false) (sym state_last)
            (waiting_fails (shown w) s (step i w h first kept gone c) j (either_way w.graph) (possible i w h first kept gone c)
            (h.ready.waiting j k (waited j waits))
            (not_woken_at (states.to (shown w) s j) (to w j) (to_same w (moves_of w h) j k)
            (to_below w (moves_of w h) j k) (inl refl))
            (not_woken_at (states.from (shown w) s j) (from w j) (from_same w (moves_of w h) j k)
            (from_below w (moves_of w h) j k) (inr refl))))
          where
            not_woken_at : (e x : ℕ) → e ≡ x → x < w.graph.nodes →
                ((renamed kept gone (to w j) ≡ renamed kept gone x) ⊎ (renamed kept gone (from w j) ≡ renamed kept gone x)) →
                IsFalse (is_woken (shown w) s (step i w h first kept gone c) (if e == gone then kept else e))
            not_woken_at e x p o q =
                subst (λ a. IsFalse (is_woken (shown w) s (step i w h first kept gone c) (if a == gone then kept else a))) (sym p)
                (not_woken j (renamed kept gone x)
                (listed_end j (renamed kept gone x) (renamed_below x o) k q) waits)

        pub orderly_last : IsOrderly last
        orderly_last =
            orderly_merged once orderly_once kept gone may g left degrees all_states ready b changes still_waits
