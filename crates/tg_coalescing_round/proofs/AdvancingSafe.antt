-- A move that is safe: its ends, and that the step Coalesce is possible.
use Rattle.std.proofs.Common.{◌≡◌, ◌≢◌, ℕ, ◌<◌, Bool, true, false, not, ◌&&◌, ◌||◌}
use Rattle.std.proofs.Common.{length, Some, refl, sym, subst, ◌∙◌, ⊎_elim}
use Rattle.std.specs.Prelude.{◌==◌, nat_lt, slice_get}
use Rattle.std.specs.Bool.{beq}
use Rattle.tg_irc_definition.specs.declared.steps.Step.{Step}
use Rattle.tg_irc_definition.specs.declared.steps.Step.TheVariants.{Coalesce}
use Rattle.tg_irc_definition.specs.States.{Problem, RoundState, problem, low}
use Rattle.tg_irc_definition.specs.States as states
use Rattle.tg_irc_definition.specs.Steps.{can, can_move, after, settle, merge, is_safe, stands_under}
use Rattle.tg_irc_definition.specs.Steps as steps
use Rattle.tg_irc_definition.proofs.Deciding.{clash, both, and_true, either, never}
use Rattle.tg_irc_definition.proofs.Deciding.{same_node, same_test}
use Rattle.tg_graph.specs.Interference.{is_register, interferes}
use Rattle.tg_graph.proofs.Joining.{either_way}
use Rattle.tg_coalescing_round.specs.glue.Works.{Work, is_left, to, from}
use Rattle.tg_coalescing_round.specs.mirror.Passing.{passes}
use Rattle.tg_coalescing_round.specs.glue.Standing.{shown, state_of, IsOrderly}
use Rattle.tg_coalescing_round.proofs.AdvancingOrder.{sound, to_below, from_below, to_same, from_same}
use Rattle.tg_coalescing_round.proofs.AdvancingPossible.{moves_of}
use Rattle.tg_coalescing_round.proofs.AdvancingPassing.{passes_told}
use Rattle.tg_coalescing_round.proofs.AdvancingTrying.{index, told_unsettled, at_ends}

-- what is known of the ends of a move that is coalesced
pub record Coalesces (w : Work) (i kept gone : ℕ) : Type 0 where
  pub ends : (((to w i == kept) && (from w i == gone)) || ((to w i == gone) && (from w i == kept))) ≡ true
  pub apart : (to w i == from w i) ≡ false
  pub no_pair : interferes w.graph (to w i) (from w i) ≡ false
  pub temporary : is_register gone ≡ false
  pub test : passes w (to w i) (from w i) ≡ true

module _ (i : ℕ) (w : Work) (h : IsOrderly w) (first : slice_get w.moves.ready 0 ≡ Some i) (kept gone : ℕ)
    (c : Coalesces w i kept gone) where
  abbrev pub step : Step
  step = Coalesce i kept gone (not (is_register kept))

  abbrev s : RoundState
  s = state_of w

  abbrev l : i < length w.moves.moves
  l = index i w h first

  -- the ends are the two classes, in one order or the other
  ends_are : (P : ℕ → ℕ → Type 0) → P (to w i) (from w i) → ((a b : ℕ) → P a b → P b a) → P kept gone
  ends_are P p turn =
      ⊎_elim
      (λ (e : ((to w i == kept) && (from w i == gone)) ≡ true).
      let q = both (to w i == kept) (from w i == gone) e in
      subst (λ a. P a gone) (same_node (to w i) kept q.0)
      (subst (λ b. P (to w i) b) (same_node (from w i) gone q.1) p))
      (λ (e : ((to w i == gone) && (from w i == kept)) ≡ true).
      let q = both (to w i == gone) (from w i == kept) e in
      turn gone kept (subst (λ a. P a kept) (same_node (to w i) gone q.0)
      (subst (λ b. P (to w i) b) (same_node (from w i) kept q.1) p)))
      (either ((to w i == kept) && (from w i == gone)) ((to w i == gone) && (from w i == kept)) c.ends)

  to_node : to w i < w.graph.nodes
  to_node = to_below w (moves_of w h) i (index i w h first)

  from_node : from w i < w.graph.nodes
  from_node = from_below w (moves_of w h) i (index i w h first)

  to_left : is_left w.lists (to w i) ≡ true
  to_left =
      let r = (sound w (moves_of w h)).to_remains i (told_unsettled i w h first) in
      subst (λ x. is_left w.lists x ≡ true) (to_same w (moves_of w h) i (index i w h first))
      (both (nat_lt (states.to (shown w) s i) w.graph.nodes) (is_left w.lists (states.to (shown w) s i)) r.1).1

  from_left : is_left w.lists (from w i) ≡ true
  from_left =
      let r = (sound w (moves_of w h)).from_remains i (told_unsettled i w h first) in
      subst (λ x. is_left w.lists x ≡ true) (from_same w (moves_of w h) i (index i w h first))
      (both (nat_lt (states.from (shown w) s i) w.graph.nodes) (is_left w.lists (states.from (shown w) s i)) r.1).1

  pub record AreEnds (a b : ℕ) : Type 0 where
    pub a_node : a < w.graph.nodes
    pub b_node : b < w.graph.nodes
    pub a_left : is_left w.lists a ≡ true
    pub b_left : is_left w.lists b ≡ true
    pub differ : a ≢ b
    pub no_pair : interferes w.graph a b ≡ false

  pub are_ends : AreEnds kept gone
  are_ends =
      ends_are AreEnds
      (record {
        a_node = to_node;
        b_node = from_node;
        a_left = to_left;
        b_left = from_left;
        differ = λ e. clash (same_test (to w i) (from w i) e) c.apart;
        no_pair = c.no_pair;
      })
      (λ a b e. record {
        a_node = e.b_node;
        b_node = e.a_node;
        a_left = e.b_left;
        b_left = e.a_left;
        differ = λ q. e.differ (sym q);
        no_pair = either_way w.graph b a ∙ e.no_pair;
      })

  pub kept_below : kept < w.graph.nodes
  kept_below = are_ends.a_node

  pub gone_below : gone < w.graph.nodes
  gone_below = are_ends.b_node

  pub kept_remains : is_left w.lists kept ≡ true
  kept_remains = are_ends.a_left

  pub gone_remains : is_left w.lists gone ≡ true
  gone_remains = are_ends.b_left

  pub kept_gone : kept ≢ gone
  kept_gone = are_ends.differ

  -- not both are registers
  not_both : (is_register (to w i) && is_register (from w i)) ≡ false
  not_both =
      never (λ r.
      let rs = both (is_register (to w i)) (is_register (from w i)) r in
      ⊎_elim
      (λ (e : ((to w i == kept) && (from w i == gone)) ≡ true).
      clash (subst (λ x. is_register x ≡ true) (same_node (from w i) gone (both (to w i == kept) (from w i == gone) e).1)
      rs.1) c.temporary)
      (λ (e : ((to w i == gone) && (from w i == kept)) ≡ true).
      clash (subst (λ x. is_register x ≡ true) (same_node (to w i) gone (both (to w i == gone) (from w i == kept) e).0)
      rs.0) c.temporary)
      (either ((to w i == kept) && (from w i == gone)) ((to w i == gone) && (from w i == kept)) c.ends))

  -- the move is safe, and these are its ends
  pub safe : (states.is_unsettled (shown w) s i && is_safe (shown w) s i &&
      ((states.to (shown w) s i == kept && states.from (shown w) s i == gone) ||
      (states.to (shown w) s i == gone && states.from (shown w) s i == kept))) ≡ true
  safe =
      and_true
      (and_true (told_unsettled i w h first)
      (at_ends i w h first
      (λ a b. (not (a == b) && not (not (a == b) && (interferes w.graph a b || (is_register a && is_register b))) &&
      steps.passes (shown w) s a b) ≡ true)
      (by c.apart c.no_pair not_both
      (sym (passes_told w h (to w i) (from w i) to_node from_node not_both) ∙ c.test))))
      (at_ends i w h first (λ a b. (((a == kept) && (b == gone)) || ((a == gone) && (b == kept))) ≡ true) c.ends)
    where
      by : {e p r q : Bool} → e ≡ false → p ≡ false → r ≡ false → q ≡ true →
          (not e && not (not e && (p || r)) && q) ≡ true
      by {e = true} a b f g = cc
      by {e = false} {p = true} a b f g = cc
      by {e = false} {p = false} {r = true} a b f g = cc
      by {e = false} {p = false} {r = false} a b f g = g

  -- the test was that of Briggs where neither is a register
  pub by_briggs : beq (not (is_register kept)) (not (is_register kept || is_register gone)) ≡ true
  by_briggs = by (is_register kept) c.temporary
    where
      by : (a : Bool) {b : Bool} → b ≡ false → beq (not a) (not (a || b)) ≡ true
      by a {b = true} e = cc
      by true {b = false} e = refl
      by false {b = false} e = refl

  pub possible : can (shown w) s step ≡ true
  possible = and_true (and_true safe (stands (is_register kept) c.temporary)) by_briggs
    where
      stands : (a : Bool) {b : Bool} → b ≡ false → (a || (not b && true)) ≡ true
      stands a {b = true} e = cc
      stands true {b = false} e = refl
      stands false {b = false} e = refl
