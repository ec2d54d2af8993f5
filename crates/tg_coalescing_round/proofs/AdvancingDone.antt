-- What is left in order at the end is a round.
use Rattle.std.proofs.Common.{◌≡◌, ℕ, ◌+◌, ◌<◌, Bool, true, false, ◌&&◌, List, [], length, map}
use Rattle.std.proofs.Common.{get_or, refl, sym, ap, subst, ◌∙◌, arith}
use Rattle.std.specs.Prelude.{nat_lt, IsFalse}
use Rattle.std.specs.List.{range_with_len}
use Rattle.std.proofs.lemmas.Bool.{lt-ltb}
use Rattle.std.proofs.lemmas.List.{get_or-map, get_or_default, same_lists, length-map, nil_from_length}
use Rattle.std.proofs.lemmas.List.FromFn.{length-range_with_len, get_or-range_with_len}
use Rattle.tg_irc_definition.specs.declared.moves.MoveState.{MoveState}
use Rattle.tg_irc_definition.specs.declared.moves.MoveState.TheVariants.{Ready}
use Rattle.tg_irc_definition.specs.Graphs.{some}
use Rattle.tg_irc_definition.specs.States.{Problem, RoundState, start, remains, is_ready_or_waiting}
use Rattle.tg_irc_definition.specs.States as states
use Rattle.tg_irc_definition.specs.Steps.{can_move, is_over}
use Rattle.tg_irc_definition.specs.Selection.{select}
use Rattle.tg_irc_definition.specs.Rounds.{listed, IsRound}
use Rattle.tg_irc_definition.proofs.Deciding.{clash, both, and_true, never, neither, not_true, same_node, same_test, some_is}
use Rattle.tg_irc_definition.proofs.Running.{nothing_left_is_over}
use Rattle.tg_graph.specs.Interference.{is_among}
use Rattle.tg_graph.specs.Lists.{nodes_in, number}
use Rattle.tg_coalescing_round.specs.glue.Tables.{state_at, is_related}
use Rattle.tg_coalescing_round.specs.glue.Works.{Work, degree_at, list_of}
use Rattle.tg_coalescing_round.specs.mirror.Selecting.{colour_at, selected}
use Rattle.tg_coalescing_round.specs.glue.Standing.{as_told, shown, state_of, IsOrderly, IsRunOf, is_empty, is_done, answer_of}
use Rattle.tg_coalescing_round.specs.glue.Advancing.{DoneIsRound}
use Rattle.tg_coalescing_round.proofs.AdvancingWaking.{told_open}
use Rattle.tg_coalescing_round.proofs.AdvancingListing.{by_tests}
use Rattle.tg_coalescing_round.proofs.AdvancingOrder.{remains_open}
use Rattle.tg_coalescing_round.proofs.AdvancingPossible.{no_move, with_parts, at_problem}
use Rattle.tg_coalescing_round.proofs.AdvancingStates.{told_last}
use Rattle.tg_coalescing_round.proofs.AdvancingRuns.{holds}
use Rattle.tg_coalescing_round.proofs.AdvancingSelecting.{colours_same, spilled_same}

-- a list by its elements
listed_is : {A : Type 0} (n : ℕ) (xs : List A) (f : ℕ → A) → length xs ≡ n →
    ((i : ℕ) (d : A) → i < n → get_or xs i d ≡ f i) → xs ≡ listed n f
listed_is n xs f sized each =
    same_lists xs (map f (range_with_len 0 n))
    (sized ∙ sym (length-map (range_with_len 0 n) f ∙ length-range_with_len 0 n))
    (λ k d l. let b = subst (λ m. k < m) sized l in
    let from_zero : 0 + k ≡ k = omega arith in
    each k d b
    ∙ sym (get_or-map f (range_with_len 0 n) k 0 d (subst (λ m. k < m) (sym (length-range_with_len 0 n)) b)
    ∙ ap f (get_or-range_with_len 0 n k 0 b ∙ from_zero)))

is_nil : (xs : List ℕ) → is_empty xs ≡ true → xs ≡ []
is_nil xs e = nil_from_length xs (same_node (length xs) 0 e)

module _ (g : Problem) (w : Work) (h : IsOrderly w) (run : IsRunOf g w) (done : is_done w ≡ true) where
  abbrev s : RoundState
  s = state_of w

  empty : (w.lists.simplify ≡ []) × (w.moves.ready ≡ []) × (w.lists.freeze ≡ []) × (w.lists.spill ≡ [])
  empty =
      let a = both (is_empty w.lists.simplify && is_empty w.moves.ready && is_empty w.lists.freeze) _ done in
      let b = both (is_empty w.lists.simplify && is_empty w.moves.ready) _ a.0 in
      let c = both (is_empty w.lists.simplify) _ b.0 in
      (is_nil w.lists.simplify c.0, is_nil w.moves.ready c.1, is_nil w.lists.freeze b.1, is_nil w.lists.spill a.1)

  none_in : (b c : Bool) → nodes_in w.lists (by_tests b c) ≡ []
  none_in true true = empty.2
  none_in true false = empty.0
  none_in false c = empty.3

  none_remains : (x : ℕ) → IsFalse (remains (shown w) s x)
  none_remains x =
      never (λ r.
      let p = remains_open w x r in
      clash (h.placed.listed x p.0 p.1 (list_of w x) ∙ same_test (number (list_of w x)) (number (list_of w x)) refl)
      (ap (is_among x) (none_in (nat_lt (degree_at w x) 25) (is_related w.moves x))))

  over : is_over g s ≡ true
  over =
      nothing_left_is_over g s (holds g w run).sound
      (λ x. at_problem g w run.nodes run.moves
      (λ n ms. IsFalse (remains (with_parts g w run.nodes run.moves n ms) s x)) (none_remains x))
      (λ i. at_problem g w run.nodes run.moves
      (λ n ms. IsFalse (can_move (with_parts g w run.nodes run.moves n ms) s i)) (no_move w h empty.1 i))

  settled : (i : ℕ) → i < length g.moves → is_ready_or_waiting (s.states i) ≡ false
  settled i l =
      never (λ u. clash
      ((some_is (states.is_unsettled g s) (length g.moves)).1 (i, l, and_true (lt-ltb i (length g.moves) l) u))
      (neither (some (remains g s) g.graph.nodes) (some (states.is_unsettled g s) (length g.moves)) (not_true over)).1)

  told_once : (m : MoveState) → is_ready_or_waiting (as_told m) ≡ false → m ≡ as_told m
  told_once m e = sym (told_last m (sym (told_open m) ∙ e))

  states_told : w.moves.states ≡ listed (length g.moves) s.states
  states_told =
      listed_is (length g.moves) w.moves.states s.states (h.table.states_sized ∙ ap length run.moves)
      (λ i d l.
      get_or_default w.moves.states i d Ready
      (subst (λ n. i < n) (sym (h.table.states_sized ∙ ap length run.moves)) l)
      ∙ told_once (state_at w.moves i) (settled i l))

  aliases_sized : length w.classes.aliases ≡ g.graph.nodes
  aliases_sized = h.sized.classes ∙ run.nodes

  aliases_told : w.classes.aliases ≡ listed g.graph.nodes s.alias
  aliases_told =
      listed_is g.graph.nodes w.classes.aliases s.alias aliases_sized
      (λ i d l. get_or_default w.classes.aliases i d i (subst (λ n. i < n) (sym aliases_sized) l))

  colours_told : map (colour_at (selected w.graph w.stack).colours) w.classes.aliases ≡
      listed g.graph.nodes (λ x. (select g s).colour (s.alias x))
  colours_told =
      listed_is g.graph.nodes (map (colour_at (selected w.graph w.stack).colours) w.classes.aliases)
      (λ x. (select g s).colour (s.alias x))
      (length-map w.classes.aliases (colour_at (selected w.graph w.stack).colours) ∙ aliases_sized)
      (λ i d l.
      let k = subst (λ n. i < n) (sym aliases_sized) l in
      get_or-map (colour_at (selected w.graph w.stack).colours) w.classes.aliases i i d k
      ∙ colours_same g w h run (s.alias i)
      (subst (λ n. s.alias i < n) h.sized.classes (h.grouping.aliases_below i i k)))

  done_round : IsRound g (answer_of w)
  done_round = record {
    moves = run.moves;
    steps = run.steps;
    over = subst (λ t. is_over g t ≡ true) run.state over;
    states = states_told ∙ ap (λ (t : RoundState). listed (length g.moves) t.states) run.state;
    aliases = aliases_told ∙ ap (λ (t : RoundState). listed g.graph.nodes t.alias) run.state;
    colours = colours_told
        ∙ ap (λ (t : RoundState). listed g.graph.nodes (λ x. (select g t).colour (t.alias x))) run.state;
    spilled = spilled_same g w h run ∙ ap (λ (t : RoundState). (select g t).spilled) run.state;
  }

pub done_is_round : DoneIsRound
done_is_round g w h run done = done_round g w h run done
