-- A temporary with no unsettled move is taken out of work in order.
use Rattle.std.proofs.Common.{◌≡◌, ◌≢◌, ℕ, ◌<◌, ◌≤◌, Bool, true, false, not, ◌&&◌, ◌||◌}
use Rattle.std.proofs.Common.{List, [], ◌∷◌, ◌++◌, length, refl, sym, ap, subst, ◌∙◌, arith, ⊎_elim}
use Rattle.std.specs.Prelude.{◌==◌, nat_lt, count_by}
use Rattle.std.proofs.lemmas.Bool.{cases_eq, ltb-true, ltb-false}
use Rattle.std.proofs.lemmas.List.{reverse-append}
use Rattle.std.proofs.lemmas.List.Elements.{All-push}
use Rattle.tg_irc_definition.specs.declared.moves.MoveState.{MoveState}
use Rattle.tg_irc_definition.specs.Graphs.{bit, some, without}
use Rattle.tg_irc_definition.specs.States.{low}
use Rattle.tg_irc_definition.specs.Steps.{take_out, can_move}
use Rattle.tg_irc_definition.specs.laws.Laws.{is_stacked}
use Rattle.tg_irc_definition.specs.laws.Degrees.{degree_of}
use Rattle.tg_irc_definition.proofs.Deciding.{clash, both, and_true, or_left, never, not_true, same_node, same_test, some_is}
use Rattle.tg_irc_definition.proofs.Degrees.{taken_out_is_less}
use Rattle.tg_graph.specs.declared.worklists.Worklist.TheVariants as worklists
use Rattle.tg_graph.specs.Interference.{is_among, is_register, interferes, neighbours}
use Rattle.tg_graph.specs.Lists.{Lists, moved}
use Rattle.tg_graph.proofs.Joining.{either_way}
use Rattle.tg_graph.proofs.Partitions.{moved_parts}
use Rattle.tg_coalescing_round.specs.glue.Lists.{list_at}
use Rattle.tg_coalescing_round.specs.glue.Tables.{Table, state_at, is_waiting, is_unsettled}
use Rattle.tg_coalescing_round.specs.glue.Works.{Work, degree_at, is_left, is_open}
use Rattle.tg_coalescing_round.specs.glue.Tables as tables
use Rattle.tg_coalescing_round.specs.glue.Standing.{shown, state_of, IsOrderly, HasDegrees, IsPlaced, HasEnds}
use Rattle.tg_coalescing_round.proofs.AdvancingMembers.{is_bit}
use Rattle.tg_coalescing_round.proofs.AdvancingWaking.{IsQueue, requeued, woken_unsettled}
use Rattle.tg_coalescing_round.proofs.AdvancingListing.{IsListed, moved_it, moved_other, shifted_left}
use Rattle.tg_coalescing_round.proofs.AdvancingLosing.{IsBereft, changed}
use Rattle.tg_coalescing_round.proofs.AdvancingOrder.{open_remains, remains_open, left_remains}

pub queue_of : (w : Work) → IsOrderly w → IsQueue w.moves
queue_of w h = record { table = h.table; exact = h.ready.exact; distinct = h.ready.distinct }

module _ (w : Work) (h : IsOrderly w) (x : ℕ) (l : x < w.graph.nodes) (o : is_open w x ≡ true)
    (alone : tables.is_related w.moves x ≡ false) where
  abbrev pub out : Work
  out = record w { lists = moved w.lists x worklists.Stacked; stack = w.stack ++ x ∷ [] }

  pub no_register : is_register x ≡ false
  no_register = not_true (both (not (is_register x)) (is_left w.lists x) o).0

  pub temporary : 25 ≤ x
  temporary = ltb-false x 25 no_register

  pub left : is_left w.lists x ≡ true
  left = (both (not (is_register x)) (is_left w.lists x) o).1

  out_here : is_left out.lists x ≡ false
  out_here = ap (λ b. not (b || is_among x out.lists.merged)) (moved_it w.lists x worklists.Stacked worklists.Stacked)

  out_there : (z : ℕ) → z ≢ x → is_left out.lists z ≡ is_left w.lists z
  out_there z d =
      ap (λ b. not (b || is_among z out.lists.merged)) (moved_other w.lists x z worklists.Stacked worklists.Stacked d)
      ∙ ap (λ b. not (is_among z w.lists.stacked || b)) (moved_other w.lists x z worklists.Stacked worklists.Merged d)

  -- what remains is another node, which remained
  pub still_left : (z : ℕ) → is_left out.lists z ≡ true → (z ≢ x) × (is_left w.lists z ≡ true)
  still_left z e =
      let d : z ≢ x = λ p. clash (subst (λ y. is_left out.lists y ≡ true) p e) out_here in (d, sym (out_there z d) ∙ e)

  pub still_open : (z : ℕ) → is_open out z ≡ true → (z ≢ x) × (is_open w z ≡ true)
  still_open z e =
      let p = both (not (is_register z)) (is_left out.lists z) e in
      let q = still_left z p.1 in
      (q.0, and_true p.0 q.1)

  pub out_fixed : (z : ℕ) → z < w.graph.nodes → is_among z out.lists.fixed ≡ is_register z
  out_fixed z k =
      ⊎_elim
      (λ (p : z ≡ x). subst (λ y. is_among y out.lists.fixed ≡ is_register y) (sym p)
      (moved_it w.lists x worklists.Stacked worklists.Fixed ∙ sym no_register))
      (λ (d : z ≢ x). moved_other w.lists x z worklists.Stacked worklists.Fixed d ∙ h.placed.fixed z k)
      (cases_eq z x)

  out_listed : (z : ℕ) → z < w.graph.nodes → IsListed out z
  out_listed z k e list =
      let q = still_open z e in
      moved_other w.lists x z worklists.Stacked list q.0 ∙ h.placed.listed z k q.1 list

  abbrev pub built : Lists → List ℕ → List MoveState → List ℕ → Work
  built lists degrees states ready = changed out lists degrees (requeued states ready w.moves)

  module _ (lists : Lists) (degrees : List ℕ) (states : List MoveState) (ready : List ℕ)
      (b : IsBereft out (built lists degrees states ready) (λ z. is_among z (neighbours w.graph x))) where
    abbrev v : Work
    v = built lists degrees states ready

    left_out : (z : ℕ) → is_left lists z ≡ is_left out.lists z
    left_out z = shifted_left out.lists lists b.lists z

    remaining_told : (z : ℕ) → (state_of v).remaining z ≡ without x (state_of w).remaining z
    remaining_told z =
        ap (λ c. nat_lt z w.graph.nodes && c) (left_out z)
        ∙ ⊎_elim
        (λ (p : z ≡ x). subst
        (λ y. (nat_lt y w.graph.nodes && is_left out.lists y) ≡ without x (state_of w).remaining y) (sym p)
        (ap (λ c. nat_lt x w.graph.nodes && c) out_here
        ∙ (none (nat_lt x w.graph.nodes) ∙ sym (ap (λ c. not c && (state_of w).remaining x) (same_test x x refl)))))
        (λ (d : z ≢ x).
        ap (λ c. nat_lt z w.graph.nodes && c) (out_there z d)
        ∙ sym (ap (λ c. not c && (state_of w).remaining z) (never (λ e. d (same_node z x e)))))
        (cases_eq z x)
      where
        none : (c : Bool) → (c && false) ≡ false
        none true = refl
        none false = refl

    stack_told : (state_of v).stack ≡ x ∷ (state_of w).stack
    stack_told = reverse-append w.stack (x ∷ [])

    -- the state is that after the node was taken out
    pub state_taken : state_of v ≡ take_out (shown w) (state_of w) x
    state_taken = λ i. record {
      remaining = λ z. remaining_told z i;
      pairs = interferes w.graph;
      alias = (state_of w).alias;
      states = λ j. b.moves.told j i;
      stack = stack_told i;
    }

    open_before : (z : ℕ) → is_open v z ≡ true → (z ≢ x) × (is_open w z ≡ true)
    open_before z e = still_open z (sym (ap (λ c. not (is_register z) && c) (left_out z)) ∙ e)

    -- each counter is the degree that is left
    degree_taken : (z : ℕ) → z < w.graph.nodes → is_open v z ≡ true →
        degree_at v z ≡ degree_of (shown w) (take_out (shown w) (state_of w) x) z
    degree_taken z k e =
        let before = open_before z e in
        let was = h.degrees.exact z (open_remains w z k before.1) in
        let less = taken_out_is_less (shown w) (state_of w) x z l (left_remains w x l left) in
        let opened : is_open out z ≡ true = sym (ap (λ c. not (is_register z) && c) (left_out z)) ∙ e in
        let pair : bit (is_open out z && is_among z (neighbours w.graph x)) ≡ bit (interferes w.graph z x) =
        ap (λ c. bit (c && is_among z (neighbours w.graph x))) opened
        ∙ ap bit (h.graph.exact x z temporary ∙ either_way w.graph x z) in
        let now = b.degrees z in
        omega (arith, was, less, pair, now)

    degrees_taken : HasDegrees v
    degrees_taken = record {
      bound = λ z k. let now = b.degrees z in let was = h.degrees.bound z k in omega (arith, now, was);
      exact = λ z r.
          let p = remains_open v z r in
          degree_taken z p.0 p.1 ∙ sym (ap (λ s. degree_of (shown w) s z) state_taken);
    }

    stacked_told : (z : ℕ) → z < w.graph.nodes → is_among z lists.stacked ≡ is_stacked (state_of v) z
    stacked_told z k =
        b.lists.stacked z
        ∙ (⊎_elim
        (λ (p : z ≡ x). subst
        (λ y. is_among y out.lists.stacked ≡ ((x == y) || is_stacked (state_of w) y)) (sym p)
        (moved_it w.lists x worklists.Stacked worklists.Stacked ∙ sym (or_left _ _ (same_test x x refl))))
        (λ (d : z ≢ x). moved_other w.lists x z worklists.Stacked worklists.Stacked d
        ∙ (h.placed.stacked z k
        ∙ sym (ap (λ c. c || is_stacked (state_of w) z) (never (λ e. d (sym (same_node x z e)))))))
        (cases_eq z x)
        ∙ sym (ap (λ s. is_stacked s z) state_taken))

    placed_taken : IsPlaced v
    placed_taken = record {
      partition = b.lists.kept (moved_parts w.lists x worklists.Stacked h.placed.partition
          (subst (λ n. x < n) (sym h.sized.lists) l));
      fixed = λ z k. b.lists.fixed z ∙ out_fixed z k;
      stack_below = All-push (λ y. (25 ≤ y) × (y < w.graph.nodes)) w.stack x h.placed.stack_below (temporary, l);
      stacked = stacked_told;
      listed = λ z k e list. b.listed z (out_listed z k) e list;
    }

    ends_taken : HasEnds v
    ends_taken = record {
      listed = h.ends.listed;
      counted = λ z k. h.ends.counted z k ∙ sym (ap (λ f. count_by f (list_at w.moves.touching z))
          (λ i j. woken_unsettled w.moves v.moves b.moves j i));
      left = λ z k r.
          left_out z
          ∙ (out_there z (λ p. clash (subst (λ y. tables.is_related w.moves y ≡ true) p r) alone) ∙ h.ends.left z k r);
    }

    -- where no waiting move can be settled, the work is in order again
    pub orderly_taken :
        ((i : ℕ) → i < length w.moves.moves → is_waiting (state_at v.moves i) ≡ true →
        can_move (shown v) (state_of v) i ≡ false) → IsOrderly v
    orderly_taken waiting =
        let queue = b.moves.kept (queue_of w h) in
        record {
          some = h.some;
          few = h.few;
          sized = record {
            lists = b.lists.nodes ∙ h.sized.lists;
            degrees = b.sized ∙ h.sized.degrees;
            classes = h.sized.classes;
            touching = h.sized.touching;
          };
          grouping = h.grouping;
          table = queue.table;
          graph = h.graph;
          degrees = degrees_taken;
          placed = placed_taken;
          members = record { exact = h.members.exact; distinct = h.members.distinct };
          ends = ends_taken;
          ready = record { exact = queue.exact; distinct = queue.distinct; waiting = waiting };
        }

    -- a node that turns low has the moves of its neighbours tried again
    roused : (z y i : ℕ) → z ≢ x → (state_of w).remaining z ≡ true → low (shown w) (state_of w) z ≡ false →
        low (shown w) (take_out (shown w) (state_of w) x) z ≡ true → interferes w.graph z y ≡ true →
        is_among i (list_at w.moves.touching y) ≡ true → is_waiting (state_at v.moves i) ≡ false
    roused z y i d r high now pair ends =
        b.roused z opened near turned y i (h.graph.exact z y (ltb-false z 25 (not_true parts.0)) ∙ pair) ends
      where
        parts : (not (is_register z) ≡ true) ×
            (nat_lt (degree_of (shown w) (take_out (shown w) (state_of w) x) z) 25 ≡ true)
        parts = both (not (is_register z)) _ now

        inside : (nat_lt z w.graph.nodes ≡ true) × (is_left w.lists z ≡ true)
        inside = both (nat_lt z w.graph.nodes) (is_left w.lists z) r

        opened : is_open out z ≡ true
        opened = and_true parts.0 (out_there z d ∙ inside.1)

        was_high : nat_lt (degree_of (shown w) (state_of w) z) 25 ≡ false
        was_high = by (is_register z) parts.0 high
          where
            by : (c : Bool) {e : Bool} → not c ≡ true → (not c && e) ≡ false → e ≡ false
            by true p q = cc
            by false p q = q

        counts : (degree_of (shown w) (take_out (shown w) (state_of w) x) z ≡ 24) × (bit (interferes w.graph z x) ≡ 1)
        counts =
            let less = taken_out_is_less (shown w) (state_of w) x z l (left_remains w x l left) in
            let a = ltb-false _ 25 was_high in
            let c = ltb-true _ 25 parts.1 in
            let small = bit_le (interferes w.graph z x) in
            omega (arith, less, a, c, small)
          where
            bit_le : (c : Bool) → bit c ≤ 1
            bit_le true = omega arith
            bit_le false = omega arith

        near : is_among z (neighbours w.graph x) ≡ true
        near = h.graph.exact x z temporary ∙ (either_way w.graph x z ∙ is_bit counts.1)

        turned : degree_at v z ≡ 24
        turned =
            degree_taken z (ltb-true z w.graph.nodes inside.0)
            (ap (λ c. not (is_register z) && c) (left_out z) ∙ opened) ∙ counts.0

    abbrev pub turned_near : ℕ → ℕ → Bool
    turned_near y z =
        ((state_of w).remaining z && (take_out (shown w) (state_of w) x).remaining z &&
        not (low (shown w) (state_of w) z) && low (shown w) (take_out (shown w) (state_of w) x) z) &&
        interferes w.graph z y

    -- so no end of a waiting move is beside one
    pub none_turned : (y i : ℕ) → is_among i (list_at w.moves.touching y) ≡ true →
        is_waiting (state_at v.moves i) ≡ true → some (turned_near y) w.graph.nodes ≡ false
    none_turned y i ends waits =
        never (λ t.
        let found = (some_is (turned_near y) w.graph.nodes).0 t in
        let z = found.0 in
        let p = both _ (interferes w.graph z y) found.2 in
        let q = both _ (low (shown w) (take_out (shown w) (state_of w) x) z) p.0 in
        let r = both _ (not (low (shown w) (state_of w) z)) q.0 in
        let k = both ((state_of w).remaining z) (without x (state_of w).remaining z) r.0 in
        clash waits (roused z y i
        (λ e. clash (same_test z x e) (not_true (both (not (z == x)) _ k.1).0))
        k.0 (not_true r.1) q.1 p.1 ends))
