-- The work after a merge is in order again.
use Rattle.std.proofs.Common.{◌≡◌, ◌≢◌, ℕ, ◌+◌, ◌<◌, ◌≤◌, Bool, true, false, not, ◌&&◌, ◌||◌}
use Rattle.std.proofs.Common.{List, length, All, refl, sym, ap, subst, ◌∙◌, arith, ⊎_elim}
use Rattle.std.specs.Prelude.{◌==◌, nat_lt, count_by, if◌then◌else◌}
use Rattle.std.proofs.lemmas.Bool.{cases_eq, cases_lt, lt-ltb}
use Rattle.std.proofs.lemmas.List.{get_or_past, get_or_default}
use Rattle.tg_irc_definition.specs.declared.moves.MoveState.{MoveState}
use Rattle.tg_irc_definition.specs.Graphs.{Set, bit, count, degree, without}
use Rattle.tg_irc_definition.specs.Graphs as graphs
use Rattle.tg_irc_definition.specs.States.{RoundState}
use Rattle.tg_irc_definition.specs.Steps.{merge, can_move}
use Rattle.tg_irc_definition.specs.laws.Laws.{is_stacked}
use Rattle.tg_irc_definition.specs.laws.Degrees.{degree_of}
use Rattle.tg_irc_definition.proofs.Deciding.{clash, both, and_true, neither, never, not_true, same_node, same_test}
use Rattle.tg_graph.specs.declared.worklists.Worklist.TheVariants as worklists
use Rattle.tg_graph.specs.Interference.{Interference, is_among, is_register, interferes, neighbours, most_nodes}
use Rattle.tg_graph.specs.Lists.{Lists}
use Rattle.tg_graph.proofs.Joining.{either_way, not_itself}
use Rattle.tg_graph.proofs.Partitions.{moved_parts}
use Rattle.tg_coalescing_round.specs.glue.Lists.{list_at}
use Rattle.tg_coalescing_round.specs.glue.Tables.{state_at, is_waiting, is_related, move_at}
use Rattle.tg_coalescing_round.specs.glue.Works.{Work, degree_at, is_left, is_open, alias_of, to}
use Rattle.tg_coalescing_round.specs.glue.Standing.{shown, state_of, IsOrderly, HasDegrees, IsPlaced, HasEnds}
use Rattle.tg_coalescing_round.proofs.AdvancingMembers.{count_of_list}
use Rattle.tg_coalescing_round.proofs.AdvancingWaking.{IsQueue, requeued, woken_unsettled}
use Rattle.tg_coalescing_round.proofs.AdvancingListing.{moved_it, moved_other, shifted_left}
use Rattle.tg_coalescing_round.proofs.AdvancingOrder.{open_remains, remains_open}
use Rattle.tg_coalescing_round.proofs.AdvancingMeasure.{count_same, count_most}
use Rattle.tg_coalescing_round.proofs.AdvancingPassingOn.{remade}
use Rattle.tg_coalescing_round.proofs.AdvancingPassingOne.{brought}
use Rattle.tg_coalescing_round.proofs.AdvancingClasses.{aliases_length, alias_after, grouping_after, members_after, renamed}
use Rattle.tg_coalescing_round.proofs.AdvancingEnds.{table_after, touching_length, listed_after, counted_after, to_after}
use Rattle.tg_coalescing_round.proofs.AdvancingEnds.{from_after, related_after}
use Rattle.tg_coalescing_round.proofs.AdvancingMerging.{MayMerge, IsMerged, one, one_listed, gone_left, temporary, one_here}
use Rattle.tg_coalescing_round.proofs.AdvancingMerging.{one_there, still_left, one_fixed, neighbour_below}

module _ (w : Work) (h : IsOrderly w) (kept gone : ℕ) (may : MayMerge w kept gone) where
  abbrev s : RoundState
  s = state_of w

  abbrev after : RoundState
  after = merge (shown w) s kept gone

  -- how the definition changes degrees
  pub record ChangesDegrees : Type 0 where
    pub less : (y : ℕ) → y ≢ kept → degree_of (shown w) s y ≡
        degree_of (shown w) after y + bit (interferes w.graph y kept && interferes w.graph y gone)
    pub more : degree_of (shown w) after kept ≡ degree_of (shown w) s kept +
        count (λ z. s.remaining z && interferes w.graph gone z && not (interferes w.graph kept z)) w.graph.nodes

  module _ (g : Interference) (lists : Lists) (degrees : List ℕ) (states : List MoveState) (ready : List ℕ)
      (b : IsMerged w h kept gone may
      (remade (one w h kept gone may) g lists degrees (requeued states ready (one w h kept gone may).moves)))
      (changes : ChangesDegrees) where
    abbrev pub v : Work
    v = remade (one w h kept gone may) g lists degrees (requeued states ready (one w h kept gone may).moves)

    left_one : (z : ℕ) → is_left lists z ≡ is_left (one w h kept gone may).lists z
    left_one z = shifted_left (one w h kept gone may).lists lists b.lists z

    open_one : (z : ℕ) → is_open v z ≡ is_open (one w h kept gone may) z
    open_one z = ap (λ c. not (is_register z) && c) (left_one z)

    -- the state is that after the merge
    remaining_told : (z : ℕ) → (state_of v).remaining z ≡ without gone s.remaining z
    remaining_told z =
        ap (λ n. nat_lt z n && is_left lists z) b.size
        ∙ (ap (λ c. nat_lt z w.graph.nodes && c) (left_one z)
        ∙ ⊎_elim
        (λ (p : z ≡ gone). subst
        (λ y. (nat_lt y w.graph.nodes && is_left (one w h kept gone may).lists y) ≡ without gone s.remaining y) (sym p)
        (ap (λ c. nat_lt gone w.graph.nodes && c) (one_here w h kept gone may)
        ∙ (nothing (nat_lt gone w.graph.nodes)
        ∙ sym (ap (λ c. not c && s.remaining gone) (same_test gone gone refl)))))
        (λ (d : z ≢ gone).
        ap (λ c. nat_lt z w.graph.nodes && c) (one_there w h kept gone may z d)
        ∙ sym (ap (λ c. not c && s.remaining z) (never (λ e. d (same_node z gone e)))))
        (cases_eq z gone))
      where
        nothing : (c : Bool) → (c && false) ≡ false
        nothing true = refl
        nothing false = refl

    pairs_told : (x y : ℕ) → interferes g x y ≡ graphs.merged kept gone (interferes w.graph) x y
    pairs_told x y =
        b.pairs x y
        ∙ (ap (λ c. interferes w.graph x y || ((x == kept) && c) || ((y == kept) && is_among x (neighbours w.graph gone)))
        (h.graph.exact gone y (temporary w h kept gone may))
        ∙ ap (λ c. interferes w.graph x y || ((x == kept) && interferes w.graph gone y) || ((y == kept) && c))
        (h.graph.exact gone x (temporary w h kept gone may) ∙ either_way w.graph gone x))

    alias_told : (x : ℕ) → (state_of v).alias x ≡ (if s.alias x == gone then kept else s.alias x)
    alias_told x = ⊎_elim inside outside (cases_lt x w.graph.nodes)
      where
        inside : x < w.graph.nodes → (state_of v).alias x ≡ (if s.alias x == gone then kept else s.alias x)
        inside l =
            alias_after w h kept gone may.kept_node may.gone_node may.differ x x l
            ∙ ap (λ a. if a == gone then kept else s.alias x)
            (get_or_default w.classes.aliases x 0 x (subst (λ n. x < n) (sym h.sized.classes) l))

        outside : w.graph.nodes ≤ x → (state_of v).alias x ≡ (if s.alias x == gone then kept else s.alias x)
        outside l =
            let past : s.alias x ≡ x = get_or_past w.classes.aliases x x (omega (arith, l, h.sized.classes)) in
            let now : (state_of v).alias x ≡ x = get_or_past v.classes.aliases x x
            (omega (arith, l, aliases_length w h kept gone may.kept_node may.gone_node may.differ, h.sized.classes)) in
            let low = may.gone_node in
            let apart : x ≢ gone = λ e. let f : x ≡ gone = e in absurd (omega (arith, l, low, f)) in
            now ∙ sym (ap (λ a. if a == gone then kept else a) past
            ∙ ap (λ c. if c then kept else x) (never (λ e. apart (same_node x gone e))))

    pub state_merged : state_of v ≡ after
    state_merged = λ i. record {
      remaining = λ z. remaining_told z i;
      pairs = λ x y. pairs_told x y i;
      alias = λ x. alias_told x i;
      states = λ j. b.moves.told j i;
      stack = s.stack;
    }

    in_work : (z : ℕ) → z < g.nodes → z < w.graph.nodes
    in_work z k = subst (λ n. z < n) b.size k

    -- what remains was there, and is another node than the one that goes
    before : (z : ℕ) → is_open v z ≡ true → (z ≢ gone) × (is_open w z ≡ true)
    before z e =
        let p = both (not (is_register z)) (is_left (one w h kept gone may).lists z) (sym (open_one z) ∙ e) in
        let q = still_left w h kept gone may z p.1 in
        (q.0, and_true p.0 q.1)

    -- Degrees.

    pub degree_other : (z : ℕ) → z ≢ kept → z < w.graph.nodes → is_open v z ≡ true →
        degree_at v z ≡ degree_of (shown w) after z
    degree_other z d k e =
        let was = h.degrees.exact z (open_remains w z k (before z e).1) in
        let now = b.others z d in
        let less = changes.less z d in
        let same : bit (is_open (one w h kept gone may) z &&
        (is_among z (neighbours w.graph gone) && interferes w.graph kept z)) ≡
        bit (interferes w.graph z kept && interferes w.graph z gone) =
        ap (λ c. bit (c && (is_among z (neighbours w.graph gone) && interferes w.graph kept z))) (sym (open_one z) ∙ e)
        ∙ (ap (λ c. bit (c && interferes w.graph kept z))
        (h.graph.exact gone z (temporary w h kept gone may) ∙ either_way w.graph gone z)
        ∙ (ap (λ c. bit (interferes w.graph z gone && c)) (either_way w.graph kept z)
        ∙ turned (interferes w.graph z gone) (interferes w.graph z kept))) in
        omega (arith, was, now, less, same)
      where
        turned : (p q : Bool) → bit (p && q) ≡ bit (q && p)
        turned true true = refl
        turned true false = refl
        turned false true = refl
        turned false false = refl

    brought_counted : count_by (brought kept (one w h kept gone may)) (neighbours w.graph gone) ≡
        count (λ z. s.remaining z && interferes w.graph gone z && not (interferes w.graph kept z)) w.graph.nodes
    brought_counted =
        count_of_list (brought kept (one w h kept gone may)) (neighbours w.graph gone) w.graph.nodes
        (h.graph.distinct gone) (neighbour_below w h kept gone may)
        ∙ count_same (λ z. is_among z (neighbours w.graph gone) && brought kept (one w h kept gone may) z)
        (λ z. s.remaining z && interferes w.graph gone z && not (interferes w.graph kept z)) w.graph.nodes each
      where
        each : (z : ℕ) → z < w.graph.nodes →
            (is_among z (neighbours w.graph gone) && brought kept (one w h kept gone may) z) ≡
            (s.remaining z && interferes w.graph gone z && not (interferes w.graph kept z))
        each z k =
            ap (λ c. c && brought kept (one w h kept gone may) z) (h.graph.exact gone z (temporary w h kept gone may))
            ∙ (by (interferes w.graph gone z) refl
            ∙ sym (ap (λ c. (c && is_left w.lists z) && interferes w.graph gone z && not (interferes w.graph kept z))
            (lt-ltb z w.graph.nodes k)))
          where
            none : (a : Bool) {c : Bool} → c ≡ false → (a && c) ≡ false
            none true e = e
            none false e = refl

            by : (c : Bool) → interferes w.graph gone z ≡ c →
                (c && (is_left (one w h kept gone may).lists z && not (interferes w.graph kept z))) ≡
                (is_left w.lists z && c && not (interferes w.graph kept z))
            by true e =
                ap (λ a. a && not (interferes w.graph kept z))
                (one_there w h kept gone may z (λ p. clash e (not_itself w.graph gone z (sym p))))
                ∙ sym (ap (λ a. a && not (interferes w.graph kept z)) (and_so (is_left w.lists z)))
              where
                and_so : (a : Bool) → (a && true) ≡ a
                and_so true = refl
                and_so false = refl
            by false e = sym (ap (λ a. a && not (interferes w.graph kept z)) (none (is_left w.lists z) refl))

    degree_kept : is_open v kept ≡ true → degree_at v kept ≡ degree_of (shown w) after kept
    degree_kept e =
        let r = not_true (both (not (is_register kept)) (is_left lists kept) e).0 in
        let was = h.degrees.exact kept (open_remains w kept may.kept_node (before kept e).1) in
        let now = b.grows r in
        let more = changes.more in
        omega (arith, was, now, more, brought_counted)

    degree_after : (z : ℕ) → z < w.graph.nodes → is_open v z ≡ true → degree_at v z ≡ degree_of (shown w) after z
    degree_after z k e =
        ⊎_elim
        (λ (p : z ≡ kept). subst (λ y. degree_at v y ≡ degree_of (shown w) after y) (sym p)
        (degree_kept (subst (λ y. is_open v y ≡ true) p e)))
        (λ (d : z ≢ kept). degree_other z d k e)
        (cases_eq z kept)

    kept_bound : degree_at v kept ≤ w.graph.nodes
    kept_bound = by (is_register kept) refl
      where
        by : (c : Bool) → is_register kept ≡ c → degree_at v kept ≤ w.graph.nodes
        by true r = let same = b.stays r in let was = h.degrees.bound kept may.kept_node in omega (arith, same, was)
        by false r =
            let at = degree_kept (open_one kept ∙ and_true (ap not r)
            (one_there w h kept gone may kept may.differ ∙ may.kept_left)) in
            let most = count_most (λ y. after.remaining y && after.pairs kept y) w.graph.nodes in
            omega (arith, at, most)

    degrees_merged : HasDegrees v
    degrees_merged = record {
      bound = λ z k. subst (λ n. degree_at v z ≤ n) (sym b.size) (⊎_elim
          (λ (p : z ≡ kept). subst (λ y. degree_at v y ≤ w.graph.nodes) (sym p) kept_bound)
          (λ (d : z ≢ kept). let now = b.others z d in let was = h.degrees.bound z (in_work z k) in
          omega (arith, now, was))
          (cases_eq z kept));
      exact = λ z r.
          let p = remains_open v z r in
          degree_after z (in_work z p.0) p.1
          ∙ (sym (ap (λ t. degree_of (shown w) t z) state_merged)
          ∙ ap (λ n. degree n (state_of v).remaining (state_of v).pairs z) (sym b.size));
    }

    stacked_told : (z : ℕ) → z < w.graph.nodes → is_among z lists.stacked ≡ is_stacked s z
    stacked_told z k =
        b.lists.stacked z
        ∙ ⊎_elim
        (λ (p : z ≡ gone). subst (λ y. is_among y (one w h kept gone may).lists.stacked ≡ is_stacked s y) (sym p)
        (moved_it w.lists gone worklists.Merged worklists.Stacked
        ∙ sym (sym (h.placed.stacked gone may.gone_node)
        ∙ (neither (is_among gone w.lists.stacked) (is_among gone w.lists.merged)
        (not_true (gone_left w h kept gone may))).0)))
        (λ (d : z ≢ gone). moved_other w.lists gone z worklists.Merged worklists.Stacked d ∙ h.placed.stacked z k)
        (cases_eq z gone)

    placed_merged : IsPlaced v
    placed_merged = record {
      partition = b.lists.kept (moved_parts w.lists gone worklists.Merged h.placed.partition
          (subst (λ n. gone < n) (sym h.sized.lists) may.gone_node));
      fixed = λ z k. b.lists.fixed z ∙ one_fixed w h kept gone may z (in_work z k);
      stack_below = subst (λ n. All (λ x. (25 ≤ x) × (x < n)) w.stack) (sym b.size) h.placed.stack_below;
      stacked = λ z k. stacked_told z (in_work z k);
      listed = λ z k e list. b.listed z (one_listed w h kept gone may z (in_work z k)) e list;
    }

    ends_merged : HasEnds v
    ends_merged = record {
      listed = λ x i k l.
          listed_after w h kept gone may.kept_node may.gone_node may.differ x i (in_work x k) l
          ∙ sym (ap (λ c. bit (c == x) + bit (alias_of v (move_at w.moves.moves i).from == x))
          (to_after w h kept gone may.kept_node may.gone_node may.differ i l)
          ∙ ap (λ c. bit (renamed kept gone (to w i) == x) + bit (c == x))
          (from_after w h kept gone may.kept_node may.gone_node may.differ i l));
      counted = λ x k.
          counted_after w h kept gone may.kept_node may.gone_node may.differ x (in_work x k)
          ∙ sym (ap (λ f. count_by f (list_at (one w h kept gone may).moves.touching x))
          (λ d i. woken_unsettled (one w h kept gone may).moves v.moves b.moves i d));
      left = λ x k r.
          let q = related_after w h kept gone may.kept_node may.gone_node may.differ x (in_work x k) r in
          left_one x ∙ (one_there w h kept gone may x q.0 ∙ ⊎_elim
          (λ (p : x ≡ kept). subst (λ y. is_left w.lists y ≡ true) (sym p) may.kept_left)
          (λ (t : is_related w.moves x ≡ true). h.ends.left x (in_work x k) t) q.1);
    }

    queue : IsQueue v.moves
    queue =
        b.moves.kept (record {
          table = table_after w h kept gone may.kept_node may.gone_node may.differ;
          exact = h.ready.exact;
          distinct = h.ready.distinct;
        })

    -- where no waiting move can be settled, the work is in order again
    pub orderly_merged :
        ((i : ℕ) → i < length w.moves.moves → is_waiting (state_at v.moves i) ≡ true →
        can_move (shown v) (state_of v) i ≡ false) → IsOrderly v
    orderly_merged waiting = record {
      some = subst (λ n. 25 ≤ n) (sym b.size) h.some;
      few = subst (λ n. n ≤ most_nodes) (sym b.size) h.few;
      sized = record {
        lists = b.lists.nodes ∙ (h.sized.lists ∙ sym b.size);
        degrees = b.sized ∙ (h.sized.degrees ∙ sym b.size);
        classes = aliases_length w h kept gone may.kept_node may.gone_node may.differ ∙ (h.sized.classes ∙ sym b.size);
        touching = touching_length w h kept gone may.kept_node may.gone_node may.differ ∙ sym b.size;
      };
      grouping = grouping_after w h kept gone may.kept_node may.gone_node may.differ;
      table = queue.table;
      graph = b.graph;
      degrees = degrees_merged;
      placed = placed_merged;
      members = members_after w h kept gone may.kept_node may.gone_node may.differ v b.size refl;
      ends = ends_merged;
      ready = record { exact = queue.exact; distinct = queue.distinct; waiting = waiting };
    }
