-- How much is left to do, by what is left of a round.
use Rattle.std.proofs.Common.{◌≡◌, ℕ, zero, suc, ◌+◌, ◌*◌, ◌<◌, ◌≤◌, Bool, true, false, not, ◌&&◌, ◌||◌, List}
use Rattle.std.proofs.Common.{[], ◌∷◌, length, get_or, refl, sym, ap, subst, ◌∙◌, arith}
use Rattle.std.specs.Prelude.{◌==◌, nat_lt, nat_eq, count_by}
use Rattle.std.specs.List.{IsDistinct}
use Rattle.std.proofs.lemmas.Bool.{lt-ltb}
use Rattle.std.proofs.lemmas.Map.Steps.{length-le_from_distinct_below}
use Rattle.tg_irc_definition.specs.declared.moves.Move.{Move}
use Rattle.tg_irc_definition.specs.declared.moves.MoveState.{MoveState}
use Rattle.tg_irc_definition.specs.declared.moves.MoveState.TheVariants.{Ready}
use Rattle.tg_irc_definition.specs.declared.steps.Step.{Step}
use Rattle.tg_irc_definition.specs.Graphs.{Set, bit, count}
use Rattle.tg_irc_definition.specs.States.{RoundState, remains, is_ready_or_waiting}
use Rattle.tg_irc_definition.specs.States as states
use Rattle.tg_irc_definition.specs.Steps.{can, after}
use Rattle.tg_irc_definition.specs.laws.Laws.{work_left}
use Rattle.tg_irc_definition.proofs.Shrinking.{steps_shrink}
use Rattle.tg_graph.specs.declared.worklists.Worklist.{Worklist}
use Rattle.tg_graph.specs.declared.worklists.Worklist.TheVariants as worklists
use Rattle.tg_graph.specs.Interference.{is_among, is_register}
use Rattle.tg_graph.specs.Lists.{nodes_in, number}
use Rattle.tg_coalescing_round.specs.glue.Tables.{is_unsettled}
use Rattle.tg_coalescing_round.specs.glue.Works.{Work, is_left}
use Rattle.tg_coalescing_round.specs.glue.Standing.{shown, state_of, IsOrderly, left_to_do}
use Rattle.tg_coalescing_round.proofs.AdvancingMembers.{count_of_list, count_cons, all_among}
use Rattle.tg_coalescing_round.proofs.AdvancingOrder.{unsettled_told}
use Rattle.tg_coalescing_round.proofs.AdvancingPossible.{moves_of}

count_first : (S : Set) (n : ℕ) → count S (suc n) ≡ bit (S 0) + count (λ i. S (suc i)) n
count_first S zero = refl
count_first S (suc n) = let r = count_first S n in omega (arith, r)

pub count_same : (S T : Set) (n : ℕ) → ((x : ℕ) → x < n → S x ≡ T x) → count S n ≡ count T n
count_same S T zero h = refl
count_same S T (suc n) h =
    let here = ap bit (h n (omega arith)) in
    let rest = count_same S T n (λ x l. h x (omega arith)) in
    omega (arith, here, rest)

pub count_most : (S : Set) (n : ℕ) → count S n ≤ n
count_most S zero = omega arith
count_most S (suc n) = let r = count_most S n in let b = by (S n) in omega (arith, r, b)
  where
    by : (b : Bool) → bit b ≤ 1
    by true = omega arith
    by false = omega arith

-- how many states of a list pass, by their places
count_places : (p : MoveState → Bool) (states : List MoveState) →
    count_by p states ≡ count (λ i. p (get_or states i Ready)) (length states)
count_places p [] = refl
count_places p (s ∷ states) =
    let rest = count_places p states in
    let one = count_cons p s states in
    let first = count_first (λ i. p (get_or (s ∷ states) i Ready)) (length states) in
    omega (arith, rest, one, first)

-- the length of a list without repeats
length_counts : (xs : List ℕ) (n : ℕ) → IsDistinct nat_eq xs → ((x : ℕ) → is_among x xs ≡ true → x < n) →
    length xs ≡ count (λ x. is_among x xs) n
length_counts xs n h below =
    all xs ∙ (count_of_list (λ x. true) xs n h below
    ∙ count_same (λ x. is_among x xs && true) (λ x. is_among x xs) n (λ x l. and_so (is_among x xs)))
  where
    all : (ys : List ℕ) → length ys ≡ count_by (λ x. true) ys
    all [] = refl
    all (y ∷ ys) = let r = all ys in let c = count_cons (λ x. true) y ys in omega (arith, r, c)

    and_so : (b : Bool) → (b && true) ≡ b
    and_so true = refl
    and_so false = refl

count_three : (S A B C : Set) (n : ℕ) → ((x : ℕ) → x < n → bit (S x) ≡ bit (A x) + bit (B x) + bit (C x)) →
    count S n ≡ count A n + count B n + count C n
count_three S A B C zero h = refl
count_three S A B C (suc n) h =
    let here = h n (omega arith) in
    let rest = count_three S A B C n (λ x l. h x (omega arith)) in
    omega (arith, here, rest)

module _ (w : Work) (h : IsOrderly w) where
  inside : (list : Worklist) (x : ℕ) → is_among x (nodes_in w.lists list) ≡ true → x < w.graph.nodes
  inside list x e = let below = h.placed.partition.nodes list x e in omega (arith, below, h.sized.lists)

  -- the temporaries that remain are those of three lists
  in_one : (x : ℕ) → x < w.graph.nodes →
      bit (remains (shown w) (state_of w) x) ≡
      bit (is_among x w.lists.simplify) + bit (is_among x w.lists.freeze) + bit (is_among x w.lists.spill)
  in_one x l =
      ap (λ b. bit (b && (b && is_left w.lists x) && not (is_register x))) (lt-ltb x w.graph.nodes l)
      ∙ (ap (λ b. bit (is_left w.lists x && not b)) (sym (h.placed.fixed x l))
      ∙ by one.0 (told worklists.Fixed) (told worklists.Simplify) (told worklists.Freeze) (told worklists.Spill)
      (told worklists.Stacked) (told worklists.Merged))
    where
      one : (m : Worklist) × ((n : Worklist) → is_among x (nodes_in w.lists n) ≡ (number n == number m))
      one = h.placed.partition.one x (subst (λ n. x < n) (sym h.sized.lists) l)

      told : (n : Worklist) → is_among x (nodes_in w.lists n) ≡ (number n == number one.0)
      told = one.1

      at : (m : Worklist) →
          bit (not ((4 == number m) || (5 == number m)) && not (0 == number m)) ≡
          bit (1 == number m) + bit (2 == number m) + bit (3 == number m)
      at worklists.Fixed = refl
      at worklists.Simplify = refl
      at worklists.Freeze = refl
      at worklists.Spill = refl
      at worklists.Stacked = refl
      at worklists.Merged = refl

      by : (m : Worklist) {fixed simplify freeze spill stacked merged : Bool} → fixed ≡ (0 == number m) →
          simplify ≡ (1 == number m) → freeze ≡ (2 == number m) → spill ≡ (3 == number m) →
          stacked ≡ (4 == number m) → merged ≡ (5 == number m) →
          bit (not (stacked || merged) && not fixed) ≡ bit simplify + bit freeze + bit spill
      by m a b c d e f =
          cc (at m, a, b, c, d, e, f)

  open_counted : length w.lists.simplify + length w.lists.freeze + length w.lists.spill ≡
      count (remains (shown w) (state_of w)) w.graph.nodes
  open_counted =
      let n = w.graph.nodes in
      let a = length_counts w.lists.simplify n (h.placed.partition.once worklists.Simplify) (inside worklists.Simplify) in
      let b = length_counts w.lists.freeze n (h.placed.partition.once worklists.Freeze) (inside worklists.Freeze) in
      let c = length_counts w.lists.spill n (h.placed.partition.once worklists.Spill) (inside worklists.Spill) in
      let all = count_three (remains (shown w) (state_of w)) (λ x. is_among x w.lists.simplify)
      (λ x. is_among x w.lists.freeze) (λ x. is_among x w.lists.spill) n in_one in
      omega (arith, a, b, c, all)

  unsettled_counted : count_by is_ready_or_waiting w.moves.states ≡
      count (states.is_unsettled (shown w) (state_of w)) (length w.moves.moves)
  unsettled_counted =
      count_places is_ready_or_waiting w.moves.states
      ∙ (ap (count (is_unsettled w.moves)) h.table.states_sized
      ∙ count_same (is_unsettled w.moves) (states.is_unsettled (shown w) (state_of w)) (length w.moves.moves)
      (λ i l. sym (unsettled_told w (moves_of w h) i l)))

  ready_few : length w.moves.ready ≤ length w.moves.moves
  ready_few = length-le_from_distinct_below w.moves.ready (length w.moves.moves) h.ready.distinct
      (λ i e. all_among (λ j. j < length w.moves.moves) i w.moves.ready h.table.ready_below e)

  pub left_is : left_to_do w ≡
      work_left (shown w) (state_of w) * (length w.moves.moves + 1) + length w.moves.ready
  left_is =
      ap (λ n. (n + count_by is_ready_or_waiting w.moves.states) * (length w.moves.moves + 1) + length w.moves.ready)
      open_counted
      ∙ ap (λ n. (count (remains (shown w) (state_of w)) w.graph.nodes + n) * (length w.moves.moves + 1)
      + length w.moves.ready) unsettled_counted

smaller : (a b m r q : ℕ) → a < b → r ≤ m → a * (m + 1) + r < b * (m + 1) + q
smaller a b m r q l k = grind arith

-- less is left of the round, so of the work
pub less_left : (w v : Work) → IsOrderly w → IsOrderly v → v.graph.nodes ≡ w.graph.nodes →
    v.moves.moves ≡ w.moves.moves → work_left (shown w) (state_of v) < work_left (shown w) (state_of w) →
    left_to_do v < left_to_do w
less_left w v h k nodes moves less =
    let same : work_left (shown v) (state_of v) ≡ work_left (shown w) (state_of v) =
    ap (λ n. count (λ x. nat_lt x n && (state_of v).remaining x && not (is_register x)) n
    + count (states.is_unsettled (shown v) (state_of v)) (length v.moves.moves)) nodes
    ∙ ap (λ (ms : List Move). count (λ x. nat_lt x w.graph.nodes && (state_of v).remaining x && not (is_register x))
    w.graph.nodes + count (λ i. nat_lt i (length ms) && is_ready_or_waiting ((state_of v).states i)) (length ms)) moves
    in
    let few : length v.moves.ready ≤ length w.moves.moves = omega (arith, ready_few v k, ap length moves) in
    let small = smaller (work_left (shown v) (state_of v)) (work_left (shown w) (state_of w)) (length w.moves.moves)
    (length v.moves.ready) (length w.moves.ready) (omega (arith, less, same)) few in
    subst (λ n. n < left_to_do w)
    (sym (left_is v k ∙ ap (λ (ms : List Move). work_left (shown v) (state_of v) * (length ms + 1)
    + length v.moves.ready) moves))
    (subst (λ n. work_left (shown v) (state_of v) * (length w.moves.moves + 1) + length v.moves.ready < n)
    (sym (left_is w h)) small)

-- as after each step
pub goes_less : (w v : Work) (step : Step) → IsOrderly w → IsOrderly v → v.graph.nodes ≡ w.graph.nodes →
    v.moves.moves ≡ w.moves.moves → can (shown w) (state_of w) step ≡ true →
    state_of v ≡ after (shown w) (state_of w) step → left_to_do v < left_to_do w
goes_less w v step h k nodes moves c e =
    less_left w v h k nodes moves
    (subst (λ s. work_left (shown w) s < work_left (shown w) (state_of w)) (sym e)
    (steps_shrink (shown w) (state_of w) step c))
