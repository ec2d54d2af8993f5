-- What is kept of each table of moves is so at the start, and every change keeps it.
use Rattle.std.proofs.Common.{◌≡◌, ℕ, zero, suc, ◌+◌, ◌*◌, ◌<◌, ◌≤◌, ◌^◌, true, false, Bool, List, [], ◌∷◌, ◌++◌, length, get_or, set, take}
use Rattle.std.proofs.Common.{replicate, refl, sym, ap, ◌∙◌, subst, ⊎_elim, arith}
use Rattle.std.specs.Prelude.{sum, fold, if◌then◌else◌}
use Rattle.std.specs.List.{All, range_with_len}
use Rattle.std.proofs.lemmas.Bool.{cases_lt, cond-true, cond-false}
use Rattle.std.proofs.lemmas.List.{length-set, length-replicate, get_or-replicate, get_or_past}
use Rattle.std.proofs.lemmas.List.Elements.{All-nil, All-push, All-drop, All-get_or, All-head, All-tail}
use Rattle.std.proofs.lemmas.List.Sums.{fold_push, fold_more}
use Rattle.std.proofs.lemmas.List.Folds.{sum_by-replicate}
use Rattle.tg_irc_definition.specs.declared.moves.Move.{Move}
use Rattle.tg_irc_definition.specs.declared.moves.MoveState.{MoveState}
use Rattle.tg_irc_definition.specs.declared.moves.MoveState.TheVariants.{Ready}
use Rattle.tg_graph.proofs.Runs.{range_next}
use Rattle.tg_coalescing_round.specs.glue.Lists.{list_at, pushed, poured, moved_sum, raised, lowered}
use Rattle.tg_coalescing_round.specs.glue.Tables.{Table, IsTable, move_at, state_at, is_waiting, ends_listed, ends_counted, started, first_taken, settled}
use Rattle.tg_coalescing_round.specs.glue.Tables.{tried_again, woken, joined}
use Rattle.tg_coalescing_round.proofs.Keeping.{either}
use Rattle.tg_coalescing_round.proofs.Listing.{each_pushed, each_poured, length_pushed, length_poured, length_moved_sum, sum_moved, sum_lowered, sum_raised}
use Rattle.tg_coalescing_round.proofs.Listing.{range_below, read_within, raised_read}

-- The ends listed and counted of one move more.
module _ (moves : List Move) (nodes : ℕ) where
  pub listed_more : (n : ℕ) →
      ends_listed moves nodes (n + 1) ≡
      pushed (move_at moves n).from n (pushed (move_at moves n).to n (ends_listed moves nodes n))
  listed_more n =
      let step = λ (lists : List (List ℕ)) (i : ℕ).
      pushed (move_at moves i).from i (pushed (move_at moves i).to i lists) in
      ap (fold step (replicate nodes [])) (range_next 0 n n (omega arith)) ∙ fold_push step (replicate nodes []) (range_with_len 0 n) n

  pub counted_more : (n : ℕ) →
      ends_counted moves nodes (n + 1) ≡
      raised (move_at moves n).from (raised (move_at moves n).to (ends_counted moves nodes n))
  counted_more n =
      let step = λ (counts : List ℕ) (i : ℕ). raised (move_at moves i).from (raised (move_at moves i).to counts) in
      ap (fold step (replicate nodes 0)) (range_next 0 n n (omega arith)) ∙ fold_push step (replicate nodes 0) (range_with_len 0 n) n

  pub length_listed : (n : ℕ) → length (ends_listed moves nodes n) ≡ nodes
  length_listed zero = length-replicate nodes []
  length_listed (suc n) =
      ap length (ap (ends_listed moves nodes) (sym (one_more n)) ∙ listed_more n)
      ∙ (length_pushed (move_at moves n).from n _
      ∙ (length_pushed (move_at moves n).to n (ends_listed moves nodes n) ∙ length_listed n))
    where
      one_more : (k : ℕ) → k + 1 ≡ suc k
      one_more k = omega arith

  pub length_counted : (n : ℕ) → length (ends_counted moves nodes n) ≡ nodes
  length_counted zero = length-replicate nodes 0
  length_counted (suc n) =
      ap length (ap (ends_counted moves nodes) (sym (one_more n)) ∙ counted_more n)
      ∙ (length-set (raised (move_at moves n).to (ends_counted moves nodes n)) (move_at moves n).from _
      ∙ (length-set (ends_counted moves nodes n) (move_at moves n).to _ ∙ length_counted n))
    where
      one_more : (k : ℕ) → k + 1 ≡ suc k
      one_more k = omega arith

  pub sum_counted : (n : ℕ) → sum (ends_counted moves nodes n) ≤ 2 * n
  sum_counted zero = let none = sum_by-replicate (λ x. x) nodes 0 in omega (arith, none)
  sum_counted (suc n) =
      let e : n + 1 ≡ suc n = omega arith in
      let more = ap sum (ap (ends_counted moves nodes) (sym e) ∙ counted_more n) in
      let first = sum_raised (move_at moves n).to (ends_counted moves nodes n) in
      let second = sum_raised (move_at moves n).from (raised (move_at moves n).to (ends_counted moves nodes n)) in
      omega (arith, more, first, second, sum_counted n)

  pub listed_below : (n m : ℕ) → n ≤ m → (x : ℕ) → All (λ i. i < m) (list_at (ends_listed moves nodes n) x)
  listed_below zero m h x =
      ⊎_elim
      (λ (l : x < nodes). subst (All (λ i. i < m)) (sym (get_or-replicate nodes x [] [] l)) (All-nil (λ i. i < m)))
      (λ (l : nodes ≤ x).
      subst (All (λ i. i < m)) (sym (get_or_past (replicate nodes []) x [] (omega (arith, l, length-replicate {A = List ℕ} nodes []))))
      (All-nil (λ i. i < m)))
      (cases_lt x nodes)
  listed_below (suc n) m h x =
      let e : n + 1 ≡ suc n = omega arith in
      let P = λ (i : ℕ). i < m in
      subst (λ (ls : List (List ℕ)). All P (list_at ls x)) (sym (ap (ends_listed moves nodes) (sym e) ∙ listed_more n))
      (each_pushed P (move_at moves n).from n _ (omega (arith, h))
      (each_pushed P (move_at moves n).to n (ends_listed moves nodes n) (omega (arith, h))
      (listed_below n m (omega (arith, h)))) x)

  pub started_table : length moves < 2 ^ 32 → All (λ m. (m.to < nodes) × (m.from < nodes)) moves →
      IsTable (started moves nodes)
  started_table few ends =
      let size = length_listed (length moves) in
      record {
        few = few;
        states_sized = length-replicate (length moves) Ready;
        unsettled_sized = length_counted (length moves) ∙ sym size;
        ends_below = subst (λ (k : ℕ). All (λ m. (m.to < k) × (m.from < k)) moves) (sym size) ends;
        ready_below = range_below 0 (length moves) (length moves) (omega arith);
        touching_below = listed_below (length moves) (length moves) (omega arith);
        few_unsettled = sum_counted (length moves);
      }

module _ (t : Table) (k : IsTable t) where
  pub first_table : IsTable (first_taken t)
  first_table = record {
    few = k.few;
    states_sized = k.states_sized;
    unsettled_sized = k.unsettled_sized;
    ends_below = k.ends_below;
    ready_below = All-drop (λ i. i < length t.moves) 1 t.ready k.ready_below;
    touching_below = k.touching_below;
    few_unsettled = k.few_unsettled;
  }

  pub state_table : (i : ℕ) (state : MoveState) → IsTable (record t { states = set t.states i state })
  state_table i state = record {
    few = k.few;
    states_sized = length-set t.states i state ∙ k.states_sized;
    unsettled_sized = k.unsettled_sized;
    ends_below = k.ends_below;
    ready_below = k.ready_below;
    touching_below = k.touching_below;
    few_unsettled = k.few_unsettled;
  }

  pub ready_table : (i : ℕ) → i < length t.moves → IsTable (record t { ready = t.ready ++ i ∷ [] })
  ready_table i h = record {
    few = k.few;
    states_sized = k.states_sized;
    unsettled_sized = k.unsettled_sized;
    ends_below = k.ends_below;
    ready_below = All-push (λ j. j < length t.moves) t.ready i k.ready_below h;
    touching_below = k.touching_below;
    few_unsettled = k.few_unsettled;
  }

  pub lowered_table : (at : ℕ) → IsTable (record t { unsettled = lowered at t.unsettled })
  lowered_table at = record {
    few = k.few;
    states_sized = k.states_sized;
    unsettled_sized = length-set t.unsettled at _ ∙ k.unsettled_sized;
    ends_below = k.ends_below;
    ready_below = k.ready_below;
    touching_below = k.touching_below;
    few_unsettled = let fewer = sum_lowered at t.unsettled in omega (arith, fewer, k.few_unsettled);
  }

  pub poured_table : (kept gone : ℕ) → IsTable (record t { touching = poured kept gone t.touching })
  poured_table kept gone =
      let size = length_poured kept gone t.touching in
      record {
        few = k.few;
        states_sized = k.states_sized;
        unsettled_sized = k.unsettled_sized ∙ sym size;
        ends_below = subst (λ (n : ℕ). All (λ m. (m.to < n) × (m.from < n)) t.moves) (sym size) k.ends_below;
        ready_below = k.ready_below;
        touching_below = each_poured (λ i. i < length t.moves) kept gone t.touching k.touching_below;
        few_unsettled = k.few_unsettled;
      }

  pub moved_table : (kept gone : ℕ) → kept < length t.touching → gone < length t.touching →
      IsTable (record t { unsettled = moved_sum kept gone t.unsettled })
  moved_table kept gone l m = record {
    few = k.few;
    states_sized = k.states_sized;
    unsettled_sized = length_moved_sum kept gone t.unsettled ∙ k.unsettled_sized;
    ends_below = k.ends_below;
    ready_below = k.ready_below;
    touching_below = k.touching_below;
    few_unsettled =
        let same = sum_moved kept gone t.unsettled (omega (arith, l, k.unsettled_sized)) (omega (arith, m, k.unsettled_sized))
        in
        omega (arith, same, k.few_unsettled);
  }

pub settled_table : (t : Table) → IsTable t → (i : ℕ) (state : MoveState) (to from : ℕ) →
    IsTable (settled i state to from t)
settled_table t k i state to from =
    let one : Table = record t { states = set t.states i state } in
    let two : Table = record one { unsettled = lowered to t.unsettled } in
    lowered_table two (lowered_table one (state_table t k i state) to) from

pub joined_table : (t : Table) → IsTable t → (kept gone : ℕ) → kept < length t.touching → gone < length t.touching →
    IsTable (joined kept gone t)
joined_table t k kept gone l m =
    let one : Table = record t { touching = poured kept gone t.touching } in
    let size = length_poured kept gone t.touching in
    moved_table one (poured_table t k kept gone) kept gone (omega (arith, l, size)) (omega (arith, m, size))

-- where a move is tried again
pub again_table : (t : Table) (i : ℕ) → IsTable t → i < length t.moves → IsTable (tried_again t i)
again_table t i k h = by (is_waiting (state_at t i))
  where
    by : (b : Bool) → IsTable (if b then record t { states = set t.states i Ready; ready = t.ready ++ i ∷ [] } else t)
    by true = let one : Table = record t { states = set t.states i Ready } in ready_table one (state_table t k i Ready) i h
    by false = k

-- The ends of one move more are counted.
module _ (moves : List Move) (nodes : ℕ) (counts : List ℕ) (i : ℕ) (same : counts ≡ ends_counted moves nodes i) where
  pub counts_sized : length counts ≡ nodes
  counts_sized = ap length same ∙ length_counted moves nodes i

  pub counts_summed : sum counts ≤ 2 * i
  counts_summed = let e = ap sum same in omega (arith, e, sum_counted moves nodes i)

  pub first_counted : (v : ℕ) → (move_at moves i).to < length counts → v ≡ get_or counts (move_at moves i).to v →
      v ≤ 2 * i
  first_counted v l e = read_within counts (move_at moves i).to v (2 * i) l e counts_summed

  pub second_counted : (v w : ℕ) → (move_at moves i).to < length counts → (move_at moves i).from < length counts →
      v ≡ get_or counts (move_at moves i).to v →
      w ≡ get_or (set counts (move_at moves i).to (v + 1)) (move_at moves i).from w → w ≤ 2 * i + 1
  second_counted v w l m p q =
      let to = (move_at moves i).to in
      let same = ap sum (raised_read counts to v l p) in
      let more = sum_raised to counts in
      read_within (set counts to (v + 1)) (move_at moves i).from w (2 * i + 1)
      (omega (arith, m, length-set counts to (v + 1))) q (omega (arith, same, more, counts_summed))

  pub counted_ends : (v w : ℕ) → (move_at moves i).to < length counts → (move_at moves i).from < length counts →
      v ≡ get_or counts (move_at moves i).to v →
      w ≡ get_or (set counts (move_at moves i).to (v + 1)) (move_at moves i).from w →
      set (set counts (move_at moves i).to (v + 1)) (move_at moves i).from (w + 1) ≡ ends_counted moves nodes (i + 1)
  counted_ends v w l m p q =
      let to = (move_at moves i).to in
      let from = (move_at moves i).from in
      raised_read (set counts to (v + 1)) from w (omega (arith, m, length-set counts to (v + 1))) q
      ∙ (ap (raised from) (raised_read counts to v l p)
      ∙ (ap (λ cs. raised from (raised to cs)) same ∙ sym (counted_more moves nodes i)))

pub end_of : (moves : List Move) (nodes i : ℕ) → i < length moves →
    All (λ m. (m.to < nodes) × (m.from < nodes)) moves →
    ((move_at moves i).to < nodes) × ((move_at moves i).from < nodes)
end_of moves nodes i l ends =
    All-get_or (λ (m : Move). (m.to < nodes) × (m.from < nodes)) moves i (record { to = 0; from = 0 }) l ends

-- What is tried again changes states and the queue alone.
again_keeps : {A : Type 0} (f : Table → A) (t : Table) (i : ℕ) →
    f (record t { states = set t.states i Ready; ready = t.ready ++ i ∷ [] }) ≡ f t → f (tried_again t i) ≡ f t
again_keeps f t i h = either f (is_waiting (state_at t i)) _ t (f t) h refl

pub all_again_moves : (xs : List ℕ) (t : Table) → (fold tried_again t xs).moves ≡ t.moves
all_again_moves [] t = refl
all_again_moves (i ∷ xs) t = all_again_moves xs (tried_again t i) ∙ again_keeps (λ (u : Table). u.moves) t i refl

pub all_again_touching : (xs : List ℕ) (t : Table) → (fold tried_again t xs).touching ≡ t.touching
all_again_touching [] t = refl
all_again_touching (i ∷ xs) t = all_again_touching xs (tried_again t i) ∙ again_keeps (λ (u : Table). u.touching) t i refl

pub all_again_table : (xs : List ℕ) (t : Table) → IsTable t → All (λ i. i < length t.moves) xs →
    IsTable (fold tried_again t xs)
all_again_table [] t k h = k
all_again_table (i ∷ xs) t k h =
    let P = λ (j : ℕ). j < length t.moves in
    all_again_table xs (tried_again t i) (again_table t i k (All-head P i xs h))
    (subst (λ (ms : List Move). All (λ j. j < length ms) xs) (sym (again_keeps (λ (u : Table). u.moves) t i refl))
    (All-tail P i xs h))

-- One more is tried again, or was not waiting.
module _ (t u : Table) (xs : List ℕ) (n i : ℕ) (l : n < length xs) (at : i ≡ get_or xs n 0)
    (so_far : u ≡ fold tried_again t (take n xs)) where
  pub again_waiting : is_waiting (state_at u i) ≡ true →
      record u { states = set u.states i Ready; ready = u.ready ++ i ∷ [] } ≡ fold tried_again t (take (n + 1) xs)
  again_waiting w =
      sym (cond-true (is_waiting (state_at u i)) _ u w)
      ∙ (ap (tried_again u) at
      ∙ (ap (λ (v : Table). tried_again v (get_or xs n 0)) so_far ∙ sym (fold_more tried_again t xs n 0 l)))

  pub again_other : is_waiting (state_at u i) ≡ false → u ≡ fold tried_again t (take (n + 1) xs)
  again_other w =
      sym (cond-false (is_waiting (state_at u i)) (record u { states = set u.states i Ready; ready = u.ready ++ i ∷ [] }) u w)
      ∙ (ap (tried_again u) at
      ∙ (ap (λ (v : Table). tried_again v (get_or xs n 0)) so_far ∙ sym (fold_more tried_again t xs n 0 l)))

-- the parts of a table, where they are these
pub same_table : (t : Table) → IsTable t → (moves : List Move) (states : List MoveState) (ready : List ℕ)
    (touching : List (List ℕ)) (unsettled : List ℕ) → moves ≡ t.moves → states ≡ t.states → ready ≡ t.ready →
    touching ≡ t.touching → unsettled ≡ t.unsettled →
    IsTable (record { moves = moves; states = states; ready = ready; touching = touching; unsettled = unsettled })
same_table t k moves states ready touching unsettled a b c d e = subst IsTable (sym same) k
  where
    same : record { moves = moves; states = states; ready = ready; touching = touching; unsettled = unsettled } ≡ t
    same = λ i. record { moves = a i; states = b i; ready = c i; touching = d i; unsettled = e i }

pub all_woken_touching : (xs : List ℕ) (t : Table) → (fold (λ u y. woken y u) t xs).touching ≡ t.touching
all_woken_touching [] t = refl
all_woken_touching (y ∷ xs) t = all_woken_touching xs (woken y t) ∙ all_again_touching (list_at t.touching y) t
