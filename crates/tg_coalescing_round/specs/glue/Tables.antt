-- The moves of a round, what has become of each, and which are to be tried.
use Rattle.std.specs.Prelude.{◌≡◌, ℕ, ◌<◌, ◌≤◌, ◌*◌, ◌^◌, Bool, true, false, if◌then◌else◌}
use Rattle.std.specs.Prelude.{List, [], ◌∷◌, ◌++◌, length, drop, fold, replicate, sum, All}
use Rattle.std.specs.Prelude.{count_by}
use Rattle.std.specs.Prelude.{slice_index, slice_index_or, slice_set, nat_lt}
use Rattle.std.specs.List.{range_with_len}
use Rattle.tg_irc_definition.specs.declared.moves.Move.{Move}
use Rattle.tg_irc_definition.specs.declared.moves.MoveState.{MoveState}
use Rattle.tg_irc_definition.specs.declared.moves.MoveState.TheVariants.{Ready, Waiting}
use Rattle.tg_irc_definition.specs.States.{is_ready_or_waiting}
use Rattle.tg_coalescing_round.specs.glue.Lists.{list_at, pushed, poured, moved_sum, raised}
use Rattle.tg_coalescing_round.specs.glue.Lists.{lowered}

-- The moves, their states, and the places of the ready ones in the order in which they are tried.
-- For each class the places of the moves that end in it, once for each end, and how many ends of
-- unsettled moves that are.
pub record Table : Type 0 where
  pub moves : List Move
  pub states : List MoveState
  pub ready : List ℕ
  pub touching : List (List ℕ)
  pub unsettled : List ℕ

abbrev pub move_at : List Move → ℕ → Move
move_at moves i = slice_index_or moves i (record { to = 0; from = 0 })

abbrev pub state_at : Table → ℕ → MoveState
state_at t i = slice_index_or t.states i Ready

abbrev pub is_waiting : MoveState → Bool
is_waiting Waiting = true
is_waiting _ = false

-- whether any move waits
abbrev pub some_waits : Table → Bool
some_waits t = nat_lt 0 (count_by is_waiting t.states)

-- the first so many moves listed by their ends
abbrev pub ends_listed : List Move → (nodes count : ℕ) → List (List ℕ)
ends_listed moves nodes count =
    fold (λ lists i. pushed (move_at moves i).from i (pushed (move_at moves i).to i lists))
    (replicate nodes []) (range_with_len 0 count)

-- and their ends counted
abbrev pub ends_counted : List Move → (nodes count : ℕ) → List ℕ
ends_counted moves nodes count =
    fold (λ counts i. raised (move_at moves i).from (raised (move_at moves i).to counts))
    (replicate nodes 0) (range_with_len 0 count)

-- each move ready, each node a class of its own
abbrev pub started : List Move → (nodes : ℕ) → Table
started moves nodes = record {
  moves = moves;
  states = replicate (length moves) Ready;
  ready = range_with_len 0 (length moves);
  touching = ends_listed moves nodes (length moves);
  unsettled = ends_counted moves nodes (length moves);
}

abbrev pub is_unsettled : Table → ℕ → Bool
is_unsettled t i = is_ready_or_waiting (state_at t i)

abbrev pub is_related : Table → ℕ → Bool
is_related t x = nat_lt 0 (slice_index t.unsettled x)

-- the first of the moves to be tried is tried
abbrev pub first_taken : Table → Table
first_taken t = record t { ready = drop 1 t.ready }

-- a move waits
abbrev pub parked : ℕ → Table → Table
parked i t = record t { states = slice_set t.states i Waiting }

-- an unsettled move between two classes has its last state
abbrev pub settled : ℕ → MoveState → (to from : ℕ) → Table → Table
settled i state to from t = record t {
  states = slice_set t.states i state;
  unsettled = lowered from (lowered to t.unsettled);
}

-- a waiting move is to be tried again
abbrev pub tried_again : Table → ℕ → Table
tried_again t i =
    if is_waiting (state_at t i) then record t {
      states = slice_set t.states i Ready;
      ready = t.ready ++ i ∷ [];
    }
    else t

-- so are those of a class
abbrev pub woken : ℕ → Table → Table
woken x t = fold tried_again t (list_at t.touching x)

-- one class has the moves of another
abbrev pub joined : (kept gone : ℕ) → Table → Table
joined kept gone t = record t {
  touching = poured kept gone t.touching;
  unsettled = moved_sum kept gone t.unsettled;
}

-- what is kept of each table: places are those of moves, and ends are nodes
pub record IsTable (t : Table) : Type 0 where
  pub few : length t.moves < 2 ^ 32
  pub states_sized : length t.states ≡ length t.moves
  pub unsettled_sized : length t.unsettled ≡ length t.touching
  pub ends_below :
      All (λ m. (m.to < length t.touching) × (m.from < length t.touching)) t.moves
  pub ready_below : All (λ i. i < length t.moves) t.ready
  pub touching_below : (x : ℕ) → All (λ i. i < length t.moves) (list_at t.touching x)
  pub few_unsettled : sum t.unsettled ≤ 2 * length t.moves
