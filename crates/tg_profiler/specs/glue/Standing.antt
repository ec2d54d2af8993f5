-- What each kind of watcher keeps of the fetches that it stands for.
use Rattle.std.specs.Prelude.{ℕ, ◌≡◌, ◌<◌, ◌≤◌, ◌+◌, ◌*◌, ◌%◌, List, [], length, slice_get, Bool}
use Rattle.std.specs.Prelude.{slice_index, slice_index_or, Some}
use Rattle.tg_machine_state.specs.State.{code_base}
use Rattle.tg_machine.specs.declared.fetches.Seen.{Seen}
use Rattle.tg_profiler.specs.Reports.{counted_names, count_of, is_seen, covered}

-- Profile: how many there were, and a count for each name
pub record Counts (steps : ℕ) (counts : List ℕ) (s : List Seen) (code : ℕ) : Type 0 where
  pub all : steps ≡ length s
  pub each : (k : ℕ) → k < 43 →
      slice_index counts k ≡ count_of (slice_index_or counted_names k []) s

-- Coverage: a flag for each word of the code, and how many are set
pub record Covers (flags : List Bool) (count : ℕ) (s : List Seen) (code : ℕ) : Type 0 where
  pub words : length flags ≡ code
  pub each : (k : ℕ) → k < code → slice_get flags k ≡ Some (is_seen (code_base + 4 * k) s)
  pub all : count ≡ covered s

-- Trace: how many there were, and the last 16, each at its number modulo 16
pub record Holds (ring : List Seen) (count : ℕ) (s : List Seen) (code : ℕ) : Type 0 where
  pub all : count ≡ length s
  pub each : (k : ℕ) → k < length s → length s ≤ k + 16 →
      slice_get ring (k % 16) ≡ slice_get s k
