-- What watchers stand for, and what their calls promise.
use Rattle.std.specs.Prelude.{ℕ, ◌≡◌, ◌<◌, ◌≤◌, ◌+◌, ◌*◌, ◌%◌, ◌^◌, List, [], ◌∷◌, ◌++◌, length}
use Rattle.std.specs.Prelude.{map, take, slice_get, All, Option, Some, None}
use Rattle.tg_machine_state.specs.State.{code_base}
use Rattle.tg_machine.specs.declared.fetches.Seen.{Seen}
use Rattle.tg_profiler.specs.Watching.{Report}

-- the place of a word of a code of so many words
pub record IsInCode (code place : ℕ) : Type 0 where
  pub above : code_base ≤ place
  pub below : place < code_base + 4 * code
  pub whole : place % 4 ≡ 0

-- a watcher stands for some list
abbrev pub StandsForSome : (stands : List Seen → ℕ → Type 0) → Type 0
StandsForSome stands = (s : List Seen) × (code : ℕ) × stands s code

-- it may see a fetch more: it stands for a list that isn't too long, over a code that has the place
pub record CanSee (stands : List Seen → ℕ → Type 0) (x : Seen) : Type 0 where
  pub seen : List Seen
  pub code : ℕ
  pub stood : stands seen code
  pub short : length seen < 2 ^ 63
  pub inside : IsInCode code x.place

-- it has seen a fetch more: from each list that it stood for, it stands for the list with the fetch
-- at its end
abbrev pub Sees : (old new : List Seen → ℕ → Type 0) → Seen → Type 0
Sees old new x =
    (s : List Seen) (code : ℕ) → old s code → length s < 2 ^ 63 → IsInCode code x.place →
    new (s ++ x ∷ []) code

-- so many bytes at the front are line `at`, or there is no such line
abbrev pub HasLine : (lines : List (List ℕ)) → (at : ℕ) → List ℕ → Option ℕ → Type 0
HasLine lines at into (Some size) =
    (slice_get lines at ≡ Some (take size into)) × (size ≤ length into)
HasLine lines at into None = length lines ≤ at

-- watchers after a run: as many as before, each in its place with its report, and each stands for
-- these fetches
pub record HaveSeen {W : Type 0} (stands : W → List Seen → ℕ → Type 0) (report : W → Report)
    (old new : List W) (seen : List Seen) (code : ℕ) : Type 0 where
  pub same : map report new ≡ map report old
  pub stand : All (λ w. stands w seen code) new

-- watchers may all see a fetch more
pub record CanAllSee {W : Type 0} (stands : W → List Seen → ℕ → Type 0) (old : List W)
    (x : Seen) : Type 0 where
  pub seen : List Seen
  pub code : ℕ
  pub stood : All (λ w. stands w seen code) old
  pub short : length seen < 2 ^ 63
  pub inside : IsInCode code x.place

-- they all have
pub record AllSee {W : Type 0} (stands : W → List Seen → ℕ → Type 0) (report : W → Report)
    (old new : List W) (x : Seen) : Type 0 where
  pub same : map report new ≡ map report old
  pub stand : (s : List Seen) (code : ℕ) → All (λ w. stands w s code) old →
      length s < 2 ^ 63 → IsInCode code x.place → All (λ w. stands w (s ++ x ∷ []) code) new

-- and where there was no fetch, they are as they were
abbrev pub HaveAllSeen : {W : Type 0} (stands : W → List Seen → ℕ → Type 0) (report : W → Report)
    (old new : List W) → Option Seen → Type 0
HaveAllSeen stands report old new (Some x) = AllSee stands report old new x
HaveAllSeen stands report old new None = new ≡ old
