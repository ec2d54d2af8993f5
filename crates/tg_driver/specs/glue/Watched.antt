-- Runs that watchers see, and what these tell of them.
use Rattle.std.specs.Prelude.{ℕ, ◌≡◌, Bool, true, false, List, [], length, map, All}
use Rattle.tg_machine_state.specs.declared.ends.RunEnd.{RunEnd}
use Rattle.tg_isa.specs.declared.images.Image.{Image}
use Rattle.tg_machine.specs.declared.fetches.Seen.{Seen}
use Rattle.tg_profiler.specs.Told.{reports_text}
use Rattle.tg_profiler.specs.Watching.{Report}
use Rattle.tg_profiler.specs.Watchers.{HaveSeen}
use Rattle.tg_driver.specs.declared.answers.Answer.{Answer}
use Rattle.tg_driver.specs.declared.answers.Answer.TheVariants.{Finished}
use Rattle.tg_driver.specs.Calls.{Streams}
use Rattle.tg_driver.specs.Runs.{RunRelation, HasRun, HasBareRun}
use Rattle.tg_driver.specs.Watching.{HasToldRun, HasFetched}

-- such a run is a run
abbrev pub run_in :
    {I O : Type 0} (s : Streams I O) (reporters : List Report) (reports : List ℕ)
    (image : Image) (heap stack steps : ℕ) (end : RunEnd) →
    HasToldRun s reporters reports image heap stack steps end → HasRun s image heap stack steps end
run_in s reporters reports image heap stack steps end h =
    record { after = h.fetched.after; ran = h.fetched.watched.simulation }

-- the machine ran so, and these watchers saw it: they stand for its fetches
pub record HasWatchedRun {W I O : Type 0} (stands : W → List Seen → ℕ → Type 0)
    (report : W → Report) (old new : List W) (s : Streams I O)
    (image : Image) (heap stack steps : ℕ) (end : RunEnd) : Type 0 where
  pub seen : List Seen
  pub fetched : HasFetched s image heap stack steps end seen
  pub have_seen : HaveSeen stands report old new seen (length image.code)

-- the machine with delayed branches ran so, which none of these watchers saw
pub record HasUnseenRun {W I O : Type 0} (old new : List W) (s : Streams I O)
    (image : Image) (heap stack steps : ℕ) (end : RunEnd) : Type 0 where
  pub run : HasBareRun s image heap stack steps end
  pub same : new ≡ old

-- the machine that the flag asks for ran so before these watchers
abbrev pub HasWatchedRunBy :
    {W I O : Type 0} → (stands : W → List Seen → ℕ → Type 0) (report : W → Report)
    (bare : Bool) (old new : List W) → Streams I O → RunRelation
HasWatchedRunBy stands report true old new s = HasUnseenRun old new s
HasWatchedRunBy stands report false old new s = HasWatchedRun stands report old new s

-- watchers that all stand for some fetches tell these reports of them
pub record Tell {W : Type 0} (stands : W → List Seen → ℕ → Type 0) (report : W → Report)
    (watchers : List W) (reports : List ℕ) : Type 0 where
  pub seen : List Seen
  pub code : ℕ
  pub stand : All (λ w. stands w seen code) watchers
  pub reports_are : reports ≡ reports_text (map report watchers) seen code

-- what they tell after an answer
abbrev pub TellAfter :
    {W : Type 0} (stands : W → List Seen → ℕ → Type 0) (report : W → Report) →
    List W → Answer → (reports : List ℕ) → Type 0
TellAfter stands report watchers (Finished end) reports = Tell stands report watchers reports
TellAfter stands report watchers answer reports = reports ≡ []
