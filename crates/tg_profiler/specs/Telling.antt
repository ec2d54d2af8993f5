-- What telling the text of reports leaves of a sink.
use Rattle.std.specs.Prelude.{ℕ, ◌≡◌, ◌<◌, List, length, All, Option, Result, IfErr}
use Rattle.tg_base.specs.Causes.{HasCause}
use Rattle.tg_base.specs.Writes.{TakesAll}
use Rattle.tg_machine.specs.declared.fetches.Seen.{Seen}

-- watchers all stand for one list
abbrev pub StandForOne : {W : Type 0} (stands : W → List Seen → ℕ → Type 0) → List W → Type 0
StandForOne stands watchers =
    (seen : List Seen) × (code : ℕ) × All (λ w. stands w seen code) watchers

-- A text was told: the sink took it whole, or a write failed, and it took a prefix. Where the text
-- is empty no write failed, and the sink is as it was.
pub record HasTold {S T E : Type 0} (taken : S → Option (List ℕ)) (faults : S → ℕ) (old new : S)
    (result : Result T E) (text : List ℕ) : Type 0 where
  pub bytes : TakesAll (taken old) (taken new) result text
  pub cause : HasCause (faults old) (faults new) result
  pub some : IfErr result (λ _. 0 < length text)
  pub empty : length text ≡ 0 → new ≡ old
