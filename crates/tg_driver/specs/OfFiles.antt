-- Answers to a file.
use Rattle.std.specs.Prelude.{ℕ, ◌≡◌, List}
use Rattle.tg_base.specs.Files.{IsFilePrefix}
use Rattle.tg_driver.specs.declared.answers.Answer.{Answer}
use Rattle.tg_driver.specs.declared.answers.Answer.TheVariants.{Unreadable, Written, Unwritten}
use Rattle.tg_driver.specs.declared.answers.Answer.TheVariants.{Finished}
use Rattle.tg_driver.specs.Calls.{Shelved, IsUnread, Streams, Untouched}

-- The file can't be read; or the shelf gave so many of its first bytes, or all where it is shorter,
-- and the answer is due to them.
pub data OfFile {H : Type 0} (shelf : Shelved H) (name : List ℕ) (most : ℕ)
    (due : List ℕ → Answer → Type 0) (answer : Answer) : Type 0 where
  unreadable : answer ≡ Unreadable → IsUnread shelf name → OfFile shelf name most due answer
  read :
      (text : List ℕ) →
      IsFilePrefix (shelf.files shelf.before) name most text →
      due text answer →
      OfFile shelf name most due answer

-- until a run has ended, or a text or a summary was written, whole or in part, the streams are as
-- they were
abbrev pub UntouchedBeforeStart : {I O : Type 0} → Streams I O → Answer → Type 0
UntouchedBeforeStart s (Finished end) = Unit {0}
UntouchedBeforeStart s Written = Unit {0}
UntouchedBeforeStart s Unwritten = Unit {0}
UntouchedBeforeStart s answer = Untouched s
