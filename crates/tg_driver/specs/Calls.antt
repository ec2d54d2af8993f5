-- A call of the program: what it was made on, and what it left of the outside.
use Rattle.std.specs.Prelude.{ℕ, ◌≡◌, ◌<◌, List, [], length, Option}
use Rattle.std.specs.Io.KnownBytes.{Appends}
use Rattle.tg_base.specs.Causes.{Rose}
use Rattle.tg_base.specs.Files.{Files}
use Rattle.tg_base.specs.Writes.{TakesPrefix}
use Rattle.tg_irc_definition.specs.Policies.{Rule as SpillRule}
use Rattle.tg_profiler.specs.Watching.{Report}

-- a source or a sink: what it tells of its bytes, its count of faults, and itself before and after
pub record Stream (T : Type 0) : Type 0 where
  pub told : T → Option (List ℕ)
  pub faults : T → ℕ
  pub before : T
  pub after : T

abbrev pub stream_of :
    {T : Type 0} → (T → Option (List ℕ)) → (T → ℕ) → (before after : T) → Stream T
stream_of told faults before after =
    record { told = told; faults = faults; before = before; after = after }

-- it is as it was; its count of faults rose
abbrev pub Stays : {T : Type 0} → Stream T → Type 0
Stays s = s.after ≡ s.before

abbrev pub HasFailed : {T : Type 0} → Stream T → Type 0
HasFailed s = Rose (s.faults s.before) (s.faults s.after)

-- what a run reads from and writes to
pub record Streams (I O : Type 0) : Type 0 where
  pub input : Stream I
  pub out : Stream O

abbrev pub streams_of : {I O : Type 0} → Stream I → Stream O → Streams I O
streams_of input out = record { input = input; out = out }

abbrev pub Untouched : {I O : Type 0} → Streams I O → Type 0
Untouched s = Stays s.input × Stays s.out

-- the files: what the shelf tells of them, its count of faults for each name, and itself before and
-- after
pub record Shelved (H : Type 0) : Type 0 where
  pub files : H → Files
  pub faults : H → List ℕ → ℕ
  pub before : H
  pub after : H

abbrev pub shelf_of : {H : Type 0} → (H → Files) → (H → List ℕ → ℕ) → (before after : H) → Shelved H
shelf_of files faults before after =
    record { files = files; faults = faults; before = before; after = after }

-- a file can't be read: its count of faults rose
abbrev pub IsUnread : {H : Type 0} → Shelved H → (name : List ℕ) → Type 0
IsUnread h name = Rose (h.faults h.before name) (h.faults h.after name)

-- a call of the program: the rule of its policy, the reports of its watchers, its words, the files,
-- the streams of its run, and the error sink
pub record Call (H I O E : Type 0) : Type 0 where
  pub rule : SpillRule
  pub reporters : List Report
  pub words : List (List ℕ)
  pub shelf : Shelved H
  pub streams : Streams I O
  pub err : Stream E

abbrev pub call_of :
    {H I O E : Type 0} → SpillRule → List Report → List (List ℕ) →
    Shelved H → Stream I → Stream O → Stream E → Call H I O E
call_of rule reporters words shelf input out err = record {
  rule = rule;
  reporters = reporters;
  words = words;
  shelf = shelf;
  streams = streams_of input out;
  err = err;
}

-- Nothing was due, the sink is as it was, and this is the result; or it took the text that is due,
-- whole, with the same result; or a write failed, it took a prefix, and that is the result.
pub data Takes {T A : Type 0}
    (sink : Stream T) (due : List ℕ) (whole failed result : A) : Type 0 where
  nothing : due ≡ [] → result ≡ whole → Stays sink → Takes sink due whole failed result
  all :
      0 < length due →
      result ≡ whole →
      Appends (sink.told sink.before) (sink.told sink.after) due →
      Takes sink due whole failed result
  part :
      result ≡ failed →
      0 < length due →
      HasFailed sink →
      TakesPrefix (sink.told sink.before) (sink.told sink.after) due →
      Takes sink due whole failed result
