-- What private functions answer, and what they leave of the shelf and of the streams.
use Rattle.std.specs.Prelude.{ℕ, ◌≡◌, List, []}
use Rattle.tg_base.specs.declared.outside.ShelfFault.{ShelfFault}
use Rattle.tg_base.specs.declared.outside.ShelfFault.TheVariants.{Failed, Memory}
use Rattle.tg_driver.specs.declared.answers.Answer.{Answer}
use Rattle.tg_driver.specs.declared.answers.Answer.TheVariants.{Unreadable, OutOfMemory, Written}
use Rattle.tg_driver.specs.declared.answers.Answer.TheVariants.{Unwritten, Finished, Faulty}
use Rattle.tg_driver.specs.declared.answers.Answer.TheVariants.{BadLine}
use Rattle.tg_driver.specs.Calls.{Stream, Stays, Streams, Untouched, Shelved}
use Rattle.tg_isa.specs.declared.images.Image.{Image}
use Rattle.tg_driver.specs.Runs.{RunRelation}
use Rattle.tg_command.specs.declared.modes.Mode.{Mode}
use Rattle.tg_command.specs.declared.modes.Mode.TheVariants.{Run, Exec, Gen}
use Rattle.tg_driver.specs.Telling.{IsTold}
use Rattle.tg_driver.specs.FormatMode.{IsUntypedFault}
use Rattle.tg_driver.specs.LargePrograms.{IsBareFaultOf}
use Rattle.tg_base.specs.Files.{IsFilePrefix}
use Rattle.tg_machine_state.specs.declared.ends.RunEnd.{RunEnd}
use Rattle.tg_driver.specs.GenMode.{SumsUp}
use Rattle.tg_driver.specs.MeantRuns.{RunsAssembled}

-- the answer where the shelf gave no bytes
abbrev pub unread_answer : ShelfFault → Answer
unread_answer Failed = Unreadable
unread_answer Memory = OutOfMemory

-- the answer is due; or memory ran out, of which this is said
abbrev pub OrMemory : (wanting : Type 0) (due : Answer → Type 0) → Answer → Type 0
OrMemory wanting due OutOfMemory = wanting
OrMemory wanting due answer = due answer

-- The streams were touched: a run has ended, or a text or a summary was written, whole or in part.
abbrev pub HasStarted : Answer → Type 0
HasStarted (Finished end) = Unit {0}
HasStarted Written = Unit {0}
HasStarted Unwritten = Unit {0}
HasStarted answer = ⊥

-- before that a sink is as it was
abbrev pub StaysBeforeStart : {T : Type 0} → Stream T → Answer → Type 0
StaysBeforeStart out (Finished end) = Unit {0}
StaysBeforeStart out Written = Unit {0}
StaysBeforeStart out Unwritten = Unit {0}
StaysBeforeStart out answer = Stays out

-- the answer is the end of such a run; or that memory ran out for it, and nothing was touched
abbrev pub IsRunOrMemory :
    {I O : Type 0} → RunRelation → Streams I O → Image → (heap stack steps : ℕ) → Answer → Type 0
IsRunOrMemory runs s image heap stack steps (Finished end) = runs image heap stack steps end
IsRunOrMemory runs s image heap stack steps OutOfMemory = Untouched s
IsRunOrMemory runs s image heap stack steps _ = ⊥

-- what a mode left alone where memory ran out: the streams, and in `gen` the shelf
abbrev pub LeavesAlone : {H I O : Type 0} → Mode → Shelved H → Streams I O → Type 0
LeavesAlone mode shelf s = (mode ≡ Gen → shelf.after ≡ shelf.before) × Untouched s

-- all modes but `run` and `exec` read no input
abbrev pub ReadsNoInput : Mode → Type 0
ReadsNoInput Run = ⊥
ReadsNoInput Exec = ⊥
ReadsNoInput _ = Unit {0}

-- the line of an answer is a text of its own
abbrev pub IsFixed : Answer → Type 0
IsFixed (Faulty fault) = ⊥
IsFixed (BadLine rule line) = ⊥
IsFixed (Finished end) = ⊥
IsFixed answer = Unit {0}

-- nothing has run, and no text was written
abbrev pub IsBeforeStart : Answer → Type 0
IsBeforeStart (Finished end) = ⊥
IsBeforeStart Written = ⊥
IsBeforeStart Unwritten = ⊥
IsBeforeStart answer = Unit {0}

-- the answer is told as it is, or, before anything was read or written, as out of memory
pub data IsReported {E : Type 0} (err : Stream E) (reports : List ℕ)
    (answer : Answer) (explanation : List ℕ) (status : ℕ) : Type 0 where
  itself :
      IsTold err reports answer explanation status →
      IsReported err reports answer explanation status
  no_memory :
      IsBeforeStart answer →
      IsTold err [] OutOfMemory [] status →
      IsReported err reports answer explanation status

-- a source that is refused, but for no fault of types: that fault, or out of memory
abbrev pub IsRefusedUntyped : List ℕ → Answer → Type 0
IsRefusedUntyped text (Faulty fault) = IsUntypedFault text fault
IsRefusedUntyped text OutOfMemory = Unit {0}
IsRefusedUntyped text _ = ⊥

-- the image ran, ended in some way, and the summary of that was written
pub record SumsUpRun {O : Type 0} (out : Stream O) (functions source : ℕ)
    (image : Image) (heap stack steps : ℕ) (answer : Answer) : Type 0 where
  pub end : RunEnd
  pub sums_up : SumsUp out functions source answer image heap stack steps end

-- the answer is the end of such a run, or that memory ran out for it
abbrev pub EndsAssembled :
    (runs : RunRelation) (assembly : List ℕ) (heap stack steps : ℕ) → Answer → Type 0
EndsAssembled runs assembly heap stack steps (Finished end) =
    RunsAssembled runs assembly heap stack steps end
EndsAssembled runs assembly heap stack steps OutOfMemory = Unit {0}
EndsAssembled runs assembly heap stack steps _ = ⊥

-- the text is the one that the shelf gave of the file, and has the fault that is answered
abbrev pub GivesText :
    {H : Type 0} → Shelved H → (name : List ℕ) → Answer → (text : List ℕ) → Type 0
GivesText shelf name (Faulty fault) text =
    IsFilePrefix (shelf.files shelf.before) name 262145 text × IsBareFaultOf text fault
GivesText shelf name answer text = Unit {0}
