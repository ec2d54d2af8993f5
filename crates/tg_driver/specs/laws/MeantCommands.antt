-- What `build`, `bare`, `run` and `gen` do by the meaning of their source, where no count of faults
-- rose.
use Rattle.std.specs.Prelude.{ℕ, List, []}
use Rattle.std.specs.Io.KnownBytes.{Appends}
use Rattle.tg_machine_state.specs.declared.ends.RunEnd.{RunEnd}
use Rattle.tg_base.specs.PlainBytes.{PlainBytes}
use Rattle.tg_program_generator.specs.Generated.{generated}
use Rattle.tg_command.specs.declared.modes.Mode.{Mode}
use Rattle.tg_command.specs.declared.modes.Mode.TheVariants.{Build, Run, Gen, Bare}
use Rattle.tg_command.specs.Commands.{Asked}
use Rattle.tg_correctness.specs.Assemblies.{IsAsMeant}
use Rattle.tg_correctness.specs.Ends.{EndIsMeant}
use Rattle.tg_bare_compile_proof.specs.Assemblies.{BareIsAsMeant}
use Rattle.tg_driver.specs.declared.answers.Answer.{Answer}
use Rattle.tg_driver.specs.declared.answers.Answer.TheVariants.{Faulty, Written, Finished}
use Rattle.tg_driver.specs.Calls.{Stream, Streams, Call}
use Rattle.tg_driver.specs.Faults.{IsFaultOf}
use Rattle.tg_driver.specs.LargePrograms.{IsBareFaultOf}
use Rattle.tg_driver.specs.laws.Laws.{Gives}
use Rattle.tg_driver.specs.laws.MeantEnds.{EndsByMeaning, EndsOnInput, streams_until}

-- the output took an assembly text that does what the source means
pub record WritesAsMeant {O : Type 0} (out : Stream O) (text : List ℕ) : Type 0 where
  pub assembly : List ℕ
  pub meant : IsAsMeant text assembly
  pub writes : Appends (out.told out.before) (out.told out.after) assembly

-- `build` answers the first fault of its source, or writes what does what the source means
abbrev pub BuildsByMeaning : {O : Type 0} → Stream O → (text : List ℕ) → Answer → Type 0
BuildsByMeaning out text (Faulty fault) = IsFaultOf text fault
BuildsByMeaning out text Written = WritesAsMeant out text
BuildsByMeaning out text _ = ⊥

-- the output took one that does so on the machine with delayed branches
pub record WritesForBare {O : Type 0} (out : Stream O) (text : List ℕ) : Type 0 where
  pub assembly : List ℕ
  pub meant : BareIsAsMeant text assembly
  pub writes : Appends (out.told out.before) (out.told out.after) assembly

-- `bare` answers the first fault of its source, or that its program is too large, or writes what
-- does there what the source means
abbrev pub DelaysByMeaning : {O : Type 0} → Stream O → (text : List ℕ) → Answer → Type 0
DelaysByMeaning out text (Faulty fault) = IsBareFaultOf text fault
DelaysByMeaning out text Written = WritesForBare out text
DelaysByMeaning out text _ = ⊥

-- `run` answers the first fault of its source, or ends by the meaning of the source on the bytes of
-- its input
abbrev pub RunsByMeaning :
    {I O : Type 0} → Streams I O → Asked → (text : List ℕ) → Answer → Type 0
RunsByMeaning s asked text (Faulty fault) = IsFaultOf text fault
RunsByMeaning s asked text (Finished end) =
    EndsOnInput EndIsMeant s text asked.heap asked.stack asked.steps end
RunsByMeaning s asked text _ = ⊥

-- before its summary, `gen` ends by the meaning of the source that it generates, on no input
pub record EndsGeneratedByMeaning {O : Type 0} (out : Stream O)
    (asked : Asked) (end : RunEnd) : Type 0 where
  pub input : PlainBytes
  pub between : O
  pub meant :
      EndsByMeaning EndIsMeant (streams_until out input between) (generated asked.number)
      asked.heap asked.stack asked.steps end []

abbrev pub GeneratesByMeaning : {O : Type 0} → Stream O → Asked → Answer → Type 0
GeneratesByMeaning out asked (Finished end) = EndsGeneratedByMeaning out asked end
GeneratesByMeaning out asked _ = ⊥

-- the modes that compile a source and write or run what comes of it
abbrev pub ByMeaning :
    {I O : Type 0} → Streams I O → Mode → Asked → (text : List ℕ) → Answer → Type 0
ByMeaning s Build asked text answer = BuildsByMeaning s.out text answer
ByMeaning s Bare asked text answer = DelaysByMeaning s.out text answer
ByMeaning s Run asked text answer = RunsByMeaning s asked text answer
ByMeaning s Gen asked text answer = GeneratesByMeaning s.out asked answer
ByMeaning s _ asked text answer = Unit {0}

-- the status, the reports, the line and the explanation are those of an answer that is so
pub record DoesAsMeant {H I O E : Type 0} (c : Call H I O E)
    (status : ℕ) (asked : Asked) (text : List ℕ) : Type 0 where
  pub answer : Answer
  pub reports : List ℕ
  pub explanation : List ℕ
  pub means : ByMeaning c.streams asked.mode asked text answer
  pub gives : Gives c status reports answer explanation
