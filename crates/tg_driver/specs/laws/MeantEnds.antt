-- What the end of a run says of the meaning of its source, in `run` and in `gen`, and in
-- `exec --bare` of a text that `bare` writes.
use Rattle.std.specs.Prelude.{ℕ, ◌≡◌, ◌≢◌, ◌%◌, List, [], ◌++◌}
use Rattle.std.specs.Io.KnownBytes.{Appends, Consumes}
use Rattle.tg_machine_state.specs.declared.ends.RunEnd.{RunEnd}
use Rattle.tg_machine_state.specs.declared.ends.RunEnd.TheVariants.{ReadFault, WriteFault}
use Rattle.tg_base.specs.PlainBytes.{PlainBytes}
use Rattle.tg_syntax.specs.declared.tokens.Spanned.{Spanned}
use Rattle.tg_syntax.specs.Tree.{Exp}
use Rattle.tg_simulation.specs.Bytes.{AreBytes}
use Rattle.tg_simulation.specs.Outcomes.{ended, Outcome}
use Rattle.tg_semantics.specs.Values.{Ending, normal, by_nil, by_index, by_division, by_chr}
use Rattle.tg_semantics.specs.Values.{by_substring, by_size, by_heap, by_overflow, by_exit}
use Rattle.tg_semantics.specs.MachineEnds.{machine_end}
use Rattle.tg_semantics.specs.Direct.{evaluate}
use Rattle.tg_isa.specs.Runs.{Execution, answers}
use Rattle.tg_correctness.specs.Images.{AreSizes}
use Rattle.tg_correctness.specs.Assemblies.{IsAsMeant}
use Rattle.tg_correctness.specs.Sources.{IsSourceOf}
use Rattle.tg_correctness.specs.Ends.{EndIsMeant}
use Rattle.tg_bare_compile_proof.specs.Assemblies.{BareIsAsMeant}
use Rattle.tg_bare_compile_proof.specs.Ends.{EndIsMeantWithin}
use Rattle.tg_bare_compile_proof.specs.Images.{slot_times}
use Rattle.tg_driver.specs.declared.answers.Answer.{Answer}
use Rattle.tg_driver.specs.Calls.{Stream, stream_of, Streams, streams_of}
use Rattle.tg_driver.specs.Endings.{end_status}
use Rattle.tg_driver.specs.GenMode.{no_input}
use Rattle.tg_driver.specs.MeantRuns.{EndsBy}
use Rattle.tg_driver.specs.Runs.{RunRelation, HasRun, HasBareRun}
use Rattle.tg_driver.specs.Writing.{TextRelation}
use Rattle.tg_driver.specs.laws.AsMeant.{SumsUpMeant}
use Rattle.tg_driver.specs.laws.Settled.{Tells}

-- what the end of a run of so many steps, and its world, are by what a program means
abbrev pub EndRelation : Type 1
EndRelation =
    (means : (turns : ℕ) → Outcome Ending) → (steps : ℕ) → RunEnd → Execution → Type 0

-- The text is a source of a program. What was written to the sink, what is left of these bytes, and
-- the end, are what so many steps for the program on these bytes may come to by its meaning. The
-- input gave what was read of them.
pub record EndsByMeaning {I O : Type 0} (IsMeant : EndRelation) (s : Streams I O)
    (text : List ℕ) (heap stack steps : ℕ) (end : RunEnd) (bytes : List ℕ) : Type 0 where
  pub names : List (List ℕ)
  pub tokens : List Spanned
  pub program : Exp
  pub source : IsSourceOf text names tokens program
  pub last : Execution
  pub writes : Appends (s.out.told s.out.before) (s.out.told s.out.after) last.output
  pub read : List ℕ
  pub left : List ℕ
  pub whole : bytes ≡ read ++ left
  pub gives : Consumes (s.input.told s.input.before) (s.input.told s.input.after) read
  pub leaves : last.input ≡ answers left
  pub meant : IsMeant (λ turns. evaluate names program bytes heap stack turns) steps end last

-- It ends so on the bytes of its input: those that the input tells, or some, where it tells none.
pub record EndsOnInput {I O : Type 0} (IsMeant : EndRelation) (s : Streams I O)
    (text : List ℕ) (heap stack steps : ℕ) (end : RunEnd) : Type 0 where
  pub bytes : List ℕ
  pub tells : Tells (s.input.told s.input.before) bytes
  pub ends : AreBytes bytes → EndsByMeaning IsMeant s text heap stack steps end bytes

-- Whatever the input tells, where no read or write ended the run of an assembly text that a source
-- may have, it ends by the meaning of the source.
abbrev pub RunsEndAsMeant :
    (IsMeant : EndRelation) (texts : TextRelation) {I O : Type 0} (s : Streams I O)
    (runs : RunRelation) → Type 0
RunsEndAsMeant IsMeant texts s runs =
    (text : List ℕ) (heap stack steps : ℕ) (end : RunEnd) →
    EndsBy texts runs text heap stack steps end →
    AreSizes heap stack → end ≢ ReadFault → end ≢ WriteFault →
    EndsOnInput IsMeant s text heap stack steps end

-- So does `run`,
abbrev pub RunsAreMeant : (I O : Type 0) → Type 0
RunsAreMeant I O = (s : Streams I O) → RunsEndAsMeant EndIsMeant IsAsMeant s (HasRun s)

-- and so does `exec --bare`, with four times the steps at their limit.
abbrev pub BareRunsAreMeant : (I O : Type 0) → Type 0
BareRunsAreMeant I O =
    (s : Streams I O) →
    RunsEndAsMeant (EndIsMeantWithin slot_times) BareIsAsMeant s (HasBareRun s)

-- the streams of a run in `gen`: an empty input, and the output before the summary
abbrev pub streams_until :
    {O : Type 0} → Stream O → (input : PlainBytes) → (between : O) → Streams PlainBytes O
streams_until out input between =
    streams_of (no_input input) (stream_of out.told out.faults out.before between)

-- And so does the run in `gen`, on its empty input, where no write ended it.
abbrev pub GeneratedAreMeant : (O : Type 0) → Type 0
GeneratedAreMeant O =
    (out : Stream O) (functions : ℕ) (text : List ℕ) (heap stack steps : ℕ) (answer : Answer)
    (g : SumsUpMeant out functions text heap stack steps answer) →
    AreSizes heap stack → g.end ≢ WriteFault →
    EndsByMeaning EndIsMeant (streams_until out g.ends.ran.run.input g.ends.ran.run.between)
    text heap stack steps g.end []

-- the status of each ending; an exit's is its code modulo 256
abbrev pub ending_status : Ending → ℕ
ending_status normal = 0
ending_status (by_exit code) = code % 256
ending_status by_nil = 101
ending_status by_index = 102
ending_status by_division = 103
ending_status by_chr = 104
ending_status by_substring = 105
ending_status by_size = 106
ending_status by_heap = 107
ending_status by_overflow = 110

-- Where evaluation of a source ends, the machine's end that stands for its ending has this status.
abbrev pub StatusesAreMeant : Type 0
StatusesAreMeant =
    (text : List ℕ) (names : List (List ℕ)) (tokens : List Spanned) (program : Exp) →
    IsSourceOf text names tokens program →
    (input : List ℕ) (heap stack turns : ℕ) (ending : Ending) →
    AreBytes input → AreSizes heap stack →
    (evaluate names program input heap stack turns).end ≡ ended ending →
    end_status (machine_end ending) ≡ ending_status ending
