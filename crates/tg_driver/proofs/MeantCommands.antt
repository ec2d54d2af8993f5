-- Good words for a file that is there, with no fault of a count, are answered by the meaning of the source, or as out of memory.
use Rattle.std.proofs.Common.{ℕ, ◌≡◌, ◌⊎◌, inl, inr, Bool, true, List, [], Option, Some, None, take, refl, sym, subst, arith}
use Rattle.std.specs.Io.KnownBytes.{Appends}
use Rattle.tg_machine_state.specs.declared.ends.RunEnd.TheVariants.{WriteFault}
use Rattle.tg_command.specs.declared.modes.Mode.{Mode}
use Rattle.tg_command.specs.declared.modes.Mode.TheVariants.{Check, Build, Run, Exec, Alloc, Show, Gen, Format, Bare}
use Rattle.tg_command.specs.Counts.{IsWithin, GivesCount, heap_limits, stack_limits}
use Rattle.tg_command.specs.Commands.{Asked, Ask}
use Rattle.tg_command.specs.Flagged.{flags_fit}
use Rattle.tg_correctness.specs.Images.{AreSizes}
use Rattle.tg_correctness.specs.Assemblies.{IsAsMeant}
use Rattle.tg_compile_proof.specs.laws.TextLaws.{EndedIsMeant, RunningIsMeant}
use Rattle.tg_driver.specs.declared.answers.Answer.{Answer}
use Rattle.tg_driver.specs.declared.answers.Answer.TheVariants.{Faulty, Written, Unwritten, Finished, OutOfMemory}
use Rattle.tg_driver.specs.Calls.{Stream, stream_of, HasFailed, Streams, Call, Takes, nothing, all, part}
use Rattle.tg_driver.specs.Runs.{HasRun, HasRunBy}
use Rattle.tg_driver.specs.Watching.{if_watched}
use Rattle.tg_driver.specs.Writing.{IsWritten}
use Rattle.tg_driver.specs.BareMode.{IsMeantForBare, IsBareWritten}
use Rattle.tg_driver.specs.laws.AsMeant.{IsRun}
use Rattle.tg_driver.specs.laws.AsMeant.{IsGenerated}
use Rattle.tg_driver.specs.Modes.{texts_meant}
use Rattle.tg_driver.specs.laws.OfTexts.{most_of}
use Rattle.tg_driver.specs.laws.AsMeant.{InMode}
use Rattle.tg_driver.specs.Answered.{told_runs, Answers}
use Rattle.tg_driver.specs.laws.Laws.{ReadsFile, IsGood, Gives}
use Rattle.tg_driver.specs.laws.MeantCommands.{BuildsByMeaning, DelaysByMeaning, RunsByMeaning, GeneratesByMeaning, ByMeaning, DoesAsMeant}
use Rattle.tg_driver.proofs.Complete.{to_text, given, in_its_mode, none_taken, passed, rose_later, write_failed}
use Rattle.tg_driver.proofs.ExactRuns.{run_of}
use Rattle.tg_driver.proofs.FlagLemmas.{plain_in_run}
use Rattle.tg_driver.proofs.Watched.{in_mode_more}
use Rattle.tg_driver.proofs.MeantEnds.{runs_are_meant, generated_are_meant}

-- the sizes that the words ask for
heap_default : IsWithin heap_limits heap_limits.default
heap_default = record { least = omega arith; most = omega arith; whole = refl }

stack_default : IsWithin stack_limits stack_limits.default
stack_default = record { least = omega arith; most = omega arith; whole = refl }

in_heap : (o : Option (List ℕ)) (n : ℕ) → GivesCount heap_limits o n → IsWithin heap_limits n
in_heap None n g = let P : ℕ → Type 0 = λ k. IsWithin heap_limits k in subst P (sym g) heap_default
in_heap (Some text) n g = g.within

in_stack : (o : Option (List ℕ)) (n : ℕ) → GivesCount stack_limits o n → IsWithin stack_limits n
in_stack None n g = let P : ℕ → Type 0 = λ k. IsWithin stack_limits k in subst P (sym g) stack_default
in_stack (Some text) n g = g.within

sizes_of : (words : List (List ℕ)) (a : Asked) → Ask words a → AreSizes a.heap a.stack
sizes_of words a ask =
    let heap = in_heap _ a.heap ask.heap in
    let stack = in_stack _ a.stack ask.stack in
    record {
      heap_words = heap.whole;
      heap_most = heap.most;
      stack_words = stack.whole;
      stack_least = stack.least;
      stack_most = stack.most;
    }

-- what was written whole
whole : {O : Type 0} (out : Stream O) (due : List ℕ) → (HasFailed out → ⊥) → Takes out due Written Unwritten Written →
    Appends (out.told out.before) (out.told out.after) due
whole out due kept (nothing none is stays) = none_taken out due none stays
whole out due kept (all some is a) = a
whole out due kept (part is some f front) = absurd (kept f)

unwritten : {O : Type 0} (out : Stream O) (due : List ℕ) → (HasFailed out → ⊥) → Takes out due Written Unwritten Unwritten → ⊥
unwritten out due kept (nothing none is stays) = absurd (cc)
unwritten out due kept (all some is a) = absurd (cc)
unwritten out due kept (part is some f front) = kept f

builds_so : {O : Type 0} (out : Stream O) (text : List ℕ) (answer : Answer) → (HasFailed out → ⊥) →
    IsWritten out IsAsMeant text answer → BuildsByMeaning out text answer
builds_so out text (Faulty f) kept h = h
builds_so out text Written kept h = record { assembly = h.written; meant = h.is_of; writes = whole out h.written kept h.takes }
builds_so out text Unwritten kept h = unwritten out h.written kept h.takes
builds_so out text _ kept h = absurd h

delays_so : {O : Type 0} (out : Stream O) (text : List ℕ) (answer : Answer) → (HasFailed out → ⊥) →
    IsBareWritten out IsMeantForBare text answer → DelaysByMeaning out text answer
delays_so out text (Faulty f) kept h = h
delays_so out text Written kept h = record { assembly = h.written; meant = h.is_of.meant; writes = whole out h.written kept h.takes }
delays_so out text Unwritten kept h = unwritten out h.written kept h.takes
delays_so out text _ kept h = absurd h

module _ (ends : EndedIsMeant) (goes_on : RunningIsMeant) where
  runs_so : {I O : Type 0} (s : Streams I O) (a : Asked) (text : List ℕ) (answer : Answer) → AreSizes a.heap a.stack →
      (HasFailed s.input → ⊥) → (HasFailed s.out → ⊥) → IsRun (HasRun s) a text answer → RunsByMeaning s a text answer
  runs_so s a text (Faulty f) sizes r w h = h
  runs_so s a text (Finished end) sizes r w h =
      runs_are_meant ends goes_on s text a.heap a.stack a.steps end h sizes
      (λ d. r (h.ran.run.ran.read_cause d)) (λ d. w (h.ran.run.ran.write_cause d))
  runs_so s a text _ sizes r w h = absurd h

  generates_so : {O : Type 0} (out : Stream O) (a : Asked) (answer : Answer) → AreSizes a.heap a.stack → (HasFailed out → ⊥) →
      IsGenerated out a answer → GeneratesByMeaning out a answer
  generates_so out a answer sizes kept h =
      let sums = h.ends.ran.run in
      let other : h.end ≡ WriteFault → ⊥ = λ is. kept (write_failed out sums.between _ _ _ h.end answer is (sums.run.ran.write_cause is) sums.sums_up) in
      let last = passed (stream_of out.told out.faults sums.between out.after) _ _ _ h.end answer
      (λ f. kept (rose_later _ _ _ sums.run.ran.writes_later f)) other sums.sums_up in
      let P : Answer → Type 0 = λ x. GeneratesByMeaning out a x in
      subst P (sym last.finished) (record {
        input = sums.input;
        between = sums.between;
        meant = generated_are_meant ends goes_on out a.number _ a.heap a.stack a.steps answer h sizes other;
      })

  means : {H I O E : Type 0} (c : Call H I O E) (a : Asked) (file : List ℕ) (mode : Mode) (answer : Answer) → IsGood c a file →
      (ReadsFile mode → ReadsFile a.mode) → flags_fit mode a.flags ≡ true →
      InMode c.rule (HasRunBy c.streams a.flags.bare) mode c.shelf c.streams a answer →
      ByMeaning c.streams mode a (take (most_of mode) file) answer
  means c a file Check answer good reads fit h = tt
  means c a file Build answer good reads fit h = builds_so c.streams.out _ answer good.all_written
      (to_text c.shelf a.file 262145 _ file answer (good.there (reads tt)) good.readable h.2)
  means c a file Run answer good reads fit h =
      let P : Bool → Type 0 = λ bare. InMode c.rule (HasRunBy c.streams bare) Run c.shelf c.streams a answer in
      let plain = subst P (plain_in_run a.flags fit) h in
      runs_so c.streams a _ answer (sizes_of c.words a good.ask) good.all_read good.all_written
      (to_text c.shelf a.file 262145 _ file answer (good.there (reads tt)) good.readable plain.1)
  means c a file Exec answer good reads fit h = tt
  means c a file Alloc answer good reads fit h = tt
  means c a file Show answer good reads fit h = tt
  means c a file Format answer good reads fit h = tt
  means c a file Bare answer good reads fit h = delays_so c.streams.out _ answer good.all_written
      (to_text c.shelf a.file 262145 _ file answer (good.there (reads tt)) good.readable h.2)
  means c a file Gen answer good reads fit h = generates_so c.streams.out a answer (sizes_of c.words a good.ask) good.all_written h.3

  pub does_as_meant : {H I O E : Type 0} (c : Call H I O E) (status : ℕ) (a : Asked) (file : List ℕ) → Answers c status →
      IsGood c a file → DoesAsMeant c status a (take (most_of a.mode) file) ⊎ Gives c status [] OutOfMemory []
  does_as_meant c status a file h good = by (in_its_mode c status a file h good)
    where
      by : InMode c.rule (told_runs c h.reports a) a.mode c.shelf c.streams a h.answer ⊎ Gives c status [] OutOfMemory [] →
          DoesAsMeant c status a (take (most_of a.mode) file) ⊎ Gives c status [] OutOfMemory []
      by (inr wanting) = inr wanting
      by (inl told) =
          let in_mode = in_mode_more (texts_meant c.rule) (told_runs c h.reports a) (HasRunBy c.streams a.flags.bare) a.mode c.shelf c.streams a h.answer
          (λ image end is. run_of c.streams a.flags.bare (if_watched a.flags c.reporters) h.reports image a.heap a.stack a.steps end) told in
          inl (record {
            answer = h.answer;
            reports = h.reports;
            explanation = h.explanation;
            means = means c a file a.mode h.answer good (λ r. r) good.ask.flags.fit in_mode;
            gives = given c status a file h good;
          })
