-- What a call leaves, by its answer, mode by mode.
use Rattle.std.specs.Prelude.{length}
use Rattle.std.proofs.Common.{ℕ, ◌≡◌, ◌≤◌, ◌+◌, ◌⊎◌, inl, inr, Bool, true, false, List, [], ◌++◌, refl, sym, ap, subst, ◌∙◌, append-nil, append_assoc, arith}
use Rattle.std.proofs.lemmas.Bool.Decides.{nat_tests}
use Rattle.std.specs.Io.KnownBytes.{Appends}
use Rattle.tg_base.specs.Causes.{Rose}
use Rattle.tg_base.specs.Files.{IsFilePrefix}
use Rattle.tg_machine_state.specs.State.{initial_machine}
use Rattle.tg_machine_state.specs.Services.{Writes}
use Rattle.tg_base.specs.Writes.{TakesPrefix}
use Rattle.tg_machine_state.specs.declared.ends.RunEnd.{RunEnd}
use Rattle.tg_machine_state.specs.declared.ends.RunEnd.TheVariants.{Exit, Break, ReadFault, WriteFault}
use Rattle.tg_isa.specs.declared.images.Image.{Image}
use Rattle.tg_isa.specs.Runs.{Execution, run}
use Rattle.tg_machine.specs.Ran.{Stops, still, ended, read_failed, write_failed, begun_on, standing}
use Rattle.tg_machine.proofs.Runs.{run_more}
use Rattle.tg_bare.specs.Delayed as delayed
use Rattle.tg_bare.specs.Delayed.{initial_bare}
use Rattle.tg_bare.specs.BareRuns.{BareExecution, run_bare, bare_begun}
use Rattle.tg_bare.specs.Ran as stopping
use Rattle.tg_bare.specs.Ran.{BareStops, bare_standing}
use Rattle.tg_bare.proofs.Runs as bare_runs
use Rattle.tg_program_generator.specs.Generated.{generated}
use Rattle.tg_command.specs.declared.modes.Mode.{Mode}
use Rattle.tg_command.specs.declared.modes.Mode.TheVariants.{Check, Build, Run, Exec, Alloc, Show, Gen, Format, Bare}
use Rattle.tg_command.specs.Commands.{Asked, Ask}
use Rattle.tg_command.specs.Flagged.{flags_fit}
use Rattle.tg_command.proofs.CommandLemmas.{asked_once}
use Rattle.tg_irc_definition.specs.Policies.{Rule as SpillRule}
use Rattle.tg_driver.specs.declared.answers.Answer.{Answer}
use Rattle.tg_driver.specs.declared.answers.Answer.TheVariants.{Usage, Faulty, BadLine, TooLong, Unreadable, OutOfMemory}
use Rattle.tg_driver.specs.declared.answers.Answer.TheVariants.{Accepted, Written, Unwritten, Finished}
use Rattle.tg_driver.specs.Calls.{Stream, stream_of, Streams, streams_of, Stays, HasFailed, Shelved, IsUnread, Call, Takes, nothing, all, part}
use Rattle.tg_driver.specs.OfFiles.{OfFile, unreadable, read}
use Rattle.tg_driver.specs.glue.PrivateCalls.{HasStarted}
use Rattle.tg_driver.specs.Statuses.{status_of}
use Rattle.tg_driver.specs.Endings.{end_status, break_status}
use Rattle.tg_driver.specs.Runs.{HasRun, HasRunBy}
use Rattle.tg_driver.specs.laws.Settled.{Tells, outcome_on, world_in, plain_progress}
use Rattle.tg_driver.specs.Watching.{if_watched}
use Rattle.tg_driver.specs.CheckMode.{IsChecked}
use Rattle.tg_driver.specs.Writing.{TextRelation, IsWritten}
use Rattle.tg_driver.specs.laws.AsMeant.{IsRun}
use Rattle.tg_driver.specs.ExecMode.{IsExecuted}
use Rattle.tg_driver.specs.GenMode.{no_input, summary}
use Rattle.tg_driver.specs.laws.AsMeant.{IsGenerated}
use Rattle.tg_driver.specs.FormatMode.{Formats, IsFormatted}
use Rattle.tg_driver.specs.BareMode.{IsMeantForBare, IsBareWritten}
use Rattle.tg_driver.specs.Modes.{texts_meant}
use Rattle.tg_driver.specs.glue.PrivateCalls.{ReadsNoInput}
use Rattle.tg_driver.specs.laws.OfTexts.{most_of}
use Rattle.tg_driver.specs.laws.AsMeant.{InMode}
use Rattle.tg_driver.specs.laws.Laws.{ReadsFile}
use Rattle.tg_driver.specs.Telling.{IsTold}
use Rattle.tg_driver.specs.Answered.{told_runs, usage, no_memory, asked, Answers}
use Rattle.tg_driver.specs.laws.AsMeant.{IsDue}
use Rattle.tg_driver.specs.laws.Safe.{LeavesUnread, IsFileUnread, IsImageOf, IsOutput, HasToWrite, WritesPrefix}
use Rattle.tg_driver.specs.laws.Safe.{IsCausedEnd, IsCaused, IsExit, SomeFailed, IsSafe}
use Rattle.tg_driver.proofs.AnswerLemmas.{left_alone, stays_in_gen}
use Rattle.tg_driver.proofs.ExactRuns.{read_cause, write_cause, run_of}
use Rattle.tg_driver.proofs.FlagLemmas.{plain_in_run}
use Rattle.tg_driver.proofs.ToldInputs.{on_input}
use Rattle.tg_driver.proofs.Watched.{due_more}
use Rattle.tg_driver.proofs.Complete.{none_taken, rose_later, no_read, Summed, cut, summed, summed_by}
use Rattle.tg_profiler.proofs.Pieces.{front_later}

-- a sink that took a text took a prefix of it
takes_front : {T A : Type 0} (sink : Stream T) (due : List ℕ) (whole failed result : A) → Takes sink due whole failed result →
    TakesPrefix (sink.told sink.before) (sink.told sink.after) due
takes_front sink due whole failed result (nothing none is stays) = ([], due, refl, none_taken sink [] refl stays)
takes_front sink due whole failed result (all some is a) = (due, [], sym (append-nil due), a)
takes_front sink due whole failed result (part is some f front) = front

-- where the run stopped, its output is what was written and a rest, of which nothing is left where no write failed
record Reached (n : ℕ) (output_after : ℕ → List ℕ) (end : RunEnd) (written : List ℕ) : Type 0 where
  made : ℕ
  within : made ≤ n
  rest : List ℕ
  output_is : output_after made ≡ written ++ rest
  whole : (end ≡ WriteFault → ⊥) → rest ≡ []

-- nothing is left of the output there
stopped : (n : ℕ) (output_after : ℕ → List ℕ) (end : RunEnd) (made : ℕ) (output front : List ℕ) → made ≤ n → output_after made ≡ output → front ≡ [] →
    Reached n output_after end (output ++ front)
stopped n output_after end made output front within is none = record {
  made = made;
  within = within;
  rest = [];
  output_is = is ∙ sym (append-nil output) ∙ sym (append-nil (output ++ [])) ∙ ap (λ f. (output ++ f) ++ []) (sym none);
  whole = λ _. refl;
}

module _ (n : ℕ) (w : Execution) (end : RunEnd) where
  reached : (last : Execution) (front : List ℕ) → Stops n w end last front → Reached n (λ made. (world_in (run made w)).output) end (last.output ++ front)
  reached last front (still q p f) = stopped n _ end n last.output front (omega arith) (ap (λ r. (world_in r).output) q) f
  reached last front (ended q f) = stopped n _ end n last.output front (omega arith) (ap (λ r. (world_in r).output) q) f
  reached last front (read_failed i l q p d f) = stopped n _ end i last.output front (omega (arith, l)) (ap (λ r. (world_in r).output) q) f
  reached last front (write_failed i rest l q p d) = record {
    made = i + 1;
    within = omega (arith, l);
    rest = rest;
    output_is = ap (λ r. (world_in r).output) (run_more i w last (Writes (front ++ rest) p.0) _ q p.1 refl)
        ∙ sym (append_assoc last.output front rest);
    whole = λ other. absurd (other d);
  }

-- and so on the machine with delayed branches
module _ (n : ℕ) (w : BareExecution) (end : RunEnd) where
  bare_reached : (last : BareExecution) (front : List ℕ) → BareStops n w end last front →
      Reached n (λ made. (world_in (plain_progress (run_bare made w))).output) end (last.output ++ front)
  bare_reached last front (stopping.still q p f) = stopped n _ end n last.output front (omega arith) (ap (λ r. (world_in (plain_progress r)).output) q) f
  bare_reached last front (stopping.ended q f) = stopped n _ end n last.output front (omega arith) (ap (λ r. (world_in (plain_progress r)).output) q) f
  bare_reached last front (stopping.read_failed i l q p d f) =
      stopped n _ end i last.output front (omega (arith, l)) (ap (λ r. (world_in (plain_progress r)).output) q) f
  bare_reached last front (stopping.write_failed i rest l q p d) = record {
    made = i + 1;
    within = omega (arith, l);
    rest = rest;
    output_is = ap (λ r. (world_in (plain_progress r)).output)
        (bare_runs.run_more i w last (delayed.Writes (front ++ rest) p.0) _ q p.1 refl) ∙ sym (append_assoc last.output front rest);
    whole = λ other. absurd (other d);
  }

-- a run in a mode: the bytes of its input, and what its output took
record Output {I O : Type 0} (s : Streams I O) (bare : Bool) (image : Image) (heap stack steps : ℕ) (end : RunEnd) : Type 0 where
  bytes : List ℕ
  tells : Tells (s.input.told s.input.before) bytes
  front : List ℕ
  takes : Appends (s.out.told s.out.before) (s.out.told s.out.after) front
  reached : Reached steps (λ made. (world_in (outcome_on bare image heap stack made bytes)).output) end front

outputs : {I O : Type 0} (s : Streams I O) (bare : Bool) (image : Image) (heap stack steps : ℕ) (end : RunEnd) →
    HasRunBy s bare image heap stack steps end → Output s bare image heap stack steps end
outputs s true image heap stack steps end h =
    let r = h.ran in
    let first = initial_bare image.code image.statics image.entry heap stack in
    let i = on_input s.input.told h.after.input_ended r.read
    (λ bytes left. BareStops steps (bare_begun first bytes) end (bare_standing r.last left r.output) r.front)
    s.input.before s.input.after r.stops r.are_bytes r.gives r.meets_end in
    record {
      bytes = i.bytes;
      tells = i.tells;
      front = r.output ++ r.front;
      takes = r.writes;
      reached = bare_reached steps (bare_begun first i.bytes) end (bare_standing r.last i.left r.output) r.front i.stops;
    }
outputs s false image heap stack steps end h =
    let r = h.ran in
    let first = initial_machine image.code image.statics image.entry heap stack in
    let i = on_input s.input.told h.after.input_ended r.read
    (λ bytes left. Stops steps (begun_on first bytes) end (standing r.last left r.output) r.front)
    s.input.before s.input.after r.stops r.are_bytes r.gives r.meets_end in
    record {
      bytes = i.bytes;
      tells = i.tells;
      front = r.output ++ r.front;
      takes = r.writes;
      reached = reached steps (begun_on first i.bytes) end (standing r.last i.left r.output) r.front i.stops;
    }

output_of : {I O : Type 0} (s : Streams I O) (bare : Bool) (mode : Mode) (a : Asked) (text : List ℕ) (image : Image) (end : RunEnd) →
    IsImageOf mode text image → (o : Output s bare image a.heap a.stack a.steps end) →
    IsOutput (s.input.told s.input.before) bare mode a text (o.front ++ o.reached.rest)
output_of s bare mode a text image end is o = record {
  image = image;
  is_of = is;
  input = o.bytes;
  tells = o.tells;
  made = o.reached.made;
  within = o.reached.within;
  written_is = sym o.reached.output_is;
}

-- a run's output, and what came of its summary
after_summary : {O : Type 0} (out : Stream O) (between : O) (functions source count : ℕ) (end : RunEnd) (answer : Answer) (front rest : List ℕ) →
    ((end ≡ WriteFault → ⊥) → rest ≡ []) → Appends (out.told out.before) (out.told between) front →
    Summed (stream_of out.told out.faults between out.after) functions source count end answer →
    TakesPrefix (out.told out.before) (out.told out.after) ((front ++ rest) ++ summary functions source count (end_status end))
after_summary {O} out between functions source count end answer front rest whole written (cut is stays answered) =
    let line = summary functions source count (end_status end) in
    let P : O → Type 0 = λ o. TakesPrefix (out.told out.before) (out.told o) ((front ++ rest) ++ line) in
    subst P (sym stays) (front, rest ++ line, append_assoc front rest line, written)
after_summary {O} out between functions source count end answer front rest whole written (summed other takes) =
    let line = summary functions source count (end_status end) in
    let later = stream_of out.told out.faults between out.after in
    let P : List ℕ → Type 0 = λ l. TakesPrefix (out.told out.before) (out.told out.after) (l ++ line) in
    subst P (sym (ap (λ r. front ++ r) (whole other) ∙ append-nil front))
    (front_later _ _ _ front line written (takes_front later line (Finished end) Unwritten answer takes))

-- what a mode wrote by an answer
record Wrote {H I O : Type 0} (rule : SpillRule) (mode : Mode) (shelf : Shelved H) (s : Streams I O) (a : Asked) : Type 0 where
  text : List ℕ
  reads : ReadsFile mode → IsFilePrefix (shelf.files shelf.before) a.file (most_of mode) text
  generates : mode ≡ Gen → text ≡ generated a.number
  written : List ℕ
  has_to : HasToWrite rule (s.input.told s.input.before) mode a text written
  takes : TakesPrefix (s.out.told s.out.before) (s.out.told s.out.after) written

-- an answer to a file that started is due to its text
of_file : {H : Type 0} (shelf : Shelved H) (name : List ℕ) (most : ℕ) (due : List ℕ → Answer → Type 0) (answer : Answer) {G : Type 0} →
    HasStarted answer → OfFile shelf name most due answer →
    ((text : List ℕ) → IsFilePrefix (shelf.files shelf.before) name most text → due text answer → G) → G
of_file shelf name most due answer started (unreadable is u) then = absurd (subst HasStarted is started)
of_file shelf name most due answer started (read text front h) then = then text front h

module _ {H I O : Type 0} (rule : SpillRule) (shelf : Shelved H) (s : Streams I O) (a : Asked) where
  -- a text of a source
  wrote_text : (mode : Mode) (writes : TextRelation) (answer : Answer) (text : List ℕ) → (mode ≡ Gen → ⊥) →
      ((written : List ℕ) → writes text written → HasToWrite rule (s.input.told s.input.before) mode a text written) →
      IsFilePrefix (shelf.files shelf.before) a.file (most_of mode) text → HasStarted answer → IsWritten s.out writes text answer → Wrote rule mode shelf s a
  wrote_text mode writes Written text other has front started h = record {
    text = text;
    reads = λ _. front;
    generates = λ is. absurd (other is);
    written = h.written;
    has_to = has h.written h.is_of;
    takes = takes_front s.out h.written Written Unwritten Written h.takes;
  }
  wrote_text mode writes Unwritten text other has front started h = record {
    text = text;
    reads = λ _. front;
    generates = λ is. absurd (other is);
    written = h.written;
    has_to = has h.written h.is_of;
    takes = takes_front s.out h.written Written Unwritten Unwritten h.takes;
  }
  wrote_text mode writes (Faulty f) text other has front started h = absurd started
  wrote_text mode writes _ text other has front started h = absurd h

  -- a run of an image
  wrote_run : (bare : Bool) (mode : Mode) (text : List ℕ) (image : Image) (end : RunEnd) → (mode ≡ Gen → ⊥) →
      ((written : List ℕ) → IsOutput (s.input.told s.input.before) bare mode a text written →
      HasToWrite rule (s.input.told s.input.before) mode a text written) →
      IsFilePrefix (shelf.files shelf.before) a.file (most_of mode) text → IsImageOf mode text image → HasRunBy s bare image a.heap a.stack a.steps end →
      Wrote rule mode shelf s a
  wrote_run bare mode text image end other has front is h =
      let o = outputs s bare image a.heap a.stack a.steps end h in
      record {
        text = text;
        reads = λ _. front;
        generates = λ gen. absurd (other gen);
        written = o.front ++ o.reached.rest;
        has_to = has _ (output_of s bare mode a text image end is o);
        takes = (o.front, o.reached.rest, refl, o.takes);
      }

  wrote_meant : (answer : Answer) (text : List ℕ) → IsFilePrefix (shelf.files shelf.before) a.file 262145 text → HasStarted answer →
      IsRun (HasRun s) a text answer → Wrote rule Run shelf s a
  wrote_meant (Finished end) text front started h =
      wrote_run false Run text h.ran.image end (λ is. absurd (cc)) (λ written o. o) front
      (record { assembly = h.assembly; meant = h.meant; assembles = h.ran.assembles }) h.ran.run
  wrote_meant (Faulty f) text front started h = absurd started
  wrote_meant _ text front started h = absurd h

  wrote_executed : (answer : Answer) (text : List ℕ) → IsFilePrefix (shelf.files shelf.before) a.file 67108865 text → HasStarted answer →
      IsExecuted (HasRunBy s a.flags.bare) a text answer → Wrote rule Exec shelf s a
  wrote_executed (Finished end) text front started h = wrote_run a.flags.bare Exec text h.image end (λ is. absurd (cc))
      (λ written o. o) front h.assembles h.run
  wrote_executed TooLong text front started h = absurd started
  wrote_executed (BadLine r n) text front started h = absurd started
  wrote_executed _ text front started h = absurd h

  -- a run on no input, and its summary
  wrote_summary : (answer : Answer) → IsGenerated s.out a answer → Wrote rule Gen shelf s a
  wrote_summary answer h =
      let sums = h.ends.ran.run in
      let t = streams_of (no_input sums.input) (stream_of s.out.told s.out.faults s.out.before sums.between) in
      let image = h.ends.ran.image in
      let o = outputs t false image a.heap a.stack a.steps h.end sums.run in
      let is : IsImageOf Gen (generated a.number) image =
      record { assembly = h.ends.assembly; meant = h.ends.meant; assembles = h.ends.ran.assembles } in
      let output = o.front ++ o.reached.rest in
      let line = summary a.number (length (generated a.number)) sums.run.after.written (end_status h.end) in
      record {
        text = generated a.number;
        reads = λ none. absurd none;
        generates = λ _. refl;
        written = output ++ line;
        has_to = record {
          output = output;
          is_output = output_of t false Gen a (generated a.number) image h.end is o;
          count = sums.run.after.written;
          status = end_status h.end;
          written_is = refl;
        };
        takes = after_summary s.out sums.between a.number (length (generated a.number)) sums.run.after.written h.end answer
            o.front o.reached.rest o.reached.whole o.takes
            (summed_by (stream_of s.out.told s.out.faults sums.between s.out.after) _ _ _ h.end answer sums.sums_up);
      }

  wrote : (mode : Mode) (answer : Answer) → flags_fit mode a.flags ≡ true → HasStarted answer →
      InMode rule (HasRunBy s a.flags.bare) mode shelf s a answer → Wrote rule mode shelf s a
  wrote Check answer fit started h = of_file shelf a.file 262145 IsChecked answer started h.1 (λ text front due. checked answer text started due)
    where
      checked : (answer : Answer) (text : List ℕ) → HasStarted answer → IsChecked text answer → Wrote rule Check shelf s a
      checked (Faulty f) text started h = absurd started
      checked Accepted text started h = absurd started
      checked _ text started h = absurd h
  wrote Build answer fit started h = of_file shelf a.file 262145 _ answer started h.2
      (λ text front due. wrote_text Build _ answer text (λ is. absurd (cc)) (λ written is. is) front started due)
  wrote Run answer fit started h =
      let P : Bool → Type 0 = λ bare. InMode rule (HasRunBy s bare) Run shelf s a answer in
      of_file shelf a.file 262145 _ answer started (subst P (plain_in_run a.flags fit) h).1
      (λ text front due. wrote_meant answer text front started due)
  wrote Exec answer fit started h = of_file shelf a.file 67108865 _ answer started h.1 (λ text front due. wrote_executed answer text front started due)
  wrote Alloc answer fit started h = of_file shelf a.file 262145 _ answer started h.2
      (λ text front due. wrote_text Alloc _ answer text (λ is. absurd (cc)) (λ written is. is) front started due)
  wrote Show answer fit started h = of_file shelf a.file 262145 _ answer started h.2
      (λ text front due. wrote_text Show _ answer text (λ is. absurd (cc)) (λ written is. is) front started due)
  wrote Gen answer fit started h = wrote_summary answer h.3
  wrote Format answer fit started h = of_file shelf a.file 262145 _ answer started h.2 (λ text front due. formatted answer text front started due)
    where
      formatted : (answer : Answer) (text : List ℕ) → IsFilePrefix (shelf.files shelf.before) a.file 262145 text → HasStarted answer →
          IsFormatted s.out text answer → Wrote rule Format shelf s a
      formatted Written text front started h = wrote_text Format Formats Written text (λ is. absurd (cc)) (λ written is. is) front started h
      formatted Unwritten text front started h = wrote_text Format Formats Unwritten text (λ is. absurd (cc)) (λ written is. is) front started h
      formatted (Faulty f) text front started h = absurd started
      formatted _ text front started h = absurd h
  wrote Bare answer fit started h = of_file shelf a.file 262145 _ answer started h.2 (λ text front due. delayed_text answer text front started due)
    where
      delayed_text : (answer : Answer) (text : List ℕ) → IsFilePrefix (shelf.files shelf.before) a.file 262145 text → HasStarted answer →
          IsBareWritten s.out IsMeantForBare text answer → Wrote rule Bare shelf s a
      delayed_text Written text front started h = wrote_text Bare IsMeantForBare Written text (λ is. absurd (cc)) (λ written is. is) front started h
      delayed_text Unwritten text front started h = wrote_text Bare IsMeantForBare Unwritten text (λ is. absurd (cc)) (λ written is. is) front started h
      delayed_text (Faulty f) text front started h = absurd started
      delayed_text _ text front started h = absurd h

-- what failed, by its count
caused_end : {I O : Type 0} (s : Streams I O) (bare : Bool) (image : Image) (heap stack steps : ℕ) (end : RunEnd) →
    HasRunBy s bare image heap stack steps end → IsCausedEnd s end
caused_end s bare image heap stack steps ReadFault h = read_cause s bare image heap stack steps ReadFault h refl
caused_end s bare image heap stack steps WriteFault h = write_cause s bare image heap stack steps WriteFault h refl
caused_end s bare image heap stack steps _ h = tt

failed_text : {O : Type 0} (out : Stream O) (due : List ℕ) → Takes out due Written Unwritten Unwritten → HasFailed out
failed_text out due (nothing none is stays) = absurd (cc)
failed_text out due (all some is a) = absurd (cc)
failed_text out due (part is some f front) = f

caused_text : {I O : Type 0} (s : Streams I O) (writes : TextRelation) (text : List ℕ) (answer : Answer) →
    IsWritten s.out writes text answer → IsCaused s answer
caused_text s writes text Unwritten h = failed_text s.out h.written h.takes
caused_text s writes text (Finished end) h = absurd h
caused_text s writes text _ h = tt

caused_run : {I O : Type 0} (s : Streams I O) (bare : Bool) (a : Asked) (text : List ℕ) (answer : Answer) → IsRun (HasRunBy s bare) a text answer →
    IsCaused s answer
caused_run s bare a text Unwritten h = absurd h
caused_run s bare a text (Finished end) h = caused_end s bare h.ran.image a.heap a.stack a.steps end h.ran.run
caused_run s bare a text _ h = tt

caused_exec : {I O : Type 0} (s : Streams I O) (bare : Bool) (a : Asked) (text : List ℕ) (answer : Answer) →
    IsExecuted (HasRunBy s bare) a text answer → IsCaused s answer
caused_exec s bare a text Unwritten h = absurd h
caused_exec s bare a text (Finished end) h = caused_end s bare h.image a.heap a.stack a.steps end h.run
caused_exec s bare a text _ h = tt

caused_check : {I O : Type 0} (s : Streams I O) (text : List ℕ) (answer : Answer) → IsChecked text answer → IsCaused s answer
caused_check s text Unwritten h = absurd h
caused_check s text (Finished end) h = absurd h
caused_check s text _ h = tt

caused_format : {I O : Type 0} (s : Streams I O) (text : List ℕ) (answer : Answer) → IsFormatted s.out text answer → IsCaused s answer
caused_format s text Unwritten h = failed_text s.out h.written h.takes
caused_format s text (Finished end) h = absurd h
caused_format s text _ h = tt

caused_bare : {I O : Type 0} (s : Streams I O) (text : List ℕ) (answer : Answer) → IsBareWritten s.out IsMeantForBare text answer → IsCaused s answer
caused_bare s text Unwritten h = failed_text s.out h.written h.takes
caused_bare s text (Finished end) h = absurd h
caused_bare s text _ h = tt

-- of a run on no input none is a read
own_end : {I O : Type 0} (s : Streams I O) (end : RunEnd) → (end ≡ ReadFault → ⊥) → (end ≡ WriteFault → ⊥) → IsCausedEnd s end
own_end s ReadFault unread other = absurd (unread refl)
own_end s WriteFault unread other = absurd (other refl)
own_end s _ unread other = tt

caused_taken : {I O : Type 0} (s : Streams I O) (between : O) (due : List ℕ) (end : RunEnd) (answer : Answer) → (end ≡ ReadFault → ⊥) →
    (end ≡ WriteFault → ⊥) → s.out.faults s.out.before ≤ s.out.faults between →
    Takes (stream_of s.out.told s.out.faults between s.out.after) due (Finished end) Unwritten answer → IsCaused s answer
caused_taken s between due end answer unread other later (nothing none is stays) = subst (IsCaused s) (sym is) (own_end s end unread other)
caused_taken s between due end answer unread other later (all some is whole) = subst (IsCaused s) (sym is) (own_end s end unread other)
caused_taken s between due end answer unread other later (part is some f front) = subst (IsCaused s) (sym is) (rose_later _ _ _ later f)

caused_summary : {I O : Type 0} (s : Streams I O) (between : O) (functions source count : ℕ) (end : RunEnd) (answer : Answer) →
    (end ≡ ReadFault → ⊥) → (end ≡ WriteFault → Rose (s.out.faults s.out.before) (s.out.faults between)) →
    s.out.faults s.out.before ≤ s.out.faults between →
    Summed (stream_of s.out.told s.out.faults between s.out.after) functions source count end answer → IsCaused s answer
caused_summary {I} {O} s between functions source count end answer unread written later (cut is stays answered) =
    let P : O → Type 0 = λ o. Rose (s.out.faults s.out.before) (s.out.faults o) in
    subst (IsCaused s) (sym answered) (subst P (sym stays) (written is))
caused_summary s between functions source count end answer unread written later (summed other takes) =
    caused_taken s between _ end answer unread other later takes

caused_gen : {I O : Type 0} (s : Streams I O) (a : Asked) (answer : Answer) → IsGenerated s.out a answer → IsCaused s answer
caused_gen s a answer h =
    let sums = h.ends.ran.run in
    caused_summary s sums.between _ _ _ h.end answer (λ e. no_read (sums.run.ran.read_cause e)) sums.run.ran.write_cause sums.run.ran.writes_later
    (summed_by (stream_of s.out.told s.out.faults sums.between s.out.after) _ _ _ h.end answer sums.sums_up)

-- an answer to a file is none of the text, or due to it
for_file : {H : Type 0} (shelf : Shelved H) (name : List ℕ) (most : ℕ) (due : List ℕ → Answer → Type 0) (answer : Answer) (G : Answer → Type 0) →
    G Unreadable → OfFile shelf name most due answer → ((text : List ℕ) → due text answer → G answer) → G answer
for_file shelf name most due answer G none (unreadable is u) then = subst G (sym is) none
for_file shelf name most due answer G none (read text front h) then = then text h

caused : {H I O : Type 0} (rule : SpillRule) (mode : Mode) (shelf : Shelved H) (s : Streams I O) (a : Asked) (answer : Answer) →
    InMode rule (HasRunBy s a.flags.bare) mode shelf s a answer → IsCaused s answer
caused rule Check shelf s a answer h = for_file shelf a.file 262145 _ answer (IsCaused s) tt h.1 (λ text due. caused_check s text answer due)
caused rule Build shelf s a answer h = for_file shelf a.file 262145 _ answer (IsCaused s) tt h.2 (λ text due. caused_text s _ text answer due)
caused rule Run shelf s a answer h = for_file shelf a.file 262145 _ answer (IsCaused s) tt h.1 (λ text due. caused_run s a.flags.bare a text answer due)
caused rule Exec shelf s a answer h = for_file shelf a.file 67108865 _ answer (IsCaused s) tt h.1 (λ text due. caused_exec s a.flags.bare a text answer due)
caused rule Alloc shelf s a answer h = for_file shelf a.file 262145 _ answer (IsCaused s) tt h.2 (λ text due. caused_text s _ text answer due)
caused rule Show shelf s a answer h = for_file shelf a.file 262145 _ answer (IsCaused s) tt h.2 (λ text due. caused_text s _ text answer due)
caused rule Gen shelf s a answer h = caused_gen s a answer h.3
caused rule Format shelf s a answer h = for_file shelf a.file 262145 _ answer (IsCaused s) tt h.2 (λ text due. caused_format s text answer due)
caused rule Bare shelf s a answer h = for_file shelf a.file 262145 _ answer (IsCaused s) tt h.2 (λ text due. caused_bare s text answer due)

-- an unreadable file, by its count
file_of : {H : Type 0} (shelf : Shelved H) (name : List ℕ) (most : ℕ) (due : List ℕ → Answer → Type 0) → ((text : List ℕ) → due text Unreadable → ⊥) →
    OfFile shelf name most due Unreadable → IsUnread shelf name
file_of shelf name most due none (unreadable is u) = u
file_of shelf name most due none (read text front h) = absurd (none text h)

no_summary : {T : Type 0} (sink : Stream T) (due : List ℕ) (end : RunEnd) → Takes sink due (Finished end) Unwritten Unreadable → ⊥
no_summary sink due end (nothing none is stays) = absurd (cc)
no_summary sink due end (all some is a) = absurd (cc)
no_summary sink due end (part is some f front) = absurd (cc)

no_generated : {O : Type 0} (out : Stream O) (a : Asked) → IsGenerated out a Unreadable → ⊥
no_generated out a h = by (summed_by (stream_of out.told out.faults h.ends.ran.run.between out.after) _ _ _ h.end Unreadable h.ends.ran.run.sums_up)
  where
    by : {functions source count : ℕ} → Summed (stream_of out.told out.faults h.ends.ran.run.between out.after) functions source count h.end Unreadable → ⊥
    by (cut is stays answered) = absurd (cc)
    by (summed other takes) = no_summary _ _ h.end takes

record Unread {H : Type 0} (mode : Mode) (shelf : Shelved H) (a : Asked) : Type 0 where
  reads : ReadsFile mode
  unread : IsUnread shelf a.file

unread_in : {H I O : Type 0} (rule : SpillRule) (mode : Mode) (shelf : Shelved H) (s : Streams I O) (a : Asked) →
    InMode rule (HasRunBy s a.flags.bare) mode shelf s a Unreadable → Unread mode shelf a
unread_in rule Check shelf s a h = record { reads = tt; unread = file_of shelf a.file 262145 _ (λ text due. due) h.1 }
unread_in rule Build shelf s a h = record { reads = tt; unread = file_of shelf a.file 262145 _ (λ text due. due) h.2 }
unread_in rule Run shelf s a h = record { reads = tt; unread = file_of shelf a.file 262145 _ (λ text due. due) h.1 }
unread_in rule Exec shelf s a h = record { reads = tt; unread = file_of shelf a.file 67108865 _ (λ text due. due) h.1 }
unread_in rule Alloc shelf s a h = record { reads = tt; unread = file_of shelf a.file 262145 _ (λ text due. due) h.2 }
unread_in rule Show shelf s a h = record { reads = tt; unread = file_of shelf a.file 262145 _ (λ text due. due) h.2 }
unread_in rule Gen shelf s a h = absurd (no_generated s.out a h.3)
unread_in rule Format shelf s a h = record { reads = tt; unread = file_of shelf a.file 262145 _ (λ text due. due) h.2 }
unread_in rule Bare shelf s a h = record { reads = tt; unread = file_of shelf a.file 262145 _ (λ text due. due) h.2 }

input_stays : {H I O : Type 0} (rule : SpillRule) (mode : Mode) (shelf : Shelved H) (s : Streams I O) (a : Asked) (answer : Answer) →
    ReadsNoInput mode → InMode rule (HasRunBy s a.flags.bare) mode shelf s a answer → Stays s.input
input_stays rule Check shelf s a answer none h = h.0.0
input_stays rule Build shelf s a answer none h = h.0
input_stays rule Run shelf s a answer none h = absurd none
input_stays rule Exec shelf s a answer none h = absurd none
input_stays rule Alloc shelf s a answer none h = h.0
input_stays rule Show shelf s a answer none h = h.0
input_stays rule Gen shelf s a answer none h = h.1
input_stays rule Format shelf s a answer none h = h.0
input_stays rule Bare shelf s a answer none h = h.0

-- statuses of faults
break_other : (n : ℕ) → break_status n ≡ 74 → ⊥
break_other n e = grind (arith, nat_tests)

blamed_end : {H I O E : Type 0} (c : Call H I O E) (end : RunEnd) → end_status end ≡ 74 → IsCausedEnd c.streams end → IsExit (Finished end) ⊎ SomeFailed c
blamed_end c (Exit n) e h = inl tt
blamed_end c (Break n) e h = absurd (break_other n e)
blamed_end c ReadFault e h = inr (inl h)
blamed_end c WriteFault e h = inr (inr (inl h))
blamed_end c _ e h = absurd (omega (arith, e))

blamed : {H I O E : Type 0} (c : Call H I O E) (answer : Answer) → status_of answer ≡ 74 → IsCaused c.streams answer → IsExit answer ⊎ SomeFailed c
blamed c Unwritten e h = inr (inr (inl h))
blamed c (Finished end) e h = blamed_end c end e h
blamed c _ e h = absurd (omega (arith, e))

told_74 : {H I O E : Type 0} (c : Call H I O E) (status : ℕ) (reports : List ℕ) (answer : Answer) (explanation : List ℕ) → IsCaused c.streams answer →
    IsTold c.err reports answer explanation status → status ≡ 74 → IsExit answer ⊎ SomeFailed c
told_74 c status reports answer explanation h (nothing none is stays) e = blamed c answer (sym is ∙ e) h
told_74 c status reports answer explanation h (all some is line) e = blamed c answer (sym is ∙ e) h
told_74 c status reports answer explanation h (part is some f front) e = inr (inr (inr f))

module _ {H I O E : Type 0} (c : Call H I O E) (answer : Answer) where
  caused_due : IsDue c.rule (λ a. HasRunBy c.streams a.flags.bare) c.words c.shelf c.streams answer → IsCaused c.streams answer
  caused_due (usage is fault same u) = subst (IsCaused c.streams) (sym is) tt
  caused_due (no_memory is kept u) = subst (IsCaused c.streams) (sym is) tt
  caused_due (asked a ask h) = caused c.rule a.mode c.shelf c.streams a answer h

  unread_due : IsDue c.rule (λ a. HasRunBy c.streams a.flags.bare) c.words c.shelf c.streams answer → (b : Asked) → Ask c.words b → LeavesUnread c b
  unread_due (usage is fault same u) b other = record { input = λ _. u.0; shelf = λ _. same }
  unread_due (no_memory is kept u) b other = record { input = λ _. u.0; shelf = kept b other }
  unread_due (asked a ask h) b other =
      let P : Asked → Type 0 = λ x. ReadsNoInput x.mode → Stays c.streams.input in
      record {
        input = subst P (asked_once c.words a b ask other) (λ none. input_stays c.rule a.mode c.shelf c.streams a answer none h);
        shelf = stays_in_gen (texts_meant c.rule) (λ a. HasRunBy c.streams a.flags.bare) c.words c.shelf c.streams answer (asked a ask h) b other;
      }

  unreadable_due : IsDue c.rule (λ a. HasRunBy c.streams a.flags.bare) c.words c.shelf c.streams answer → answer ≡ Unreadable → IsFileUnread c
  unreadable_due (usage is fault same u) e = let no : Usage ≡ Unreadable = sym is ∙ e in absurd (cc)
  unreadable_due (no_memory is kept u) e = let no : OutOfMemory ≡ Unreadable = sym is ∙ e in absurd (cc)
  unreadable_due (asked a ask h) e =
      let P : Answer → Type 0 = λ x. InMode c.rule (HasRunBy c.streams a.flags.bare) a.mode c.shelf c.streams a x in
      let it = unread_in c.rule a.mode c.shelf c.streams a (subst P e h) in
      record { asked = a; ask = ask; reads = it.reads; unread = it.unread }

  front_due : IsDue c.rule (λ a. HasRunBy c.streams a.flags.bare) c.words c.shelf c.streams answer → HasStarted answer → WritesPrefix c
  front_due (usage is fault same u) started = absurd (subst HasStarted is started)
  front_due (no_memory is kept u) started = absurd (subst HasStarted is started)
  front_due (asked a ask h) started =
      let it = wrote c.rule c.shelf c.streams a a.mode answer ask.flags.fit started h in
      record {
        asked = a;
        ask = ask;
        text = it.text;
        reads = it.reads;
        generates = it.generates;
        written = it.written;
        has_to = it.has_to;
        takes = it.takes;
      }

pub safe : {H I O E : Type 0} (c : Call H I O E) (status : ℕ) (given : Answers c status) → IsSafe c status given.reports given.answer given.explanation
safe c status given =
    let due = due_more (texts_meant c.rule) (told_runs c given.reports) (λ a. HasRunBy c.streams a.flags.bare) c.words c.shelf c.streams given.answer
    (λ a image end is. run_of c.streams a.flags.bare (if_watched a.flags c.reporters) given.reports image a.heap a.stack a.steps end) given.due in
    let caused = caused_due c given.answer due in
    record {
      refused = λ before. left_alone (texts_meant c.rule) (λ a. HasRunBy c.streams a.flags.bare) c.words c.shelf c.streams given.answer before due;
      unread = unread_due c given.answer due;
      unreadable = unreadable_due c given.answer due;
      front = front_due c given.answer due;
      caused = caused;
      told = given.told;
      failed = told_74 c status given.reports given.answer given.explanation caused given.told;
    }
