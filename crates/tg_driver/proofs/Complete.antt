-- Good words for a file that is there, with no fault of a count, are answered as text and input settle, or as out of memory.
use Rattle.std.proofs.Common.{ℕ, ◌≡◌, ◌≤◌, ◌⊎◌, inl, inr, Bool, false, List, [], ◌++◌, Option, Some, None, take, append-nil, refl, sym, subst, arith}
use Rattle.std.specs.Io.KnownBytes.{Appends}
use Rattle.tg_base.specs.Causes.{Rose}
use Rattle.tg_machine_state.specs.declared.ends.RunEnd.{RunEnd}
use Rattle.tg_machine_state.specs.declared.ends.RunEnd.TheVariants.{Exit, Break, Overflow, HeapFull, StackFull, StepLimit, BadAddress, Unaligned, BadWord}
use Rattle.tg_machine_state.specs.declared.ends.RunEnd.TheVariants.{BadService, ReadFault, WriteFault}
use Rattle.tg_isa.specs.declared.images.Image.{Image}
use Rattle.tg_profiler.specs.Watching.{Report}
use Rattle.tg_command.specs.declared.modes.Mode.{Mode}
use Rattle.tg_command.specs.declared.modes.Mode.TheVariants.{Check, Build, Run, Exec, Alloc, Show, Gen, Format, Bare}
use Rattle.tg_command.specs.Commands.{Asked}
use Rattle.tg_command.proofs.CommandLemmas.{asked_once, asked_no_fault}
use Rattle.tg_driver.specs.declared.answers.Answer.{Answer}
use Rattle.tg_driver.specs.declared.answers.Answer.TheVariants.{Faulty, Written, Unwritten, Finished, OutOfMemory}
use Rattle.tg_driver.specs.Calls.{Stream, stream_of, streams_of, Stays, HasFailed, Streams, Shelved, IsUnread, Call, Takes, nothing, all, part}
use Rattle.tg_driver.specs.OfFiles.{OfFile, unreadable, read}
use Rattle.tg_correctness.specs.Sources.{IsSource}
use Rattle.tg_correctness.specs.Assemblies.{IsAsMeant}
use Rattle.tg_driver.specs.Writing.{TextRelation, IsWritten}
use Rattle.tg_driver.specs.GenMode.{no_input, summary, TakesSummary}
use Rattle.tg_driver.specs.laws.AsMeant.{IsGenerated}
use Rattle.tg_driver.specs.Endings.{end_status}
use Rattle.tg_driver.specs.laws.OfTexts.{most_of}
use Rattle.tg_driver.specs.laws.AsMeant.{InMode}
use Rattle.tg_driver.specs.Passes.{passes_of}
use Rattle.tg_driver.specs.Statuses.{status_of, line_of}
use Rattle.tg_driver.specs.Watching.{HasToldRunBy, if_watched}
use Rattle.tg_driver.specs.Answered.{told_runs, usage, no_memory, asked, Answers}
use Rattle.tg_driver.specs.laws.AsMeant.{IsDue}
use Rattle.tg_driver.specs.laws.Laws.{HoldsFile, ReadsFile, IsGood, Gives, EndsAndTells, IsFaultyOrWritten, EndsGenerated, Settles, settled_runs}
use Rattle.tg_driver.specs.laws.Laws.{IsSettled}
use Rattle.tg_driver.proofs.SettledExplanations.{front_is, settled_explanation}
use Rattle.tg_driver.proofs.ExactRuns.{ends_as_told, ends_faultless, exact_reports, read_cause, write_cause, run_of}
use Rattle.tg_driver.proofs.Watched.{run_more, exec_more}
use Rattle.tg_driver.proofs.SourcesOnce.{meant_source, listed_source, shown_source}
use Rattle.tg_driver.proofs.CanonicalTexts.{of_formatted}
use Rattle.tg_driver.proofs.LargeSources.{meant_small}
use Rattle.tg_driver.proofs.BareAnswers.{of_bare}

-- the answer to the text of the file, where that can be read
pub to_text : {H : Type 0} (shelf : Shelved H) (name : List ℕ) (most : ℕ) (due : List ℕ → Answer → Type 0) (file : List ℕ) (answer : Answer) →
    HoldsFile shelf name file → (IsUnread shelf name → ⊥) → OfFile shelf name most due answer → due (take most file) answer
to_text shelf name most due file answer there readable (unreadable is u) = absurd (readable u)
to_text shelf name most due file answer there readable (read text front h) =
    let P : List ℕ → Type 0 = λ t. due t answer in
    subst P (front_is _ name most text file there.at there.tells there.holds front) h

of_written : {O : Type 0} (out : Stream O) (writes : TextRelation) (source : List ℕ) (answer : Answer) → (HasFailed out → ⊥) →
    ((text : List ℕ) → writes source text → IsSource source) → IsWritten out writes source answer → IsFaultyOrWritten source answer
of_written out writes source (Faulty f) written is h = h
of_written out writes source Written written is h = is h.written h.is_of
of_written out writes source Unwritten written is h = failed h.takes
  where
    failed : {text : List ℕ} → Takes out text Written Unwritten Unwritten → ⊥
    failed (nothing none same stays) = absurd (cc)
    failed (all some same a) = absurd (cc)
    failed (part same some f front) = written f
of_written out writes source _ written is h = absurd h

-- a run whose reads and writes all passed, and its reports
ends_and_tells : {I O : Type 0} (s : Streams I O) (bare : Bool) (reporters : List Report) (reports : List ℕ) (image : Image)
    (heap stack steps : ℕ) (end : RunEnd) → (HasFailed s.input → ⊥) → (HasFailed s.out → ⊥) →
    HasToldRunBy s bare reporters reports image heap stack steps end →
    EndsAndTells (s.input.told s.input.before) bare reporters reports image heap stack steps end
ends_and_tells s bare reporters reports image heap stack steps end r w h =
    let run = run_of s bare reporters reports image heap stack steps end h in
    record {
      ends = ends_faultless s bare image heap stack steps end r w run;
      tells = λ bytes tells. exact_reports s bare reporters reports image heap stack steps end bytes
          (λ d. r (read_cause s bare image heap stack steps end run d)) (λ d. w (write_cause s bare image heap stack steps end run d)) h tells;
    }

-- counts over a run and a summary
pub rose_later : (a b c : ℕ) → a ≤ b → Rose b c → Rose a c
rose_later a b c h r = omega (arith, h, r)

-- a summary that the sink took, after a run whose writes all passed
pub record Passed (end : RunEnd) (answer : Answer) : Type 0 where
  pub finished : answer ≡ Finished end
  pub written : end ≡ WriteFault → ⊥

taken : {O : Type 0} (out : Stream O) (due : List ℕ) (end : RunEnd) (answer : Answer) → (HasFailed out → ⊥) →
    (end ≡ WriteFault → ⊥) → Takes out due (Finished end) Unwritten answer → Passed end answer
taken out due end answer kept other (nothing none is stays) = record { finished = is; written = other }
taken out due end answer kept other (all some is a) = record { finished = is; written = other }
taken out due end answer kept other (part is some f front) = absurd (kept f)

-- what came of a summary: after a run that a failed write ended the sink took nothing more
pub data Summed {O : Type 0} (out : Stream O) (functions source written : ℕ) (end : RunEnd) (answer : Answer) : Type 0 where
  cut : end ≡ WriteFault → Stays out → answer ≡ Finished WriteFault → Summed out functions source written end answer
  summed : (end ≡ WriteFault → ⊥) → Takes out (summary functions source written (end_status end)) (Finished end) Unwritten answer →
      Summed out functions source written end answer

pub summed_by : {O : Type 0} (out : Stream O) (functions source written : ℕ) (end : RunEnd) (answer : Answer) →
    TakesSummary out functions source written end answer → Summed out functions source written end answer
summed_by out functions source written WriteFault answer h = cut refl h.0 h.1
summed_by out functions source written (Exit n) answer h = summed (λ e. absurd (cc)) h
summed_by out functions source written (Break n) answer h = summed (λ e. absurd (cc)) h
summed_by out functions source written Overflow answer h = summed (λ e. absurd (cc)) h
summed_by out functions source written HeapFull answer h = summed (λ e. absurd (cc)) h
summed_by out functions source written StackFull answer h = summed (λ e. absurd (cc)) h
summed_by out functions source written StepLimit answer h = summed (λ e. absurd (cc)) h
summed_by out functions source written (BadAddress n) answer h = summed (λ e. absurd (cc)) h
summed_by out functions source written (Unaligned n) answer h = summed (λ e. absurd (cc)) h
summed_by out functions source written (BadWord n) answer h = summed (λ e. absurd (cc)) h
summed_by out functions source written (BadService n) answer h = summed (λ e. absurd (cc)) h
summed_by out functions source written ReadFault answer h = summed (λ e. absurd (cc)) h

pub passed : {O : Type 0} (out : Stream O) (functions source written : ℕ) (end : RunEnd) (answer : Answer) → (HasFailed out → ⊥) →
    (end ≡ WriteFault → ⊥) → TakesSummary out functions source written end answer → Passed end answer
passed out functions source written end answer kept other h = by (summed_by out functions source written end answer h)
  where
    by : Summed out functions source written end answer → Passed end answer
    by (cut is stays answered) = absurd (other is)
    by (summed same takes) = taken out _ end answer kept other takes

-- a run that ended at a failed write leaves a sink that has failed
pub write_failed : {O : Type 0} (out : Stream O) (between : O) (functions source written : ℕ) (end : RunEnd) (answer : Answer) →
    end ≡ WriteFault → Rose (out.faults out.before) (out.faults between) →
    TakesSummary (stream_of out.told out.faults between out.after) functions source written end answer → HasFailed out
write_failed {O} out between functions source written end answer is rose h =
    let P : RunEnd → Type 0 = λ e. TakesSummary (stream_of out.told out.faults between out.after) functions source written e answer in
    let stays = (subst P is h).0 in
    let Q : O → Type 0 = λ x. Rose (out.faults out.before) (out.faults x) in
    subst Q (sym stays) rose

pub no_read : Rose 0 0 → ⊥
no_read r = absurd (omega (arith, r))

of_gen : {O : Type 0} (out : Stream O) (a : Asked) (answer : Answer) → (HasFailed out → ⊥) →
    IsGenerated out a answer → EndsGenerated a answer
of_gen out a answer kept h =
    let sums = h.ends.ran.run in
    let s = streams_of (no_input sums.input) (stream_of out.told out.faults out.before sums.between) in
    let other : h.end ≡ WriteFault → ⊥ = λ is. kept (write_failed out sums.between _ _ _ h.end answer is (sums.run.ran.write_cause is) sums.sums_up) in
    let last = passed (stream_of out.told out.faults sums.between out.after) _ _ _ h.end answer
    (λ f. kept (rose_later _ _ _ sums.run.ran.writes_later f)) other sums.sums_up in
    let P : Answer → Type 0 = λ x. EndsGenerated a x in
    subst P (sym last.finished)
    (record {
      assembly = h.ends.assembly;
      meant = h.ends.meant;
      ran = record {
        image = h.ends.ran.image;
        assembles = h.ends.ran.assembles;
        run = ends_as_told s false h.ends.ran.image a.heap a.stack a.steps h.end (λ is. no_read (sums.run.ran.read_cause is)) other sums.run;
      };
    })

settled : {H I O E : Type 0} (c : Call H I O E) (a : Asked) (file : List ℕ) (mode : Mode) (reports : List ℕ) (answer : Answer) → IsGood c a file →
    (ReadsFile mode → ReadsFile a.mode) → InMode c.rule (told_runs c reports a) mode c.shelf c.streams a answer →
    Settles (settled_runs c reports a) mode a (take (most_of mode) file) answer
settled c a file Check reports answer good reads h = to_text c.shelf a.file 262145 _ file answer (good.there (reads tt)) good.readable h.1
settled c a file Build reports answer good reads h = of_written c.streams.out _ _ answer good.all_written (meant_source _)
    (to_text c.shelf a.file 262145 _ file answer (good.there (reads tt)) good.readable h.2)
settled c a file Run reports answer good reads h = run_more IsAsMeant (told_runs c reports a) (settled_runs c reports a) a _ answer
    (λ image end is. ends_and_tells c.streams a.flags.bare (if_watched a.flags c.reporters) reports image a.heap a.stack a.steps end good.all_read
    good.all_written)
    (to_text c.shelf a.file 262145 _ file answer (good.there (reads tt)) good.readable h.1)
settled c a file Exec reports answer good reads h = exec_more (told_runs c reports a) (settled_runs c reports a) a _ answer
    (λ image end is. ends_and_tells c.streams a.flags.bare (if_watched a.flags c.reporters) reports image a.heap a.stack a.steps end good.all_read
    good.all_written)
    (to_text c.shelf a.file 67108865 _ file answer (good.there (reads tt)) good.readable h.1)
settled c a file Alloc reports answer good reads h = of_written c.streams.out _ _ answer good.all_written (listed_source (passes_of a) c.rule _)
    (to_text c.shelf a.file 262145 _ file answer (good.there (reads tt)) good.readable h.2)
settled c a file Show reports answer good reads h = of_written c.streams.out _ _ answer good.all_written (shown_source (passes_of a) c.rule _)
    (to_text c.shelf a.file 262145 _ file answer (good.there (reads tt)) good.readable h.2)
settled c a file Gen reports answer good reads h = of_gen c.streams.out a answer good.all_written h.3
settled c a file Format reports answer good reads h = of_formatted c.streams.out _ answer good.all_written
    (to_text c.shelf a.file 262145 _ file answer (good.there (reads tt)) good.readable h.2)
settled c a file Bare reports answer good reads h = of_bare c.streams.out _ _ answer good.all_written (meant_small _)
    (to_text c.shelf a.file 262145 _ file answer (good.there (reads tt)) good.readable h.2)

-- a sink that is as it was took a text that is empty
none_appended : (told : Option (List ℕ)) → Appends told told []
none_appended None = tt
none_appended (Some bytes) = sym (append-nil bytes)

pub none_taken : {T : Type 0} (sink : Stream T) (due : List ℕ) → due ≡ [] → Stays sink →
    Appends (sink.told sink.before) (sink.told sink.after) due
none_taken {T} sink due none stays =
    let P : List ℕ → Type 0 = λ d. Appends (sink.told sink.before) (sink.told sink.before) d in
    let Q : T → Type 0 = λ x. Appends (sink.told sink.before) (sink.told x) due in
    subst Q (sym stays) (subst P (sym none) (none_appended (sink.told sink.before)))

-- the reports and the line were told
took : {T : Type 0} (sink : Stream T) (due : List ℕ) (whole status : ℕ) → (HasFailed sink → ⊥) → Takes sink due whole 74 status →
    (status ≡ whole) × Appends (sink.told sink.before) (sink.told sink.after) due
took sink due whole status kept (nothing none is stays) = (is, none_taken sink due none stays)
took sink due whole status kept (all some is line) = (is, line)
took sink due whole status kept (part is some failed front) = absurd (kept failed)

pub given : {H I O E : Type 0} (c : Call H I O E) (status : ℕ) (a : Asked) (file : List ℕ) (h : Answers c status) → IsGood c a file →
    Gives c status h.reports h.answer h.explanation
given c status a file h good =
    let t = took c.err (h.reports ++ (line_of h.answer ++ h.explanation)) (status_of h.answer) status good.all_told h.told in
    record { status_is = t.0; text_is = t.1; before_end = h.before_end; unasked = h.unasked; explained = h.explained }

-- out of memory was told
pub given_memory : {H I O E : Type 0} (c : Call H I O E) (status : ℕ) (reports : List ℕ) (answer : Answer) (explanation : List ℕ) →
    answer ≡ OutOfMemory → Gives c status reports answer explanation → Gives c status [] OutOfMemory []
given_memory c status reports answer explanation is g =
    let P : Answer → Type 0 = λ x. Gives c status reports x explanation in
    let Q : List ℕ → Type 0 = λ r. Gives c status r OutOfMemory explanation in
    let R : List ℕ → Type 0 = λ e. Gives c status [] OutOfMemory e in
    let m = subst P is g in
    subst R m.explained (subst Q m.before_end m)

-- what a good call answers is due in its mode, or memory ran out
pub in_its_mode : {H I O E : Type 0} (c : Call H I O E) (status : ℕ) (a : Asked) (file : List ℕ) (h : Answers c status) → IsGood c a file →
    InMode c.rule (told_runs c h.reports a) a.mode c.shelf c.streams a h.answer ⊎ Gives c status [] OutOfMemory []
in_its_mode c status a file h good = by h.due
  where
    by : IsDue c.rule (told_runs c h.reports) c.words c.shelf c.streams h.answer →
        InMode c.rule (told_runs c h.reports a) a.mode c.shelf c.streams a h.answer ⊎ Gives c status [] OutOfMemory []
    by (usage is fault same u) = absurd (asked_no_fault c.words a good.ask fault)
    by (no_memory is kept u) = inr (given_memory c status h.reports h.answer h.explanation is (given c status a file h good))
    by (asked b ask in_its) =
        let P : Asked → Type 0 = λ x. InMode c.rule (told_runs c h.reports x) x.mode c.shelf c.streams x h.answer in
        inl (subst P (asked_once c.words b a ask good.ask) in_its)

pub complete : {H I O E : Type 0} (c : Call H I O E) (status : ℕ) (a : Asked) (file : List ℕ) → Answers c status →
    IsGood c a file → IsSettled c status a (take (most_of a.mode) file) ⊎ Gives c status [] OutOfMemory []
complete c status a file h good = by (in_its_mode c status a file h good)
  where
    by : InMode c.rule (told_runs c h.reports a) a.mode c.shelf c.streams a h.answer ⊎ Gives c status [] OutOfMemory [] →
        IsSettled c status a (take (most_of a.mode) file) ⊎ Gives c status [] OutOfMemory []
    by (inr wanting) = inr wanting
    by (inl in_mode) = inl (record {
      answer = h.answer;
      reports = h.reports;
      explanation = h.explanation;
      settled = settled c a file a.mode h.reports h.answer good (λ r. r) in_mode;
      explains = settled_explanation c a file h.answer h.explanation good h.explained;
      gives = given c status a file h good;
    })
