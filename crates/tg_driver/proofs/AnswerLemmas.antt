-- From the answers of a text to those of a call.
use Rattle.std.specs.Prelude.{Ok, Err, IsErrOf, ◌≤◌, length}
use Rattle.std.specs.Io.KnownBytes.{Appends}
use Rattle.std.proofs.Common.{ℕ, ◌≡◌, ◌<◌, List, [], ◌∷◌, Option, Some, None, refl, sym, ap, subst, ◌∙◌, arith}
use Rattle.tg_machine_state.specs.declared.ends.RunEnd.{RunEnd}
use Rattle.tg_machine_state.specs.declared.ends.RunEnd.TheVariants.{Exit, Break, Overflow, HeapFull, StackFull, StepLimit, BadAddress, Unaligned, BadWord}
use Rattle.tg_machine_state.specs.declared.ends.RunEnd.TheVariants.{BadService, ReadFault, WriteFault}
use Rattle.tg_base.specs.PlainBytes.{PlainBytes}
use Rattle.tg_machine.specs.Machines.{Simulated, loaded}
use Rattle.tg_machine.specs.Ran.{IsSimulation}
use Rattle.tg_base.specs.declared.outside.ShelfFault.{ShelfFault}
use Rattle.tg_base.specs.declared.outside.ShelfFault.TheVariants.{Failed, Memory}
use Rattle.tg_base.specs.Files.{IsFilePrefix}
use Rattle.tg_isa.specs.declared.images.Image.{Image}
use Rattle.tg_asm_text.specs.Assembly.{assembled}
use Rattle.tg_asm.specs.Images.{image_of}
use Rattle.tg_command.specs.declared.modes.Mode.{Mode}
use Rattle.tg_command.specs.declared.modes.Mode.TheVariants.{Check, Build, Run, Exec, Alloc, Show, Gen, Format, Bare}
use Rattle.tg_command.specs.Commands.{Asked, Ask}
use Rattle.tg_command.proofs.CommandLemmas.{asked_once}
use Rattle.tg_driver.specs.declared.answers.Answer.{Answer}
use Rattle.tg_driver.specs.declared.answers.Answer.TheVariants.{Faulty, Written, Unwritten, OutOfMemory, Finished}
use Rattle.tg_driver.specs.Calls.{Stream, stream_of, Streams, Stays, Untouched, Shelved, IsUnread, Call, Takes, nothing, all, part}
use Rattle.tg_driver.specs.OfFiles.{OfFile, unreadable, read, UntouchedBeforeStart}
use Rattle.tg_driver.specs.glue.PrivateCalls.{OrMemory, unread_answer, HasStarted, StaysBeforeStart}
use Rattle.tg_driver.specs.glue.Found.{IsRefused}
use Rattle.tg_driver.specs.Runs.{RunRelation}
use Rattle.tg_driver.specs.glue.PrivateCalls.{IsRunOrMemory}
use Rattle.tg_driver.specs.CheckMode.{IsChecked, ByCheck}
use Rattle.tg_driver.specs.Writing.{TakesText, TextRelation, Texts, IsWritten, ByWriting}
use Rattle.tg_driver.specs.RunMode.{IsRunBy, ByRun}
use Rattle.tg_driver.specs.glue.PrivateCalls.{EndsAssembled}
use Rattle.tg_driver.specs.GenMode.{summary, TakesSummary, SumsUpBy, IsGeneratedBy, ByGen}
use Rattle.tg_driver.specs.glue.PrivateCalls.{SumsUpRun}
use Rattle.tg_driver.specs.Endings.{end_status}
use Rattle.tg_driver.specs.ExecMode.{IsExecuted, ByExec}
use Rattle.tg_driver.specs.Modes.{InModeBy}
use Rattle.tg_driver.specs.glue.PrivateCalls.{LeavesAlone}
use Rattle.tg_driver.specs.FormatMode.{IsFormatted, ByFormat}
use Rattle.tg_driver.specs.laws.Laws.{ReadsFile}
use Rattle.tg_driver.specs.glue.PrivateCalls.{IsBeforeStart, IsReported, itself, no_memory}
use Rattle.tg_driver.specs.Answered.{IsDueBy, StaysInGen, NoneUnasked, told_runs, usage, asked, AnswersBy}
use Rattle.tg_driver.specs.Explained.{IsExplained}
use Rattle.tg_driver.specs.Watching.{NoneBeforeEnd}
use Rattle.tg_driver.specs.Answered as answered

-- the answer is due to the prefix of a file, or the file wasn't read
pub of_text : {H : Type 0} (shelf : Shelved H) (name : List ℕ) (most : ℕ) (due : List ℕ → Answer → Type 0) (text : List ℕ) (answer : Answer) →
    IsFilePrefix (shelf.files shelf.before) name most text → OrMemory (Unit {0}) (due text) answer → OrMemory (Unit {0}) (OfFile shelf name most due) answer
of_text shelf name most due text OutOfMemory front h = tt
of_text shelf name most due text _ front h = read text front h

pub of_unread : {H T : Type 0} (shelf : Shelved H) (name : List ℕ) (most : ℕ) (due : List ℕ → Answer → Type 0) (fault : ShelfFault) →
    (IsErrOf {T = T} (Err fault) Failed → IsUnread shelf name) → OrMemory (Unit {0}) (OfFile shelf name most due) (unread_answer fault)
of_unread shelf name most due Failed cause = unreadable refl (cause refl)
of_unread shelf name most due Memory cause = tt

-- a source that is refused
pub checked_of_refused : (text : List ℕ) (answer : Answer) → IsRefused text answer → OrMemory (Unit {0}) (IsChecked text) answer
checked_of_refused text (Faulty f) r = r
checked_of_refused text OutOfMemory r = tt
checked_of_refused text _ r = absurd r

pub written_of_refused : {O : Type 0} (out : Stream O) (writes : TextRelation) (text : List ℕ) (answer : Answer) →
    IsRefused text answer → OrMemory (Unit {0}) (IsWritten out writes text) answer
written_of_refused out writes text (Faulty f) r = r
written_of_refused out writes text OutOfMemory r = tt
written_of_refused out writes text _ r = absurd r

pub run_of_refused : (texts : TextRelation) (runs : RunRelation) (a : Asked) (text : List ℕ) (answer : Answer) →
    IsRefused text answer → OrMemory (Unit {0}) (IsRunBy texts runs a text) answer
run_of_refused texts runs a text (Faulty f) r = r
run_of_refused texts runs a text OutOfMemory r = tt
run_of_refused texts runs a text _ r = absurd r

-- a refusal leaves the streams alone
pub refused_stays : {T : Type 0} (out : Stream T) (text : List ℕ) (answer : Answer) → IsRefused text answer → Stays out → StaysBeforeStart out answer
refused_stays out text (Faulty f) r h = h
refused_stays out text OutOfMemory r h = h
refused_stays out text _ r h = absurd r

pub refused_untouched : {I O : Type 0} (s : Streams I O) (text : List ℕ) (answer : Answer) → IsRefused text answer → Untouched s → UntouchedBeforeStart s answer
refused_untouched s text (Faulty f) r h = h
refused_untouched s text OutOfMemory r h = h
refused_untouched s text _ r h = absurd r

-- what a write of the whole text left
pub took_all : {T A : Type 0} (sink : Stream T) (due : List ℕ) (whole failed : A) → (length due ≡ 0 → Stays sink) →
    Appends (sink.told sink.before) (sink.told sink.after) due → Takes sink due whole failed whole
took_all sink [] whole failed none_due a = nothing refl refl (none_due refl)
took_all sink (x ∷ xs) whole failed none_due a = all (omega arith) refl a

-- a sink took a text of a source, or failed
written : {O : Type 0} (out : Stream O) (writes : TextRelation) (source text : List ℕ) (answer : Answer) → writes source text →
    TakesText out text answer → IsWritten out writes source answer
written out writes source text answer b (nothing none is stays) =
    let P : Answer → Type 0 = λ x. IsWritten out writes source x in
    subst P (sym is) (record { written = text; is_of = b; takes = nothing none refl stays })
written out writes source text answer b (all some is a) =
    let P : Answer → Type 0 = λ x. IsWritten out writes source x in
    subst P (sym is) (record { written = text; is_of = b; takes = all some refl a })
written out writes source text answer b (part is p f t) =
    let P : Answer → Type 0 = λ x. IsWritten out writes source x in
    subst P (sym is) (record { written = text; is_of = b; takes = part refl p f t })

pub taken_text : {O : Type 0} (out : Stream O) (text : List ℕ) (answer : Answer) → TakesText out text answer → OrMemory (Unit {0}) (TakesText out text) answer
taken_text out text OutOfMemory t = tt
taken_text out text _ t = t

pub writes_text : {O : Type 0} (out : Stream O) (writes : TextRelation) (source text : List ℕ) (answer : Answer) →
    writes source text → OrMemory (Unit {0}) (TakesText out text) answer → OrMemory (Unit {0}) (IsWritten out writes source) answer
writes_text out writes source text OutOfMemory b t = tt
writes_text out writes source text answer b t = written out writes source text answer b t

pub started_stays : {T : Type 0} (out : Stream T) (answer : Answer) → HasStarted answer → StaysBeforeStart out answer
started_stays out (Finished end) h = tt
started_stays out Written h = tt
started_stays out Unwritten h = tt
started_stays out _ h = absurd h

-- a run of an assembly text that a source may have
pub ends_by : (texts : TextRelation) (runs : RunRelation) (a : Asked) (text assembly : List ℕ) (answer : Answer) →
    texts text assembly → EndsAssembled runs assembly a.heap a.stack a.steps answer → OrMemory (Unit {0}) (IsRunBy texts runs a text) answer
ends_by texts runs a text assembly (Finished end) b r = record { assembly = assembly; meant = b; ran = r }
ends_by texts runs a text assembly OutOfMemory b r = tt
ends_by texts runs a text assembly _ b r = absurd r

pub assembled_run : {I O : Type 0} (runs : RunRelation) (s : Streams I O) (assembly : List ℕ) (image : Image) (heap stack steps : ℕ) (answer : Answer) →
    assembled assembly ≡ Ok (image_of image) → IsRunOrMemory runs s image heap stack steps answer → EndsAssembled runs assembly heap stack steps answer
assembled_run runs s assembly image heap stack steps (Finished end) is run = record { image = image; assembles = is; run = run }
assembled_run runs s assembly image heap stack steps OutOfMemory is run = tt
assembled_run runs s assembly image heap stack steps _ is run = absurd run

-- a run of an assembly text that a generated source may have, and its summary
pub sums_up_by : {O : Type 0} (texts : TextRelation) (out : Stream O) (functions : ℕ) (text assembly : List ℕ) (image : Image)
    (heap stack steps : ℕ) (answer : Answer) → texts text assembly → assembled assembly ≡ Ok (image_of image) →
    OrMemory (Unit {0}) (SumsUpRun out functions (length text) image heap stack steps) answer →
    OrMemory (Unit {0}) (SumsUpBy texts out functions text heap stack steps) answer
sums_up_by texts out functions text assembly image heap stack steps OutOfMemory b is h = tt
sums_up_by texts out functions text assembly image heap stack steps _ b is h =
    record { end = h.end; ends = record { assembly = assembly; meant = b; ran = record { image = image; assembles = is; run = h.sums_up } } }

-- what holds of an answer holds of it unless it is out of memory
pub or_memory : (due : Answer → Type 0) (answer : Answer) → due answer → OrMemory (Unit {0}) due answer
or_memory due OutOfMemory h = tt
or_memory due _ h = h

-- a machine that was loaded ran on no input, and its summary was written
pub ran_and_summed : {O : Type 0} (told : O → Option (List ℕ)) (faults : O → ℕ) (before between after : O)
    (functions source steps : ℕ) (machine new : Simulated) (input input' : PlainBytes) (image : Image) (heap stack : ℕ)
    (end : RunEnd) (answer : Answer) → machine ≡ loaded image heap stack → input ≡ record { left = []; calls = 0 } →
    (machine.end ≡ None → IsSimulation (λ s. Some s.left) (λ _. 0) told faults steps machine new input input' before between end) →
    TakesSummary (stream_of told faults between after) functions source new.written end answer →
    SumsUpRun (stream_of told faults before after) functions source image heap stack steps answer
ran_and_summed told faults before between after functions source steps machine new input input' image heap stack end answer is empty ran takes =
    let P : Simulated → Type 0 = λ m. IsSimulation (λ s. Some s.left) (λ _. 0) told faults steps m new input input' before between end in
    let Q : PlainBytes → Type 0 = λ i. IsSimulation (λ s. Some s.left) (λ _. 0) told faults steps (loaded image heap stack) new i input' before between end in
    record {
      end = end;
      sums_up = record {
        input = input';
        between = between;
        run = record { after = new; ran = subst Q empty (subst P is (ran (ap (λ (m : Simulated). m.end) is))) };
        sums_up = takes;
      };
    }

-- a summary that is due, whatever the end was but a write that failed
pub takes_summary : {O : Type 0} (out : Stream O) (functions source written : ℕ) (end : RunEnd) (answer : Answer) →
    (end ≡ WriteFault → ⊥) → Takes out (summary functions source written (end_status end)) (Finished end) Unwritten answer →
    TakesSummary out functions source written end answer
takes_summary out functions source written WriteFault answer other h = absurd (other refl)
takes_summary out functions source written (Exit n) answer other h = h
takes_summary out functions source written (Break n) answer other h = h
takes_summary out functions source written Overflow answer other h = h
takes_summary out functions source written HeapFull answer other h = h
takes_summary out functions source written StackFull answer other h = h
takes_summary out functions source written StepLimit answer other h = h
takes_summary out functions source written (BadAddress n) answer other h = h
takes_summary out functions source written (Unaligned n) answer other h = h
takes_summary out functions source written (BadWord n) answer other h = h
takes_summary out functions source written (BadService n) answer other h = h
takes_summary out functions source written ReadFault answer other h = h

-- the line isn't empty
pub summary_some : (functions source written status : ℕ) → 0 < length (summary functions source written status)
summary_some functions source written status = omega arith

pub in_number : {O : Type 0} (texts : TextRelation) (out : Stream O) (functions : ℕ) (text other : List ℕ) (heap stack steps : ℕ) (answer : Answer) →
    text ≡ other → OrMemory (Unit {0}) (SumsUpBy texts out functions text heap stack steps) answer →
    OrMemory (Unit {0}) (SumsUpBy texts out functions other heap stack steps) answer
in_number texts out functions text other heap stack steps answer is h =
    let P : List ℕ → Type 0 = λ t. OrMemory (Unit {0}) (SumsUpBy texts out functions t heap stack steps) answer in
    subst P is h

-- a run of an image that was assembled
pub executed : {I O : Type 0} (runs : RunRelation) (s : Streams I O) (a : Asked) (text : List ℕ) (image : Image) (answer : Answer) →
    length text ≤ 67108864 → assembled text ≡ Ok (image_of image) → IsRunOrMemory runs s image a.heap a.stack a.steps answer →
    OrMemory (Unit {0}) (IsExecuted runs a text) answer
executed runs s a text image (Finished end) short is run = record { short = short; image = image; assembles = is; run = run }
executed runs s a text image OutOfMemory short is run = tt
executed runs s a text image _ short is run = absurd run

-- a mode's answer to its file, and what it leaves alone
pub by_check : {H I O : Type 0} (shelf : Shelved H) (s : Streams I O) (a : Asked) (answer : Answer) → Untouched s →
    OrMemory (Unit {0}) (OfFile shelf a.file 262145 IsChecked) answer → OrMemory (Untouched s) (ByCheck shelf s a) answer
by_check shelf s a OutOfMemory u h = u
by_check shelf s a _ u h = (u, h)

-- a sink that stays, and a source that does, are streams that do
pub before_start : {I O : Type 0} (s : Streams I O) (answer : Answer) → Stays s.input → StaysBeforeStart s.out answer → UntouchedBeforeStart s answer
before_start s (Finished end) i o = tt
before_start s Written i o = tt
before_start s Unwritten i o = tt
before_start s _ i o = (i, o)

pub by_writing : {H I O : Type 0} (shelf : Shelved H) (s : Streams I O) (writes : TextRelation) (a : Asked) (answer : Answer) →
    Stays s.input → StaysBeforeStart s.out answer → OrMemory (Unit {0}) (OfFile shelf a.file 262145 (IsWritten s.out writes)) answer →
    OrMemory (Untouched s) (ByWriting shelf s writes a) answer
by_writing shelf s writes a OutOfMemory i o h = (i, o)
by_writing shelf s writes a answer i o h = (i, before_start s answer i o, h)

pub by_format : {H I O : Type 0} (shelf : Shelved H) (s : Streams I O) (a : Asked) (answer : Answer) →
    Stays s.input → StaysBeforeStart s.out answer → OrMemory (Unit {0}) (OfFile shelf a.file 262145 (IsFormatted s.out)) answer →
    OrMemory (Untouched s) (ByFormat shelf s a) answer
by_format shelf s a OutOfMemory i o h = (i, o)
by_format shelf s a answer i o h = (i, before_start s answer i o, h)

pub by_gen : {H I O : Type 0} (texts : TextRelation) (shelf : Shelved H) (s : Streams I O) (a : Asked) (answer : Answer) →
    shelf.after ≡ shelf.before → Stays s.input → StaysBeforeStart s.out answer → OrMemory (Unit {0}) (IsGeneratedBy texts s.out a) answer →
    OrMemory (Untouched s) (ByGen texts shelf s a) answer
by_gen texts shelf s a OutOfMemory same i o h = (i, o)
by_gen texts shelf s a answer same i o h = (same, i, before_start s answer i o, h)

pub by_run : {H I O : Type 0} (texts : TextRelation) (runs : RunRelation) (shelf : Shelved H) (s : Streams I O) (a : Asked) (answer : Answer) →
    UntouchedBeforeStart s answer → OrMemory (Unit {0}) (OfFile shelf a.file 262145 (IsRunBy texts runs a)) answer →
    OrMemory (Untouched s) (ByRun texts runs shelf s a) answer
by_run texts runs shelf s a OutOfMemory u h = u
by_run texts runs shelf s a _ u h = (u, h)

pub by_exec : {H I O : Type 0} (runs : RunRelation) (shelf : Shelved H) (s : Streams I O) (a : Asked) (answer : Answer) → UntouchedBeforeStart s answer →
    OrMemory (Unit {0}) (OfFile shelf a.file 67108865 (IsExecuted runs a)) answer → OrMemory (Untouched s) (ByExec runs shelf s a) answer
by_exec runs shelf s a OutOfMemory u h = u
by_exec runs shelf s a _ u h = (u, h)

-- the answer to a command is the answer to its words
pub due_of_mode : {H I O : Type 0} (texts : Texts) (runs : Asked → RunRelation) (words : List (List ℕ)) (shelf : Shelved H) (s : Streams I O)
    (a : Asked) (answer : Answer) → Ask words a → OrMemory (LeavesAlone a.mode shelf s) (InModeBy texts (runs a) a.mode shelf s a) answer →
    IsDueBy texts runs words shelf s answer
due_of_mode texts runs words shelf s a OutOfMemory ask h =
    answered.no_memory refl (λ b other gen. h.0 (ap (λ (x : Asked). x.mode) (asked_once words a b ask other) ∙ gen)) h.1
due_of_mode texts runs words shelf s a _ ask h = asked a ask h

-- whatever the answer, `gen` leaves the shelf as it was
pub stays_in_gen : {H I O : Type 0} (texts : Texts) (runs : Asked → RunRelation) (words : List (List ℕ)) (shelf : Shelved H) (s : Streams I O)
    (answer : Answer) → IsDueBy texts runs words shelf s answer → StaysInGen words shelf
stays_in_gen texts runs words shelf s answer (usage is fault same u) = λ a ask gen. same
stays_in_gen texts runs words shelf s answer (answered.no_memory is kept u) = kept
stays_in_gen texts runs words shelf s answer (asked a ask h) = λ b other gen.
    let P : Mode → Type 0 = λ m. InModeBy texts (runs a) m shelf s a answer in
    (subst P (ap (λ (x : Asked). x.mode) (asked_once words a b ask other) ∙ gen) h).0

-- before that nothing was touched
untouched : {I O : Type 0} (s : Streams I O) (answer : Answer) → IsBeforeStart answer → UntouchedBeforeStart s answer → Untouched s
untouched s (Finished end) b u = absurd b
untouched s Written b u = absurd b
untouched s Unwritten b u = absurd b
untouched s _ b u = u

left_in : {H I O : Type 0} (texts : Texts) (runs : RunRelation) (mode : Mode) (shelf : Shelved H) (s : Streams I O) (a : Asked) (answer : Answer) →
    IsBeforeStart answer → InModeBy texts runs mode shelf s a answer → Untouched s
left_in texts runs Check shelf s a answer b h = h.0
left_in texts runs Build shelf s a answer b h = untouched s answer b h.1
left_in texts runs Run shelf s a answer b h = untouched s answer b h.0
left_in texts runs Exec shelf s a answer b h = untouched s answer b h.0
left_in texts runs Alloc shelf s a answer b h = untouched s answer b h.1
left_in texts runs Show shelf s a answer b h = untouched s answer b h.1
left_in texts runs Gen shelf s a answer b h = untouched s answer b h.2
left_in texts runs Format shelf s a answer b h = untouched s answer b h.1
left_in texts runs Bare shelf s a answer b h = untouched s answer b h.1

pub left_alone : {H I O : Type 0} (texts : Texts) (runs : Asked → RunRelation) (words : List (List ℕ)) (shelf : Shelved H) (s : Streams I O)
    (answer : Answer) → IsBeforeStart answer → IsDueBy texts runs words shelf s answer → Untouched s
left_alone texts runs words shelf s answer b (usage is fault same u) = u
left_alone texts runs words shelf s answer b (answered.no_memory is kept u) = u
left_alone texts runs words shelf s answer b (asked a ask h) = left_in texts (runs a) a.mode shelf s a answer b h

-- the answer that was told
pub answers_of : {H I O E : Type 0} (texts : Texts) (c : Call H I O E) (status : ℕ) (reports : List ℕ) (answer : Answer) (explanation : List ℕ) →
    IsDueBy texts (told_runs c reports) c.words c.shelf c.streams answer → NoneBeforeEnd reports answer → NoneUnasked c.words reports →
    IsExplained c.words c.shelf answer explanation → IsReported c.err reports answer explanation status → AnswersBy texts c status
answers_of texts c status reports answer explanation due before_end unasked explained (itself told) =
    record {
      answer = answer;
      reports = reports;
      explanation = explanation;
      due = due;
      before_end = before_end;
      unasked = unasked;
      explained = explained;
      told = told;
    }
answers_of texts c status reports answer explanation due before_end unasked explained (no_memory before told) =
    record {
      answer = OutOfMemory;
      reports = [];
      explanation = [];
      due = answered.no_memory refl (stays_in_gen texts (told_runs c reports) c.words c.shelf c.streams answer due)
          (left_alone texts (told_runs c reports) c.words c.shelf c.streams answer before due);
      before_end = refl;
      unasked = λ a ask off. refl;
      explained = refl;
      told = told;
    }

-- the answer in the mode of a command
pub in_mode : {H I O : Type 0} (texts : Texts) (runs : RunRelation) (m : Mode) (shelf : Shelved H) (s : Streams I O) (a : Asked) (answer : Answer) →
    (m ≡ Gen → shelf.after ≡ shelf.before) → a.mode ≡ m → OrMemory (Untouched s) (InModeBy texts runs m shelf s a) answer →
    OrMemory (LeavesAlone a.mode shelf s) (InModeBy texts runs a.mode shelf s a) answer
in_mode texts runs m shelf s a answer kept is h =
    let P : Mode → Type 0 = λ x. OrMemory (LeavesAlone x shelf s) (InModeBy texts runs x shelf s a) answer in
    subst P (sym is) (with_shelf answer h)
  where
    with_shelf : (answer : Answer) → OrMemory (Untouched s) (InModeBy texts runs m shelf s a) answer →
        OrMemory (LeavesAlone m shelf s) (InModeBy texts runs m shelf s a) answer
    with_shelf OutOfMemory h = (kept, h)
    with_shelf _ h = h

-- the other modes
pub no_gen : (m : Mode) → ReadsFile m → {A : Type 0} → m ≡ Gen → A
no_gen Check other is = absurd (cc)
no_gen Build other is = absurd (cc)
no_gen Run other is = absurd (cc)
no_gen Exec other is = absurd (cc)
no_gen Alloc other is = absurd (cc)
no_gen Show other is = absurd (cc)
no_gen Gen other is = absurd other
no_gen Format other is = absurd (cc)
no_gen Bare other is = absurd (cc)
