-- From the text that is explained to what a call tells of its fault.
use Rattle.std.proofs.Common.{ℕ, ◌≡◌, inl, List, [], true, false, refl, sym, subst, ◌∙◌}
use Rattle.tg_base.specs.Files.{IsFilePrefix}
use Rattle.tg_base.specs.declared.outside.ShelfFault.{ShelfFault}
use Rattle.tg_base.specs.declared.outside.ShelfFault.TheVariants.{Failed, Memory}
use Rattle.tg_command.specs.declared.flags.Flags.{Flags}
use Rattle.tg_command.specs.Commands.{Asked, Ask}
use Rattle.tg_command.proofs.CommandLemmas.{asked_once}
use Rattle.tg_machine_state.specs.declared.ends.RunEnd.{RunEnd}
use Rattle.tg_driver.specs.declared.answers.Answer.{Answer}
use Rattle.tg_driver.specs.declared.answers.Answer.TheVariants.{Faulty, Finished, Unwritten}
use Rattle.tg_driver.specs.declared.faults.Fault.{Fault}
use Rattle.tg_driver.specs.Calls.{Stream, stream_of, Shelved, Takes, nothing, all, part}
use Rattle.tg_driver.specs.Explained.{ExplainsFile, IfAsked, IsExplained, TellsWhy}
use Rattle.tg_driver.specs.OfFiles.{OfFile, unreadable, read}
use Rattle.tg_driver.specs.CheckMode.{IsChecked}
use Rattle.tg_driver.specs.ExecMode.{IsExecuted}
use Rattle.tg_driver.specs.FormatMode.{IsFormatted}
use Rattle.tg_driver.specs.GenMode.{IsGeneratedBy}
use Rattle.tg_driver.specs.RunMode.{IsRunBy}
use Rattle.tg_driver.specs.Runs.{RunRelation}
use Rattle.tg_driver.specs.Writing.{TextRelation, IsWritten}
use Rattle.tg_driver.specs.Telling.{IsTold}
use Rattle.tg_driver.specs.glue.PrivateCalls.{OrMemory, GivesText, unread_answer, IsReported, itself}
use Rattle.tg_driver.specs.glue.Watched.{TellAfter}
use Rattle.tg_machine.specs.declared.fetches.Seen.{Seen}
use Rattle.tg_profiler.specs.Watching.{Report}
use Rattle.tg_driver.specs.glue.Explanations.{IsExplainedText}
use Rattle.tg_driver.proofs.Complete.{Summed, cut, summed, summed_by}

-- of each mode that reads a source: the text is the one that has the fault that is answered
pub gives_checked : {H : Type 0} (shelf : Shelved H) (name text : List ℕ) (answer : Answer) → IsFilePrefix (shelf.files shelf.before) name 262145 text →
    OrMemory (Unit {0}) (IsChecked text) answer → GivesText shelf name answer text
gives_checked shelf name text (Faulty f) front h = (front, inl h)
gives_checked shelf name text _ front h = tt

pub gives_written : {H O : Type 0} (shelf : Shelved H) (name : List ℕ) (out : Stream O) (writes : TextRelation) (text : List ℕ) (answer : Answer) →
    IsFilePrefix (shelf.files shelf.before) name 262145 text → OrMemory (Unit {0}) (IsWritten out writes text) answer → GivesText shelf name answer text
gives_written shelf name out writes text (Faulty f) front h = (front, inl h)
gives_written shelf name out writes text _ front h = tt

pub gives_run : {H : Type 0} (shelf : Shelved H) (name : List ℕ) (texts : TextRelation) (runs : RunRelation) (a : Asked) (text : List ℕ) (answer : Answer) →
    IsFilePrefix (shelf.files shelf.before) name 262145 text → OrMemory (Unit {0}) (IsRunBy texts runs a text) answer → GivesText shelf name answer text
gives_run shelf name texts runs a text (Faulty f) front h = (front, inl h)
gives_run shelf name texts runs a text _ front h = tt

pub gives_formatted : {H O : Type 0} (shelf : Shelved H) (name : List ℕ) (out : Stream O) (text : List ℕ) (answer : Answer) →
    IsFilePrefix (shelf.files shelf.before) name 262145 text → OrMemory (Unit {0}) (IsFormatted out text) answer → GivesText shelf name answer text
gives_formatted shelf name out text (Faulty f) front h = (front, inl h.is_fault)
gives_formatted shelf name out text _ front h = tt

-- a file that wasn't read has no fault
pub gives_unread : {H : Type 0} (shelf : Shelved H) (name : List ℕ) (fault : ShelfFault) (text : List ℕ) → GivesText shelf name (unread_answer fault) text
gives_unread shelf name Failed text = tt
gives_unread shelf name Memory text = tt

-- and the modes that read no source answer none
pub gives_executed : {H : Type 0} (shelf : Shelved H) (name : List ℕ) (runs : RunRelation) (a : Asked) (text : List ℕ) (answer : Answer) →
    OrMemory (Unit {0}) (OfFile shelf name 67108865 (IsExecuted runs a)) answer → GivesText shelf name answer text
gives_executed shelf name runs a text (Faulty f) h = absurd (none h)
  where
    none : OfFile shelf name 67108865 (IsExecuted runs a) (Faulty f) → ⊥
    none (unreadable is u) = absurd (cc)
    none (read other front due) = due
gives_executed shelf name runs a text _ h = tt

no_summary : {T : Type 0} (sink : Stream T) (due : List ℕ) (end : RunEnd) (f : Fault) → Takes sink due (Finished end) Unwritten (Faulty f) → ⊥
no_summary sink due end f (nothing none is stays) = absurd (cc)
no_summary sink due end f (all some is a) = absurd (cc)
no_summary sink due end f (part is some failed front) = absurd (cc)

no_generated : {O : Type 0} (texts : TextRelation) (out : Stream O) (a : Asked) (f : Fault) → IsGeneratedBy texts out a (Faulty f) → ⊥
no_generated texts out a f h =
    by (summed_by (stream_of out.told out.faults h.ends.ran.run.between out.after) _ _ _ h.end (Faulty f) h.ends.ran.run.sums_up)
  where
    by : {functions source count : ℕ} → Summed (stream_of out.told out.faults h.ends.ran.run.between out.after) functions source count h.end (Faulty f) → ⊥
    by (cut is stays answered) = absurd (cc)
    by (summed other takes) = no_summary _ _ h.end f takes

pub gives_generated : {H O : Type 0} (shelf : Shelved H) (name : List ℕ) (texts : TextRelation) (out : Stream O) (a : Asked) (text : List ℕ)
    (answer : Answer) → OrMemory (Unit {0}) (IsGeneratedBy texts out a) answer → GivesText shelf name answer text
gives_generated shelf name texts out a text (Faulty f) h = absurd (no_generated texts out a f h)
gives_generated shelf name texts out a text _ h = tt

no_truth : false ≡ true → ⊥
no_truth h = cc

-- the answer to a command is explained as its words ask
pub explained_as : {H : Type 0} (words : List (List ℕ)) (shelf : Shelved H) (a : Asked) (text : List ℕ) (answer : Answer) (explanation : List ℕ) →
    Ask words a → GivesText shelf a.file answer text → IsExplainedText a.flags text answer explanation → IsExplained words shelf answer explanation
explained_as words shelf a text (Faulty f) explanation ask gives explains = λ b other.
    let P : Asked → Type 0 = λ x. IfAsked x.flags (ExplainsFile shelf x.file f explanation) explanation in
    subst P (asked_once words a b ask other) (record {
      asked = λ on. record { text = text; is_front = gives.0; explains = record { is_fault = gives.1; tells_why = explains.asked on } };
      unasked = explains.unasked;
    })
explained_as words shelf a text _ explanation ask gives explains = explains

-- what is told of an answer that isn't to be explained, and of one that is no fault
pub unasked_text : (flags : Flags) (text : List ℕ) (answer : Answer) → flags.explain ≡ false → IsExplainedText flags text answer []
unasked_text flags text (Faulty f) off = record { asked = λ on. absurd (no_truth (sym off ∙ on)); unasked = λ _. refl }
unasked_text flags text _ off = refl

pub asked_text : (flags : Flags) (text : List ℕ) (f : Fault) (explanation : List ℕ) → flags.explain ≡ true → TellsWhy text explanation →
    IsExplainedText flags text (Faulty f) explanation
asked_text flags text f explanation on why = record { asked = λ _. why; unasked = λ off. absurd (no_truth (sym off ∙ on)) }

pub other_text : (flags : Flags) (text : List ℕ) (answer : Answer) → ((f : Fault) → answer ≡ Faulty f → ⊥) → IsExplainedText flags text answer []
other_text flags text (Faulty f) other = absurd (other f refl)
other_text flags text _ other = refl

-- of an answer that is no end of a run watchers tell nothing, and its line is told alone
pub untold : {W : Type 0} (stands : W → List Seen → ℕ → Type 0) (report : W → Report) (watchers : List W) (answer : Answer) (reports : List ℕ) →
    ((e : RunEnd) → answer ≡ Finished e → ⊥) → TellAfter stands report watchers answer reports → reports ≡ []
untold stands report watchers (Finished e) reports other h = absurd (other e refl)
untold stands report watchers _ reports other h = h

pub reported_alone : {E : Type 0} (err : Stream E) (reports : List ℕ) (answer : Answer) (explanation : List ℕ) (status : ℕ) → reports ≡ [] →
    IsTold err [] answer explanation status → IsReported err reports answer explanation status
reported_alone err reports answer explanation status none told =
    let P : List ℕ → Type 0 = λ r. IsTold err r answer explanation status in
    itself (subst P (sym none) told)
