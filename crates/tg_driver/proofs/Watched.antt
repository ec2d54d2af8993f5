-- What is said of runs, more weakly; and from runs that watchers saw to what they tell.
use Rattle.std.specs.Prelude.{Ok, Err, if◌then◌else◌}
use Rattle.std.proofs.Common.{ℕ, ◌≡◌, Option, None, List, [], Bool, true, false, map, refl, sym, ap, subst, ◌∙◌, length, arith}
use Rattle.tg_machine_state.specs.declared.ends.RunEnd.{RunEnd}
use Rattle.tg_isa.specs.declared.images.Image.{Image}
use Rattle.tg_machine.specs.declared.fetches.Seen.{Seen}
use Rattle.tg_machine.specs.Fetches.{IsWatched, fetches_until, rest_after}
use Rattle.tg_machine.proofs.Fetching.{may_rest}
use Rattle.tg_machine.specs.Machines.{Simulated, loaded}
use Rattle.tg_machine.specs.Ran.{IsSimulation}
use Rattle.tg_bare.specs.Machines.{BareSimulated, loaded_bare}
use Rattle.tg_bare.specs.Ran.{IsBareSimulation}
use Rattle.tg_irc_definition.specs.Policies.{Rule as SpillRule}
use Rattle.tg_profiler.specs.Told.{reports_text}
use Rattle.tg_profiler.specs.Telling.{HasTold}
use Rattle.tg_profiler.specs.Watching.{Report}
use Rattle.tg_profiler.specs.Watchers.{HaveSeen}
use Rattle.tg_command.specs.declared.flags.Flags.{Flags}
use Rattle.tg_command.specs.declared.modes.Mode.{Mode}
use Rattle.tg_command.specs.declared.modes.Mode.TheVariants.{Check, Build, Run, Exec, Alloc, Show, Gen, Format, Bare}
use Rattle.tg_command.specs.Commands.{Asked, Ask}
use Rattle.tg_command.specs.Flagged.{flags_fit}
use Rattle.tg_command.proofs.CommandLemmas.{asked_once}
use Rattle.tg_driver.specs.declared.answers.Answer.{Answer}
use Rattle.tg_driver.specs.declared.answers.Answer.TheVariants.{Usage, Faulty, BadLine, TooLong, Written, Unwritten, OutOfMemory, Finished}
use Rattle.tg_driver.specs.Calls.{Stream, stream_of, Streams, streams_of, Shelved, Call, Takes, part}
use Rattle.tg_driver.specs.OfFiles.{OfFile, unreadable, read}
use Rattle.tg_driver.specs.glue.PrivateCalls.{HasStarted, IsRunOrMemory, OrMemory}
use Rattle.tg_driver.specs.Passes.{passes_of}
use Rattle.tg_driver.specs.Runs.{RunRelation, HasBareRun}
use Rattle.tg_driver.specs.RunMode.{IsRunBy}
use Rattle.tg_driver.specs.GenMode.{IsGeneratedBy}
use Rattle.tg_driver.specs.Writing.{TextRelation, Texts, IsWritten}
use Rattle.tg_driver.specs.Compiled.{texts_compiled}
use Rattle.tg_compile.specs.declared.passes.Passes.{Passes}
use Rattle.tg_compile_proof.specs.laws.TextLaws.{BuildIsCorrect}
use Rattle.tg_bare_compile_proof.specs.laws.TextLaws.{BareBuildIsCorrect}
use Rattle.tg_driver.specs.ExecMode.{IsExecuted}
use Rattle.tg_driver.specs.Modes.{InModeBy, texts_meant}
use Rattle.tg_driver.specs.glue.PrivateCalls.{ReadsNoInput}
use Rattle.tg_driver.specs.Answered.{IsDueBy, NoneUnasked, told_runs, usage, no_memory, asked, AnswersBy}
use Rattle.tg_driver.specs.glue.PrivateCalls.{IsReported}
use Rattle.tg_driver.specs.Explained.{IsExplained}
use Rattle.tg_driver.specs.Watching.{HasToldRun, HasToldRunBy, NoneBeforeEnd, if_watched}
use Rattle.tg_driver.specs.glue.Watched.{HasWatchedRun, HasWatchedRunBy, HasUnseenRun, Tell, TellAfter}
use Rattle.tg_driver.proofs.AnswerLemmas.{answers_of, took_all}
use Rattle.tg_driver.proofs.LargeSources.{meant_for_bare}
use Rattle.tg_driver.proofs.BareAnswers.{bare_texts}
use Rattle.tg_driver.proofs.FlagLemmas.{bare_unwatched, plain_in_run}

-- what is said of the run of an answer
abbrev pub SaidMore : (runs others : RunRelation) → Asked → Answer → Type 0
SaidMore runs others a answer = (image : Image) (end : RunEnd) → answer ≡ Finished end →
    runs image a.heap a.stack a.steps end → others image a.heap a.stack a.steps end

pub run_more : (texts : TextRelation) (runs others : RunRelation) (a : Asked) (text : List ℕ) (answer : Answer) → SaidMore runs others a answer →
    IsRunBy texts runs a text answer → IsRunBy texts others a text answer
run_more texts runs others a text (Faulty f) more h = h
run_more texts runs others a text (Finished end) more h = record {
  assembly = h.assembly;
  meant = h.meant;
  ran = record { image = h.ran.image; assembles = h.ran.assembles; run = more h.ran.image end refl h.ran.run };
}
run_more texts runs others a text _ more h = absurd h

pub exec_more : (runs others : RunRelation) (a : Asked) (text : List ℕ) (answer : Answer) → SaidMore runs others a answer →
    IsExecuted runs a text answer → IsExecuted others a text answer
exec_more runs others a text TooLong more h = h
exec_more runs others a text (BadLine rule line) more h = h
exec_more runs others a text (Finished end) more h =
    record { short = h.short; image = h.image; assembles = h.assembles; run = more h.image end refl h.run }
exec_more runs others a text _ more h = absurd h

file_more : {H : Type 0} (shelf : Shelved H) (name : List ℕ) (most : ℕ) (due others : List ℕ → Answer → Type 0) (answer : Answer) →
    ((text : List ℕ) → due text answer → others text answer) → OfFile shelf name most due answer → OfFile shelf name most others answer
file_more shelf name most due others answer more (unreadable is u) = unreadable is u
file_more shelf name most due others answer more (read text front h) = read text front (more text h)

pub in_mode_more : {H I O : Type 0} (texts : Texts) (runs others : RunRelation) (mode : Mode) (shelf : Shelved H) (s : Streams I O) (a : Asked)
    (answer : Answer) → SaidMore runs others a answer → InModeBy texts runs mode shelf s a answer → InModeBy texts others mode shelf s a answer
in_mode_more texts runs others Check shelf s a answer more h = h
in_mode_more texts runs others Build shelf s a answer more h = h
in_mode_more texts runs others Run shelf s a answer more h =
    (h.0, file_more shelf a.file 262145 _ _ answer (λ text. run_more (texts.assembly (passes_of a)) runs others a text answer more) h.1)
in_mode_more texts runs others Exec shelf s a answer more h =
    (h.0, file_more shelf a.file 67108865 _ _ answer (λ text. exec_more runs others a text answer more) h.1)
in_mode_more texts runs others Alloc shelf s a answer more h = h
in_mode_more texts runs others Show shelf s a answer more h = h
in_mode_more texts runs others Gen shelf s a answer more h = h
in_mode_more texts runs others Format shelf s a answer more h = h
in_mode_more texts runs others Bare shelf s a answer more h = h

pub due_more : {H I O : Type 0} (texts : Texts) (runs others : Asked → RunRelation) (words : List (List ℕ)) (shelf : Shelved H) (s : Streams I O)
    (answer : Answer) → ((a : Asked) → SaidMore (runs a) (others a) a answer) → IsDueBy texts runs words shelf s answer →
    IsDueBy texts others words shelf s answer
due_more texts runs others words shelf s answer more (usage is fault same u) = usage is fault same u
due_more texts runs others words shelf s answer more (no_memory is kept u) = no_memory is kept u
due_more texts runs others words shelf s answer more (asked a ask h) =
    asked a ask (in_mode_more texts (runs a) (others a) a.mode shelf s a answer (more a) h)

-- no reports are told where no run has ended
none_before : (answer : Answer) → NoneBeforeEnd [] answer
none_before (Finished end) = tt
none_before _ = refl

-- what was handed in, by the flags
map_watched : {A B : Type 0} (f : A → B) (flags : Flags) (all : List A) → map f (if_watched flags all) ≡ if_watched flags (map f all)
map_watched {A} {B} f flags all = by flags.watch
  where
    by : (b : Bool) → map f (if b then all else []) ≡ (if b then map f all else [])
    by true = refl
    by false = refl

none_watched : {A : Type 0} (flags : Flags) (all : List A) → flags.watch ≡ false → if_watched flags all ≡ []
none_watched flags all off = ap (λ (b : Bool). if b then all else []) off

module _ {W I O : Type 0} (stands : W → List Seen → ℕ → Type 0) (report : W → Report) (new : List W) (s : Streams I O) where
  -- of a run in a mode: the reports, and who tells them
  record Told {H : Type 0} (texts : Texts) (mode : Mode) (shelf : Shelved H) (a : Asked) (end : RunEnd) (old : List W) : Type 0 where
    reports : List ℕ
    in_mode : InModeBy texts (HasToldRunBy s a.flags.bare (map report old) reports) mode shelf s a (Finished end)
    tell : Tell stands report new reports
    none : old ≡ [] → reports ≡ []

  -- watchers that are none tell nothing
  tell_none : new ≡ [] → Tell stands report new []
  tell_none is = record {
    seen = [];
    code = 0;
    stand = λ k d lt.
        let none : length new ≡ 0 = ap length is in
        absurd (omega (arith, none, lt));
    reports_are = sym (ap (λ l. reports_text (map report l) [] 0) is);
  }

  -- the reports of what a watched run fetched, and who tells them
  told_of : (old : List W) (image : Image) (heap stack steps : ℕ) (end : RunEnd) (h : HasWatchedRun stands report old new s image heap stack steps end) →
      HasToldRun s (map report old) (reports_text (map report old) h.seen (length image.code)) image heap stack steps end
  told_of old image heap stack steps end h = record { seen = h.seen; fetched = h.fetched; reports_are = refl }

  tell_of : (old : List W) (image : Image) (heap stack steps : ℕ) (end : RunEnd) (h : HasWatchedRun stands report old new s image heap stack steps end) →
      Tell stands report new (reports_text (map report old) h.seen (length image.code))
  tell_of old image heap stack steps end h = record {
    seen = h.seen;
    code = length image.code;
    stand = h.have_seen.stand;
    reports_are = ap (λ l. reports_text l h.seen (length image.code)) (sym h.have_seen.same);
  }

  -- of a run of the machine that is asked for: the reports, and who tells them
  record ToldRun (bare : Bool) (old : List W) (image : Image) (heap stack steps : ℕ) (end : RunEnd) : Type 0 where
    reports : List ℕ
    run : HasToldRunBy s bare (map report old) reports image heap stack steps end
    tell : Tell stands report new reports
    none : old ≡ [] → reports ≡ []

  told_run : (bare : Bool) (old : List W) (image : Image) (heap stack steps : ℕ) (end : RunEnd) → (bare ≡ true → old ≡ []) →
      HasWatchedRunBy stands report bare old new s image heap stack steps end → ToldRun bare old image heap stack steps end
  told_run true old image heap stack steps end unwatched h = record {
    reports = [];
    run = record { run = h.run; none = refl };
    tell = tell_none (h.same ∙ unwatched refl);
    none = λ is. refl;
  }
  told_run false old image heap stack steps end unwatched h = record {
    reports = reports_text (map report old) h.seen (length image.code);
    run = told_of old image heap stack steps end h;
    tell = tell_of old image heap stack steps end h;
    none = λ is. ap (λ l. reports_text (map report l) h.seen (length image.code)) is;
  }

  told_source : {H : Type 0} (texts : Texts) (shelf : Shelved H) (a : Asked) (end : RunEnd) (old : List W) → (a.flags.bare ≡ true → old ≡ []) →
      OfFile shelf a.file 262145 (IsRunBy (texts.assembly (passes_of a)) (HasWatchedRunBy stands report a.flags.bare old new s) a) (Finished end) →
      Told texts Run shelf a end old
  told_source texts shelf a end old unwatched (unreadable is u) = absurd (cc)
  told_source texts shelf a end old unwatched (read text front h) =
      let image = h.ran.image in
      let t = told_run a.flags.bare old image a.heap a.stack a.steps end unwatched h.ran.run in
      record {
        reports = t.reports;
        in_mode = (
          tt,
          read text front (record {
            assembly = h.assembly;
            meant = h.meant;
            ran = record { image = image; assembles = h.ran.assembles; run = t.run };
          }),
        );
        tell = t.tell;
        none = t.none;
      }

  told_exec : {H : Type 0} (texts : Texts) (shelf : Shelved H) (a : Asked) (end : RunEnd) (old : List W) → (a.flags.bare ≡ true → old ≡ []) →
      OfFile shelf a.file 67108865 (IsExecuted (HasWatchedRunBy stands report a.flags.bare old new s) a) (Finished end) →
      Told texts Exec shelf a end old
  told_exec texts shelf a end old unwatched (unreadable is u) = absurd (cc)
  told_exec texts shelf a end old unwatched (read text front h) =
      let t = told_run a.flags.bare old h.image a.heap a.stack a.steps end unwatched h.run in
      record {
        reports = t.reports;
        in_mode = (tt, read text front (record { short = h.short; image = h.image; assembles = h.assembles; run = t.run }));
        tell = t.tell;
        none = t.none;
      }

  told_in : {H : Type 0} (texts : Texts) (mode : Mode) (shelf : Shelved H) (a : Asked) (end : RunEnd) (old : List W) →
      (ReadsNoInput mode → new ≡ []) → (a.flags.bare ≡ true → old ≡ []) →
      InModeBy texts (HasWatchedRunBy stands report a.flags.bare old new s) mode shelf s a (Finished end) → Told texts mode shelf a end old
  told_in texts Check shelf a end old others unwatched h = record { reports = []; in_mode = h; tell = tell_none (others tt); none = λ _. refl }
  told_in texts Build shelf a end old others unwatched h = record { reports = []; in_mode = h; tell = tell_none (others tt); none = λ _. refl }
  told_in texts Run shelf a end old others unwatched h = told_source texts shelf a end old unwatched h.1
  told_in texts Exec shelf a end old others unwatched h = told_exec texts shelf a end old unwatched h.1
  told_in texts Alloc shelf a end old others unwatched h = record { reports = []; in_mode = h; tell = tell_none (others tt); none = λ _. refl }
  told_in texts Show shelf a end old others unwatched h = record { reports = []; in_mode = h; tell = tell_none (others tt); none = λ _. refl }
  told_in texts Gen shelf a end old others unwatched h = record { reports = []; in_mode = h; tell = tell_none (others tt); none = λ _. refl }
  told_in texts Format shelf a end old others unwatched h = record { reports = []; in_mode = h; tell = tell_none (others tt); none = λ _. refl }
  told_in texts Bare shelf a end old others unwatched h = record { reports = []; in_mode = h; tell = tell_none (others tt); none = λ _. refl }

  -- of an answer: the reports, and who tells them
  pub record ToldDue {H : Type 0} (texts : Texts) (reporters : List Report) (words : List (List ℕ)) (shelf : Shelved H)
      (answer : Answer) : Type 0 where
    pub reports : List ℕ
    pub due : IsDueBy texts (λ a. HasToldRunBy s a.flags.bare (if_watched a.flags reporters) reports) words shelf s answer
    pub before_end : NoneBeforeEnd reports answer
    pub unasked : NoneUnasked words reports
    pub tell : TellAfter stands report new answer reports

  module _ {H : Type 0} (texts : Texts) (old : List W) (words : List (List ℕ)) (shelf : Shelved H) where
    -- nothing is told of an answer that is no end of a run
    quiet : (answer : Answer) → TellAfter stands report new answer [] →
        IsDueBy texts (λ a. HasToldRunBy s a.flags.bare (if_watched a.flags (map report old)) []) words shelf s answer →
        ToldDue texts (map report old) words shelf answer
    quiet answer tell due = record { reports = []; due = due; before_end = none_before answer; unasked = λ a ask off. refl; tell = tell }

    ended : (end : RunEnd) (a : Asked) → Ask words a → (ReadsNoInput a.mode → new ≡ []) →
        InModeBy texts (HasWatchedRunBy stands report a.flags.bare (if_watched a.flags old) new s) a.mode shelf s a (Finished end) →
        ToldDue texts (map report old) words shelf (Finished end)
    ended end a ask others h =
        let unwatched : a.flags.bare ≡ true → if_watched a.flags old ≡ [] =
        λ is. none_watched a.flags old (bare_unwatched a.mode a.flags ask.flags.fit is) in
        let t = told_in texts a.mode shelf a end (if_watched a.flags old) others unwatched h in
        let P : List Report → Type 0 = λ l. InModeBy texts (HasToldRunBy s a.flags.bare l t.reports) a.mode shelf s a (Finished end) in
        record {
          reports = t.reports;
          due = asked a ask (subst P (map_watched report a.flags old) t.in_mode);
          before_end = tt;
          unasked = λ b other off.
              let off_here = ap (λ (x : Asked). x.flags.watch) (asked_once words a b ask other) ∙ off in
              t.none (none_watched a.flags old off_here);
          tell = t.tell;
        }

    by_answer : (answer : Answer) (a : Asked) → Ask words a → (HasStarted answer → ReadsNoInput a.mode → new ≡ []) →
        InModeBy texts (HasWatchedRunBy stands report a.flags.bare (if_watched a.flags old) new s) a.mode shelf s a answer →
        ToldDue texts (map report old) words shelf answer
    by_answer (Finished end) a ask others h = ended end a ask (others tt) h
    by_answer answer a ask others h =
        quiet answer refl (asked a ask (in_mode_more texts _ _ a.mode shelf s a answer (λ image end is. absurd (cc)) h))

    pub told_due : (answer : Answer) → (HasStarted answer → (a : Asked) → Ask words a → ReadsNoInput a.mode → new ≡ []) →
        IsDueBy texts (λ a. HasWatchedRunBy stands report a.flags.bare (if_watched a.flags old) new s) words shelf s answer →
        ToldDue texts (map report old) words shelf answer
    told_due answer others (usage is fault same u) =
        let P : Answer → Type 0 = λ x. ToldDue texts (map report old) words shelf x in
        subst P (sym is) (quiet Usage refl (usage refl fault same u))
    told_due answer others (no_memory is kept u) =
        let P : Answer → Type 0 = λ x. ToldDue texts (map report old) words shelf x in
        subst P (sym is) (quiet OutOfMemory refl (no_memory refl kept u))
    told_due answer others (asked a ask h) = by_answer answer a ask (λ started. others started a ask) h

-- and so by the rule of the policy in the box
pub answers_by : {H I O E : Type 0} (by : SpillRule → Texts) (rule : SpillRule) (c : Call H I O E) (status : ℕ) (reports : List ℕ) (answer : Answer)
    (explanation : List ℕ) →
    rule ≡ c.rule → IsDueBy (by rule) (told_runs c reports) c.words c.shelf c.streams answer → NoneBeforeEnd reports answer →
    NoneUnasked c.words reports → IsExplained c.words c.shelf answer explanation → IsReported c.err reports answer explanation status →
    AnswersBy (by c.rule) c status
answers_by by rule c status reports answer explanation is due before_end unasked explained told =
    let P : SpillRule → Type 0 = λ r. IsDueBy (by r) (told_runs c reports) c.words c.shelf c.streams answer in
    answers_of (by c.rule) c status reports answer explanation (subst P is due) before_end unasked explained told

-- what is said of texts, more weakly
module _ (texts others : Texts)
    (assembly : (passes : Passes) (source written : List ℕ) → texts.assembly passes source written → others.assembly passes source written)
    (bare : (passes : Passes) (source written : List ℕ) → texts.bare passes source written → others.bare passes source written)
    (listing : (passes : Passes) (source written : List ℕ) → texts.listing passes source written → others.listing passes source written)
    (shown : (passes : Passes) (source written : List ℕ) → texts.shown passes source written → others.shown passes source written) where
  written_texts : {O : Type 0} (out : Stream O) (writes wider : TextRelation) →
      ((source written : List ℕ) → writes source written → wider source written) → (source : List ℕ) (answer : Answer) →
      IsWritten out writes source answer → IsWritten out wider source answer
  written_texts out writes wider more source (Faulty f) h = h
  written_texts out writes wider more source Written h = record { written = h.written; is_of = more source h.written h.is_of; takes = h.takes }
  written_texts out writes wider more source Unwritten h = record { written = h.written; is_of = more source h.written h.is_of; takes = h.takes }
  written_texts out writes wider more source _ h = absurd h

  run_texts : (runs : RunRelation) (a : Asked) (text : List ℕ) (answer : Answer) → IsRunBy (texts.assembly (passes_of a)) runs a text answer →
      IsRunBy (others.assembly (passes_of a)) runs a text answer
  run_texts runs a text (Faulty f) h = h
  run_texts runs a text (Finished end) h = record { assembly = h.assembly; meant = assembly (passes_of a) text h.assembly h.meant; ran = h.ran }
  run_texts runs a text _ h = absurd h

  gen_texts : {O : Type 0} (out : Stream O) (a : Asked) (answer : Answer) → IsGeneratedBy (texts.assembly (passes_of a)) out a answer →
      IsGeneratedBy (others.assembly (passes_of a)) out a answer
  gen_texts out a answer h = record {
    end = h.end;
    ends = record { assembly = h.ends.assembly; meant = assembly (passes_of a) _ h.ends.assembly h.ends.meant; ran = h.ends.ran };
  }

  in_mode_texts : {H I O : Type 0} (runs : RunRelation) (mode : Mode) (shelf : Shelved H) (s : Streams I O) (a : Asked) (answer : Answer) →
      InModeBy texts runs mode shelf s a answer → InModeBy others runs mode shelf s a answer
  in_mode_texts runs Check shelf s a answer h = h
  in_mode_texts runs Build shelf s a answer h =
      let more = assembly (passes_of a) in (
        h.0,
        h.1,
        file_more shelf a.file 262145 _ _ answer
            (λ text. written_texts s.out (texts.assembly (passes_of a)) (others.assembly (passes_of a)) more text answer) h.2,
      )
  in_mode_texts runs Run shelf s a answer h = (h.0, file_more shelf a.file 262145 _ _ answer (λ text. run_texts runs a text answer) h.1)
  in_mode_texts runs Exec shelf s a answer h = h
  in_mode_texts runs Alloc shelf s a answer h =
      let more = listing (passes_of a) in (
        h.0,
        h.1,
        file_more shelf a.file 262145 _ _ answer
            (λ text. written_texts s.out (texts.listing (passes_of a)) (others.listing (passes_of a)) more text answer) h.2,
      )
  in_mode_texts runs Show shelf s a answer h =
      let more = shown (passes_of a) in (
        h.0,
        h.1,
        file_more shelf a.file 262145 _ _ answer
            (λ text. written_texts s.out (texts.shown (passes_of a)) (others.shown (passes_of a)) more text answer) h.2,
      )
  in_mode_texts runs Gen shelf s a answer h = (h.0, h.1, h.2, gen_texts s.out a answer h.3)
  in_mode_texts runs Format shelf s a answer h = h
  in_mode_texts runs Bare shelf s a answer h =
      let more = bare (passes_of a) in (
        h.0,
        h.1,
        file_more shelf a.file 262145 _ _ answer
            (λ text. bare_texts s.out (texts.bare (passes_of a)) (others.bare (passes_of a)) more text answer) h.2,
      )

  pub due_texts : {H I O : Type 0} (runs : Asked → RunRelation) (words : List (List ℕ)) (shelf : Shelved H) (s : Streams I O)
      (answer : Answer) → IsDueBy texts runs words shelf s answer → IsDueBy others runs words shelf s answer
  due_texts runs words shelf s answer (usage is fault same u) = usage is fault same u
  due_texts runs words shelf s answer (no_memory is kept u) = no_memory is kept u
  due_texts runs words shelf s answer (asked a ask h) = asked a ask (in_mode_texts (runs a) a.mode shelf s a answer h)

-- what the source is compiled to does what it means
pub due_as_meant : {H I O : Type 0} → BuildIsCorrect → BareBuildIsCorrect → (rule : SpillRule) (runs : Asked → RunRelation) (words : List (List ℕ)) (shelf : Shelved H)
    (s : Streams I O) (answer : Answer) → IsDueBy (texts_compiled rule) runs words shelf s answer → IsDueBy (texts_meant rule) runs words shelf s answer
due_as_meant correct delayed rule runs words shelf s answer h =
    due_texts (texts_compiled rule) (texts_meant rule) (λ passes. correct passes rule) (λ passes. meant_for_bare delayed passes rule)
    (λ passes source written l. l) (λ passes source written l. l) runs words shelf s answer h

-- a machine that ran with nobody watching
pub saw_nothing : {W I O : Type 0} (stands : W → List Seen → ℕ → Type 0) (report : W → Report) (watchers : List W)
    (left : I → Option (List ℕ)) (reads : I → ℕ) (taken : O → Option (List ℕ)) (writes : O → ℕ) (input input' : I) (out out' : O)
    (machine new : Simulated) (image : Image) (heap stack steps : ℕ) (end : RunEnd) → length watchers ≡ 0 → machine ≡ loaded image heap stack →
    (machine.end ≡ None → IsSimulation left reads taken writes steps machine new input input' out out' end) →
    HasWatchedRun stands report watchers watchers (streams_of (stream_of left reads input input') (stream_of taken writes out out'))
    image heap stack steps end
saw_nothing stands report watchers left reads taken writes input input' out out' machine new image heap stack steps end none is ran =
    let P : Simulated → Type 0 = λ m. IsSimulation left reads taken writes steps m new input input' out out' end in
    let r = subst P is (ran (ap (λ (m : Simulated). m.end) is)) in
    record {
      seen = fetches_until (r.stops (rest_after new.input_ended (left input')) (may_rest new.input_ended (left input')));
      fetched = record { after = new; watched = record { simulation = r; may = may_rest new.input_ended (left input'); seen_is = refl } };
      have_seen = record { same = refl; stand = λ k d lt. absurd (omega (arith, none, lt)) };
    }

-- and one that ran before watchers
pub saw_all : {W I O : Type 0} (stands : W → List Seen → ℕ → Type 0) (report : W → Report) (old now : List W)
    (left : I → Option (List ℕ)) (reads : I → ℕ) (taken : O → Option (List ℕ)) (writes : O → ℕ) (input input' : I) (out out' : O)
    (machine new : Simulated) (image : Image) (heap stack steps : ℕ) (end : RunEnd) → machine ≡ loaded image heap stack →
    (machine.end ≡ None → (seen : List Seen) × IsWatched left reads taken writes steps machine new input input' out out' end seen
    × HaveSeen stands report old now seen (length machine.state.code)) →
    HasWatchedRun stands report old now (streams_of (stream_of left reads input input') (stream_of taken writes out out'))
    image heap stack steps end
saw_all stands report old now left reads taken writes input input' out out' machine new image heap stack steps end is ran =
    let P : Simulated → Type 0 = λ m. (seen : List Seen) × IsWatched left reads taken writes steps m new input input' out out' end seen
    × HaveSeen stands report old now seen (length m.state.code) in
    let r = subst P is (ran (ap (λ (m : Simulated). m.end) is)) in
    record { seen = r.0; fetched = record { after = new; watched = r.1 }; have_seen = r.2 }

-- a machine with delayed branches that was loaded ran
pub bare_ran : {I O : Type 0} (left : I → Option (List ℕ)) (reads : I → ℕ) (taken : O → Option (List ℕ)) (writes : O → ℕ) (input input' : I)
    (out out' : O) (machine new : BareSimulated) (image : Image) (heap stack steps : ℕ) (end : RunEnd) → machine ≡ loaded_bare image heap stack →
    (machine.end ≡ None → IsBareSimulation left reads taken writes steps machine new input input' out out' end) →
    HasBareRun (streams_of (stream_of left reads input input') (stream_of taken writes out out')) image heap stack steps end
bare_ran left reads taken writes input input' out out' machine new image heap stack steps end is ran =
    let P : BareSimulated → Type 0 = λ m. IsBareSimulation left reads taken writes steps m new input input' out out' end in
    record { after = new; ran = subst P is (ran (ap (λ (m : BareSimulated). m.end) is)) }

-- what was run by the flag
pub bare_by_flag : {W I O : Type 0} (stands : W → List Seen → ℕ → Type 0) (report : W → Report) (bare : Bool) (watchers : List W) (s : Streams I O)
    (image : Image) (heap stack steps : ℕ) (answer : Answer) → bare ≡ true → IsRunOrMemory (HasBareRun s) s image heap stack steps answer →
    IsRunOrMemory (HasWatchedRunBy stands report bare watchers watchers s) s image heap stack steps answer
bare_by_flag stands report bare watchers s image heap stack steps answer is h =
    let P : Bool → Type 0 = λ b. IsRunOrMemory (HasWatchedRunBy stands report b watchers watchers s) s image heap stack steps answer in
    subst P (sym is) (by answer h)
  where
    by : (answer : Answer) → IsRunOrMemory (HasBareRun s) s image heap stack steps answer →
        IsRunOrMemory (HasUnseenRun watchers watchers s) s image heap stack steps answer
    by (Finished end) h = record { run = h; same = refl }
    by OutOfMemory h = h
    by _ h = absurd h

pub plain_by_flag : {W I O : Type 0} (stands : W → List Seen → ℕ → Type 0) (report : W → Report) (bare : Bool) (old new : List W) (s : Streams I O)
    (image : Image) (heap stack steps : ℕ) (answer : Answer) → bare ≡ false →
    IsRunOrMemory (HasWatchedRun stands report old new s) s image heap stack steps answer →
    IsRunOrMemory (HasWatchedRunBy stands report bare old new s) s image heap stack steps answer
plain_by_flag stands report bare old new s image heap stack steps answer is h =
    let P : Bool → Type 0 = λ b. IsRunOrMemory (HasWatchedRunBy stands report b old new s) s image heap stack steps answer in
    subst P (sym is) h

-- `run` is told so too
pub run_by_flag : {H W I O : Type 0} (stands : W → List Seen → ℕ → Type 0) (report : W → Report) (old new : List W) (texts : TextRelation)
    (shelf : Shelved H) (s : Streams I O) (mode : Mode) (a : Asked) (answer : Answer) → mode ≡ Run → flags_fit mode a.flags ≡ true →
    OrMemory (Unit {0}) (OfFile shelf a.file 262145 (IsRunBy texts (HasWatchedRun stands report old new s) a)) answer →
    OrMemory (Unit {0}) (OfFile shelf a.file 262145 (IsRunBy texts (HasWatchedRunBy stands report a.flags.bare old new s) a)) answer
run_by_flag stands report old new texts shelf s mode a answer is fit h =
    let P : Bool → Type 0 =
    λ b. OrMemory (Unit {0}) (OfFile shelf a.file 262145 (IsRunBy texts (HasWatchedRunBy stands report b old new s) a)) answer in
    let fits : flags_fit Run a.flags ≡ true = subst (λ m. flags_fit m a.flags ≡ true) is fit in
    subst P (sym (plain_in_run a.flags fits)) h

-- watchers that were begun have the reports that they had
pub begun_before : {W I O : Type 0} (stands : W → List Seen → ℕ → Type 0) (report : W → Report) (old begun now : List W) (s : Streams I O)
    (image : Image) (heap stack steps : ℕ) (end : RunEnd) → map report begun ≡ map report old →
    HasWatchedRun stands report begun now s image heap stack steps end → HasWatchedRun stands report old now s image heap stack steps end
begun_before stands report old begun now s image heap stack steps end same h = record {
  seen = h.seen;
  fetched = h.fetched;
  have_seen = record { same = h.have_seen.same ∙ same; stand = h.have_seen.stand };
}

-- a text that was told, as what a sink took
pub took_told : {T E A : Type 0} {F : Type 0} (taken : T → Option (List ℕ)) (faults : T → ℕ) (old new : T) (u : E) (due : List ℕ) (whole failed : A) →
    HasTold {T = E} {E = F} taken faults old new (Ok u) due → Takes (stream_of taken faults old new) due whole failed whole
took_told taken faults old new u due whole failed h = took_all (stream_of taken faults old new) due whole failed h.empty h.bytes

pub took_part : {T E A : Type 0} {F : Type 0} (taken : T → Option (List ℕ)) (faults : T → ℕ) (old new : T) (f : F) (due : List ℕ) (whole failed : A) →
    HasTold {T = E} {E = F} taken faults old new (Err f) due → Takes (stream_of taken faults old new) due whole failed failed
took_part taken faults old new f due whole failed h = part refl h.some h.cause.failed h.bytes
