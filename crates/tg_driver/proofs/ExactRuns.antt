-- Runs whose reads and writes all succeed are those of the definition.
use Rattle.std.proofs.Common.{ℕ, ◌≡◌, Bool, true, false, List, [], ◌++◌, Some, refl, sym, ap, subst, ◌∙◌, append-nil, length}
use Rattle.std.specs.Io.KnownBytes.{Appends}
use Rattle.tg_machine_state.specs.declared.ends.RunEnd.{RunEnd}
use Rattle.tg_machine_state.specs.declared.ends.RunEnd.TheVariants.{ReadFault, WriteFault}
use Rattle.tg_machine_state.specs.State.{initial_machine}
use Rattle.tg_isa.specs.declared.images.Image.{Image}
use Rattle.tg_isa.specs.Runs.{Execution, run}
use Rattle.tg_machine.specs.Ran.{Stops, still, ended, read_failed, write_failed, begun_on, standing}
use Rattle.tg_machine.specs.Fetches.{fetches, fetches_until, rest_after}
use Rattle.tg_machine.proofs.Fetching.{may_rest}
use Rattle.tg_bare.specs.BareRuns.{BareProgress, Running, Ended}
use Rattle.tg_bare.specs.laws.Laws.{bare_end_in, bare_world_in, bare_outcome_on}
use Rattle.tg_bare.proofs.Exact as bare_exact
use Rattle.tg_profiler.specs.Told.{reports_text}
use Rattle.tg_profiler.specs.Watching.{Report}
use Rattle.tg_driver.specs.Calls.{Streams, HasFailed}
use Rattle.tg_driver.specs.Runs.{RunRelation, HasRun, HasBareRun, HasRunBy}
use Rattle.tg_driver.specs.laws.Settled.{end_in, world_in, plain_progress, IsExact}
use Rattle.tg_driver.specs.Watching.{HasToldRun, HasToldRunBy}
use Rattle.tg_driver.specs.glue.Watched.{run_in}
use Rattle.tg_driver.specs.laws.Settled.{reports_on}
use Rattle.tg_driver.specs.laws.Laws.{IsFaultless, EndsAsTold}
use Rattle.tg_driver.specs.declared.answers.Answer.TheVariants.{Finished}
use Rattle.tg_driver.proofs.ToldInputs.{lost}

-- the outcome, by its parts
record Comes (n : ℕ) (w : Execution) (e : RunEnd) (last : Execution) (front : List ℕ) : Type 0 where
  end_is : e ≡ end_in (run n w)
  last_is : last ≡ world_in (run n w)
  no_front : front ≡ []

comes : (n : ℕ) (w : Execution) (e : RunEnd) (last : Execution) (front : List ℕ) → (e ≡ ReadFault → ⊥) → (e ≡ WriteFault → ⊥) →
    Stops n w e last front → Comes n w e last front
comes n w e last front r s (still q p f) = record { end_is = p ∙ sym (ap end_in q); last_is = sym (ap world_in q); no_front = f }
comes n w e last front r s (ended q f) = record { end_is = sym (ap end_in q); last_is = sym (ap world_in q); no_front = f }
comes n w e last front r s (read_failed i l q p d f) = absurd (r d)
comes n w e last front r s (write_failed i rest l q p d) = absurd (s d)

whole : (written front : List ℕ) → front ≡ [] → written ++ front ≡ written
whole written front e = ap (λ f. written ++ f) e ∙ append-nil written

exact_plain : {I O : Type 0} (s : Streams I O) (image : Image) (heap stack steps : ℕ) (end : RunEnd) (bytes : List ℕ) →
    HasRun s image heap stack steps end → s.input.told s.input.before ≡ Some bytes → IsFaultless (Finished end) →
    IsExact s false image heap stack steps end bytes
exact_plain s image heap stack steps end bytes h tells f =
    let r = h.ran in
    let e = h.after.input_ended in
    let l = lost s.input.told e r.read bytes s.input.before s.input.after r.gives r.meets_end tells in
    let rest = rest_after e (s.input.told s.input.after) in
    let first = initial_machine image.code image.statics image.entry heap stack in
    let S : List ℕ → Type 0 = λ i. Stops steps (begun_on first i) end (standing r.last rest r.output) r.front in
    let c = comes steps _ end _ r.front (λ d. f.all_read (ap Finished d)) (λ d. f.all_written (ap Finished d))
    (subst S l.whole (r.stops rest (may_rest e (s.input.told s.input.after)))) in
    let W : List ℕ → Type 0 = λ w. Appends (s.out.told s.out.before) (s.out.told s.out.after) w in
    record {
      ends = c.end_is;
      writes = subst W (whole r.output r.front c.no_front ∙ ap (λ (w : Execution). w.output) c.last_is) r.writes;
      left = rest;
      told = l.left;
      leaves = sym (ap (λ (w : Execution). w.input) c.last_is);
    }

-- what came of the machine with delayed branches, without its places
same_end : (o : BareProgress) → bare_end_in o ≡ end_in (plain_progress o)
same_end (Running w) = refl
same_end (Ended e w) = refl

same_output : (o : BareProgress) → (bare_world_in o).output ≡ (world_in (plain_progress o)).output
same_output (Running w) = refl
same_output (Ended e w) = refl

same_input : (o : BareProgress) → (bare_world_in o).input ≡ (world_in (plain_progress o)).input
same_input (Running w) = refl
same_input (Ended e w) = refl

exact_bare : {I O : Type 0} (s : Streams I O) (image : Image) (heap stack steps : ℕ) (end : RunEnd) (bytes : List ℕ) →
    HasBareRun s image heap stack steps end → s.input.told s.input.before ≡ Some bytes → IsFaultless (Finished end) →
    IsExact s true image heap stack steps end bytes
exact_bare s image heap stack steps end bytes h tells f =
    let x = bare_exact.runs_are_exact s.input.told s.input.faults s.out.told s.out.faults image heap stack steps h.after s.input.before s.input.after
    s.out.before s.out.after end bytes h.ran tells (λ d. f.all_read (ap Finished d)) (λ d. f.all_written (ap Finished d)) in
    let o = bare_outcome_on image heap stack steps bytes in
    let W : List ℕ → Type 0 = λ w. Appends (s.out.told s.out.before) (s.out.told s.out.after) w in
    record {
      ends = x.ends ∙ same_end o;
      writes = subst W (same_output o) x.writes;
      left = x.rest;
      told = x.told;
      leaves = sym (same_input o) ∙ x.leaves;
    }

pub exact_run : {I O : Type 0} (s : Streams I O) (bare : Bool) (image : Image) (heap stack steps : ℕ) (end : RunEnd) (bytes : List ℕ) →
    HasRunBy s bare image heap stack steps end → s.input.told s.input.before ≡ Some bytes → IsFaultless (Finished end) →
    IsExact s bare image heap stack steps end bytes
exact_run s true = exact_bare s
exact_run s false = exact_plain s

-- such a run, as what is said of runs
abbrev pub FaultlessRun : {I O : Type 0} → Streams I O → (bare : Bool) → RunRelation
FaultlessRun s bare image heap stack steps end = HasRunBy s bare image heap stack steps end × IsFaultless (Finished end)

-- two such runs on the same bytes end alike
pub exact_alike : {I O J P : Type 0} (s : Streams I O) (t : Streams J P) (bare : Bool) (bytes : List ℕ) (image : Image) (heap stack steps : ℕ)
    (d e : RunEnd) → s.input.told s.input.before ≡ Some bytes → t.input.told t.input.before ≡ Some bytes → HasRunBy s bare image heap stack steps d →
    IsFaultless (Finished d) → HasRunBy t bare image heap stack steps e → IsFaultless (Finished e) → d ≡ e
exact_alike s t bare bytes image heap stack steps d e first second p f q g =
    (exact_run s bare image heap stack steps d bytes p first f).ends ∙ sym ((exact_run t bare image heap stack steps e bytes q second g).ends)

-- such a run ends as it does on the bytes that its input tells
finished_once : (d e : RunEnd) → Finished d ≡ Finished e → d ≡ e
finished_once d e h = cc

pub ends_as_told : {I O : Type 0} (s : Streams I O) (bare : Bool) (image : Image) (heap stack steps : ℕ) (end : RunEnd) →
    (end ≡ ReadFault → ⊥) → (end ≡ WriteFault → ⊥) → HasRunBy s bare image heap stack steps end →
    EndsAsTold (s.input.told s.input.before) bare image heap stack steps end
ends_as_told s bare image heap stack steps end read written h bytes tells =
    let faultless : IsFaultless (Finished end) =
    record { all_read = λ d. read (finished_once end ReadFault d); all_written = λ d. written (finished_once end WriteFault d) } in
    (exact_run s bare image heap stack steps end bytes h tells faultless).ends

-- a read or a write that ended a run has its count as its cause
pub read_cause : {I O : Type 0} (s : Streams I O) (bare : Bool) (image : Image) (heap stack steps : ℕ) (end : RunEnd) →
    HasRunBy s bare image heap stack steps end → end ≡ ReadFault → HasFailed s.input
read_cause s true image heap stack steps end h = h.ran.read_cause
read_cause s false image heap stack steps end h = h.ran.read_cause

pub write_cause : {I O : Type 0} (s : Streams I O) (bare : Bool) (image : Image) (heap stack steps : ℕ) (end : RunEnd) →
    HasRunBy s bare image heap stack steps end → end ≡ WriteFault → HasFailed s.out
write_cause s true image heap stack steps end h = h.ran.write_cause
write_cause s false image heap stack steps end h = h.ran.write_cause

pub ends_faultless : {I O : Type 0} (s : Streams I O) (bare : Bool) (image : Image) (heap stack steps : ℕ) (end : RunEnd) →
    (HasFailed s.input → ⊥) → (HasFailed s.out → ⊥) → HasRunBy s bare image heap stack steps end →
    EndsAsTold (s.input.told s.input.before) bare image heap stack steps end
ends_faultless s bare image heap stack steps end read written h = ends_as_told s bare image heap stack steps end
    (λ d. read (read_cause s bare image heap stack steps end h d)) (λ d. written (write_cause s bare image heap stack steps end h d)) h

-- what is told of a run is of a run
pub run_of : {I O : Type 0} (s : Streams I O) (bare : Bool) (reporters : List Report) (reports : List ℕ) (image : Image) (heap stack steps : ℕ)
    (end : RunEnd) → HasToldRunBy s bare reporters reports image heap stack steps end → HasRunBy s bare image heap stack steps end
run_of s true reporters reports image heap stack steps end h = h.run
run_of s false reporters reports image heap stack steps end h = run_in s reporters reports image heap stack steps end h

-- what a run fetches whose reads and writes all pass
fetched : (n : ℕ) (w : Execution) (e : RunEnd) (last : Execution) (front : List ℕ) (stops : Stops n w e last front) → (e ≡ ReadFault → ⊥) →
    (e ≡ WriteFault → ⊥) → fetches_until stops ≡ fetches n w
fetched n w e last front (still q p f) r s = refl
fetched n w e last front (ended q f) r s = refl
fetched n w e last front (read_failed i l q p d f) r s = absurd (r d)
fetched n w e last front (write_failed i rest l q p d) r s = absurd (s d)

-- and the reports of it
plain_reports : {I O : Type 0} (s : Streams I O) (reporters : List Report) (reports : List ℕ) (image : Image) (heap stack steps : ℕ) (end : RunEnd)
    (bytes : List ℕ) → (end ≡ ReadFault → ⊥) → (end ≡ WriteFault → ⊥) → HasToldRun s reporters reports image heap stack steps end →
    s.input.told s.input.before ≡ Some bytes → reports ≡ reports_on false reporters image heap stack steps bytes
plain_reports s reporters reports image heap stack steps end bytes read written h tells =
    let w = h.fetched.watched in
    let r = w.simulation in
    let e = h.fetched.after.input_ended in
    let rest = rest_after e (s.input.told s.input.after) in
    let same = (lost s.input.told e r.read bytes s.input.before s.input.after r.gives r.meets_end tells).whole in
    let first = initial_machine image.code image.statics image.entry heap stack in
    let seen = w.seen_is ∙ fetched steps _ end _ r.front (r.stops rest w.may) read written ∙ ap (λ i. fetches steps (begun_on first i)) same in
    h.reports_are ∙ ap (λ l. reports_text reporters l (length image.code)) seen

pub exact_reports : {I O : Type 0} (s : Streams I O) (bare : Bool) (reporters : List Report) (reports : List ℕ) (image : Image)
    (heap stack steps : ℕ) (end : RunEnd) (bytes : List ℕ) → (end ≡ ReadFault → ⊥) → (end ≡ WriteFault → ⊥) →
    HasToldRunBy s bare reporters reports image heap stack steps end →
    s.input.told s.input.before ≡ Some bytes → reports ≡ reports_on bare reporters image heap stack steps bytes
exact_reports s true reporters reports image heap stack steps end bytes read written h tells = h.none
exact_reports s false reporters reports image heap stack steps end bytes read written h tells =
    plain_reports s reporters reports image heap stack steps end bytes read written h tells
