-- A run whose reads and writes all succeed is that of the definition, and an end is answered again.
use Rattle.std.proofs.Common.{ℕ, ◌≡◌, ◌≢◌, List, [], ◌++◌, Bool, true, false, Option, Some, None, IfSome, refl, sym, ap, subst, ◌∙◌, append-nil}
use Rattle.std.specs.Io.KnownBytes.{Appends, Consumes, IsAtEnd}
use Rattle.tg_machine_state.specs.declared.ends.RunEnd.{RunEnd}
use Rattle.tg_machine_state.specs.declared.ends.RunEnd.TheVariants.{StepLimit, ReadFault, WriteFault}
use Rattle.tg_machine.specs.Fetches.{rest_after}
use Rattle.tg_machine.specs.Ran.{MeetsEnd}
use Rattle.tg_machine.proofs.Fetching.{may_rest}
use Rattle.tg_bare.specs.Delayed.{initial_bare}
use Rattle.tg_bare.specs.BareRuns.{BareExecution, run_bare, bare_begun}
use Rattle.tg_bare.specs.Machines.{BareSimulated, HasBareEnded}
use Rattle.tg_bare.specs.Ran.{BareStops, still, ended, read_failed, write_failed, bare_standing}
use Rattle.tg_bare.specs.laws.Laws.{bare_end_in, bare_world_in, BareRunsAreExact, HasBareCalled, BareEndsAgain}

-- the outcome, by its parts
record Comes (n : ℕ) (w : BareExecution) (e : RunEnd) (last : BareExecution) (front : List ℕ) : Type 0 where
  end_is : e ≡ bare_end_in (run_bare n w)
  last_is : last ≡ bare_world_in (run_bare n w)
  no_front : front ≡ []

comes : (n : ℕ) (w : BareExecution) (e : RunEnd) (last : BareExecution) (front : List ℕ) → e ≢ ReadFault → e ≢ WriteFault → BareStops n w e last front →
    Comes n w e last front
comes n w e last front r s (still q p f) = record { end_is = p ∙ sym (ap bare_end_in q); last_is = sym (ap bare_world_in q); no_front = f }
comes n w e last front r s (ended q f) = record { end_is = sym (ap bare_end_in q); last_is = sym (ap bare_world_in q); no_front = f }
comes n w e last front r s (read_failed i l q p d f) = absurd (r d)
comes n w e last front r s (write_failed i rest l q p d) = absurd (s d)

-- a source that told its bytes lost what was read, and tells the rest
record Lost (told' : Option (List ℕ)) (ended : Bool) (read bytes : List ℕ) : Type 0 where
  whole : read ++ rest_after ended told' ≡ bytes
  left : told' ≡ Some (rest_after ended told')

at_end : {I : Type 0} (told : I → Option (List ℕ)) (e : Bool) (read : List ℕ) (input input' : I) → MeetsEnd told false e read input input' → e ≡ true →
    IsAtEnd (told input')
at_end told true read input input' h is = h
at_end told false read input input' h is = cc is

lost_by : (a b : Option (List ℕ)) (e : Bool) (read bytes : List ℕ) → Consumes a b read → (e ≡ true → IsAtEnd b) → a ≡ Some bytes → Lost b e read bytes
lost_by None b e read bytes c end is = cc is
lost_by (Some x) None e read bytes c end is = absurd c
lost_by (Some x) (Some y) true read bytes c end is =
    let same : x ≡ bytes = cc is in
    record { whole = ap (λ l. read ++ l) (sym (end refl)) ∙ sym c ∙ same; left = ap Some (end refl) }
lost_by (Some x) (Some y) false read bytes c end is =
    let same : x ≡ bytes = cc is in
    record { whole = sym c ∙ same; left = refl }

whole : (written front : List ℕ) → front ≡ [] → written ++ front ≡ written
whole written front e = ap (λ f. written ++ f) e ∙ append-nil written

pub runs_are_exact : {I O : Type 0} → BareRunsAreExact I O
runs_are_exact left read_faults taken write_faults image heap stack steps new input input' out out' end bytes r tells read written =
    let e = new.input_ended in
    let l = lost_by (left input) (left input') e r.read bytes r.gives (at_end left e r.read input input' r.meets_end) tells in
    let rest = rest_after e (left input') in
    let first = initial_bare image.code image.statics image.entry heap stack in
    let S : List ℕ → Type 0 = λ i. BareStops steps (bare_begun first i) end (bare_standing r.last rest r.output) r.front in
    let c = comes steps _ end _ r.front read written (subst S l.whole (r.stops rest (may_rest e (left input')))) in
    let W : List ℕ → Type 0 = λ w. Appends (taken out) (taken out') w in
    record {
      ends = c.end_is;
      writes = subst W (whole r.output r.front c.no_front ∙ ap (λ (w : BareExecution). w.output) c.last_is) r.writes;
      rest = rest;
      told = l.left;
      leaves = sym (ap (λ (w : BareExecution). w.input) c.last_is);
    }

-- after such a call the machine keeps its end
keeps_end : {I O : Type 0} (left : I → Option (List ℕ)) (read_faults : I → ℕ) (taken : O → Option (List ℕ)) (write_faults : O → ℕ)
    (k : ℕ) (old mid : BareSimulated) (first input : I) (start out : O) (e : RunEnd) →
    HasBareCalled left read_faults taken write_faults k old mid first input start out e → e ≢ StepLimit → mid.end ≡ Some e
keeps_end left read_faults taken write_faults k old mid first input start out e h apart = by old.end refl
  where
    by : (o : Option RunEnd) → old.end ≡ o → mid.end ≡ Some e
    by None is = (h.ran is).keeps apart
    by (Some g) is =
        let a = subst (λ x. IfSome x (λ g. (e ≡ g) × HasBareEnded old mid first input start out)) is h.again in
        rw (a.1.machine, a.0) is

pub ends_again : {I O : Type 0} → BareEndsAgain I O
ends_again left read_faults taken write_faults k n old mid new first input input' start out out' e f a apart b =
    subst (λ x. IfSome x (λ g. (f ≡ g) × HasBareEnded mid new input input' out out'))
    (keeps_end left read_faults taken write_faults k old mid first input start out e a apart) b.again
