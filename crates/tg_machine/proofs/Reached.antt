-- What the code has come to after so many steps, and what it leaves at each way out.
use Rattle.std.proofs.Common.{◌≡◌, ◌<◌, ◌≤◌, ◌⊎◌, inl, inr, ◌+◌, ◌^◌, ℕ, List, [], ◌∷◌, ◌++◌, length, Bool, true, false, Option, Some, None, Result, Ok, Err}
use Rattle.std.proofs.Common.{arith, refl, sym, ap, ◌∙◌, subst, append_assoc, append-nil, length-append}
use Rattle.std.proofs.lemmas.List.Elements.{All-nil, All-append, All-cons}
use Rattle.std.specs.Io.KnownBytes.{Appends, Consumes, IsAtEnd, Keeps}
use Rattle.std.proofs.KnownBytes.{Appends-nil, Appends-trans, Consumes-nil, Consumes-trans, Consumes-kept}
use Rattle.tg_machine_state.specs.declared.ends.RunEnd.{RunEnd}
use Rattle.tg_machine_state.specs.declared.ends.RunEnd.TheVariants.{StepLimit, ReadFault, WriteFault}
use Rattle.tg_base.specs.Causes.{Rose}
use Rattle.tg_base.specs.Writes.{TakesPrefix}
use Rattle.tg_simulation.specs.Bytes.{AreBytes}
use Rattle.tg_machine_state.specs.State.{MachineState}
use Rattle.tg_machine_state.specs.Services.{Step, Goes, Ends, Reads, Writes, answered}
use Rattle.tg_isa.specs.Effects.{step}
use Rattle.tg_isa.specs.Runs.{Execution, Running, run, answers, first_answer, later_answers}
use Rattle.tg_machine.specs.Machines.{simulated}
use Rattle.tg_machine.specs.Ran.{IsSimulation, MayFollow, MeetsEnd, begun_on, standing, ComesToRead, ComesToWrite, saturating_sum}
use Rattle.tg_machine.specs.Ran.{still, ended, read_failed, write_failed}
use Rattle.tg_machine.specs.glue.Moves.{IsOwn, Answers, Moved}
use Rattle.tg_machine.proofs.Runs.{run_more, run_over}

-- ---- the end of the input

pub none_follows : (e : Bool) → MayFollow e []
none_follows true = refl
none_follows false = tt

-- as it stays, where nothing is read
pub meets_none : {I : Type 0} (left : I → Option (List ℕ)) (e : Bool) (input : I) → MeetsEnd left e e [] input input
meets_none left false input = tt
meets_none left true input = (refl, refl)

-- one call after another
pub meets_then : {I : Type 0} (left : I → Option (List ℕ)) (d e f : Bool) (read more : List ℕ) (x y z : I) → MeetsEnd left d e read x y →
    MeetsEnd left e f more y z → MeetsEnd left d f (read ++ more) x z
meets_then left false false false read more x y z p q = tt
meets_then left false false true read more x y z p q = q
meets_then left false true true read more x y z p q = subst (λ i. IsAtEnd (left i)) (sym q.1) p
meets_then left false true false read more x y z p q = absurd q
meets_then left true false f read more x y z p q = absurd p
meets_then left true true false read more x y z p q = absurd q
meets_then left true true true read more x y z p q = (ap (λ l. l ++ more) p.0 ∙ q.0, q.1 ∙ p.1)

-- what may follow later may follow with what is read until then in front
pub may_before : {I : Type 0} (left : I → Option (List ℕ)) (e f : Bool) (more rest : List ℕ) (y z : I) → MeetsEnd left e f more y z →
    MayFollow f rest → MayFollow e (more ++ rest)
may_before left false f more rest y z q may = tt
may_before left true false more rest y z q may = absurd q
may_before left true true more rest y z q may = ap (λ l. l ++ rest) q.0 ∙ may

-- what an answer takes from the source
abbrev pub bytes_of : Option ℕ → List ℕ
bytes_of (Some b) = b ∷ []
bytes_of None = []

pub record Taken {I : Type 0} (left : I → Option (List ℕ)) (input input' : I) (e f : Bool) (answer : Option ℕ) : Type 0 where
  pub are_bytes : AreBytes (bytes_of answer)
  pub gives : Consumes (left input) (left input') (bytes_of answer)
  pub meets : MeetsEnd left e f (bytes_of answer) input input'
  pub first : (rest : List ℕ) → MayFollow f rest → first_answer (answers (bytes_of answer ++ rest)) ≡ answer
  pub later : (rest : List ℕ) → MayFollow f rest → later_answers (answers (bytes_of answer ++ rest)) ≡ answers rest

kept_consumes : (old new : Option (List ℕ)) → Keeps old new → Consumes old new []
kept_consumes old new k = Consumes-kept old old new [] (Consumes-nil old) k

pub answer_taken : {I : Type 0} (left : I → Option (List ℕ)) (input input' : I) (e f : Bool) (answer : Option ℕ) → Answers left input input' e f answer →
    Taken left input input' e f answer
answer_taken left input input' e f (Some b) h = rw (h.2, h.3) (record {
  are_bytes = All-cons (λ n. n < 256) b [] h.0 (All-nil (λ n. n < 256));
  gives = h.1;
  meets = tt;
  first = λ rest may. refl;
  later = λ rest may. refl;
})
answer_taken left input input' e f None h = rw h.2 (record {
  are_bytes = All-nil (λ n. n < 256);
  gives = kept_consumes (left input) (left input') h.0;
  meets = h.1;
  first = λ rest may. ap (λ l. first_answer (answers l)) may;
  later = λ rest may. ap (λ l. later_answers (answers l)) may ∙ sym (ap answers may);
})

-- ---- after so many steps
pub record Reached {I O : Type 0}
    (left : I → Option (List ℕ)) (read_faults : I → ℕ) (taken : O → Option (List ℕ)) (write_faults : O → ℕ)
    (n : ℕ) (old new : MachineState) (input input' : I) (out out' : O) (written written' : ℕ) (e e' : Bool) : Type 0 where
  pub read : List ℕ
  pub output : List ℕ
  pub are_bytes : AreBytes read
  pub gives : Consumes (left input) (left input') read
  pub meets_end : MeetsEnd left e e' read input input'
  pub comes : (rest : List ℕ) → MayFollow e' rest → run n (begun_on old (read ++ rest)) ≡ Running (standing new rest output)
  pub writes : Appends (taken out) (taken out') output
  pub unread : (input' ≡ input) ⊎ ((rest : List ℕ) → MayFollow e' rest → ComesToRead n (begun_on old (read ++ rest)))
  pub unwritten : (out' ≡ out) ⊎ ((rest : List ℕ) → MayFollow e' rest → ComesToWrite n (begun_on old (read ++ rest)))
  pub reads_later : read_faults input ≤ read_faults input'
  pub writes_later : write_faults out ≤ write_faults out'
  pub counts : written' ≡ saturating_sum written (length output)

pub reached_none : {I O : Type 0} (left : I → Option (List ℕ)) (read_faults : I → ℕ) (taken : O → Option (List ℕ)) (write_faults : O → ℕ)
    (s : MachineState) (input : I) (out : O) (written : ℕ) (e : Bool) → written < 2 ^ 64 → Reached left read_faults taken write_faults
    0 s s input input out out written written e e
reached_none left read_faults taken write_faults s input out written e fits = record {
  read = [];
  output = [];
  are_bytes = All-nil (λ n. n < 256);
  gives = Consumes-nil (left input);
  meets_end = meets_none left e input;
  comes = λ rest may. refl;
  writes = Appends-nil (taken out);
  unread = inl refl;
  unwritten = inl refl;
  reads_later = omega arith;
  writes_later = omega arith;
  counts = omega (arith, fits);
}

pub saturating_sum-add : (w a b : ℕ) → saturating_sum (saturating_sum w a) b ≡ saturating_sum w (a + b)
saturating_sum-add w a b = omega arith

pub later_read : (n m : ℕ) (w : Execution) → n ≤ m → ComesToRead n w → ComesToRead m w
later_read n m w le c =
    let within : c.steps < m = omega (arith, c.within, le) in
    record { steps = c.steps; world = c.world; within = within; comes = c.comes; reading = c.reading }

pub later_write : (n m : ℕ) (w : Execution) → n ≤ m → ComesToWrite n w → ComesToWrite m w
later_write n m w le c =
    let within : c.steps < m = omega (arith, c.within, le) in
    record { steps = c.steps; world = c.world; bytes = c.bytes; within = within; comes = c.comes; writing = c.writing }

-- what a touch of the source or the sink says goes on to what follows later
pub onto : {A : Type 0} (e f : Bool) (read more : List ℕ) (P Q : List ℕ → Type 0) →
    ((rest : List ℕ) → MayFollow f rest → MayFollow e (more ++ rest)) → ((l : List ℕ) → P l → Q l) →
    A ⊎ ((rest : List ℕ) → MayFollow e rest → P (read ++ rest)) →
    A ⊎ ((rest : List ℕ) → MayFollow f rest → Q ((read ++ more) ++ rest))
onto e f read more P Q before weaker (inl a) = inl a
onto e f read more P Q before weaker (inr g) =
    inr (λ rest may. subst Q (sym (append_assoc read more rest)) (weaker (read ++ (more ++ rest)) (g (more ++ rest) (before rest may))))

pub onto_same : {A : Type 0} (e : Bool) (read : List ℕ) (P Q : List ℕ → Type 0) → ((l : List ℕ) → P l → Q l) →
    A ⊎ ((rest : List ℕ) → MayFollow e rest → P (read ++ rest)) →
    A ⊎ ((rest : List ℕ) → MayFollow e rest → Q (read ++ rest))
onto_same e read P Q weaker (inl a) = inl a
onto_same e read P Q weaker (inr g) = inr (λ rest may. weaker (read ++ rest) (g rest may))

-- where a touch of an earlier source is one of a later too
pub touched_read : {A : Type 0} (n m : ℕ) (old : MachineState) (e : Bool) (read : List ℕ) → n ≤ m →
    A ⊎ ((rest : List ℕ) → MayFollow e rest → ComesToRead n (begun_on old (read ++ rest))) →
    A ⊎ ((rest : List ℕ) → MayFollow e rest → ComesToRead m (begun_on old (read ++ rest)))
touched_read n m old e read le t =
    onto_same e read (λ l. ComesToRead n (begun_on old l)) (λ l. ComesToRead m (begun_on old l)) (λ l. later_read n m (begun_on old l) le) t

pub touched_write : {A : Type 0} (n m : ℕ) (old : MachineState) (e : Bool) (read : List ℕ) → n ≤ m →
    A ⊎ ((rest : List ℕ) → MayFollow e rest → ComesToWrite n (begun_on old (read ++ rest))) →
    A ⊎ ((rest : List ℕ) → MayFollow e rest → ComesToWrite m (begun_on old (read ++ rest)))
touched_write n m old e read le t =
    onto_same e read (λ l. ComesToWrite n (begun_on old l)) (λ l. ComesToWrite m (begun_on old l)) (λ l. later_write n m (begun_on old l) le) t

same_world : (s s' : MachineState) (l l' : List (Option ℕ)) (output : List ℕ) → s ≡ s' → l ≡ l' →
    Running (record { machine = s; input = l; output = output }) ≡ Running (record { machine = s'; input = l'; output = output })
same_world s s' l l' output e f = rw (e, f) refl

pub reached_goes : {I O : Type 0} (left : I → Option (List ℕ)) (read_faults : I → ℕ) (taken : O → Option (List ℕ)) (write_faults : O → ℕ)
    (n : ℕ) (old mid new : MachineState) (first input : I) (start out : O) (before written : ℕ) (e f : Bool) →
    Reached left read_faults taken write_faults n old mid first input start out before written e f →
    step mid ≡ Goes new →
    Reached left read_faults taken write_faults (n + 1) old new first input start out before written e f
reached_goes left read_faults taken write_faults n old mid new first input start out before written e f r s =
    let le : n ≤ n + 1 = omega arith in
    record {
      read = r.read;
      output = r.output;
      are_bytes = r.are_bytes;
      gives = r.gives;
      meets_end = r.meets_end;
      comes = λ rest may. run_more n (begun_on old (r.read ++ rest)) _ (Goes new) _ (r.comes rest may) s refl;
      writes = r.writes;
      unread = touched_read n (n + 1) old f r.read le r.unread;
      unwritten = touched_write n (n + 1) old f r.read le r.unwritten;
      reads_later = r.reads_later;
      writes_later = r.writes_later;
      counts = r.counts;
    }

reached_reads : {I O : Type 0} (left : I → Option (List ℕ)) (read_faults : I → ℕ) (taken : O → Option (List ℕ)) (write_faults : O → ℕ)
    (n : ℕ) (old mid after new : MachineState) (first input input' : I) (start out : O) (before written : ℕ) (e f g : Bool) (answer : Option ℕ) →
    Reached left read_faults taken write_faults n old mid first input start out before written e f →
    step mid ≡ Reads after → Answers left input input' f g answer → new ≡ answered after answer → read_faults input ≤ read_faults input' →
    Reached left read_faults taken write_faults (n + 1) old new first input' start out before written e g
reached_reads left read_faults taken write_faults n old mid after new first input input' start out before written e f g answer r s a is le =
    let t = answer_taken left input input' f g answer a in
    let more = bytes_of answer in
    let later : read_faults first ≤ read_faults input' = omega (arith, r.reads_later, le) in
    let steps : n ≤ n + 1 = omega arith in
    let earlier : (rest : List ℕ) → MayFollow g rest → MayFollow f (more ++ rest) = λ rest may. may_before left f g more rest input input' t.meets may in
    let there : (rest : List ℕ) → MayFollow g rest → run n (begun_on old ((r.read ++ more) ++ rest)) ≡ Running (standing mid (more ++ rest) r.output) =
    λ rest may. ap (λ l. run n (begun_on old l)) (append_assoc r.read more rest) ∙ r.comes (more ++ rest) (earlier rest may) in
    record {
      read = r.read ++ more;
      output = r.output;
      are_bytes = All-append (λ b. b < 256) r.read more r.are_bytes t.are_bytes;
      gives = Consumes-trans (left first) (left input) (left input') r.read more r.gives t.gives;
      meets_end = meets_then left e f g r.read more first input input' r.meets_end t.meets;
      comes = λ rest may. run_more n (begun_on old ((r.read ++ more) ++ rest)) _ (Reads after) _ (there rest may) s
          (same_world _ _ _ _ r.output (ap (answered after) (t.first rest may) ∙ sym is) (t.later rest may));
      writes = r.writes;
      unread = inr (λ rest may. at_read old mid after n ((r.read ++ more) ++ rest) (more ++ rest) r.output (there rest may) s);
      unwritten = onto f g r.read more (λ l. ComesToWrite n (begun_on old l)) (λ l. ComesToWrite (n + 1) (begun_on old l)) earlier
          (λ l. later_write n (n + 1) (begun_on old l) steps) r.unwritten;
      reads_later = later;
      writes_later = r.writes_later;
      counts = r.counts;
    }
  where
    at_read : (old mid after : MachineState) (n : ℕ) (given rest output : List ℕ) →
        run n (begun_on old given) ≡ Running (standing mid rest output) → step mid ≡ Reads after → ComesToRead (n + 1) (begun_on old given)
    at_read old mid after n given rest output h s =
        let within : n < n + 1 = omega arith in
        record { steps = n; world = standing mid rest output; within = within; comes = h; reading = (after, s) }

reached_writes : {I O : Type 0} (left : I → Option (List ℕ)) (read_faults : I → ℕ) (taken : O → Option (List ℕ)) (write_faults : O → ℕ)
    (n : ℕ) (old mid new : MachineState) (first input : I) (start out out' : O) (before written written' : ℕ) (e f : Bool) (bytes : List ℕ) →
    Reached left read_faults taken write_faults n old mid first input start out before written e f →
    step mid ≡ Writes bytes new → Appends (taken out) (taken out') bytes → written' ≡ saturating_sum written (length bytes) →
    write_faults out ≤ write_faults out' →
    Reached left read_faults taken write_faults (n + 1) old new first input start out' before written' e f
reached_writes left read_faults taken write_faults n old mid new first input start out out' before written written' e f bytes r s a is le =
    let later : write_faults start ≤ write_faults out' = omega (arith, r.writes_later, le) in
    let steps : n ≤ n + 1 = omega arith in
    let size : length (r.output ++ bytes) ≡ length r.output + length bytes = length-append r.output bytes in
    record {
      read = r.read;
      output = r.output ++ bytes;
      are_bytes = r.are_bytes;
      gives = r.gives;
      meets_end = r.meets_end;
      comes = λ rest may. run_more n (begun_on old (r.read ++ rest)) _ (Writes bytes new) _ (r.comes rest may) s refl;
      writes = Appends-trans (taken start) (taken out) (taken out') r.output bytes r.writes a;
      unread = touched_read n (n + 1) old f r.read steps r.unread;
      unwritten = inr (λ rest may. at_write old mid new n (r.read ++ rest) rest r.output bytes (r.comes rest may) s);
      reads_later = r.reads_later;
      writes_later = later;
      counts = is ∙ ap (λ w. saturating_sum w (length bytes)) r.counts ∙ saturating_sum-add before (length r.output) (length bytes)
          ∙ ap (saturating_sum before) (sym size);
    }
  where
    at_write : (old mid new : MachineState) (n : ℕ) (given rest output bytes : List ℕ) →
        run n (begun_on old given) ≡ Running (standing mid rest output) → step mid ≡ Writes bytes new → ComesToWrite (n + 1) (begun_on old given)
    at_write old mid new n given rest output bytes h s =
        let within : n < n + 1 = omega arith in
        record { steps = n; world = standing mid rest output; bytes = bytes; within = within; comes = h; writing = (new, s) }

-- one step more
pub reached_more : {T I O : Type 0} (left : I → Option (List ℕ)) (read_faults : I → ℕ) (taken : O → Option (List ℕ)) (write_faults : O → ℕ)
    (n : ℕ) (old mid new : MachineState) (first input input' : I) (start out out' : O) (before written written' : ℕ) (e f g : Bool) (d : Step) (done : T) →
    Reached left read_faults taken write_faults n old mid first input start out before written e f →
    step mid ≡ d → Moved left read_faults taken write_faults d (Ok done) new input input' out out' written written' f g →
    Reached left read_faults taken write_faults (n + 1) old new first input' start out' before written' e g
reached_more left read_faults taken write_faults n old mid new first input input' start out out' before written written' e f g (Goes s) done r is m =
    rw (m.0, m.1, m.2, m.3, m.4) (reached_goes left read_faults taken write_faults n old mid s first input start out before written e f r is)
reached_more left read_faults taken write_faults n old mid new first input input' start out out' before written written' e f g (Ends h) done r is m = absurd m.0
reached_more left read_faults taken write_faults n old mid new first input input' start out out' before written written' e f g (Reads s) done r is m =
    rw (m.2, m.3) (reached_reads left read_faults taken write_faults n old mid s new first input input' start out before written e f g
    m.0.0 r is m.0.1 m.0.2 m.1)
reached_more left read_faults taken write_faults n old mid new first input input' start out out' before written written' e f g (Writes bytes s) done r is m =
    rw (m.2, m.3, m.4) (reached_writes left read_faults taken write_faults n old mid s first input start out out' before written written' e f
    bytes r is m.0.0 m.0.1 m.1)

pub own_limit : (e : RunEnd) → IsOwn e → e ≡ StepLimit → ⊥
own_limit e own h = subst IsOwn h own

pub own_read : (e : RunEnd) → IsOwn e → e ≡ ReadFault → ⊥
own_read e own h = subst IsOwn h own

pub own_write : (e : RunEnd) → IsOwn e → e ≡ WriteFault → ⊥
own_write e own h = subst IsOwn h own

-- all steps were made
pub ran_all : {I O : Type 0} (left : I → Option (List ℕ)) (read_faults : I → ℕ) (taken : O → Option (List ℕ)) (write_faults : O → ℕ)
    (n : ℕ) (old new : MachineState) (input input' : I) (out out' : O) (written written' : ℕ) (e e' : Bool) →
    Reached left read_faults taken write_faults n old new input input' out out' written written' e e' →
    IsSimulation left read_faults taken write_faults n (simulated old None written e) (simulated new None written' e') input input' out out' StepLimit
ran_all left read_faults taken write_faults n old new input input' out out' written written' e e' r = record {
  read = r.read;
  output = r.output;
  last = new;
  front = [];
  stops = λ rest may. still (r.comes rest may) refl refl;
  are_bytes = r.are_bytes;
  gives = r.gives;
  meets_end = r.meets_end;
  writes = subst (Appends (taken out) (taken out')) (sym (append-nil r.output)) r.writes;
  unread = r.unread;
  unwritten = r.unwritten;
  reads_later = r.reads_later;
  writes_later = r.writes_later;
  read_cause = λ h. cc;
  write_cause = λ h. cc;
  goes_on = λ _. record { running = r.comes; end = refl; state = refl; whole = refl };
  keeps = λ h. absurd (h refl);
  written = r.counts;
}

pub ran_ended : {I O : Type 0} (left : I → Option (List ℕ)) (read_faults : I → ℕ) (taken : O → Option (List ℕ)) (write_faults : O → ℕ)
    (steps n : ℕ) (old mid new : MachineState) (input input' : I) (out out' : O) (written written' : ℕ) (e e' : Bool) (end : RunEnd) → n < steps →
    Reached left read_faults taken write_faults n old mid input input' out out' written written' e e' →
    step mid ≡ Ends end → IsOwn end →
    IsSimulation left read_faults taken write_faults steps (simulated old None written e) (simulated new (Some end) written' e') input input' out out' end
ran_ended left read_faults taken write_faults steps n old mid new input input' out out' written written' e e' end lt r s own =
    let le : n ≤ steps = omega arith in
    record {
      read = r.read;
      output = r.output;
      last = mid;
      front = [];
      stops = λ rest may. ended (run_over steps n (begun_on old (r.read ++ rest)) _ end lt (r.comes rest may) s) refl;
      are_bytes = r.are_bytes;
      gives = r.gives;
      meets_end = r.meets_end;
      writes = subst (Appends (taken out) (taken out')) (sym (append-nil r.output)) r.writes;
      unread = touched_read n steps old e' r.read le r.unread;
      unwritten = touched_write n steps old e' r.read le r.unwritten;
      reads_later = r.reads_later;
      writes_later = r.writes_later;
      read_cause = λ h. absurd (own_read end own h);
      write_cause = λ h. absurd (own_write end own h);
      goes_on = λ h. absurd (own_limit end own h);
      keeps = λ _. refl;
      written = r.counts;
    }

pub rose_later : (a b c : ℕ) → a ≤ b → Rose b c → Rose a c
rose_later a b c le h = omega arith

-- a read failed, so the end wasn't met
ran_unread : {I O : Type 0} (left : I → Option (List ℕ)) (read_faults : I → ℕ) (taken : O → Option (List ℕ)) (write_faults : O → ℕ)
    (steps n : ℕ) (old mid new after : MachineState) (first input input' : I) (start out : O) (before written : ℕ) (e : Bool) → n < steps →
    Reached left read_faults taken write_faults n old mid first input start out before written e false →
    step mid ≡ Reads after → Keeps (left input) (left input') → Rose (read_faults input) (read_faults input') → read_faults input ≤ read_faults input' →
    IsSimulation left read_faults taken write_faults steps (simulated old None before e) (simulated new (Some ReadFault) written false)
    first input' start out ReadFault
ran_unread left read_faults taken write_faults steps n old mid new after first input input' start out before written e lt r s keeps rose later =
    let le : n ≤ steps = omega arith in
    let faults : read_faults first ≤ read_faults input' = omega (arith, r.reads_later, later) in
    record {
      read = r.read;
      output = r.output;
      last = mid;
      front = [];
      stops = λ rest may. read_failed n lt (r.comes rest may) (after, s) refl refl;
      are_bytes = r.are_bytes;
      gives = Consumes-kept (left first) (left input) (left input') r.read r.gives keeps;
      meets_end = subst (λ l. MeetsEnd left e false l first input') (append-nil r.read)
          (meets_then left e false false r.read [] first input input' r.meets_end tt);
      writes = subst (Appends (taken start) (taken out)) (sym (append-nil r.output)) r.writes;
      unread = inr (λ rest may. record {
        steps = n;
        world = standing mid rest r.output;
        within = lt;
        comes = r.comes rest may;
        reading = (after, s);
      });
      unwritten = touched_write n steps old false r.read le r.unwritten;
      reads_later = faults;
      writes_later = r.writes_later;
      read_cause = λ h. rose_later _ _ _ r.reads_later rose;
      write_cause = λ h. cc;
      goes_on = λ h. cc;
      keeps = λ _. refl;
      written = r.counts;
    }

ran_unwritten : {I O : Type 0} (left : I → Option (List ℕ)) (read_faults : I → ℕ) (taken : O → Option (List ℕ)) (write_faults : O → ℕ)
    (steps n : ℕ) (old mid new after : MachineState) (first input : I) (start out out' : O) (before written : ℕ) (e f : Bool) (bytes : List ℕ) → n < steps →
    Reached left read_faults taken write_faults n old mid first input start out before written e f →
    step mid ≡ Writes bytes after → TakesPrefix (taken out) (taken out') bytes → Rose (write_faults out) (write_faults out') →
    write_faults out ≤ write_faults out' →
    IsSimulation left read_faults taken write_faults steps (simulated old None before e) (simulated new (Some WriteFault) written f)
    first input start out' WriteFault
ran_unwritten left read_faults taken write_faults steps n old mid new after first input start out out' before written e f bytes lt r s takes rose later =
    let le : n ≤ steps = omega arith in
    let faults : write_faults start ≤ write_faults out' = omega (arith, r.writes_later, later) in
    record {
      read = r.read;
      output = r.output;
      last = mid;
      front = takes.0;
      stops = λ rest may. write_failed n takes.1 lt (r.comes rest may) (after, s ∙ ap (λ b. Writes b after) takes.2) refl;
      are_bytes = r.are_bytes;
      gives = r.gives;
      meets_end = r.meets_end;
      writes = Appends-trans (taken start) (taken out) (taken out') r.output takes.0 r.writes takes.3;
      unread = touched_read n steps old f r.read le r.unread;
      unwritten = inr (λ rest may. record {
        steps = n;
        world = standing mid rest r.output;
        bytes = bytes;
        within = lt;
        comes = r.comes rest may;
        writing = (after, s);
      });
      reads_later = r.reads_later;
      writes_later = faults;
      read_cause = λ h. cc;
      write_cause = λ h. rose_later _ _ _ r.writes_later rose;
      goes_on = λ h. cc;
      keeps = λ _. refl;
      written = r.counts;
    }

-- a step ended the run
pub ran_out : {T I O : Type 0} (left : I → Option (List ℕ)) (read_faults : I → ℕ) (taken : O → Option (List ℕ)) (write_faults : O → ℕ)
    (steps n : ℕ) (old mid new : MachineState) (first input input' : I) (start out out' : O) (before written written' : ℕ) (e f g : Bool)
    (d : Step) (result : Result T RunEnd) (end : RunEnd) → n < steps →
    Reached left read_faults taken write_faults n old mid first input start out before written e f →
    step mid ≡ d → result ≡ Err end → Moved left read_faults taken write_faults d result new input input' out out' written written' f g →
    IsSimulation left read_faults taken write_faults steps (simulated old None before e) (simulated new (Some end) written' g) first input' start out' end
ran_out left read_faults taken write_faults steps n old mid new first input input' start out out' before written written' e f g
    d (Ok done) end lt r is was m = cc
ran_out left read_faults taken write_faults steps n old mid new first input input' start out out' before written written' e f g
    (Goes s) (Err h) end lt r is was m = absurd m.0
ran_out left read_faults taken write_faults steps n old mid new first input input' start out out' before written written' e f g
    (Ends k) (Err h) end lt r is was m =
    let same : end ≡ k = cc (was, m.0.0) in
    let own : IsOwn k = subst IsOwn m.0.0 m.0.1 in
    rw (same, m.1, m.2, m.3, m.4) (ran_ended left read_faults taken write_faults steps n old mid new first input start out before written e f k lt r is own)
ran_out left read_faults taken write_faults steps n old mid new first input input' start out out' before written written' e f g
    (Reads s) (Err h) end lt r is was m =
    let same : end ≡ ReadFault = cc (was, m.0.0) in
    let before_end = subst (Reached left read_faults taken write_faults n old mid first input start out before written e) m.0.1.1 r in
    rw (same, m.2, m.3, m.0.1.2) (ran_unread left read_faults taken write_faults steps n old mid new s first input input' start
    out before written e lt before_end is m.0.1.0 m.0.2 m.1)
ran_out left read_faults taken write_faults steps n old mid new first input input' start out out' before written written' e f g
    (Writes bytes s) (Err h) end lt r is was m =
    let same : end ≡ WriteFault = cc (was, m.0.0) in
    rw (same, m.2, m.0.3, m.4) (ran_unwritten left read_faults taken write_faults steps n old mid new s first input start out
    out' before written e f bytes lt r is m.0.1 m.0.2 m.1)

-- no step ends by the limit of steps
pub moved_apart : {T I O : Type 0} (left : I → Option (List ℕ)) (read_faults : I → ℕ) (taken : O → Option (List ℕ)) (write_faults : O → ℕ)
    (new : MachineState) (input input' : I) (out out' : O) (written written' : ℕ) (f g : Bool) (d : Step) (result : Result T RunEnd) (e : RunEnd) →
    result ≡ Err e → Moved left read_faults taken write_faults d result new input input' out out' written written' f g → e ≡ StepLimit → ⊥
moved_apart left read_faults taken write_faults new input input' out out' written written' f g d (Ok done) e was m h = cc
moved_apart left read_faults taken write_faults new input input' out out' written written' f g (Goes s) (Err k) e was m h = absurd m.0
moved_apart left read_faults taken write_faults new input input' out out' written written' f g (Ends j) (Err k) e was m h =
    own_limit k m.0.1 (cc (was, h))
moved_apart left read_faults taken write_faults new input input' out out' written written' f g (Reads s) (Err k) e was m h = cc (was, h, m.0.0)
moved_apart left read_faults taken write_faults new input input' out out' written written' f g (Writes bytes s) (Err k) e was m h = cc (was, h, m.0.0)
