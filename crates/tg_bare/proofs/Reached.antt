-- What the code has come to after so many steps, and what it leaves at each way out.
use Rattle.std.proofs.Common.{◌≡◌, ◌<◌, ◌≤◌, ◌⊎◌, inl, inr, ◌+◌, ◌^◌, ℕ, List, [], ◌++◌, length, Bool, false, Option, Some, None, Result, Ok, Err}
use Rattle.std.proofs.Common.{arith, refl, sym, ap, ◌∙◌, subst, append_assoc, append-nil, length-append}
use Rattle.std.proofs.lemmas.List.Elements.{All-nil, All-append}
use Rattle.std.specs.Io.KnownBytes.{Appends, Consumes, Keeps}
use Rattle.std.proofs.KnownBytes.{Appends-nil, Appends-trans, Consumes-nil, Consumes-trans, Consumes-kept}
use Rattle.tg_machine_state.specs.declared.ends.RunEnd.{RunEnd}
use Rattle.tg_machine_state.specs.declared.ends.RunEnd.TheVariants.{StepLimit, ReadFault, WriteFault}
use Rattle.tg_base.specs.Causes.{Rose}
use Rattle.tg_base.specs.Writes.{TakesPrefix}
use Rattle.tg_simulation.specs.Bytes.{AreBytes}
use Rattle.tg_machine_state.specs.State.{MachineState}
use Rattle.tg_machine_state.specs.Services as plain
use Rattle.tg_machine_state.specs.Services.{Step}
use Rattle.tg_machine.specs.Ran.{MayFollow, MeetsEnd, saturating_sum}
use Rattle.tg_machine.specs.glue.Moves.{IsOwn, Answers, Moved}
use Rattle.tg_machine.proofs.Reached.{answer_taken, bytes_of, may_before, meets_none, meets_then, onto, onto_same, own_limit, own_read}
use Rattle.tg_machine.proofs.Reached.{own_write, rose_later, saturating_sum-add}
use Rattle.tg_bare.specs.Delayed.{Bare, Goes, Ends, Reads, Writes, bare_step}
use Rattle.tg_bare.specs.BareRuns.{BareExecution, Running, run_bare, bare_begun, answered_bare}
use Rattle.tg_bare.specs.Machines.{bare_simulated}
use Rattle.tg_bare.specs.Ran.{IsBareSimulation, BareComesToRead, BareComesToWrite, bare_standing, still, ended, read_failed, write_failed}
use Rattle.tg_bare.specs.glue.Moves.{within}
use Rattle.tg_bare.proofs.Runs.{run_more, run_over}

-- another state at the places of a machine
abbrev at_places : Bare → MachineState → Bare
at_places b s = record b { state = s }

-- after so many steps
pub record Reached {I O : Type 0}
    (left : I → Option (List ℕ)) (read_faults : I → ℕ) (taken : O → Option (List ℕ)) (write_faults : O → ℕ)
    (n : ℕ) (old new : Bare) (input input' : I) (out out' : O) (written written' : ℕ) (e e' : Bool) : Type 0 where
  pub read : List ℕ
  pub output : List ℕ
  pub are_bytes : AreBytes read
  pub gives : Consumes (left input) (left input') read
  pub meets_end : MeetsEnd left e e' read input input'
  pub comes : (rest : List ℕ) → MayFollow e' rest → run_bare n (bare_begun old (read ++ rest)) ≡ Running (bare_standing new rest output)
  pub writes : Appends (taken out) (taken out') output
  pub unread : (input' ≡ input) ⊎ ((rest : List ℕ) → MayFollow e' rest → BareComesToRead n (bare_begun old (read ++ rest)))
  pub unwritten : (out' ≡ out) ⊎ ((rest : List ℕ) → MayFollow e' rest → BareComesToWrite n (bare_begun old (read ++ rest)))
  pub reads_later : read_faults input ≤ read_faults input'
  pub writes_later : write_faults out ≤ write_faults out'
  pub counts : written' ≡ saturating_sum written (length output)

pub reached_none : {I O : Type 0} (left : I → Option (List ℕ)) (read_faults : I → ℕ) (taken : O → Option (List ℕ)) (write_faults : O → ℕ)
    (s : Bare) (input : I) (out : O) (written : ℕ) (e : Bool) → written < 2 ^ 64 → Reached left read_faults taken write_faults
    0 s s input input out out written written e e
reached_none left read_faults taken write_faults s input out written e fits = record {
  read = [];
  output = [];
  are_bytes = All-nil (λ n. n < 256);
  gives = Consumes-nil (left input);
  meets_end = meets_none left e input;
  comes = λ rest may. refl;
  writes = Appends-nil (taken out);
  unread = inl refl;
  unwritten = inl refl;
  reads_later = omega arith;
  writes_later = omega arith;
  counts = omega (arith, fits);
}

pub later_read : (n m : ℕ) (w : BareExecution) → n ≤ m → BareComesToRead n w → BareComesToRead m w
later_read n m w le c =
    let within : c.steps < m = omega (arith, c.within, le) in
    record { steps = c.steps; world = c.world; within = within; comes = c.comes; reading = c.reading }

pub later_write : (n m : ℕ) (w : BareExecution) → n ≤ m → BareComesToWrite n w → BareComesToWrite m w
later_write n m w le c =
    let within : c.steps < m = omega (arith, c.within, le) in
    record { steps = c.steps; world = c.world; bytes = c.bytes; within = within; comes = c.comes; writing = c.writing }

-- where a touch of an earlier source is one of a later too
pub touched_read : {A : Type 0} (n m : ℕ) (old : Bare) (e : Bool) (read : List ℕ) → n ≤ m →
    A ⊎ ((rest : List ℕ) → MayFollow e rest → BareComesToRead n (bare_begun old (read ++ rest))) →
    A ⊎ ((rest : List ℕ) → MayFollow e rest → BareComesToRead m (bare_begun old (read ++ rest)))
touched_read n m old e read le t =
    onto_same e read (λ l. BareComesToRead n (bare_begun old l)) (λ l. BareComesToRead m (bare_begun old l)) (λ l. later_read n m (bare_begun old l) le) t

pub touched_write : {A : Type 0} (n m : ℕ) (old : Bare) (e : Bool) (read : List ℕ) → n ≤ m →
    A ⊎ ((rest : List ℕ) → MayFollow e rest → BareComesToWrite n (bare_begun old (read ++ rest))) →
    A ⊎ ((rest : List ℕ) → MayFollow e rest → BareComesToWrite m (bare_begun old (read ++ rest)))
touched_write n m old e read le t =
    onto_same e read (λ l. BareComesToWrite n (bare_begun old l)) (λ l. BareComesToWrite m (bare_begun old l)) (λ l. later_write n m (bare_begun old l) le) t

same_world : (s s' : Bare) (l l' : List (Option ℕ)) (output : List ℕ) → s ≡ s' → l ≡ l' →
    Running (record { machine = s; input = l; output = output }) ≡ Running (record { machine = s'; input = l'; output = output })
same_world s s' l l' output e f = rw (e, f) refl

pub reached_goes : {I O : Type 0} (left : I → Option (List ℕ)) (read_faults : I → ℕ) (taken : O → Option (List ℕ)) (write_faults : O → ℕ)
    (n : ℕ) (old mid new : Bare) (first input : I) (start out : O) (before written : ℕ) (e f : Bool) →
    Reached left read_faults taken write_faults n old mid first input start out before written e f →
    bare_step mid ≡ Goes new →
    Reached left read_faults taken write_faults (n + 1) old new first input start out before written e f
reached_goes left read_faults taken write_faults n old mid new first input start out before written e f r s =
    let le : n ≤ n + 1 = omega arith in
    record {
      read = r.read;
      output = r.output;
      are_bytes = r.are_bytes;
      gives = r.gives;
      meets_end = r.meets_end;
      comes = λ rest may. run_more n (bare_begun old (r.read ++ rest)) _ (Goes new) _ (r.comes rest may) s refl;
      writes = r.writes;
      unread = touched_read n (n + 1) old f r.read le r.unread;
      unwritten = touched_write n (n + 1) old f r.read le r.unwritten;
      reads_later = r.reads_later;
      writes_later = r.writes_later;
      counts = r.counts;
    }

reached_reads : {I O : Type 0} (left : I → Option (List ℕ)) (read_faults : I → ℕ) (taken : O → Option (List ℕ)) (write_faults : O → ℕ)
    (n : ℕ) (old mid after new : Bare) (first input input' : I) (start out : O) (before written : ℕ) (e f g : Bool) (answer : Option ℕ) →
    Reached left read_faults taken write_faults n old mid first input start out before written e f →
    bare_step mid ≡ Reads after → Answers left input input' f g answer → new ≡ answered_bare after answer → read_faults input ≤ read_faults input' →
    Reached left read_faults taken write_faults (n + 1) old new first input' start out before written e g
reached_reads left read_faults taken write_faults n old mid after new first input input' start out before written e f g answer r s a is le =
    let t = answer_taken left input input' f g answer a in
    let more = bytes_of answer in
    let later : read_faults first ≤ read_faults input' = omega (arith, r.reads_later, le) in
    let steps : n ≤ n + 1 = omega arith in
    let earlier : (rest : List ℕ) → MayFollow g rest → MayFollow f (more ++ rest) = λ rest may. may_before left f g more rest input input' t.meets may in
    let there : (rest : List ℕ) → MayFollow g rest →
    run_bare n (bare_begun old ((r.read ++ more) ++ rest)) ≡ Running (bare_standing mid (more ++ rest) r.output) =
    λ rest may. ap (λ l. run_bare n (bare_begun old l)) (append_assoc r.read more rest) ∙ r.comes (more ++ rest) (earlier rest may) in
    record {
      read = r.read ++ more;
      output = r.output;
      are_bytes = All-append (λ b. b < 256) r.read more r.are_bytes t.are_bytes;
      gives = Consumes-trans (left first) (left input) (left input') r.read more r.gives t.gives;
      meets_end = meets_then left e f g r.read more first input input' r.meets_end t.meets;
      comes = λ rest may. run_more n (bare_begun old ((r.read ++ more) ++ rest)) _ (Reads after) _ (there rest may) s
          (same_world _ _ _ _ r.output (ap (answered_bare after) (t.first rest may) ∙ sym is) (t.later rest may));
      writes = r.writes;
      unread = inr (λ rest may. at_read old mid after n ((r.read ++ more) ++ rest) (more ++ rest) r.output (there rest may) s);
      unwritten = onto f g r.read more (λ l. BareComesToWrite n (bare_begun old l)) (λ l. BareComesToWrite (n + 1) (bare_begun old l)) earlier
          (λ l. later_write n (n + 1) (bare_begun old l) steps) r.unwritten;
      reads_later = later;
      writes_later = r.writes_later;
      counts = r.counts;
    }
  where
    at_read : (old mid after : Bare) (n : ℕ) (given rest output : List ℕ) →
        run_bare n (bare_begun old given) ≡ Running (bare_standing mid rest output) → bare_step mid ≡ Reads after →
        BareComesToRead (n + 1) (bare_begun old given)
    at_read old mid after n given rest output h s =
        let within : n < n + 1 = omega arith in
        record { steps = n; world = bare_standing mid rest output; within = within; comes = h; reading = (after, s) }

reached_writes : {I O : Type 0} (left : I → Option (List ℕ)) (read_faults : I → ℕ) (taken : O → Option (List ℕ)) (write_faults : O → ℕ)
    (n : ℕ) (old mid new : Bare) (first input : I) (start out out' : O) (before written written' : ℕ) (e f : Bool) (bytes : List ℕ) →
    Reached left read_faults taken write_faults n old mid first input start out before written e f →
    bare_step mid ≡ Writes bytes new → Appends (taken out) (taken out') bytes → written' ≡ saturating_sum written (length bytes) →
    write_faults out ≤ write_faults out' →
    Reached left read_faults taken write_faults (n + 1) old new first input start out' before written' e f
reached_writes left read_faults taken write_faults n old mid new first input start out out' before written written' e f bytes r s a is le =
    let later : write_faults start ≤ write_faults out' = omega (arith, r.writes_later, le) in
    let steps : n ≤ n + 1 = omega arith in
    let size : length (r.output ++ bytes) ≡ length r.output + length bytes = length-append r.output bytes in
    record {
      read = r.read;
      output = r.output ++ bytes;
      are_bytes = r.are_bytes;
      gives = r.gives;
      meets_end = r.meets_end;
      comes = λ rest may. run_more n (bare_begun old (r.read ++ rest)) _ (Writes bytes new) _ (r.comes rest may) s refl;
      writes = Appends-trans (taken start) (taken out) (taken out') r.output bytes r.writes a;
      unread = touched_read n (n + 1) old f r.read steps r.unread;
      unwritten = inr (λ rest may. at_write old mid new n (r.read ++ rest) rest r.output bytes (r.comes rest may) s);
      reads_later = r.reads_later;
      writes_later = later;
      counts = is ∙ ap (λ w. saturating_sum w (length bytes)) r.counts ∙ saturating_sum-add before (length r.output) (length bytes)
          ∙ ap (saturating_sum before) (sym size);
    }
  where
    at_write : (old mid new : Bare) (n : ℕ) (given rest output bytes : List ℕ) →
        run_bare n (bare_begun old given) ≡ Running (bare_standing mid rest output) → bare_step mid ≡ Writes bytes new →
        BareComesToWrite (n + 1) (bare_begun old given)
    at_write old mid new n given rest output bytes h s =
        let within : n < n + 1 = omega arith in
        record { steps = n; world = bare_standing mid rest output; bytes = bytes; within = within; comes = h; writing = (new, s) }

-- one step more: what the state does, at the places of a machine
pub reached_more : {T I O : Type 0} (left : I → Option (List ℕ)) (read_faults : I → ℕ) (taken : O → Option (List ℕ)) (write_faults : O → ℕ)
    (n : ℕ) (old mid b : Bare) (new : MachineState) (first input input' : I) (start out out' : O) (before written written' : ℕ) (e f g : Bool)
    (d : Step) (done : T) →
    Reached left read_faults taken write_faults n old mid first input start out before written e f →
    bare_step mid ≡ within b d → Moved left read_faults taken write_faults d (Ok done) new input input' out out' written written' f g →
    Reached left read_faults taken write_faults (n + 1) old (record b { state = new }) first input' start out' before written' e g
reached_more left read_faults taken write_faults n old mid b new first input input' start out out' before written written' e f g (plain.Goes s) done r is m =
    rw (m.0, m.1, m.2, m.3, m.4) (reached_goes left read_faults taken write_faults n old mid (record b { state = s }) first input start out
    before written e f r is)
reached_more left read_faults taken write_faults n old mid b new first input input' start out out' before written written' e f g (plain.Ends h) done r is m =
    absurd m.0
reached_more left read_faults taken write_faults n old mid b new first input input' start out out' before written written' e f g (plain.Reads s) done r is m =
    rw (m.2, m.3) (reached_reads left read_faults taken write_faults n old mid (record b { state = s }) (record b { state = new }) first input input'
    start out before written e f g m.0.0 r is m.0.1 (ap (λ (x : MachineState). at_places b x) m.0.2) m.1)
reached_more left read_faults taken write_faults n old mid b new first input input' start out out' before written written' e f g
    (plain.Writes bytes s) done r is m =
    rw (m.2, m.3, m.4) (reached_writes left read_faults taken write_faults n old mid (record b { state = s }) first input start out out' before
    written written' e f bytes r is m.0.0 m.0.1 m.1)

-- all steps were made
pub ran_all : {I O : Type 0} (left : I → Option (List ℕ)) (read_faults : I → ℕ) (taken : O → Option (List ℕ)) (write_faults : O → ℕ)
    (n : ℕ) (old new : Bare) (input input' : I) (out out' : O) (written written' : ℕ) (e e' : Bool) →
    Reached left read_faults taken write_faults n old new input input' out out' written written' e e' →
    IsBareSimulation left read_faults taken write_faults n (bare_simulated old None written e) (bare_simulated new None written' e')
    input input' out out' StepLimit
ran_all left read_faults taken write_faults n old new input input' out out' written written' e e' r = record {
  read = r.read;
  output = r.output;
  last = new;
  front = [];
  stops = λ rest may. still (r.comes rest may) refl refl;
  are_bytes = r.are_bytes;
  gives = r.gives;
  meets_end = r.meets_end;
  writes = subst (Appends (taken out) (taken out')) (sym (append-nil r.output)) r.writes;
  unread = r.unread;
  unwritten = r.unwritten;
  reads_later = r.reads_later;
  writes_later = r.writes_later;
  read_cause = λ h. cc;
  write_cause = λ h. cc;
  goes_on = λ _. record { running = r.comes; end = refl; machine = refl; whole = refl };
  keeps = λ h. absurd (h refl);
  written = r.counts;
}

pub ran_ended : {I O : Type 0} (left : I → Option (List ℕ)) (read_faults : I → ℕ) (taken : O → Option (List ℕ)) (write_faults : O → ℕ)
    (steps n : ℕ) (old mid new : Bare) (input input' : I) (out out' : O) (written written' : ℕ) (e e' : Bool) (end : RunEnd) → n < steps →
    Reached left read_faults taken write_faults n old mid input input' out out' written written' e e' →
    bare_step mid ≡ Ends end → IsOwn end →
    IsBareSimulation left read_faults taken write_faults steps (bare_simulated old None written e) (bare_simulated new (Some end) written' e')
    input input' out out' end
ran_ended left read_faults taken write_faults steps n old mid new input input' out out' written written' e e' end lt r s own =
    let le : n ≤ steps = omega arith in
    record {
      read = r.read;
      output = r.output;
      last = mid;
      front = [];
      stops = λ rest may. ended (run_over steps n (bare_begun old (r.read ++ rest)) _ end lt (r.comes rest may) s) refl;
      are_bytes = r.are_bytes;
      gives = r.gives;
      meets_end = r.meets_end;
      writes = subst (Appends (taken out) (taken out')) (sym (append-nil r.output)) r.writes;
      unread = touched_read n steps old e' r.read le r.unread;
      unwritten = touched_write n steps old e' r.read le r.unwritten;
      reads_later = r.reads_later;
      writes_later = r.writes_later;
      read_cause = λ h. absurd (own_read end own h);
      write_cause = λ h. absurd (own_write end own h);
      goes_on = λ h. absurd (own_limit end own h);
      keeps = λ _. refl;
      written = r.counts;
    }

-- a read failed, so the end wasn't met
ran_unread : {I O : Type 0} (left : I → Option (List ℕ)) (read_faults : I → ℕ) (taken : O → Option (List ℕ)) (write_faults : O → ℕ)
    (steps n : ℕ) (old mid new after : Bare) (first input input' : I) (start out : O) (before written : ℕ) (e : Bool) → n < steps →
    Reached left read_faults taken write_faults n old mid first input start out before written e false →
    bare_step mid ≡ Reads after → Keeps (left input) (left input') → Rose (read_faults input) (read_faults input') → read_faults input ≤ read_faults input' →
    IsBareSimulation left read_faults taken write_faults steps (bare_simulated old None before e) (bare_simulated new (Some ReadFault) written false)
    first input' start out ReadFault
ran_unread left read_faults taken write_faults steps n old mid new after first input input' start out before written e lt r s keeps rose later =
    let le : n ≤ steps = omega arith in
    let faults : read_faults first ≤ read_faults input' = omega (arith, r.reads_later, later) in
    record {
      read = r.read;
      output = r.output;
      last = mid;
      front = [];
      stops = λ rest may. read_failed n lt (r.comes rest may) (after, s) refl refl;
      are_bytes = r.are_bytes;
      gives = Consumes-kept (left first) (left input) (left input') r.read r.gives keeps;
      meets_end = subst (λ l. MeetsEnd left e false l first input') (append-nil r.read)
          (meets_then left e false false r.read [] first input input' r.meets_end tt);
      writes = subst (Appends (taken start) (taken out)) (sym (append-nil r.output)) r.writes;
      unread = inr (λ rest may. record {
        steps = n;
        world = bare_standing mid rest r.output;
        within = lt;
        comes = r.comes rest may;
        reading = (after, s);
      });
      unwritten = touched_write n steps old false r.read le r.unwritten;
      reads_later = faults;
      writes_later = r.writes_later;
      read_cause = λ h. rose_later _ _ _ r.reads_later rose;
      write_cause = λ h. cc;
      goes_on = λ h. cc;
      keeps = λ _. refl;
      written = r.counts;
    }

ran_unwritten : {I O : Type 0} (left : I → Option (List ℕ)) (read_faults : I → ℕ) (taken : O → Option (List ℕ)) (write_faults : O → ℕ)
    (steps n : ℕ) (old mid new after : Bare) (first input : I) (start out out' : O) (before written : ℕ) (e f : Bool) (bytes : List ℕ) → n < steps →
    Reached left read_faults taken write_faults n old mid first input start out before written e f →
    bare_step mid ≡ Writes bytes after → TakesPrefix (taken out) (taken out') bytes → Rose (write_faults out) (write_faults out') →
    write_faults out ≤ write_faults out' →
    IsBareSimulation left read_faults taken write_faults steps (bare_simulated old None before e) (bare_simulated new (Some WriteFault) written f)
    first input start out' WriteFault
ran_unwritten left read_faults taken write_faults steps n old mid new after first input start out out' before written e f bytes lt r s takes rose later =
    let le : n ≤ steps = omega arith in
    let faults : write_faults start ≤ write_faults out' = omega (arith, r.writes_later, later) in
    record {
      read = r.read;
      output = r.output;
      last = mid;
      front = takes.0;
      stops = λ rest may. write_failed n takes.1 lt (r.comes rest may) (after, s ∙ ap (λ b. Writes b after) takes.2) refl;
      are_bytes = r.are_bytes;
      gives = r.gives;
      meets_end = r.meets_end;
      writes = Appends-trans (taken start) (taken out) (taken out') r.output takes.0 r.writes takes.3;
      unread = touched_read n steps old f r.read le r.unread;
      unwritten = inr (λ rest may. record {
        steps = n;
        world = bare_standing mid rest r.output;
        bytes = bytes;
        within = lt;
        comes = r.comes rest may;
        writing = (after, s);
      });
      reads_later = r.reads_later;
      writes_later = faults;
      read_cause = λ h. cc;
      write_cause = λ h. rose_later _ _ _ r.writes_later rose;
      goes_on = λ h. cc;
      keeps = λ _. refl;
      written = r.counts;
    }

-- a step ended the run
pub ran_out : {T I O : Type 0} (left : I → Option (List ℕ)) (read_faults : I → ℕ) (taken : O → Option (List ℕ)) (write_faults : O → ℕ)
    (steps n : ℕ) (old mid b c : Bare) (new : MachineState) (first input input' : I) (start out out' : O) (before written written' : ℕ) (e f g : Bool)
    (d : Step) (result : Result T RunEnd) (end : RunEnd) → n < steps →
    Reached left read_faults taken write_faults n old mid first input start out before written e f →
    bare_step mid ≡ within b d → result ≡ Err end →
    Moved left read_faults taken write_faults d result new input input' out out' written written' f g →
    IsBareSimulation left read_faults taken write_faults steps (bare_simulated old None before e) (bare_simulated c (Some end) written' g)
    first input' start out' end
ran_out left read_faults taken write_faults steps n old mid b c new first input input' start out out' before written written' e f g
    d (Ok done) end lt r is was m = cc
ran_out left read_faults taken write_faults steps n old mid b c new first input input' start out out' before written written' e f g
    (plain.Goes s) (Err h) end lt r is was m = absurd m.0
ran_out left read_faults taken write_faults steps n old mid b c new first input input' start out out' before written written' e f g
    (plain.Ends k) (Err h) end lt r is was m =
    let same : end ≡ k = cc (was, m.0.0) in
    let own : IsOwn k = subst IsOwn m.0.0 m.0.1 in
    rw (same, m.1, m.2, m.3, m.4) (ran_ended left read_faults taken write_faults steps n old mid c first input start out before written e f k lt r is own)
ran_out left read_faults taken write_faults steps n old mid b c new first input input' start out out' before written written' e f g
    (plain.Reads s) (Err h) end lt r is was m =
    let same : end ≡ ReadFault = cc (was, m.0.0) in
    let before_end = subst (Reached left read_faults taken write_faults n old mid first input start out before written e) m.0.1.1 r in
    rw (same, m.2, m.3, m.0.1.2) (ran_unread left read_faults taken write_faults steps n old mid c (record b { state = s }) first input input' start
    out before written e lt before_end is m.0.1.0 m.0.2 m.1)
ran_out left read_faults taken write_faults steps n old mid b c new first input input' start out out' before written written' e f g
    (plain.Writes bytes s) (Err h) end lt r is was m =
    let same : end ≡ WriteFault = cc (was, m.0.0) in
    rw (same, m.2, m.0.3, m.4) (ran_unwritten left read_faults taken write_faults steps n old mid c (record b { state = s }) first input start out
    out' before written e f bytes lt r is m.0.1 m.0.2 m.1)
