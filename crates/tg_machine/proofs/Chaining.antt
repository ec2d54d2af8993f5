-- A call after a call that made all its steps.
use Rattle.std.proofs.Common.{◌≡◌, ◌<◌, ◌≤◌, ◌⊎◌, inl, inr, ◌+◌, ℕ, zero, suc, List, ◌++◌, length, Bool, Option, arith, refl, sym, ap}
use Rattle.std.proofs.Common.{◌∙◌, subst, append_assoc, append-nil, length-append}
use Rattle.std.proofs.lemmas.List.Elements.{All-append}
use Rattle.std.specs.Io.KnownBytes.{Appends}
use Rattle.std.proofs.KnownBytes.{Appends-trans, Consumes-trans}
use Rattle.tg_machine_state.specs.declared.ends.RunEnd.{RunEnd}
use Rattle.tg_machine_state.specs.State.{MachineState}
use Rattle.tg_machine_state.specs.Services.{Step, Goes, Ends, Reads, Writes}
use Rattle.tg_isa.specs.Effects.{step}
use Rattle.tg_isa.specs.Runs.{Execution, Progress, Running, Ended, proceed, run, begun, answers}
use Rattle.tg_machine.specs.Ran.{ComesToRead, ComesToWrite, Stops, still, ended, read_failed, write_failed, MayFollow, begun_on, standing}
use Rattle.tg_machine.specs.Ran.{saturating_sum}
use Rattle.tg_machine.specs.Fetches.{seen_at, fetches, fetches_until, rest_after}
use Rattle.tg_machine.specs.laws.Laws.{CallsChain, WatchedCallsChain}
use Rattle.tg_machine.proofs.Runs.{go_on, run_suc, run_add}
use Rattle.tg_machine.proofs.Fetching.{see_on, fetches_suc, fetches_add, fetches_alike, until_all}
use Rattle.tg_machine.proofs.Reached.{saturating_sum-add, rose_later, meets_then, may_before, later_read, later_write}

abbrev world : MachineState → List (Option ℕ) → List ℕ → Execution
world s input output = record { machine = s; input = input; output = output }

-- the same with an output in front, and with other answers
abbrev behind : List ℕ → Execution → Execution
behind front w = world w.machine w.input (front ++ w.output)

abbrev all_behind : List ℕ → Progress → Progress
all_behind front (Running w) = Running (behind front w)
all_behind front (Ended e w) = Ended e (behind front w)

proceed-behind : (front : List ℕ) (w : Execution) (d : Step) → proceed (behind front w) d ≡ all_behind front (proceed w d)
proceed-behind front w (Goes s) = refl
proceed-behind front w (Ends e) = refl
proceed-behind front w (Reads s) = refl
proceed-behind front w (Writes bytes s) = ap (λ o. Running (world s w.input o)) (append_assoc front w.output bytes)

-- output in front changes nothing else
run-behind : (n : ℕ) (front : List ℕ) (w : Execution) → run n (behind front w) ≡ all_behind front (run n w)
run-behind zero front w = refl
run-behind (suc n) front w =
    run_suc n (behind front w) ∙ ap (go_on n) (proceed-behind front w (step w.machine))
    ∙ on (proceed w (step w.machine)) (λ v. run-behind n front v) ∙ sym (ap (all_behind front) (run_suc n w))
  where
    on : (o : Progress) → ((v : Execution) → run n (behind front v) ≡ all_behind front (run n v)) → go_on n (all_behind front o) ≡ all_behind front (go_on n o)
    on (Running v) ih = ih v
    on (Ended e v) ih = refl

see_on-behind : (n : ℕ) (front : List ℕ) → ((v : Execution) → fetches n (behind front v) ≡ fetches n v) → (o : Progress) →
    see_on n (all_behind front o) ≡ see_on n o
see_on-behind n front ih (Running v) = ih v
see_on-behind n front ih (Ended e v) = refl

fetches-behind : (n : ℕ) (front : List ℕ) (w : Execution) → fetches n (behind front w) ≡ fetches n w
fetches-behind zero front w = refl
fetches-behind (suc n) front w =
    fetches_suc n (behind front w) ∙ ap (λ o. seen_at w.machine ++ see_on n o) (proceed-behind front w (step w.machine))
    ∙ ap (λ l. seen_at w.machine ++ l) (see_on-behind n front (fetches-behind n front) (proceed w (step w.machine))) ∙ sym (fetches_suc n w)

-- after so many steps a run goes on as from its start, with the output so far in front
comes_on : (k i : ℕ) (old mid : MachineState) (input second : List (Option ℕ)) (output : List ℕ) → run k (begun old input) ≡
    Running (world mid second output) → run (k + i) (begun old input) ≡ all_behind output (run i (begun mid second))
comes_on k i old mid input second output h =
    run_add k i (world mid second output) (begun old input) h
    ∙ ap (λ o. run i (world mid second o)) (sym (append-nil output))
    ∙ run-behind i output (begun mid second)

stops_on : (k n : ℕ) (old mid : MachineState) (input second : List (Option ℕ)) (output : List ℕ) (e : RunEnd) (last : Execution) (front : List ℕ) →
    run k (begun old input) ≡ Running (world mid second output) → Stops n (begun mid second) e last front →
    Stops (k + n) (begun old input) e (behind output last) front
stops_on k n old mid input second output e last front h (still r p f) = still (comes_on k n old mid input second output h ∙ ap (all_behind output) r) p f
stops_on k n old mid input second output e last front h (ended r f) = ended (comes_on k n old mid input second output h ∙ ap (all_behind output) r) f
stops_on k n old mid input second output e last front h (read_failed i lt r d p f) =
    let below : k + i < k + n = omega (arith, lt) in
    read_failed (k + i) below (comes_on k i old mid input second output h ∙ ap (all_behind output) r) d p f
stops_on k n old mid input second output e last front h (write_failed i rest lt r d p) =
    let below : k + i < k + n = omega (arith, lt) in
    write_failed (k + i) rest below (comes_on k i old mid input second output h ∙ ap (all_behind output) r) d p

-- what such a run fetches: what the steps before fetch, and what is fetched from there on
fetches_on : (k i : ℕ) (old mid : MachineState) (input second : List (Option ℕ)) (output : List ℕ) → run k (begun old input) ≡
    Running (world mid second output) → fetches (k + i) (begun old input) ≡ fetches k (begun old input) ++ fetches i (begun mid second)
fetches_on k i old mid input second output h =
    fetches_add k i (world mid second output) (begun old input) h
    ∙ ap (λ o. fetches k (begun old input) ++ fetches i (world mid second o)) (sym (append-nil output))
    ∙ ap (λ l. fetches k (begun old input) ++ l) (fetches-behind i output (begun mid second))

fetches_until_on : (k n : ℕ) (old mid : MachineState) (input second : List (Option ℕ)) (output : List ℕ) (e : RunEnd) (last : Execution) (front : List ℕ)
    (h : run k (begun old input) ≡ Running (world mid second output)) (s : Stops n (begun mid second) e last front) →
    fetches_until (stops_on k n old mid input second output e last front h s) ≡ fetches k (begun old input) ++ fetches_until s
unfolding stops_on
fetches_until_on k n old mid input second output e last front h (still r p f) = fetches_on k n old mid input second output h
fetches_until_on k n old mid input second output e last front h (ended r f) = fetches_on k n old mid input second output h
fetches_until_on k n old mid input second output e last front h (read_failed i lt r d p f) =
    let same : k + i + 1 ≡ k + (i + 1) = omega arith in
    ap (λ m. fetches m (begun old input)) same ∙ fetches_on k (i + 1) old mid input second output h
fetches_until_on k n old mid input second output e last front h (write_failed i rest lt r d p) =
    let same : k + i + 1 ≡ k + (i + 1) = omega arith in
    ap (λ m. fetches m (begun old input)) same ∙ fetches_on k (i + 1) old mid input second output h

reads_on : (k n : ℕ) (old mid : MachineState) (input second : List (Option ℕ)) (output : List ℕ) → run k (begun old input) ≡
    Running (world mid second output) → ComesToRead n (begun mid second) → ComesToRead (k + n) (begun old input)
reads_on k n old mid input second output h c =
    let within : k + c.steps < k + n = omega (arith, c.within) in
    record {
      steps = k + c.steps;
      world = behind output c.world;
      within = within;
      comes = comes_on k c.steps old mid input second output h
          ∙ ap (all_behind output) c.comes;
      reading = c.reading;
    }

writes_on : (k n : ℕ) (old mid : MachineState) (input second : List (Option ℕ)) (output : List ℕ) → run k (begun old input) ≡
    Running (world mid second output) → ComesToWrite n (begun mid second) → ComesToWrite (k + n) (begun old input)
writes_on k n old mid input second output h c =
    let within : k + c.steps < k + n = omega (arith, c.within) in
    record {
      steps = k + c.steps;
      world = behind output c.world;
      bytes = c.bytes;
      within = within;
      comes =
          comes_on k c.steps old mid input second output h ∙ ap (all_behind output) c.comes;
      writing = c.writing;
    }

-- what was touched by one of the two
touched : {T : Type 0} (A B C : Type 0) (x y z : T) → (y ≡ x) ⊎ A → (z ≡ y) ⊎ B → (A → C) → (B → C) → (z ≡ x) ⊎ C
touched A B C x y z (inr a) q f g = inr (f a)
touched A B C x y z (inl p) (inr b) f g = inr (g b)
touched A B C x y z (inl p) (inl q) f g = inl (q ∙ p)

-- the first call, on what both read
record Joined (k : ℕ) (old mid : MachineState) (f : Bool) (read more output : List ℕ) : Type 0 where
  comes : (rest : List ℕ) → MayFollow f rest → run k (begun_on old ((read ++ more) ++ rest)) ≡ Running (standing mid (more ++ rest) output)
  same : (rest : List ℕ) → begun_on old (read ++ (more ++ rest)) ≡ begun_on old ((read ++ more) ++ rest)

joined : (k : ℕ) (old mid last : MachineState) (e f : Bool) (read more output : List ℕ) → mid ≡ last →
    ((rest : List ℕ) → MayFollow f rest → MayFollow e (more ++ rest)) →
    ((rest : List ℕ) → MayFollow e rest → run k (begun_on old (read ++ rest)) ≡ Running (standing last rest output)) →
    Joined k old mid f read more output
joined k old mid last e f read more output m before h =
    let same : (rest : List ℕ) → begun_on old (read ++ (more ++ rest)) ≡ begun_on old ((read ++ more) ++ rest) =
    λ rest. ap (begun_on old) (sym (append_assoc read more rest)) in
    record {
      comes = λ rest may. ap (run k) (sym (same rest)) ∙ h (more ++ rest) (before rest may)
          ∙ ap (λ s. Running (standing s (more ++ rest) output)) (sym m);
      same = same;
    }

pub calls_chain : {I O : Type 0} → CallsChain I O
calls_chain left read_faults taken write_faults k n old mid new first input input' start out out' e a b =
    let g = a.goes_on refl in
    let before : (rest : List ℕ) → MayFollow new.input_ended rest → MayFollow mid.input_ended (b.read ++ rest) =
    λ rest may. may_before left mid.input_ended new.input_ended b.read rest input input' b.meets_end may in
    let j = joined k old.state mid.state a.last mid.input_ended new.input_ended a.read b.read a.output g.state before g.running in
    let wrote : Appends (taken start) (taken out) a.output =
    subst (Appends (taken start) (taken out)) (ap (λ f. a.output ++ f) g.whole ∙ append-nil a.output) a.writes in
    let size : length (a.output ++ b.output) ≡ length a.output + length b.output = length-append a.output b.output in
    let longer : k ≤ k + n = omega arith in
    let reads_later : read_faults first ≤ read_faults input' = omega (arith, a.reads_later, b.reads_later) in
    let writes_later : write_faults start ≤ write_faults out' = omega (arith, a.writes_later, b.writes_later) in
    record {
      read = a.read ++ b.read;
      output = a.output ++ b.output;
      last = b.last;
      front = b.front;
      stops = λ rest may. stops_on k n old.state mid.state _ (answers (b.read ++ rest)) a.output e (standing b.last rest b.output) b.front
          (j.comes rest may) (b.stops rest may);
      are_bytes = All-append (λ x. x < 256) a.read b.read a.are_bytes b.are_bytes;
      gives = Consumes-trans (left first) (left input) (left input') a.read b.read a.gives b.gives;
      meets_end = meets_then left old.input_ended mid.input_ended new.input_ended a.read b.read first input input' a.meets_end b.meets_end;
      writes = subst (Appends (taken start) (taken out')) (sym (append_assoc a.output b.output b.front))
          (Appends-trans (taken start) (taken out) (taken out') a.output (b.output ++ b.front) wrote b.writes);
      unread = touched _ _ _ first input input' a.unread b.unread
          (λ c rest may. later_read k (k + n) _ longer (subst (ComesToRead k) (j.same rest) (c (b.read ++ rest) (before rest may))))
          (λ c rest may. reads_on k n old.state mid.state _ (answers (b.read ++ rest)) a.output (j.comes rest may) (c rest may));
      unwritten = touched _ _ _ start out out' a.unwritten b.unwritten
          (λ c rest may. later_write k (k + n) _ longer (subst (ComesToWrite k) (j.same rest) (c (b.read ++ rest) (before rest may))))
          (λ c rest may. writes_on k n old.state mid.state _ (answers (b.read ++ rest)) a.output (j.comes rest may) (c rest may));
      reads_later = reads_later;
      writes_later = writes_later;
      read_cause = λ h. rose_later _ _ _ a.reads_later (b.read_cause h);
      write_cause = λ h. rose_later _ _ _ a.writes_later (b.write_cause h);
      goes_on = λ h. let d = b.goes_on h in record {
        running = λ rest may. comes_on k n old.state mid.state _ (answers (b.read ++ rest)) a.output (j.comes rest may)
            ∙ ap (all_behind a.output) (d.running rest may);
        end = d.end;
        state = d.state;
        whole = d.whole;
      };
      keeps = b.keeps;
      written = b.written ∙ ap (λ w. saturating_sum w (length b.output)) a.written ∙ saturating_sum-add old.written
          (length a.output) (length b.output) ∙ ap (saturating_sum old.written) (sym size);
    }

pub watched_calls_chain : {I O : Type 0} → WatchedCallsChain I O
unfolding calls_chain
watched_calls_chain left read_faults taken write_faults k n old mid new first input input' start out out' e s t a b =
    let x = a.simulation in
    let y = b.simulation in
    let g = x.goes_on refl in
    let before : (rest : List ℕ) → MayFollow new.input_ended rest → MayFollow mid.input_ended (y.read ++ rest) =
    λ rest may. may_before left mid.input_ended new.input_ended y.read rest input input' y.meets_end may in
    let j = joined k old.state mid.state x.last mid.input_ended new.input_ended x.read y.read x.output g.state before g.running in
    let rest = rest_after new.input_ended (left input') in
    record {
      simulation = calls_chain left read_faults taken write_faults k n old mid new first input input' start out out' e x y;
      may = b.may;
      seen_is =
          let later = y.read ++ rest in
          let there = before rest b.may in
          let earlier = rest_after mid.input_ended (left input) in
          ap (λ l. l ++ t) (a.seen_is ∙ until_all (x.stops earlier a.may) refl (g.running earlier a.may)
          ∙ fetches_alike k old.state x.last x.read earlier x.output (g.running earlier a.may)
          ∙ sym (fetches_alike k old.state x.last x.read later x.output (g.running later there)) ∙ ap (fetches k) (j.same rest))
          ∙ ap (λ l. fetches k (begun_on old.state ((x.read ++ y.read) ++ rest)) ++ l) b.seen_is
          ∙ sym (fetches_until_on k n old.state mid.state _ (answers (y.read ++ rest)) x.output e (standing y.last rest y.output) y.front
          (j.comes rest b.may) (y.stops rest b.may));
    }
