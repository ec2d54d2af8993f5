-- A call that has ended is a call of more steps too.
use Rattle.std.proofs.Common.{◌≡◌, ◌≢◌, ◌<◌, ◌≤◌, ◌+◌, ◌-◌, ℕ, zero, suc, List, ◌++◌, Option, arith, refl, sym, ap, ◌∙◌}
use Rattle.tg_machine_state.specs.declared.ends.RunEnd.{RunEnd}
use Rattle.tg_machine_state.specs.declared.ends.RunEnd.TheVariants.{StepLimit}
use Rattle.tg_isa.specs.Effects.{step}
use Rattle.tg_isa.specs.Runs.{Execution, Progress, Running, Ended, proceed, run}
use Rattle.tg_machine.specs.declared.fetches.Seen.{Seen}
use Rattle.tg_machine.specs.Fetches.{seen_at, fetches, fetches_until, rest_after, IsWatched}
use Rattle.tg_machine.specs.Machines.{Simulated}
use Rattle.tg_machine.specs.Ran.{Stops, still, ended, read_failed, write_failed}
use Rattle.tg_machine.proofs.Fetching.{see_on, fetches_suc}
use Rattle.tg_machine.proofs.Reached.{touched_read, touched_write}
use Rattle.tg_machine.proofs.Runs.{go_on, run_suc}

record Lasts (k j : ℕ) (w v : Execution) (e : RunEnd) : Type 0 where
  run : run (k + j) w ≡ Ended e v
  seen : fetches (k + j) w ≡ fetches k w

lasts : (k j : ℕ) (w v : Execution) (e : RunEnd) → run k w ≡ Ended e v → Lasts k j w v e
lasts zero j w v e h = cc h
lasts (suc k) j w v e h = by (proceed w (step w.machine)) refl (sym (run_suc k w) ∙ h) (λ u. lasts k j u v e)
  where
    same : suc k + j ≡ suc (k + j)
    same = omega arith

    by : (o : Progress) → proceed w (step w.machine) ≡ o → go_on k o ≡ Ended e v → ((u : Execution) → run k u ≡ Ended e v → Lasts k j u v e) →
        Lasts (suc k) j w v e
    by (Running u) p r ih = record {
      run = ap (λ m. run m w) same ∙ run_suc (k + j) w ∙ ap (go_on (k + j)) p ∙ (ih u r).run;
      seen = ap (λ m. fetches m w) same ∙ fetches_suc (k + j) w ∙ ap (λ o. seen_at w.machine ++ see_on (k + j) o) p
          ∙ ap (λ l. seen_at w.machine ++ l) (ih u r).seen ∙ sym (fetches_suc k w ∙ ap (λ o. seen_at w.machine ++ see_on k o) p);
    }
    by (Ended f u) p r ih = record {
      run = ap (λ m. run m w) same ∙ run_suc (k + j) w ∙ ap (go_on (k + j)) p ∙ r;
      seen = ap (λ m. fetches m w) same ∙ fetches_suc (k + j) w ∙ ap (λ o. seen_at w.machine ++ see_on (k + j) o) p
          ∙ sym (fetches_suc k w ∙ ap (λ o. seen_at w.machine ++ see_on k o) p);
    }

record Longer (n : ℕ) (w : Execution) (e : RunEnd) (last : Execution) (front : List ℕ) (seen : List Seen) : Type 0 where
  stops : Stops n w e last front
  same : seen ≡ fetches_until stops

longer : {k : ℕ} {w : Execution} {e : RunEnd} {last : Execution} {front : List ℕ} (n : ℕ) (s : Stops k w e last front) → e ≢ StepLimit → k ≤ n →
    Longer n w e last front (fetches_until s)
longer n (still r p f) apart le = absurd (apart p)
longer {k} {w} {e} {last} n (ended r f) apart le =
    let l = lasts k (n - k) w last e r in
    let all : k + (n - k) ≡ n = omega (arith, le) in
    record {
      stops = ended (ap (λ m. run m w) (sym all) ∙ l.run) f;
      same = sym (ap (λ m. fetches m w) (sym all) ∙ l.seen);
    }
longer {k} n (read_failed i lt r d p f) apart le =
    let within : i < n = omega (arith, lt, le) in
    record { stops = read_failed i within r d p f; same = refl }
longer {k} n (write_failed i rest lt r d p) apart le =
    let within : i < n = omega (arith, lt, le) in
    record { stops = write_failed i rest within r d p; same = refl }

pub watched_longer : {I O : Type 0} (left : I → Option (List ℕ)) (read_faults : I → ℕ) (taken : O → Option (List ℕ)) (write_faults : O → ℕ)
    (k n : ℕ) (old new : Simulated) (input input' : I) (out out' : O) (e : RunEnd) (seen : List Seen) → e ≢ StepLimit → k ≤ n →
    IsWatched left read_faults taken write_faults k old new input input' out out' e seen →
    IsWatched left read_faults taken write_faults n old new input input' out out' e seen
watched_longer left read_faults taken write_faults k n old new input input' out out' e seen apart le h =
    let s = h.simulation in
    record {
      simulation = record {
        read = s.read;
        output = s.output;
        last = s.last;
        front = s.front;
        stops = λ rest may. (longer n (s.stops rest may) apart le).stops;
        are_bytes = s.are_bytes;
        gives = s.gives;
        meets_end = s.meets_end;
        writes = s.writes;
        unread = touched_read k n old.state new.input_ended s.read le s.unread;
        unwritten = touched_write k n old.state new.input_ended s.read le s.unwritten;
        reads_later = s.reads_later;
        writes_later = s.writes_later;
        read_cause = s.read_cause;
        write_cause = s.write_cause;
        goes_on = λ p. absurd (apart p);
        keeps = s.keeps;
        written = s.written;
      };
      may = h.may;
      seen_is = h.seen_is ∙ (longer n (s.stops (rest_after new.input_ended (left input')) h.may) apart le).same;
    }
