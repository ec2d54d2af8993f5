-- What runs fetch.
use Rattle.std.proofs.Common.{◌≡◌, ◌<◌, ◌+◌, ◌≤◌, ◌^◌, ℕ, zero, suc, List, [], ◌∷◌, ◌++◌, length, Bool, true, false, Option, Some, None, arith, refl, sym, ap, ◌∙◌}
use Rattle.std.proofs.Common.{append_assoc, append-nil, zero-add}
use Rattle.tg_machine_state.specs.declared.ends.RunEnd.{RunEnd}
use Rattle.tg_machine_state.specs.declared.ends.RunEnd.TheVariants.{StepLimit}
use Rattle.tg_machine_state.specs.State.{MachineState}
use Rattle.tg_machine_state.specs.Services.{Step, Goes, Ends, Reads, Writes, answered}
use Rattle.tg_isa.specs.Effects.{step}
use Rattle.tg_isa.specs.Runs.{Execution, Progress, Running, Ended, proceed, run, answers, later_answers}
use Rattle.tg_machine.specs.declared.fetches.Seen.{Seen}
use Rattle.tg_machine.specs.Fetches.{seen_at, fetches, fetches_until, rest_after, IsWatched}
use Rattle.tg_machine.specs.Machines.{Simulated, simulated}
use Rattle.tg_machine.specs.Ran.{Stops, still, ended, read_failed, write_failed, IsSimulation, MayFollow, begun_on, standing}
use Rattle.tg_machine.proofs.Reached.{reached_none, ran_all}
use Rattle.tg_machine.proofs.Runs.{go_on, run_suc, running_same}

-- what the steps after a step fetch
abbrev pub see_on : ℕ → Progress → List Seen
see_on k (Running v) = fetches k v
see_on k (Ended e v) = []

pub fetches_suc : (k : ℕ) (w : Execution) → fetches (suc k) w ≡ seen_at w.machine ++ see_on k (proceed w (step w.machine))
fetches_suc k w = refl

see_on_add : (i k : ℕ) (v : Execution) → ((w : Execution) → run i w ≡ Running v → fetches (i + k) w ≡ fetches i w ++ fetches k v) →
    (o : Progress) → go_on i o ≡ Running v → see_on (i + k) o ≡ see_on i o ++ fetches k v
see_on_add i k v below (Running u) h = below u h
see_on_add i k v below (Ended e u) h = cc

-- steps that are all made, and then more
pub fetches_add : (i k : ℕ) (v w : Execution) → run i w ≡ Running v → fetches (i + k) w ≡ fetches i w ++ fetches k v
fetches_add zero k v w h = ap (λ m. fetches m w) (zero-add k) ∙ ap (fetches k) (running_same w v h)
fetches_add (suc i) k v w h =
    let e : suc i + k ≡ suc (i + k) = omega arith in
    let o = proceed w (step w.machine) in
    ap (λ m. fetches m w) e ∙ fetches_suc (i + k) w
    ∙ ap (λ l. seen_at w.machine ++ l) (see_on_add i k v (fetches_add i k v) o (sym (run_suc i w) ∙ h))
    ∙ sym (append_assoc (seen_at w.machine) (see_on i o) (fetches k v)) ∙ ap (λ l. l ++ fetches k v) (sym (fetches_suc i w))

-- a call that makes all its steps
pub until_all : {n : ℕ} {w : Execution} {e : RunEnd} {last : Execution} {front : List ℕ} (s : Stops n w e last front) → e ≡ StepLimit →
    run n w ≡ Running last → fetches_until s ≡ fetches n w
until_all (still r p f) limit comes = refl
until_all (ended r f) limit comes = refl
until_all (read_failed i lt r d p f) limit comes = cc
until_all (write_failed i rest lt r d p) limit comes = cc

-- no more is read than what was read before the rest: so what follows it doesn't change what is
-- fetched
abbrev left_in : Progress → List (Option ℕ)
left_in (Running w) = w.input
left_in (Ended e w) = w.input

later-shrinks : (l : List (Option ℕ)) → length (later_answers l) ≤ length l
later-shrinks [] = omega arith
later-shrinks (a ∷ rest) = omega arith

proceed-shrinks : (w : Execution) (d : Step) → length (left_in (proceed w d)) ≤ length w.input
proceed-shrinks w (Goes s) = omega arith
proceed-shrinks w (Ends e) = omega arith
proceed-shrinks w (Reads s) = later-shrinks w.input
proceed-shrinks w (Writes bytes s) = omega arith

run-shrinks : (n : ℕ) (w : Execution) → length (left_in (run n w)) ≤ length w.input
run-shrinks zero w = omega arith
run-shrinks (suc n) w =
    let same : length (left_in (run (suc n) w)) ≡ length (left_in (go_on n (proceed w (step w.machine)))) = ap (λ o. length (left_in o)) (run_suc n w) in
    let less = on (proceed w (step w.machine)) (run-shrinks n) (proceed-shrinks w (step w.machine)) in
    omega (arith, same, less)
  where
    on : (o : Progress) → ((v : Execution) → length (left_in (run n v)) ≤ length v.input) → length (left_in o) ≤ length w.input →
        length (left_in (go_on n o)) ≤ length w.input
    on (Running v) ih h = let le = ih v in omega (arith, le, h)
    on (Ended e v) ih h = h

alike : (n : ℕ) (s : MachineState) (l : List ℕ) (c : ℕ) (cs output : List ℕ) (v : Execution) →
    run n (standing s (l ++ c ∷ cs) output) ≡ Running v → v.input ≡ answers (c ∷ cs) →
    fetches n (standing s (l ++ c ∷ cs) output) ≡ fetches n (standing s (l ++ []) output)
alike zero s l c cs output v h i = refl
alike (suc n) s l c cs output v h i = by (step s) l refl h (λ t m o g. alike n t m c cs o v g i)
  where
    joined : (m : List ℕ) (d : Step) → step s ≡ d →
        see_on n (proceed (standing s (m ++ c ∷ cs) output) d) ≡ see_on n (proceed (standing s (m ++ []) output) d) →
        fetches (suc n) (standing s (m ++ c ∷ cs) output) ≡ fetches (suc n) (standing s (m ++ []) output)
    joined m d e g =
        let w = standing s (m ++ c ∷ cs) output in
        let u = standing s (m ++ []) output in
        fetches_suc n w ∙ ap (λ x. seen_at s ++ see_on n (proceed w x)) e ∙ ap (λ f. seen_at s ++ f) g
        ∙ sym (fetches_suc n u ∙ ap (λ x. seen_at s ++ see_on n (proceed u x)) e)

    going : (m : List ℕ) (d : Step) → step s ≡ d → run (suc n) (standing s (m ++ c ∷ cs) output) ≡ Running v →
        go_on n (proceed (standing s (m ++ c ∷ cs) output) d) ≡ Running v
    going m d e g =
        let w = standing s (m ++ c ∷ cs) output in
        sym (run_suc n w ∙ ap (λ x. go_on n (proceed w x)) e) ∙ g

    by : (d : Step) (m : List ℕ) → step s ≡ d → run (suc n) (standing s (m ++ c ∷ cs) output) ≡ Running v →
        ((t : MachineState) (k o : List ℕ) → run n (standing t (k ++ c ∷ cs) o) ≡ Running v →
        fetches n (standing t (k ++ c ∷ cs) o) ≡ fetches n (standing t (k ++ []) o)) →
        fetches (suc n) (standing s (m ++ c ∷ cs) output) ≡ fetches (suc n) (standing s (m ++ []) output)
    by (Goes t) m e g ih = joined m (Goes t) e (ih t m output (going m (Goes t) e g))
    by (Ends f) m e g ih = joined m (Ends f) e refl
    by (Writes bytes t) m e g ih = joined m (Writes bytes t) e (ih t m (output ++ bytes) (going m (Writes bytes t) e g))
    by (Reads t) (b ∷ m) e g ih = joined (b ∷ m) (Reads t) e (ih (answered t (Some b)) m output (going (b ∷ m) (Reads t) e g))
    by (Reads t) [] e g ih =
        let there = going [] (Reads t) e g in
        let w = standing (answered t (Some c)) cs output in
        let less = run-shrinks n w in
        let same : length (left_in (run n w)) ≡ length v.input = ap (λ o. length (left_in o)) there in
        let size = ap length i in
        absurd (omega (arith, less, same, size))

pub fetches_alike : (k : ℕ) (old last : MachineState) (read rest output : List ℕ) → run k (begun_on old (read ++ rest)) ≡ Running (standing last rest output) →
    fetches k (begun_on old (read ++ rest)) ≡ fetches k (begun_on old (read ++ []))
fetches_alike k old last read [] output h = refl
fetches_alike k old last read (c ∷ cs) output h = alike k old read c cs [] (standing last (c ∷ cs) output) h refl

pub may_rest : (ended : Bool) (left : Option (List ℕ)) → MayFollow ended (rest_after ended left)
may_rest true left = refl
may_rest false left = tt

-- one step
see_none : (o : Progress) → see_on 0 o ≡ []
see_none (Running v) = refl
see_none (Ended e v) = refl

one_seen : (w : Execution) → fetches 1 w ≡ seen_at w.machine
one_seen w =
    fetches_suc 0 w ∙ ap (λ l. seen_at w.machine ++ l) (see_none (proceed w (step w.machine))) ∙ append-nil (seen_at w.machine)

until_one : {w : Execution} {e : RunEnd} {last : Execution} {front : List ℕ} (s : Stops 1 w e last front) → fetches_until s ≡ seen_at w.machine
until_one {w} (still r p f) = one_seen w
until_one {w} (ended r f) = one_seen w
until_one {w} (read_failed i lt r d p f) =
    let one : i + 1 ≡ 1 = omega (arith, lt) in
    ap (λ m. fetches m w) one ∙ one_seen w
until_one {w} (write_failed i rest lt r d p) =
    let one : i + 1 ≡ 1 = omega (arith, lt) in
    ap (λ m. fetches m w) one ∙ one_seen w

pub watched_step : {I O : Type 0} (left : I → Option (List ℕ)) (read_faults : I → ℕ) (taken : O → Option (List ℕ)) (write_faults : O → ℕ)
    (old new : Simulated) (input input' : I) (out out' : O) (e : RunEnd) →
    IsSimulation left read_faults taken write_faults 1 old new input input' out out' e →
    IsWatched left read_faults taken write_faults 1 old new input input' out out' e (seen_at old.state)
watched_step left read_faults taken write_faults old new input input' out out' e s = record {
  simulation = s;
  may = may_rest new.input_ended (left input');
  seen_is = sym (until_one (s.stops (rest_after new.input_ended (left input')) (may_rest new.input_ended (left input'))));
}

-- no step
until_none : {w : Execution} {e : RunEnd} {last : Execution} {front : List ℕ} (s : Stops 0 w e last front) → [] ≡ fetches_until s
until_none (still r p f) = refl
until_none (ended r f) = refl
until_none (read_failed i lt r d p f) = absurd (omega (arith, lt))
until_none (write_failed i rest lt r d p) = absurd (omega (arith, lt))

pub watched_none : {I O : Type 0} (left : I → Option (List ℕ)) (read_faults : I → ℕ) (taken : O → Option (List ℕ)) (write_faults : O → ℕ)
    (state : MachineState) (written : ℕ) (e : Bool) (input : I) (out : O) → written < 2 ^ 64 →
    IsWatched left read_faults taken write_faults 0 (simulated state None written e) (simulated state None written e) input input out out StepLimit []
watched_none left read_faults taken write_faults state written e input out small =
    let s = ran_all left read_faults taken write_faults 0 state state input input out out written written e e
    (reached_none left read_faults taken write_faults state input out written e small) in
    record { simulation = s; may = may_rest e (left input); seen_is = until_none (s.stops (rest_after e (left input)) (may_rest e (left input))) }
