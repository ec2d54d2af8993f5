-- A run goes on by a step.
use Rattle.std.proofs.Common.{◌≡◌, ◌<◌, ◌+◌, ◌-◌, ℕ, zero, suc, arith, refl, ap, ◌∙◌, sym, zero-add}
use Rattle.tg_machine_state.specs.declared.ends.RunEnd.{RunEnd}
use Rattle.tg_machine_state.specs.Services.{Step, Ends}
use Rattle.tg_isa.specs.Effects.{step}
use Rattle.tg_isa.specs.Runs.{Execution, Progress, Running, Ended, proceed, run}

abbrev pub go_on : ℕ → Progress → Progress
go_on k (Running v) = run k v
go_on k (Ended e v) = Ended e v

pub run_suc : (k : ℕ) (w : Execution) → run (suc k) w ≡ go_on k (proceed w (step w.machine))
run_suc k w = refl

pub running_same : (w v : Execution) → Running w ≡ Running v → w ≡ v
running_same w v h = cc

go_on_add : (i k : ℕ) (v : Execution) → ((w : Execution) → run i w ≡ Running v → run (i + k) w ≡ run k v) → (o : Progress) →
    go_on i o ≡ Running v → go_on (i + k) o ≡ run k v
go_on_add i k v below (Running u) h = below u h
go_on_add i k v below (Ended e u) h = cc

pub run_add : (i k : ℕ) (v w : Execution) → run i w ≡ Running v → run (i + k) w ≡ run k v
run_add zero k v w h = ap (λ m. run m w) (zero-add k) ∙ ap (run k) (running_same w v h)
run_add (suc i) k v w h =
    let e : suc i + k ≡ suc (i + k) = omega arith in
    ap (λ m. run m w) e ∙ run_suc (i + k) w ∙ go_on_add i k v (run_add i k v) (proceed w (step w.machine)) (sym (run_suc i w) ∙ h)

-- one step more, by what the step does
pub run_more : (i : ℕ) (w v : Execution) (d : Step) (u : Execution) → run i w ≡ Running v → step v.machine ≡ d →
    proceed v d ≡ Running u → run (i + 1) w ≡ Running u
run_more i w v d u h s p = run_add i 1 v w h ∙ run_suc 0 v ∙ ap (go_on 0) (ap (proceed v) s ∙ p)

-- a run that comes to a step that ends has ended
pub run_over : (n i : ℕ) (w v : Execution) (e : RunEnd) → i < n → run i w ≡ Running v → step v.machine ≡ Ends e → run n w ≡ Ended e v
run_over n i w v e lt h s =
    let k = n - (i + 1) in
    let is : n ≡ i + suc k = omega arith in
    ap (λ m. run m w) is ∙ run_add i (suc k) v w h ∙ run_suc k v ∙ ap (go_on k) (ap (proceed v) s)
