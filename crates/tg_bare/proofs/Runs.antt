-- A run of the machine with delayed branches goes on by a step.
use Rattle.std.proofs.Common.{◌≡◌, ◌<◌, ◌+◌, ◌-◌, ℕ, zero, suc, arith, refl, ap, ◌∙◌, sym, zero-add}
use Rattle.tg_machine_state.specs.declared.ends.RunEnd.{RunEnd}
use Rattle.tg_bare.specs.Delayed.{Did, Ends, bare_step}
use Rattle.tg_bare.specs.BareRuns.{BareExecution, BareProgress, Running, Ended, proceed_bare, run_bare}

abbrev pub go_on : ℕ → BareProgress → BareProgress
go_on k (Running v) = run_bare k v
go_on k (Ended e v) = Ended e v

pub run_suc : (k : ℕ) (w : BareExecution) → run_bare (suc k) w ≡ go_on k (proceed_bare w (bare_step w.machine))
run_suc k w = refl

pub running_same : (w v : BareExecution) → Running w ≡ Running v → w ≡ v
running_same w v h = cc

go_on_add : (i k : ℕ) (v : BareExecution) → ((w : BareExecution) → run_bare i w ≡ Running v → run_bare (i + k) w ≡ run_bare k v) → (o : BareProgress) →
    go_on i o ≡ Running v → go_on (i + k) o ≡ run_bare k v
go_on_add i k v below (Running u) h = below u h
go_on_add i k v below (Ended e u) h = cc

pub run_add : (i k : ℕ) (v w : BareExecution) → run_bare i w ≡ Running v → run_bare (i + k) w ≡ run_bare k v
run_add zero k v w h = ap (λ m. run_bare m w) (zero-add k) ∙ ap (run_bare k) (running_same w v h)
run_add (suc i) k v w h =
    let e : suc i + k ≡ suc (i + k) = omega arith in
    ap (λ m. run_bare m w) e ∙ run_suc (i + k) w ∙ go_on_add i k v (run_add i k v) (proceed_bare w (bare_step w.machine)) (sym (run_suc i w) ∙ h)

-- one step more, by what the step does
pub run_more : (i : ℕ) (w v : BareExecution) (d : Did) (u : BareExecution) → run_bare i w ≡ Running v → bare_step v.machine ≡ d →
    proceed_bare v d ≡ Running u → run_bare (i + 1) w ≡ Running u
run_more i w v d u h s p = run_add i 1 v w h ∙ run_suc 0 v ∙ ap (go_on 0) (ap (proceed_bare v) s ∙ p)

-- a run that comes to a step that ends has ended
pub run_over : (n i : ℕ) (w v : BareExecution) (e : RunEnd) → i < n → run_bare i w ≡ Running v → bare_step v.machine ≡ Ends e → run_bare n w ≡ Ended e v
run_over n i w v e lt h s =
    let k = n - (i + 1) in
    let is : n ≡ i + suc k = omega arith in
    ap (λ m. run_bare m w) is ∙ run_add i (suc k) v w h ∙ run_suc k v ∙ ap (go_on k) (ap (proceed_bare v) s)
