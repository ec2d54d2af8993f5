-- The machine's run by fuel is what so many steps come to.
use Rattle.std.proofs.Common.{◌≡◌, ◌≤◌, ◌+◌, ℕ, zero, suc, List, [], ◌∷◌, ◌++◌, Option, arith, refl, sym, ap, ◌∙◌, subst, append_assoc, append-nil}
use Rattle.tg_machine_state.specs.declared.ends.RunEnd.{RunEnd}
use Rattle.tg_machine_state.specs.State.{MachineState}
use Rattle.tg_machine_state.specs.Services.{Step, Goes, Ends, Reads, Writes, answered}
use Rattle.tg_simulation.specs.Ran as ran
use Rattle.tg_simulation.specs.Ran.{Ran, Stop, stops, writes, works, IsOver, StaysOver, GoesOn, OnlyGoesOn}
use Rattle.tg_isa.specs.Effects.{step}
use Rattle.tg_isa.specs.Runs.{Execution, Progress, Running, Ended, proceed, run, answers, first_answer, later_answers}
use Rattle.tg_isa.specs.ImageRuns.{first_byte, later_bytes, machine_run, IsRunOf, RunsByFuel, MachineStaysOver, MachineGoesOn, MachineEndsByItsWork}

-- one step
abbrev stepped : (input : List ℕ) → ℕ → Step → Ran
stepped input n (Goes t) = machine_run t input n
stepped input n (Ends e) = stops input (ran.Ended e)
stepped input n (Reads t) = machine_run (answered t (first_byte input)) (later_bytes input) n
stepped input n (Writes bytes t) = writes bytes (machine_run t input n)

machine_run-suc : (s : MachineState) (input : List ℕ) (n : ℕ) → machine_run s input (suc n) ≡ works 1 (stepped input n (step s))
machine_run-suc s input n = refl

abbrev go_on : ℕ → Progress → Progress
go_on k (Running v) = run k v
go_on k (Ended e v) = Ended e v

run-suc : (k : ℕ) (w : Execution) → run (suc k) w ≡ go_on k (proceed w (step w.machine))
run-suc k w = refl

-- with an output so far
abbrev IsRunBehind : (n : ℕ) → List ℕ → Progress → Ran → Type 0
IsRunBehind n front o r = IsRunOf n o (writes front r)

one_more : (n : ℕ) (front : List ℕ) (o : Progress) (r : Ran) → IsRunBehind n front o r → IsRunBehind (suc n) front o (works 1 r)
one_more n front (Running w) r h =
    let k = h.3 in
    let e : 1 + r.work ≡ suc n = omega (arith, k) in (h.0, h.1, h.2, e)
one_more n front (Ended e w) r h =
    let k = h.3 in
    let l : 1 + r.work ≤ suc n = omega (arith, k) in (h.0, h.1, h.2, l)

first_same : (input : List ℕ) → first_answer (answers input) ≡ first_byte input
first_same [] = refl
first_same (b ∷ rest) = refl

later_same : (input : List ℕ) → later_answers (answers input) ≡ answers (later_bytes input)
later_same [] = refl
later_same (b ∷ rest) = refl

abbrev world : MachineState → List (Option ℕ) → List ℕ → Execution
world s input output = record { machine = s; input = input; output = output }

shifted : (n : ℕ) (front bytes : List ℕ) (o : Progress) (r : Ran) → IsRunBehind n (front ++ bytes) o r → IsRunBehind n front o (writes bytes r)
shifted n front bytes (Running w) r h = (sym (append_assoc front bytes r.output) ∙ h.0, h.1, h.2, h.3)
shifted n front bytes (Ended e w) r h = (sym (append_assoc front bytes r.output) ∙ h.0, h.1, h.2, h.3)

runs_behind : (n : ℕ) (s : MachineState) (input front : List ℕ) → IsRunBehind n front (run n (world s (answers input) front)) (machine_run s input n)
runs_behind zero s input front = (append-nil front, refl, refl, refl)
runs_behind (suc n) s input front =
    subst (λ o. IsRunBehind (suc n) front o (machine_run s input (suc n))) (sym (run-suc n (world s (answers input) front)))
    (subst (λ r. IsRunBehind (suc n) front (go_on n (proceed (world s (answers input) front) (step s))) r) (sym (machine_run-suc s input n))
    (by (step s) (λ t i f. runs_behind n t i f)))
  where
    by : (d : Step) → ((t : MachineState) (i f : List ℕ) → IsRunBehind n f (run n (world t (answers i) f)) (machine_run t i n)) →
        IsRunBehind (suc n) front (go_on n (proceed (world s (answers input) front) d)) (works 1 (stepped input n d))
    by (Goes t) ih = one_more n front (run n (world t (answers input) front)) (machine_run t input n) (ih t input front)
    by (Ends e) ih = (append-nil front, refl, refl, omega arith)
    by (Reads t) ih =
        let i = later_bytes input in
        let u = answered t (first_byte input) in
        subst (λ v. IsRunBehind (suc n) front (run n v) (works 1 (machine_run u i n)))
        (sym (ap (λ a. world (answered t a) (later_answers (answers input)) front) (first_same input) ∙ ap (λ l. world u l front) (later_same input)))
        (one_more n front (run n (world u (answers i) front)) (machine_run u i n) (ih u i front))
    by (Writes bytes t) ih =
        let o = run n (world t (answers input) (front ++ bytes)) in
        one_more n front o (writes bytes (machine_run t input n)) (shifted n front bytes o (machine_run t input n) (ih t input (front ++ bytes)))

pub runs_by_fuel : RunsByFuel
runs_by_fuel n s input = runs_behind n s input []

-- what has ended stays so
stays_over : (i j : ℕ) (s : MachineState) (input : List ℕ) → i ≤ j → IsOver (machine_run s input i).stop → machine_run s input j ≡ machine_run s input i
stays_over zero j s input l h = absurd h
stays_over (suc i) zero s input l h = absurd (omega (arith, l))
stays_over (suc i) (suc j) s input l h =
    let k : i ≤ j = omega (arith, l) in
    machine_run-suc s input j ∙ ap (works 1) (by (step s) (λ t x. stays_over i j t x k) (subst (λ (r : Ran). IsOver r.stop) (machine_run-suc s input i) h))
    ∙ sym (machine_run-suc s input i)
  where
    by : (d : Step) → ((t : MachineState) (x : List ℕ) → IsOver (machine_run t x i).stop → machine_run t x j ≡ machine_run t x i) →
        IsOver (stepped input i d).stop → stepped input j d ≡ stepped input i d
    by (Goes t) ih o = ih t input o
    by (Ends e) ih o = refl
    by (Reads t) ih o = ih (answered t (first_byte input)) (later_bytes input) o
    by (Writes bytes t) ih o = ap (writes bytes) (ih t input o)

pub machine_stays_over : MachineStaysOver
machine_stays_over s input i j l h = stays_over i j s input l h

-- with more fuel it goes on
works_on : (p q : Ran) → GoesOn p q → GoesOn (works 1 p) (works 1 q)
works_on p q g = let w = g.work in let l : 1 + p.work ≤ 1 + q.work = omega (arith, w) in record { output = g.output; input = g.input; work = l }

writes_on : (bytes : List ℕ) (p q : Ran) → GoesOn p q → GoesOn (writes bytes p) (writes bytes q)
writes_on bytes p q g = record {
  output = (g.output.0, ap (λ o. bytes ++ o) g.output.1 ∙ sym (append_assoc bytes p.output g.output.0));
  input = g.input;
  work = g.work;
}

-- a run from a moment on only takes from its input
abbrev Takes : List ℕ → Ran → Type 0
Takes input r = (read : List ℕ) × (input ≡ read ++ r.input)

takes_more : (input : List ℕ) (r : Ran) → Takes (later_bytes input) r → Takes input r
takes_more [] r h = h
takes_more (b ∷ rest) r h = (b ∷ h.0, ap (λ l. b ∷ l) h.1)

takes : (n : ℕ) (s : MachineState) (input : List ℕ) → Takes input (machine_run s input n)
takes zero s input = ([], refl)
takes (suc n) s input = subst (Takes input) (sym (machine_run-suc s input n)) (by (step s) (λ t x. takes n t x))
  where
    by : (d : Step) → ((t : MachineState) (x : List ℕ) → Takes x (machine_run t x n)) → Takes input (works 1 (stepped input n d))
    by (Goes t) ih = ih t input
    by (Ends e) ih = ([], refl)
    by (Reads t) ih = takes_more input (machine_run (answered t (first_byte input)) (later_bytes input) n)
        (ih (answered t (first_byte input)) (later_bytes input))
    by (Writes bytes t) ih = ih t input

goes_on : (i j : ℕ) (s : MachineState) (input : List ℕ) → i ≤ j → GoesOn (machine_run s input i) (machine_run s input j)
goes_on zero j s input l = record { output = ((machine_run s input j).output, refl); input = takes j s input; work = omega arith }
goes_on (suc i) zero s input l = absurd (omega (arith, l))
goes_on (suc i) (suc j) s input l =
    let k : i ≤ j = omega (arith, l) in
    subst (λ q. GoesOn (machine_run s input (suc i)) q) (sym (machine_run-suc s input j))
    (subst (λ p. GoesOn p (works 1 (stepped input j (step s)))) (sym (machine_run-suc s input i))
    (works_on (stepped input i (step s)) (stepped input j (step s)) (by (step s) (λ t x. goes_on i j t x k))))
  where
    by : (d : Step) → ((t : MachineState) (x : List ℕ) → GoesOn (machine_run t x i) (machine_run t x j)) → GoesOn (stepped input i d) (stepped input j d)
    by (Goes t) ih = ih t input
    by (Ends e) ih = record { output = ([], refl); input = ([], refl); work = omega arith }
    by (Reads t) ih = ih (answered t (first_byte input)) (later_bytes input)
    by (Writes bytes t) ih = writes_on bytes (machine_run t input i) (machine_run t input j) (ih t input)

pub machine_goes_on : MachineGoesOn
machine_goes_on s input i j l = goes_on i j s input l

-- what has ended did so in as many steps as it has worked
abbrev ByItsWork : ℕ → MachineState → List ℕ → RunEnd → Type 0
ByItsWork n s input e =
    (machine_run s input n).stop ≡ ran.Ended e → machine_run s input (machine_run s input n).work ≡ machine_run s input n

-- the same of a run that is one step
abbrev StepByItsWork : MachineState → List ℕ → RunEnd → Ran → Type 0
StepByItsWork s input e r = r.stop ≡ ran.Ended e → machine_run s input r.work ≡ r

wants_no_end : {e : RunEnd} → ran.WantsFuel ≡ ran.Ended e → ⊥
wants_no_end q = cc

pub machine_ends_by_its_work : MachineEndsByItsWork
machine_ends_by_its_work zero s input e h = absurd (wants_no_end h)
machine_ends_by_its_work (suc n) s input e h =
    subst (StepByItsWork s input e) (sym (machine_run-suc s input n))
    (λ g.
    let k = (stepped input n (step s)).work in
    let one_more : 1 + k ≡ suc k = omega arith in
    ap (machine_run s input) one_more ∙ machine_run-suc s input k
    ∙ ap (works 1) (by (step s) (λ t i. machine_ends_by_its_work n t i e) g))
    h
  where
    by : (d : Step) → ((t : MachineState) (i : List ℕ) → ByItsWork n t i e) → (stepped input n d).stop ≡ ran.Ended e →
        stepped input (stepped input n d).work d ≡ stepped input n d
    by (Goes t) ih g = ih t input g
    by (Ends f) ih g = refl
    by (Reads t) ih g = ih (answered t (first_byte input)) (later_bytes input) g
    by (Writes bytes t) ih g = ap (writes bytes) (ih t input g)
