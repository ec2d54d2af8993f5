-- The run by fuel of the machine with delayed branches is what so many steps come to.
use Rattle.std.proofs.Common.{◌≡◌, ◌≤◌, ◌+◌, ℕ, zero, suc, List, [], ◌∷◌, ◌++◌, Option, arith, refl, sym, ap, ◌∙◌, subst, append_assoc, append-nil}
use Rattle.tg_machine_state.specs.declared.ends.RunEnd.{RunEnd}
use Rattle.tg_simulation.specs.Ran as ran
use Rattle.tg_simulation.specs.Ran.{Ran, stops, writes, works, IsOver, GoesOn}
use Rattle.tg_isa.specs.Runs.{answers, first_answer, later_answers}
use Rattle.tg_isa.specs.ImageRuns.{first_byte, later_bytes}
use Rattle.tg_bare.specs.Delayed.{Bare, Did, Goes, Ends, Reads, Writes, bare_step}
use Rattle.tg_bare.specs.BareRuns.{BareExecution, BareProgress, Running, Ended, proceed_bare, run_bare, bare_run, answered_bare}
use Rattle.tg_bare.specs.BareRuns.{IsBareRunOf, BareRunsByFuel, BareStaysOver, BareGoesOn, BareEndsByItsWork}

-- one step
abbrev stepped : (input : List ℕ) → ℕ → Did → Ran
stepped input n (Goes t) = bare_run t input n
stepped input n (Ends e) = stops input (ran.Ended e)
stepped input n (Reads t) = bare_run (answered_bare t (first_byte input)) (later_bytes input) n
stepped input n (Writes bytes t) = writes bytes (bare_run t input n)

bare_run-suc : (b : Bare) (input : List ℕ) (n : ℕ) → bare_run b input (suc n) ≡ works 1 (stepped input n (bare_step b))
bare_run-suc b input n = refl

abbrev go_on : ℕ → BareProgress → BareProgress
go_on k (Running v) = run_bare k v
go_on k (Ended e v) = Ended e v

run_bare-suc : (k : ℕ) (w : BareExecution) → run_bare (suc k) w ≡ go_on k (proceed_bare w (bare_step w.machine))
run_bare-suc k w = refl

-- with an output so far
abbrev IsRunBehind : (n : ℕ) → List ℕ → BareProgress → Ran → Type 0
IsRunBehind n front o r = IsBareRunOf n o (writes front r)

one_more : (n : ℕ) (front : List ℕ) (o : BareProgress) (r : Ran) → IsRunBehind n front o r → IsRunBehind (suc n) front o (works 1 r)
one_more n front (Running w) r h =
    let k = h.3 in
    let e : 1 + r.work ≡ suc n = omega (arith, k) in (h.0, h.1, h.2, e)
one_more n front (Ended e w) r h =
    let k = h.3 in
    let l : 1 + r.work ≤ suc n = omega (arith, k) in (h.0, h.1, h.2, l)

first_same : (input : List ℕ) → first_answer (answers input) ≡ first_byte input
first_same [] = refl
first_same (b ∷ rest) = refl

later_same : (input : List ℕ) → later_answers (answers input) ≡ answers (later_bytes input)
later_same [] = refl
later_same (b ∷ rest) = refl

abbrev world : Bare → List (Option ℕ) → List ℕ → BareExecution
world b input output = record { machine = b; input = input; output = output }

shifted : (n : ℕ) (front bytes : List ℕ) (o : BareProgress) (r : Ran) → IsRunBehind n (front ++ bytes) o r → IsRunBehind n front o (writes bytes r)
shifted n front bytes (Running w) r h = (sym (append_assoc front bytes r.output) ∙ h.0, h.1, h.2, h.3)
shifted n front bytes (Ended e w) r h = (sym (append_assoc front bytes r.output) ∙ h.0, h.1, h.2, h.3)

runs_behind : (n : ℕ) (b : Bare) (input front : List ℕ) → IsRunBehind n front (run_bare n (world b (answers input) front)) (bare_run b input n)
runs_behind zero b input front = (append-nil front, refl, refl, refl)
runs_behind (suc n) b input front =
    subst (λ o. IsRunBehind (suc n) front o (bare_run b input (suc n))) (sym (run_bare-suc n (world b (answers input) front)))
    (subst (λ r. IsRunBehind (suc n) front (go_on n (proceed_bare (world b (answers input) front) (bare_step b))) r) (sym (bare_run-suc b input n))
    (by (bare_step b) (λ t i f. runs_behind n t i f)))
  where
    by : (d : Did) → ((t : Bare) (i f : List ℕ) → IsRunBehind n f (run_bare n (world t (answers i) f)) (bare_run t i n)) →
        IsRunBehind (suc n) front (go_on n (proceed_bare (world b (answers input) front) d)) (works 1 (stepped input n d))
    by (Goes t) ih = one_more n front (run_bare n (world t (answers input) front)) (bare_run t input n) (ih t input front)
    by (Ends e) ih = (append-nil front, refl, refl, omega arith)
    by (Reads t) ih =
        let i = later_bytes input in
        let u = answered_bare t (first_byte input) in
        subst (λ v. IsRunBehind (suc n) front (run_bare n v) (works 1 (bare_run u i n)))
        (sym (ap (λ a. world (answered_bare t a) (later_answers (answers input)) front) (first_same input) ∙ ap (λ l. world u l front) (later_same input)))
        (one_more n front (run_bare n (world u (answers i) front)) (bare_run u i n) (ih u i front))
    by (Writes bytes t) ih =
        let o = run_bare n (world t (answers input) (front ++ bytes)) in
        one_more n front o (writes bytes (bare_run t input n)) (shifted n front bytes o (bare_run t input n) (ih t input (front ++ bytes)))

pub runs_by_fuel : BareRunsByFuel
runs_by_fuel n b input = runs_behind n b input []

-- what has ended stays so
stays_over : (i j : ℕ) (b : Bare) (input : List ℕ) → i ≤ j → IsOver (bare_run b input i).stop → bare_run b input j ≡ bare_run b input i
stays_over zero j b input l h = absurd h
stays_over (suc i) zero b input l h = absurd (omega (arith, l))
stays_over (suc i) (suc j) b input l h =
    let k : i ≤ j = omega (arith, l) in
    bare_run-suc b input j ∙ ap (works 1) (by (bare_step b) (λ t x. stays_over i j t x k) (subst (λ (r : Ran). IsOver r.stop) (bare_run-suc b input i) h))
    ∙ sym (bare_run-suc b input i)
  where
    by : (d : Did) → ((t : Bare) (x : List ℕ) → IsOver (bare_run t x i).stop → bare_run t x j ≡ bare_run t x i) →
        IsOver (stepped input i d).stop → stepped input j d ≡ stepped input i d
    by (Goes t) ih o = ih t input o
    by (Ends e) ih o = refl
    by (Reads t) ih o = ih (answered_bare t (first_byte input)) (later_bytes input) o
    by (Writes bytes t) ih o = ap (writes bytes) (ih t input o)

pub bare_stays_over : BareStaysOver
bare_stays_over b input i j l h = stays_over i j b input l h

-- with more fuel it goes on
works_on : (p q : Ran) → GoesOn p q → GoesOn (works 1 p) (works 1 q)
works_on p q g = let w = g.work in let l : 1 + p.work ≤ 1 + q.work = omega (arith, w) in record { output = g.output; input = g.input; work = l }

writes_on : (bytes : List ℕ) (p q : Ran) → GoesOn p q → GoesOn (writes bytes p) (writes bytes q)
writes_on bytes p q g = record {
  output = (g.output.0, ap (λ o. bytes ++ o) g.output.1 ∙ sym (append_assoc bytes p.output g.output.0));
  input = g.input;
  work = g.work;
}

-- a run from a moment on only takes from its input
abbrev Takes : List ℕ → Ran → Type 0
Takes input r = (read : List ℕ) × (input ≡ read ++ r.input)

takes_more : (input : List ℕ) (r : Ran) → Takes (later_bytes input) r → Takes input r
takes_more [] r h = h
takes_more (b ∷ rest) r h = (b ∷ h.0, ap (λ l. b ∷ l) h.1)

takes : (n : ℕ) (b : Bare) (input : List ℕ) → Takes input (bare_run b input n)
takes zero b input = ([], refl)
takes (suc n) b input = subst (Takes input) (sym (bare_run-suc b input n)) (by (bare_step b) (λ t x. takes n t x))
  where
    by : (d : Did) → ((t : Bare) (x : List ℕ) → Takes x (bare_run t x n)) → Takes input (works 1 (stepped input n d))
    by (Goes t) ih = ih t input
    by (Ends e) ih = ([], refl)
    by (Reads t) ih = takes_more input (bare_run (answered_bare t (first_byte input)) (later_bytes input) n)
        (ih (answered_bare t (first_byte input)) (later_bytes input))
    by (Writes bytes t) ih = ih t input

goes_on : (i j : ℕ) (b : Bare) (input : List ℕ) → i ≤ j → GoesOn (bare_run b input i) (bare_run b input j)
goes_on zero j b input l = record { output = ((bare_run b input j).output, refl); input = takes j b input; work = omega arith }
goes_on (suc i) zero b input l = absurd (omega (arith, l))
goes_on (suc i) (suc j) b input l =
    let k : i ≤ j = omega (arith, l) in
    subst (λ q. GoesOn (bare_run b input (suc i)) q) (sym (bare_run-suc b input j))
    (subst (λ p. GoesOn p (works 1 (stepped input j (bare_step b)))) (sym (bare_run-suc b input i))
    (works_on (stepped input i (bare_step b)) (stepped input j (bare_step b)) (by (bare_step b) (λ t x. goes_on i j t x k))))
  where
    by : (d : Did) → ((t : Bare) (x : List ℕ) → GoesOn (bare_run t x i) (bare_run t x j)) → GoesOn (stepped input i d) (stepped input j d)
    by (Goes t) ih = ih t input
    by (Ends e) ih = record { output = ([], refl); input = ([], refl); work = omega arith }
    by (Reads t) ih = ih (answered_bare t (first_byte input)) (later_bytes input)
    by (Writes bytes t) ih = writes_on bytes (bare_run t input i) (bare_run t input j) (ih t input)

pub bare_goes_on : BareGoesOn
bare_goes_on b input i j l = goes_on i j b input l

-- what has ended did so in as many steps as it has worked
abbrev ByItsWork : ℕ → Bare → List ℕ → RunEnd → Type 0
ByItsWork n b input e =
    (bare_run b input n).stop ≡ ran.Ended e → bare_run b input (bare_run b input n).work ≡ bare_run b input n

-- the same of a run that is one step
abbrev StepByItsWork : Bare → List ℕ → RunEnd → Ran → Type 0
StepByItsWork b input e r = r.stop ≡ ran.Ended e → bare_run b input r.work ≡ r

wants_no_end : {e : RunEnd} → ran.WantsFuel ≡ ran.Ended e → ⊥
wants_no_end q = cc

pub bare_ends_by_its_work : BareEndsByItsWork
bare_ends_by_its_work zero b input e h = absurd (wants_no_end h)
bare_ends_by_its_work (suc n) b input e h =
    subst (StepByItsWork b input e) (sym (bare_run-suc b input n))
    (λ g.
    let k = (stepped input n (bare_step b)).work in
    let one_more : 1 + k ≡ suc k = omega arith in
    ap (bare_run b input) one_more ∙ bare_run-suc b input k
    ∙ ap (works 1) (by (bare_step b) (λ t i. bare_ends_by_its_work n t i e) g))
    h
  where
    by : (d : Did) → ((t : Bare) (i : List ℕ) → ByItsWork n t i e) → (stepped input n d).stop ≡ ran.Ended e →
        stepped input (stepped input n d).work d ≡ stepped input n d
    by (Goes t) ih g = ih t input g
    by (Ends f) ih g = refl
    by (Reads t) ih g = ih (answered_bare t (first_byte input)) (later_bytes input) g
    by (Writes bytes t) ih g = ap (writes bytes) (ih t input g)
