-- What the end of a run of so many steps says of the meaning.
use Rattle.std.proofs.Common.{◌≡◌, ◌≢◌, ◌≤◌, ◌<◌, ℕ, zero, suc, ◌⊎◌, inl, inr, arith, refl, sym, ap, ◌∙◌, subst}
use Rattle.tg_machine_state.specs.declared.ends.RunEnd.{RunEnd}
use Rattle.tg_machine_state.specs.declared.ends.RunEnd.TheVariants.{Exit, Break, Overflow, HeapFull, StackFull, StepLimit}
use Rattle.tg_machine_state.specs.declared.ends.RunEnd.TheVariants.{BadAddress, Unaligned, BadWord, BadService}
use Rattle.tg_machine_state.specs.declared.ends.RunEnd.TheVariants.{ReadFault, WriteFault}
use Rattle.tg_simulation.specs.Outcomes.{ended, Outcome}
use Rattle.tg_semantics.specs.Values.{Ending}
use Rattle.tg_semantics.specs.MachineEnds.{machine_end}
use Rattle.tg_isa.specs.Effects.{step}
use Rattle.tg_isa.specs.Runs.{Execution, Progress, Running, Ended, proceed, run}
use Rattle.tg_correctness.specs.Images.{EndsAs, IsCutShort, most_steps, RunsAsMeant}
use Rattle.tg_correctness.specs.laws.EndLaws.{TellsMeaning, EndsTellMeaning}

abbrev go_on : ℕ → Progress → Progress
go_on k (Running v) = run k v
go_on k (Ended e v) = Ended e v

run-suc : (k : ℕ) (w : Execution) → run (suc k) w ≡ go_on k (proceed w (step w.machine))
run-suc k w = refl

running_ended : {w v : Execution} {e : RunEnd} → Running w ≡ Ended e v → ⊥
running_ended q = cc

-- what has ended stays so
stays : (i j : ℕ) (w v : Execution) (e : RunEnd) → i ≤ j → run i w ≡ Ended e v → run j w ≡ Ended e v
stays zero j w v e l h = absurd (running_ended h)
stays (suc i) zero w v e l h = absurd (omega (arith, l))
stays (suc i) (suc j) w v e l h =
    let k : i ≤ j = omega (arith, l) in
    run-suc j w ∙ by (proceed w (step w.machine)) (λ u q. stays i j u v e k q) (sym (run-suc i w) ∙ h)
  where
    by : (p : Progress) → ((u : Execution) → run i u ≡ Ended e v → run j u ≡ Ended e v) → go_on i p ≡ Ended e v →
        go_on j p ≡ Ended e v
    by (Running u) ih q = ih u q
    by (Ended f u) ih q = q

le-or-gt : (a b : ℕ) → (a ≤ b) ⊎ (b < a)
le-or-gt a b = grind arith

is_full : (f : RunEnd) → (f ≡ StackFull) ⊎ (f ≢ StackFull)
is_full (Exit n) = inr (λ q. cc)
is_full (Break n) = inr (λ q. cc)
is_full Overflow = inr (λ q. cc)
is_full HeapFull = inr (λ q. cc)
is_full StackFull = inl refl
is_full StepLimit = inr (λ q. cc)
is_full (BadAddress a) = inr (λ q. cc)
is_full (Unaligned a) = inr (λ q. cc)
is_full (BadWord w) = inr (λ q. cc)
is_full (BadService n) = inr (λ q. cc)
is_full ReadFault = inr (λ q. cc)
is_full WriteFault = inr (λ q. cc)

-- a world in which what ended as it does, or was cut
ended_as : (o : Outcome Ending) (e : RunEnd) (p : Progress) → EndsAs o e p → (v : Execution) × (f : RunEnd)
    × (p ≡ Ended f v)
ended_as o e (Ended f v) h = (v, f, refl)
ended_as o e (Running v) h = absurd h

cut_so : (o : Outcome Ending) (p : Progress) → IsCutShort o p → (v : Execution) × (f : RunEnd) × (p ≡ Ended f v)
cut_so o (Ended f v) h = (v, f, refl)
cut_so o (Running v) h = absurd h

module _ (stack : ℕ) (means : ℕ → Outcome Ending) (w : Execution) (steps : ℕ)
    (agrees : RunsAsMeant stack means (λ m. run m w)) where
  has_ended : (n m : ℕ) (e : Ending) → EndsAs (means n) (machine_end e) (run m w) ⊎ IsCutShort (means n) (run m w) →
      (v : Execution) × (f : RunEnd) × (run m w ≡ Ended f v)
  has_ended n m e (inl h) = ended_as (means n) (machine_end e) (run m w) h
  has_ended n m e (inr h) = cut_so (means n) (run m w) h

  still : (v : Execution) → run steps w ≡ Running v → (n : ℕ) (e : Ending) → (means n).end ≡ ended e →
      steps < most_steps (means n).cost
  still v q n e h =
      let x = agrees.ends n e h in
      let y = has_ended n x.0 e x.2 in
      let le = x.1 in
      elim (le-or-gt x.0 steps) as (λ _. steps < most_steps (means n).cost) [
        | inl l ↦ absurd (running_ended (sym q ∙ stays x.0 steps w y.0 y.1 l y.2))
        | inr g ↦ omega (arith, g, le)
      ]

  over : (f : RunEnd) (v : Execution) → run steps w ≡ Ended f v → TellsMeaning means steps (Ended f v)
  over f v q = by (is_full f)
    where
      by : (f ≡ StackFull) ⊎ (f ≢ StackFull) → TellsMeaning means steps (Ended f v)
      by (inl s) = (
        steps,
        inr (subst (λ p. IsCutShort (means steps) p) q
            (agrees.cut_only steps v (q ∙ ap (λ g. Ended g v) s))),
      )
      by (inr l) =
          let x = agrees.ends_only steps f v q l in
          (steps, inl (x.0, x.1, subst (λ p. EndsAs (means steps) (machine_end x.0) p) q x.2))

  told : (p : Progress) → run steps w ≡ p → TellsMeaning means steps p
  told (Running v) q = still v q
  told (Ended f v) q = over f v q

pub ends_tell_meaning : EndsTellMeaning
ends_tell_meaning stack means w steps agrees = told stack means w steps agrees (run steps w) refl
