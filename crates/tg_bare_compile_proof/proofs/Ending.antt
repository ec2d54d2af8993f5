-- The end of a run with delayed branches is as its program means.
use Rattle.std.proofs.Common.{◌≡◌, ◌≢◌, ◌≤◌, ◌<◌, ◌*◌, ℕ, zero, suc, ◌⊎◌, inl, inr, arith, refl, sym, ap, ◌∙◌, subst}
use Rattle.tg_machine_state.specs.declared.ends.RunEnd.{RunEnd}
use Rattle.tg_machine_state.specs.declared.ends.RunEnd.TheVariants.{Exit, Break, Overflow, HeapFull, StackFull, StepLimit}
use Rattle.tg_machine_state.specs.declared.ends.RunEnd.TheVariants.{BadAddress, Unaligned, BadWord, BadService}
use Rattle.tg_machine_state.specs.declared.ends.RunEnd.TheVariants.{ReadFault, WriteFault}
use Rattle.tg_simulation.specs.Outcomes.{ended, Outcome}
use Rattle.tg_semantics.specs.Values.{Ending, normal, by_nil, by_index, by_division, by_chr}
use Rattle.tg_semantics.specs.Values.{by_substring, by_size, by_heap, by_overflow, by_exit}
use Rattle.tg_semantics.specs.MachineEnds.{machine_end}
use Rattle.tg_semantics.specs.Direct.{evaluate}
use Rattle.tg_isa.specs.Runs.{Execution, Progress, Running, Ended}
use Rattle.tg_bare.specs.Delayed.{bare_step}
use Rattle.tg_bare.specs.BareRuns as bare
use Rattle.tg_bare.specs.BareRuns.{BareExecution, BareProgress, run_bare, proceed_bare}
use Rattle.tg_correctness.specs.Images.{EndsAs, IsCutShort, most_steps}
use Rattle.tg_correctness.specs.Ends.{EndsSo}
use Rattle.tg_bare_compile_proof.specs.Images.{as_progress, RunsAsMeantWithin}
use Rattle.tg_bare_compile_proof.specs.Ends.{EndIsMeantWithin}
use Rattle.tg_bare_compile_proof.specs.laws.TextLaws.{BareEndedIsMeant, BareRunningIsMeant}

-- What has ended stays so.

abbrev go_on : ℕ → BareProgress → BareProgress
go_on k (bare.Running v) = run_bare k v
go_on k (bare.Ended e v) = bare.Ended e v

run-suc : (k : ℕ) (w : BareExecution) → run_bare (suc k) w ≡ go_on k (proceed_bare w (bare_step w.machine))
run-suc k w = refl

running_ended : {w v : Execution} {e : RunEnd} → Running w ≡ Ended e v → ⊥
running_ended q = cc

stays : (i j : ℕ) (w : BareExecution) (v : Execution) (e : RunEnd) → i ≤ j → as_progress (run_bare i w) ≡ Ended e v →
    as_progress (run_bare j w) ≡ Ended e v
stays zero j w v e l h = absurd (running_ended h)
stays (suc i) zero w v e l h = absurd (omega (arith, l))
stays (suc i) (suc j) w v e l h =
    let k : i ≤ j = omega (arith, l) in
    ap as_progress (run-suc j w) ∙ by (proceed_bare w (bare_step w.machine)) (λ u q. stays i j u v e k q) (sym (ap as_progress (run-suc i w)) ∙ h)
  where
    by : (p : BareProgress) → ((u : BareExecution) → as_progress (run_bare i u) ≡ Ended e v → as_progress (run_bare j u) ≡ Ended e v) →
        as_progress (go_on i p) ≡ Ended e v → as_progress (go_on j p) ≡ Ended e v
    by (bare.Running u) ih q = ih u q
    by (bare.Ended f u) ih q = q

le-or-gt : (a b : ℕ) → (a ≤ b) ⊎ (b < a)
le-or-gt a b = grind arith

-- a world in which what ended as it does, or was cut
ended_as : (o : Outcome Ending) (e : RunEnd) (p : Progress) → EndsAs o e p → (v : Execution) × (f : RunEnd) × (p ≡ Ended f v)
ended_as o e (Ended f v) h = (v, f, refl)
ended_as o e (Running v) h = absurd h

cut_so : (o : Outcome Ending) (p : Progress) → IsCutShort o p → (v : Execution) × (f : RunEnd) × (p ≡ Ended f v)
cut_so o (Ended f v) h = (v, f, refl)
cut_so o (Running v) h = absurd h

-- Ends of the machine that may stand for an ending.

abbrev MayStand : RunEnd → Type 0
MayStand (Exit n) = Unit {0}
MayStand (Break n) = Unit {0}
MayStand Overflow = Unit {0}
MayStand HeapFull = Unit {0}
MayStand _ = ⊥

may_stand : (e : Ending) → MayStand (machine_end e)
may_stand normal = tt
may_stand (by_exit i) = tt
may_stand by_nil = tt
may_stand by_index = tt
may_stand by_chr = tt
may_stand by_substring = tt
may_stand by_size = tt
may_stand by_division = tt
may_stand by_heap = tt
may_stand by_overflow = tt

module _ (times stack : ℕ) (means : ℕ → Outcome Ending) (b : BareExecution) (steps : ℕ)
    (agrees : RunsAsMeantWithin times stack means (λ m. as_progress (run_bare m b))) where
  abbrev does : ℕ → Progress
  does m = as_progress (run_bare m b)

  has_ended : (n m : ℕ) (e : Ending) → EndsAs (means n) (machine_end e) (does m) ⊎ IsCutShort (means n) (does m) →
      (v : Execution) × (f : RunEnd) × (does m ≡ Ended f v)
  has_ended n m e (inl h) = ended_as (means n) (machine_end e) (does m) h
  has_ended n m e (inr h) = cut_so (means n) (does m) h

  below : (a k n : ℕ) → k < a → a ≤ n → k < n
  below a k n g l = omega (arith, g, l)

  still : (v : Execution) → does steps ≡ Running v → (n : ℕ) (e : Ending) → (means n).end ≡ ended e →
      steps < times * most_steps (means n).cost
  still v q n e h =
      let x = agrees.ends n e h in
      let y = has_ended n x.0 e x.2 in
      elim (le-or-gt x.0 steps) as (λ _. steps < times * most_steps (means n).cost) [
        | inl l ↦ absurd (running_ended (sym q ∙ stays x.0 steps b y.0 y.1 l y.2))
        | inr g ↦ below x.0 steps (times * most_steps (means n).cost) g x.1
      ]

  ends_so : (f : RunEnd) (last : Execution) → does steps ≡ Ended f last → f ≢ StackFull → EndsSo means f last
  ends_so f last q whole =
      let x = agrees.ends_only steps f last q whole in
      let h : EndsAs (means steps) (machine_end x.0) (Ended f last) = subst (EndsAs (means steps) (machine_end x.0)) q x.2 in
      record { turns = steps; ending = x.0; ends = x.1; end_is = h.0; does = h.1 }

  no_end : (f : RunEnd) (last : Execution) → does steps ≡ Ended f last → f ≢ StackFull → (MayStand f → ⊥) → ⊥
  no_end f last q whole never =
      let s = ends_so f last q whole in
      never (subst MayStand (sym s.end_is) (may_stand s.ending))

  cut : (last : Execution) → does steps ≡ Ended StackFull last → (turns : ℕ) × IsCutShort (means turns) (Ended StackFull last)
  cut last q = (steps, subst (IsCutShort (means steps)) q (agrees.cut_only steps last q))

  is_meant : (f : RunEnd) (last : Execution) → does steps ≡ Ended f last → EndIsMeantWithin times means steps f last
  is_meant (Exit n) last q = ends_so (Exit n) last q (λ h. cc)
  is_meant (Break n) last q = ends_so (Break n) last q (λ h. cc)
  is_meant Overflow last q = ends_so Overflow last q (λ h. cc)
  is_meant HeapFull last q = ends_so HeapFull last q (λ h. cc)
  is_meant StackFull last q = cut last q
  is_meant StepLimit last q = absurd (no_end StepLimit last q (λ h. cc) (λ m. m))
  is_meant (BadAddress a) last q = no_end (BadAddress a) last q (λ h. cc) (λ m. m)
  is_meant (Unaligned a) last q = no_end (Unaligned a) last q (λ h. cc) (λ m. m)
  is_meant (BadWord w) last q = no_end (BadWord w) last q (λ h. cc) (λ m. m)
  is_meant (BadService n) last q = no_end (BadService n) last q (λ h. cc) (λ m. m)
  is_meant ReadFault last q = no_end ReadFault last q (λ h. cc) (λ m. m)
  is_meant WriteFault last q = no_end WriteFault last q (λ h. cc) (λ m. m)

pub bare_ended_is_meant : BareEndedIsMeant
bare_ended_is_meant text assembly m input heap stack steps end last bytes sizes is =
    is_meant 4 stack (λ turns. evaluate m.names m.program input heap stack turns) _ steps (m.does input heap stack bytes sizes) end last is

pub bare_running_is_meant : BareRunningIsMeant
bare_running_is_meant text assembly m input heap stack steps last bytes sizes is =
    still 4 stack (λ turns. evaluate m.names m.program input heap stack turns) _ steps (m.does input heap stack bytes sizes) last is
