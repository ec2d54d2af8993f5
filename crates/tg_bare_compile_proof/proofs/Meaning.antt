-- Agreement by fuel is what is said of an image with delay slots.
use Rattle.std.proofs.Common.{◌≡◌, ◌≤◌, ◌<◌, ◌+◌, ◌*◌, ℕ, ◌⊎◌, inl, inr, arith}
use Rattle.std.proofs.Common.{refl, sym, ap, ◌∙◌, subst}
use Rattle.tg_machine_state.specs.declared.ends.RunEnd.{RunEnd}
use Rattle.tg_machine_state.specs.declared.ends.RunEnd.TheVariants.{StackFull}
use Rattle.tg_simulation.specs.Ran as ran
use Rattle.tg_simulation.specs.Ran.{Ran, WantsFuel}
use Rattle.tg_simulation.specs.Outcomes.{End, ended, out_of_fuel, stuck, Outcome}
use Rattle.tg_simulation.specs.Changes.{map_end}
use Rattle.tg_simulation.specs.Agreement as by_fuel
use Rattle.tg_simulation.specs.Bytes.{IsPrefix, least_frame}
use Rattle.tg_simulation.specs.Agreement.{IsCut, IsSame}
use Rattle.tg_semantics.specs.Values.{Ending}
use Rattle.tg_semantics.specs.MachineEnds.{machine_end}
use Rattle.tg_semantics.specs.MachineRuns.{as_source}
use Rattle.tg_semantics.specs.Direct.{evaluate}
use Rattle.tg_semantics.specs.Passing.{evaluate_passing}
use Rattle.tg_semantics.specs.laws.Laws.{FormsAgree}
use Rattle.tg_isa.specs.Runs.{Execution, Progress, Running, Ended, answers}
use Rattle.tg_isa.specs.ImageRuns.{IsRunOf}
use Rattle.tg_bare.specs.Delayed.{initial_bare}
use Rattle.tg_bare.specs.BareRuns as bare
use Rattle.tg_bare.specs.BareRuns.{BareProgress, IsBareRunOf, BareRunsByFuel, BareEndsByItsWork, bare_run, bare_begun, run_bare}
use Rattle.tg_correctness.specs.Images.{DoesAll, EndsAs, IsRunning, IsCutShort, most_steps}
use Rattle.tg_bare_compile_proof.specs.Images.{as_progress, bare_runs_to, RunsAsMeantWithin}
use Rattle.tg_bare_compile_proof.specs.laws.Meaning.{BareAgreementIsMeant, OnceIsAsMeant}

-- Steps once.

once : (m n : ℕ) → m ≤ n → m ≤ 1 * n
once m n l = omega (arith, l)

back : (m n : ℕ) → m ≤ 1 * n → m ≤ n
back m n l = omega (arith, l)

pub once_is_as_meant : OnceIsAsMeant
once_is_as_meant stack means does = record {
  once = λ h. record {
    ends = λ n e q. let x = h.ends n e q in (x.0, once x.0 (most_steps (means n).cost) x.1, x.2);
    goes_on = λ n q. let x = h.goes_on n q in (x.0, once x.0 (most_steps (means n).cost) x.1, x.2);
    ends_only = h.ends_only;
    cut_only = h.cut_only;
    fills = h.fills;
  };
  back = λ h. record {
    ends = λ n e q. let x = h.ends n e q in (x.0, back x.0 (most_steps (means n).cost) x.1, x.2);
    goes_on = λ n q. let x = h.goes_on n q in (x.0, back x.0 (most_steps (means n).cost) x.1, x.2);
    ends_only = h.ends_only;
    cut_only = h.cut_only;
    fills = h.fills;
  };
}

-- What a run by fuel that stops so says of the machine after so many steps.

ended_is : {e f : RunEnd} → ran.Ended e ≡ ran.Ended f → e ≡ f
ended_is q = cc

never_both : {e : RunEnd} → WantsFuel ≡ ran.Ended e → ⊥
never_both q = cc

stopped_so : (m : ℕ) (p : Progress) (r : Ran) (e : RunEnd) → IsRunOf m p r → r.stop ≡ ran.Ended e →
    (w : Execution) × (p ≡ Ended e w)
stopped_so m (Running w) r e h s = absurd (never_both (sym h.2 ∙ s))
stopped_so m (Ended f w) r e h s = (w, ap (λ g. Ended g w) (ended_is (sym h.2 ∙ s)))

works_so : (m : ℕ) (p : Progress) (r : Ran) → IsRunOf m p r → r.stop ≡ WantsFuel → r.work ≡ m
works_so m (Running w) r h s = h.3
works_so m (Ended f w) r h s = absurd (never_both (sym s ∙ h.2))

all_done : (o : Outcome Ending) (w : Execution) (r : Ran) → r.output ≡ w.output → w.input ≡ answers r.input →
    r.output ≡ o.output → r.input ≡ o.input → DoesAll o w
all_done o w r u i v j = record { output = sym u ∙ v; input = i ∙ ap answers j }

ends_as : (o : Outcome Ending) (m : ℕ) (p : Progress) (r : Ran) (e : RunEnd) → IsRunOf m p r → r.stop ≡ ran.Ended e →
    r.output ≡ o.output → r.input ≡ o.input → EndsAs o e p
ends_as o m (Running w) r e h s v j = absurd (never_both (sym h.2 ∙ s))
ends_as o m (Ended f w) r e h s v j = (ended_is (sym h.2 ∙ s), all_done o w r h.0 h.1 v j)

is_running : (o : Outcome Ending) (m : ℕ) (p : Progress) (r : Ran) → IsRunOf m p r → r.stop ≡ WantsFuel →
    r.output ≡ o.output → r.input ≡ o.input → IsRunning o p
is_running o m (Running w) r h s v j = all_done o w r h.0 h.1 v j
is_running o m (Ended f w) r h s v j = absurd (never_both (sym s ∙ h.2))

is_cut : (o : Outcome Ending) (m : ℕ) (p : Progress) (r : Ran) → IsRunOf m p r → IsCut 16384 262144 (as_source o) r →
    IsCutShort o p
is_cut o m (Running w) r h c = absurd (never_both (sym h.2 ∙ c.full))
is_cut o m (Ended f w) r h c =
    subst (λ g. IsCutShort o (Ended g w)) (ended_is (sym c.full ∙ h.2)) (
      c.past.0,
      c.past.1,
      subst (λ x. IsPrefix c.past.0 x) h.0 c.past.2,
      subst (λ x. IsPrefix x o.output) h.0 c.front,
    )

-- an ending that stands for an end of the machine
ending_of : (x : End Ending) (f : RunEnd) → map_end machine_end x ≡ ended f → (e : Ending) × (x ≡ ended e)
    × (machine_end e ≡ f)
ending_of (ended e) f h = (e, refl, by h)
  where
    by : {a b : RunEnd} → ended a ≡ ended b → a ≡ b
    by q = cc
ending_of out_of_fuel f h = absurd (by h)
  where
    by : {a : RunEnd} → out_of_fuel ≡ ended a → ⊥
    by q = cc
ending_of stuck f h = absurd (by h)
  where
    by : {a : RunEnd} → stuck ≡ ended a → ⊥
    by q = cc

-- four times the steps that a cost allows
four_times : (w cost : ℕ) → w ≤ 16384 * cost + 262144 → w ≤ 4 * most_steps cost
four_times w cost l = omega (arith, l)

module _ (stack : ℕ) (means : ℕ → Outcome Ending) (does : ℕ → Progress) (d : ℕ → Ran)
    (is_run : (m : ℕ) → IsRunOf m (does m) (d m))
    (works_so_much : (m : ℕ) (e : RunEnd) → (d m).stop ≡ ran.Ended e → d (d m).work ≡ d m)
    (agrees : by_fuel.Agrees 16384 262144 (λ n. as_source (means n)) d)
    (full : by_fuel.FillsStack stack (λ n. as_source (means n)) d) where
  -- an end, at the step at which it comes
  ended_then : (m : ℕ) (e : RunEnd) → (d m).stop ≡ ran.Ended e → IsRunOf (d m).work (does (d m).work) (d m)
  ended_then m e h = subst (λ r. IsRunOf (d m).work (does (d m).work) r) (works_so_much m e h) (is_run (d m).work)

  ends_or_cut : (n m : ℕ) (e : RunEnd) → IsSame 16384 262144 (as_source (means n)) (d m) (ran.Ended e)
      ⊎ IsCut 16384 262144 (as_source (means n)) (d m) →
      (k : ℕ) × (k ≤ 4 * most_steps (means n).cost) × (EndsAs (means n) e (does k) ⊎ IsCutShort (means n) (does k))
  ends_or_cut n m e (inl g) =
      let k = (d m).work in (
        k,
        four_times k (means n).cost g.work,
        inl (ends_as (means n) k (does k) (d m) e (ended_then m e g.stops) g.stops g.output g.input),
      )
  ends_or_cut n m e (inr g) =
      let k = (d m).work in
      (k, four_times k (means n).cost g.work, inr (is_cut (means n) k (does k) (d m) (ended_then m StackFull g.full) g))

  runs_or_cut : (n m : ℕ) → n ≤ m → IsSame 16384 262144 (as_source (means n)) (d m) WantsFuel
      ⊎ IsCut 16384 262144 (as_source (means n)) (d m) →
      (k : ℕ) × (k ≤ 4 * most_steps (means n).cost)
      × (((n ≤ k) × IsRunning (means n) (does k)) ⊎ IsCutShort (means n) (does k))
  runs_or_cut n m l (inl g) =
      let w = works_so m (does m) (d m) (is_run m) g.stops in (
        m,
        subst (λ k. k ≤ 4 * most_steps (means n).cost) w (four_times (d m).work (means n).cost g.work),
        inl (l, is_running (means n) m (does m) (d m) (is_run m) g.stops g.output g.input),
      )
  runs_or_cut n m l (inr g) =
      let k = (d m).work in
      (k, four_times k (means n).cost g.work, inr (is_cut (means n) k (does k) (d m) (ended_then m StackFull g.full) g))

  stop_of : (m : ℕ) (f : RunEnd) (w : Execution) → does m ≡ Ended f w → (d m).stop ≡ ran.Ended f
  stop_of m f w q = let h = subst (λ p. IsRunOf m p (d m)) q (is_run m) in h.2

  only_so : (m : ℕ) (f : RunEnd) → (d m).stop ≡ ran.Ended f → by_fuel.Ends (as_source (means m)) (d m) f →
      (e : Ending) × ((means m).end ≡ ended e) × EndsAs (means m) (machine_end e) (does m)
  only_so m f q g =
      let x = ending_of (means m).end f g.meets in (
        x.0,
        x.1,
        ends_as (means m) m (does m) (d m) (machine_end x.0) (is_run m) (q
            ∙ sym (ap (λ e. ran.Ended e) x.2)) g.output g.input,
      )

  meant : RunsAsMeantWithin 4 stack means does
  meant =
      record {
        ends = λ n e h. let x = agrees.ends n (machine_end e) (ap (map_end machine_end) h) in
            ends_or_cut n x.0 (machine_end e) x.1;
        goes_on = λ n h. let x = agrees.goes_on n (ap (map_end machine_end) h) in runs_or_cut n x.0 x.1 x.2;
        ends_only = λ m f w q l. only_so m f (stop_of m f w q) (agrees.ends_only m f (stop_of m f w q) l);
        cut_only = λ m w q. is_cut (means m) m (does m) (d m) (is_run m)
            (agrees.full_only m (stop_of m StackFull w q));
        fills = λ n l. let x = full.fills n l in let y =
            stopped_so x.0 (does x.0) (d x.0) StackFull (is_run x.0) x.1 in (x.0, y.0, y.1);
      }

-- by results, as by what comes next
told_alike : (times stack : ℕ) (means means' : ℕ → Outcome Ending) (does : ℕ → Progress) → ((n : ℕ) → means' n ≡ means n) →
    RunsAsMeantWithin times stack means does → RunsAsMeantWithin times stack means' does
told_alike times stack means means' does same h =
    record {
      ends = λ n e q.
          subst (λ (o : Outcome Ending). (m : ℕ) × (m ≤ times * most_steps o.cost)
          × (EndsAs o (machine_end e) (does m) ⊎ IsCutShort o (does m))) (sym (same n))
          (h.ends n e (sym (ap (λ (o : Outcome Ending). o.end) (same n)) ∙ q));
      goes_on = λ n q.
          subst (λ (o : Outcome Ending). (m : ℕ) × (m ≤ times * most_steps o.cost)
          × (((n ≤ m) × IsRunning o (does m)) ⊎ IsCutShort o (does m))) (sym (same n))
          (h.goes_on n (sym (ap (λ (o : Outcome Ending). o.end) (same n)) ∙ q));
      ends_only = λ m f w q l.
          subst (λ (o : Outcome Ending). (e : Ending) × (o.end ≡ ended e) × EndsAs o (machine_end e) (does m))
          (sym (same m)) (h.ends_only m f w q l);
      cut_only = λ m w q. subst (λ o. IsCutShort o (does m)) (sym (same m)) (h.cut_only m w q);
      fills = λ n l. h.fills n (subst (λ (o : Outcome Ending). stack < least_frame * o.deepest) (same n) l);
    }

-- a run with delayed branches, as one without
as_run : (n : ℕ) (p : BareProgress) (r : Ran) → IsBareRunOf n p r → IsRunOf n (as_progress p) r
as_run n (bare.Running w) r h = h
as_run n (bare.Ended e w) r h = h

pub bare_agreement_is_meant : BareRunsByFuel → BareEndsByItsWork → FormsAgree → BareAgreementIsMeant
bare_agreement_is_meant runs works_so_much forms names program image input heap stack agrees full =
    let b = initial_bare image.code image.statics image.entry heap stack in
    told_alike 4 stack
    (λ n. evaluate_passing names program input heap stack n)
    (λ n. evaluate names program input heap stack n)
    (λ m. bare_runs_to image input heap stack m)
    (λ n. forms names program input heap stack n)
    (meant stack (λ n. evaluate_passing names program input heap stack n)
    (λ m. bare_runs_to image input heap stack m) (bare_run b input)
    (λ m. as_run m (run_bare m (bare_begun b input)) (bare_run b input m) (runs m b input))
    (λ m e h. works_so_much m b input e h) agrees full)
