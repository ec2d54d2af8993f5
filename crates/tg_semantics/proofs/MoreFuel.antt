-- More fuel changes nothing of a run that is over, and one that is out of fuel goes on.
use Rattle.std.proofs.Common.{◌≡◌, ◌≢◌, inl, inr, ℕ, zero, suc, ◌+◌, ◌-◌, ◌≤◌, List, Option, Some, None, Bool, true, false, nat_lt, refl, sym, ap, ◌∙◌, subst}
use Rattle.std.proofs.Common.{arith, le_trans}
use Rattle.std.specs.Prelude.{if◌then◌else◌}
use Rattle.std.proofs.lemmas.Bool.{cases_lt}
use Rattle.tg_syntax.specs.Tree.{Exp}
use Rattle.tg_simulation.specs.Outcomes.{End, ended, out_of_fuel, stuck, Outcome}
use Rattle.tg_semantics.specs.Values.{Value, Entry, normal, by_heap, add_heap, Ending}
use Rattle.tg_semantics.specs.Environments.{outermost_entries}
use Rattle.tg_semantics.specs.Evaluation.{meaning, program, Job}
use Rattle.tg_semantics.specs.Direct.{RunState, Result, gives, breaks, is_over, Direct, after, after_body, returned, fuelled, found, changed, direct, begin}
use Rattle.tg_semantics.specs.Direct.{told_outcome, outcome, evaluate}
use Rattle.tg_semantics.specs.laws.Laws.{OutcomeGoesOn, so_far, MoreFuelIsIdle, MoreFuelGoesOn, HasOneOutcome}
use Rattle.tg_semantics.proofs.Related.{Related, run_same, run_program_same}
use Rattle.tg_semantics.proofs.GoingOn.{goes_on, whatever_end, now, Keeps, after_keeps, loop_keeps, returned_keeps, fuelled_keeps, all_keep, meaning_keeps}

-- the same state with d more units of fuel
abbrev more : ℕ → RunState → RunState
more d s = record s { fuel = s.fuel + d }

-- where a run with at most n units of fuel has the first result, the one with d more has the second
abbrev Longer : {A : Type 0} → (d n : ℕ) → Result A → Result A → Type 0
Longer d n (gives a s) r = (r ≡ gives a (more d s)) × (s.fuel ≤ n)
Longer d n (breaks s) r = (r ≡ breaks (more d s)) × (s.fuel ≤ n)
Longer d n (is_over (ended e) s) r = r ≡ is_over (ended e) (more d s)
Longer d n (is_over stuck s) r = r ≡ is_over stuck (more d s)
Longer d n (is_over out_of_fuel s) r = OutcomeGoesOn (so_far s) (now r)

-- with at most k units of fuel the second, given d more, goes on as the first; and it takes nothing back
abbrev Longers : (d k : ℕ) → (A : Type 0) → Direct A → Direct A → Type 0
Longers d k A m m' = ((s : RunState) → s.fuel ≤ k → Longer d s.fuel (m s) (m' (more d s))) × Keeps A m'

less_fuel : {A : Type 0} (d n n' : ℕ) (r r' : Result A) → n ≤ n' → Longer d n r r' → Longer d n' r r'
less_fuel d n n' (gives a s) r' le g = (g.0, le_trans g.1 le)
less_fuel d n n' (breaks s) r' le g = (g.0, le_trans g.1 le)
less_fuel d n n' (is_over (ended e) s) r' le g = g
less_fuel d n n' (is_over stuck s) r' le g = g
less_fuel d n n' (is_over out_of_fuel s) r' le g = g

after_longer : {A B : Type 0} (d k n : ℕ) (r r' : Result A) (f f' : A → Direct B) → n ≤ k → Longer d n r r' → ((a : A) → Longers d k B (f a) (f' a)) →
    Longer d n (after r f) (after r' f')
after_longer {A} {B} d k n (gives a s) r' f f' le g h =
    subst (λ x. Longer {A = B} d n (f a s) (after x f')) (sym g.0) (less_fuel d s.fuel n (f a s) (f' a (more d s)) g.1 ((h a).0 s (le_trans g.1 le)))
after_longer d k n (breaks s) r' f f' le g h = (ap (λ x. after x f') g.0, g.1)
after_longer d k n (is_over (ended e) s) r' f f' le g h = ap (λ x. after x f') g
after_longer d k n (is_over stuck s) r' f f' le g h = ap (λ x. after x f') g
after_longer d k n (is_over out_of_fuel s) r' f f' le g h = after_keeps (so_far s) r' f' g (λ a. (h a).1)

loop_longer : (d k n : ℕ) (r r' : Result Value) (f f' : Direct Value) → n ≤ k → Longer d n r r' → Longers d k Value f f' →
    Longer d n (after_body r f) (after_body r' f')
loop_longer d k n (gives v s) r' f f' le g h =
    subst (λ x. Longer {A = Value} d n (f s) (after_body x f')) (sym g.0) (less_fuel d s.fuel n (f s) (f' (more d s)) g.1 (h.0 s (le_trans g.1 le)))
loop_longer d k n (breaks s) r' f f' le g h = (ap (λ x. after_body x f') g.0, g.1)
loop_longer d k n (is_over (ended e) s) r' f f' le g h = ap (λ x. after_body x f') g
loop_longer d k n (is_over stuck s) r' f f' le g h = ap (λ x. after_body x f') g
loop_longer d k n (is_over out_of_fuel s) r' f f' le g h = loop_keeps (so_far s) r' f' g h.1

returned_longer : (d n : ℕ) (r r' : Result Value) → Longer d n r r' → Longer d n (returned r) (returned r')
returned_longer d n (gives v s) r' g = (ap returned g.0, g.1)
returned_longer d n (breaks s) r' g = ap returned g.0
returned_longer d n (is_over (ended e) s) r' g = ap returned g
returned_longer d n (is_over stuck s) r' g = ap returned g
returned_longer d n (is_over out_of_fuel s) r' g = returned_keeps (so_far s) r' g

over_longer : (A : Type 0) (d n : ℕ) (e : End Ending) (s : RunState) → Longer {A = A} d n (is_over e s) (is_over e (more d s))
over_longer A d n (ended e) s = refl
over_longer A d n stuck s = refl
over_longer A d n out_of_fuel s = goes_on (so_far s)

found_longer : {A : Type 0} (d : ℕ) (o : Option A) (s : RunState) → Longer d s.fuel (found o s) (found o (more d s))
found_longer d (Some a) s = (refl, omega arith)
found_longer d None s = refl

take_longer : (d : ℕ) (full : Bool) (bytes : ℕ) (s : RunState) → Longer {A = Unit {0}} d s.fuel
    (if full then is_over (ended by_heap) s else changed tt (add_heap bytes) s)
    (if full then is_over (ended by_heap) (more d s) else changed tt (add_heap bytes) (more d s))
take_longer d true bytes s = refl
take_longer d false bytes s = (refl, omega arith)

module _ (heap stack d k : ℕ) where
  all_longer : Related Direct Direct (direct heap stack) (direct heap stack) (Longers d k)
  all_longer =
      let K = all_keep heap stack in
      record {
        gives = λ A a. (λ s le. (refl, omega arith), K.gives A a);
        binds = λ A B m m' f f' g h. (λ s le. after_longer d k s.fuel (m s) (m' (more d s)) f f' le (g.0 s le) h, K.binds A B m' m' f' f' g.1 (λ a. (h a).1));
        breaks = λ A. (λ s le. (refl, omega arith), K.breaks A);
        overs = λ A e. (λ s le. over_longer A d s.fuel e s, K.overs A e);
        loops = λ m f m' f' g h. (λ s le. loop_longer d k s.fuel (m s) (m' (more d s)) f f' le (g.0 s le) h, K.loops m' f' m' f' g.1 h.1);
        bodies = λ m m' g. (λ s le. returned_longer d s.fuel (m s) (m' (more d s)) (g.0 s le), K.bodies m' m' g.1);
        looks = λ A f. (λ s le. found_longer d (f s.world) s, K.looks A f);
        news = λ v. (λ s le. (refl, omega arith), K.news v);
        sets = λ place v. (λ s le. (refl, omega arith), K.sets place v);
        makes = λ o. (λ s le. (refl, omega arith), K.makes o);
        puts = λ place o. (λ s le. (refl, omega arith), K.puts place o);
        takes = λ bytes. (λ s le. take_longer d (nat_lt heap (s.world.heap + bytes)) bytes s, K.takes bytes);
        reads = (λ s le. (refl, omega arith), K.reads);
        writes = λ bytes. (λ s le. (refl, omega arith), K.writes bytes);
        spends = λ n. (λ s le. (refl, omega arith), K.spends n);
        weighs = λ n. (λ s le. (refl, omega arith), K.weighs n);
        unweighs = λ n. (λ s le. (refl, omega arith), K.unweighs n);
        descends = (λ s le. (refl, omega arith), K.descends);
        ascends = (λ s le. (refl, omega arith), K.ascends);
      }

none_left : (d n : ℕ) (s : RunState) (m m' : Direct Value) → n ≤ zero → Keeps Value m' → Longer d n (fuelled n s m) (fuelled (n + d) (more d s) m')
none_left d zero s m m' le g = fuelled_keeps (0 + d) (more d s) m' g
none_left d (suc n) s m m' le g = absurd (omega arith)

-- a unit that is wanted and not there, and one that is used
fuelled_longer : (d k n : ℕ) (s : RunState) (m m' : Direct Value) → n ≤ suc k → Longers d k Value m m' →
    Longer d n (fuelled n s m) (fuelled (n + d) (more d s) m')
fuelled_longer d k zero s m m' le g = fuelled_keeps (0 + d) (more d s) m' g.1
fuelled_longer d k (suc n) s m m' le g =
    let s' : RunState = record s { fuel = n } in
    let e : suc n + d ≡ suc (n + d) = omega arith in
    subst (λ x. Longer d (suc n) (m s') (fuelled x (more d s) m')) (sym e) (less_fuel d n (suc n) (m s') (m' (more d s')) (omega arith) (g.0 s' (omega arith)))

module _ (heap stack d : ℕ) where
  abbrev at : ℕ → Job → Direct Value
  at n = λ job. meaning Direct (direct heap stack) n job

  turn_longer : (k n m : ℕ) → k ≤ n → k + d ≤ m → (job : Job) → (s : RunState) → s.fuel ≤ k →
      Longer d s.fuel (fuelled s.fuel s (at n job)) (fuelled (s.fuel + d) (more d s) (at m job))
  turn_longer zero n m p q job s le =
      none_left d s.fuel s (at n job) (at m job) le (meaning_keeps heap stack m job)
  turn_longer (suc k) zero m p q job s le = absurd (omega arith)
  turn_longer (suc k) (suc n) zero p q job s le = absurd (omega arith)
  turn_longer (suc k) (suc n) (suc m) p q job s le =
      fuelled_longer d k s.fuel s (at (suc n) job) (at (suc m) job) le
      (run_same Direct Direct (direct heap stack) (direct heap stack) (Longers d k) (all_longer heap stack d k) (at n) (at m)
      (λ j. (turn_longer k n m (omega arith) (omega arith) j, λ t. fuelled_keeps t.fuel t (at m j) (meaning_keeps heap stack m j))) job)

  program_longer : (body : Exp) (entries : List Entry) (n : ℕ) (s : RunState) → s.fuel ≤ n →
      Longer d s.fuel (program Direct (direct heap stack) body entries n s) (program Direct (direct heap stack) body entries (n + d) (more d s))
  program_longer body entries n s le =
      (run_program_same Direct Direct (direct heap stack) (direct heap stack) (Longers d s.fuel) (all_longer heap stack d s.fuel) (at n) (at (n + d))
      (λ j. (
        turn_longer s.fuel n (n + d) le (omega arith) j,
        λ t. fuelled_keeps t.fuel t (at (n + d) j)
            (meaning_keeps heap stack (n + d) j),
      )) body entries).0 s (omega arith)

outcome_idle : (d n : ℕ) (r r' : Result Value) → Longer d n r r' → (outcome r).end ≢ out_of_fuel → outcome r' ≡ outcome r
outcome_idle d n (gives v s) r' g h = ap outcome g.0
outcome_idle d n (breaks s) r' g h = ap outcome g.0
outcome_idle d n (is_over (ended e) s) r' g h = ap outcome g
outcome_idle d n (is_over stuck s) r' g h = ap outcome g
outcome_idle d n (is_over out_of_fuel s) r' g h = absurd (h refl)

outcome_now : (e : End Ending) (s : RunState) (r : Result Value) → OutcomeGoesOn (so_far s) (now r) → OutcomeGoesOn (told_outcome e s) (outcome r)
outcome_now e s (gives v s') g = whatever_end e (ended normal) s s' g
outcome_now e s (breaks s') g = whatever_end e stuck s s' g
outcome_now e s (is_over e' s') g = whatever_end e e' s s' g

equal_goes_on : (o o' : Outcome Ending) → o' ≡ o → OutcomeGoesOn o o'
equal_goes_on o o' e = subst (λ x. OutcomeGoesOn o x) (sym e) (goes_on o)

outcome_goes_on : (d n : ℕ) (r r' : Result Value) → Longer d n r r' → OutcomeGoesOn (outcome r) (outcome r')
outcome_goes_on d n (gives v s) r' g = equal_goes_on _ _ (ap outcome g.0)
outcome_goes_on d n (breaks s) r' g = equal_goes_on _ _ (ap outcome g.0)
outcome_goes_on d n (is_over (ended e) s) r' g = equal_goes_on _ _ (ap outcome g)
outcome_goes_on d n (is_over stuck s) r' g = equal_goes_on _ _ (ap outcome g)
outcome_goes_on d n (is_over out_of_fuel s) r' g = outcome_now out_of_fuel s r' g

pub more_is_idle : MoreFuelIsIdle
more_is_idle names body input heap stack fuel more h =
    outcome_idle more fuel _ _ (program_longer heap stack more body (outermost_entries names) fuel (begin input fuel) (omega arith)) h

pub more_goes_on : MoreFuelGoesOn
more_goes_on names body input heap stack fuel more =
    outcome_goes_on more fuel (program Direct (direct heap stack) body (outermost_entries names) fuel (begin input fuel))
    (program Direct (direct heap stack) body (outermost_entries names) (fuel + more) (begin input (fuel + more)))
    (program_longer heap stack more body (outermost_entries names) fuel (begin input fuel) (omega arith))

above : (names : List (List ℕ)) (body : Exp) (input : List ℕ) (heap stack fuel fuel' : ℕ) → fuel ≤ fuel' →
    (evaluate names body input heap stack fuel).end ≢ out_of_fuel → evaluate names body input heap stack fuel' ≡ evaluate names body input heap stack fuel
above names body input heap stack fuel fuel' le h =
    let e : fuel' ≡ fuel + (fuel' - fuel) = omega arith in
    ap (λ n. evaluate names body input heap stack n) e ∙ more_is_idle names body input heap stack fuel (fuel' - fuel) h

pub one_outcome : HasOneOutcome
one_outcome names body input heap stack fuel fuel' h h' =
    elim (cases_lt fuel fuel') [
      | inl lt ↦ sym (above names body input heap stack fuel fuel' (omega arith) h)
      | inr ge ↦ above names body input heap stack fuel' fuel (omega arith) h'
    ]
