-- What stands after a unit of fuel, without a bound, and its equation.
use Rattle.std.proofs.Common.{◌≡◌, ℕ, zero, suc, ◌+◌, ◌≤◌, Option, Some, None, Bool, true, false, nat_lt, refl, ap, arith, le_trans}
use Rattle.std.specs.Prelude.{if◌then◌else◌}
use Rattle.tg_simulation.specs.Outcomes.{ended, stuck}
use Rattle.tg_simulation.specs.Changes.{writes_first, costs, passes_limit, reaches}
use Rattle.tg_semantics.specs.Values.{Value, normal, by_heap, SourceWorld, initial_world, add_heap}
use Rattle.tg_semantics.specs.Environments.{outermost_entries}
use Rattle.tg_semantics.specs.Evaluation.{meaning, Job}
use Rattle.tg_semantics.specs.Passing.{Rest, Passing, ends, with_turn, with_found, passing}
use Rattle.tg_semantics.specs.laws.Laws.{behind, FuelUnfolds, ProgramUnfolds}
use Rattle.tg_semantics.proofs.Related.{Related, run_same, run_program_same}

-- two runs that agree with at most k units of fuel
abbrev pub Rests : ℕ → Rest → Rest → Type 0
Rests k r r' = (w : SourceWorld) (n : ℕ) → n ≤ k → r w n ≡ r' w n

abbrev pub Agree : ℕ → (A : Type 0) → Passing A → Passing A → Type 0
Agree k A m m' =
    (go go' : A → Rest) (out out' : Rest) → ((a : A) → Rests k (go a) (go' a)) → Rests k out out' → Rests k (m go out) (m' go' out')

found_agree : {A : Type 0} (k : ℕ) (o : Option A) (go go' : A → Rest) → ((a : A) → Rests k (go a) (go' a)) → Rests k (with_found o go) (with_found o go')
found_agree k (Some a) go go' h = h a
found_agree k None go go' h = λ w n le. refl

take_agree : (k : ℕ) (full : Bool) (w w' : SourceWorld) (go go' : Rest) (n : ℕ) → n ≤ k → Rests k go go' →
    (if full then ends (ended by_heap) w else go w') n ≡ (if full then ends (ended by_heap) w else go' w') n
take_agree k true w w' go go' n le h = refl
take_agree k false w w' go go' n le h = h w' n le

module _ (heap stack k : ℕ) where
  pub all_agree : Related Passing Passing (passing heap stack) (passing heap stack) (Agree k)
  all_agree = record {
    gives = λ A a go go' out out' h j. h a;
    binds = λ A B m m' f f' g h go go' out out' hg ho. g (λ a. f a go out) (λ a. f' a go' out') out out' (λ a. h a go go' out out' hg ho) ho;
    breaks = λ A go go' out out' hg ho. ho;
    overs = λ A e go go' out out' hg ho w n le. refl;
    loops = λ m f m' f' g h go go' out out' hg ho. g (λ v. f go out) (λ v. f' go' out') (go Value.nothing) (go' Value.nothing) (λ v. h go go' out out' hg ho)
        (hg Value.nothing);
    bodies = λ m m' g go go' out out' hg ho. g go go' (ends stuck) (ends stuck) hg (λ w n le. refl);
    looks = λ A f go go' out out' hg ho w n le. found_agree k (f w) go go' hg w n le;
    news = λ v go go' out out' hg ho w n le. hg _ _ n le;
    sets = λ place v go go' out out' hg ho w n le. hg _ _ n le;
    makes = λ o go go' out out' hg ho w n le. hg _ _ n le;
    puts = λ place o go go' out out' hg ho w n le. hg _ _ n le;
    takes = λ bytes go go' out out' hg ho w n le. take_agree k (nat_lt heap (w.heap + bytes)) w (add_heap bytes w) (go tt) (go' tt) n le (hg tt);
    reads = λ go go' out out' hg ho w n le. hg _ _ n le;
    writes = λ bytes go go' out out' hg ho w n le. ap (writes_first bytes) (hg tt w n le);
    spends = λ c go go' out out' hg ho w n le. ap (costs c) (hg tt w n le);
    weighs = λ c go go' out out' hg ho w n le. ap (passes_limit (nat_lt stack (w.weight + c))) (hg tt _ n le);
    unweighs = λ c go go' out out' hg ho w n le. hg _ _ n le;
    descends = λ go go' out out' hg ho w n le. ap (reaches (w.depth + 1)) (hg tt _ n le);
    ascends = λ go go' out out' hg ho w n le. hg _ _ n le;
  }

turn_zero : (r r' : Rest) → Rests zero (with_turn r) (with_turn r')
turn_zero r r' w zero le = refl
turn_zero r r' w (suc n) le = absurd (omega arith)

turn_agree : (k : ℕ) (r r' : Rest) → Rests k r r' → Rests (suc k) (with_turn r) (with_turn r')
turn_agree k r r' h w zero le = refl
turn_agree k r r' h w (suc n) le = h w n (omega arith)

fewer : (k : ℕ) (r r' : Rest) → Rests (suc k) r r' → Rests k r r'
fewer k r r' h w n le = h w n (omega arith)

module _ (heap stack : ℕ) where
  abbrev at : ℕ → Job → Passing Value
  at n = λ job. meaning Passing (passing heap stack) n job

  -- bounds that are at least the fuel don't matter
  bounds_agree : (k n m : ℕ) → k ≤ n → k ≤ m → (job : Job) → Agree k Value ((passing heap stack).turn (at n job)) ((passing heap stack).turn (at m job))
  bounds_agree zero n m p q job go go' out out' hg ho = turn_zero (at n job go out) (at m job go' out')
  bounds_agree (suc k) zero m p q job go go' out out' hg ho = absurd (omega arith)
  bounds_agree (suc k) (suc n) zero p q job go go' out out' hg ho = absurd (omega arith)
  bounds_agree (suc k) (suc n) (suc m) p q job go go' out out' hg ho =
      turn_agree k (at (suc n) job go out) (at (suc m) job go' out')
      (run_same Passing Passing (passing heap stack) (passing heap stack) (Agree k) (all_agree heap stack k) (at n) (at m)
      (bounds_agree k n m (omega arith) (omega arith)) job go go' out out' (λ a. fewer k (go a) (go' a) (hg a)) (fewer k out out' ho))

  same : (k : ℕ) (go : Value → Rest) (a : Value) → Rests k (go a) (go a)
  same k go a w n le = refl

  -- a bound above the fuel gives what stands after it
  bound_is_behind : (n : ℕ) (job : Job) (go go' : Value → Rest) (out out' : Rest) (k : ℕ) → suc k ≤ n → ((a : Value) → Rests k (go a) (go' a)) →
      Rests k out out' → Rests k (at n job go out) (behind heap stack job go' out')
  bound_is_behind zero job go go' out out' k p hg ho w j le = absurd (omega arith)
  bound_is_behind (suc n) job go go' out out' k p hg ho w j le =
      run_same Passing Passing (passing heap stack) (passing heap stack) (Agree j) (all_agree heap stack j) (at n) (at j)
      (bounds_agree j n j (omega arith) (omega arith)) job go go' out out' (λ a v i l. hg a v i (le_trans l le)) (λ v i l. ho v i (le_trans l le)) w j
      (omega arith)

  turn_behind : (k n : ℕ) (job : Job) → k ≤ n → Agree k Value ((passing heap stack).turn (at n job)) ((passing heap stack).turn (behind heap stack job))
  turn_behind k n job p go go' out out' hg ho w zero le = refl
  turn_behind k n job p go go' out out' hg ho w (suc j) le =
      bound_is_behind n job go go' out out' j (le_trans le p) (λ a v i l. hg a v i (omega arith)) (λ v i l. ho v i (omega arith)) w j (omega arith)

pub fuel_unfolds : FuelUnfolds
fuel_unfolds heap stack job go out w n =
    run_same Passing Passing (passing heap stack) (passing heap stack) (Agree n) (all_agree heap stack n) (at heap stack n) (behind heap stack)
    (λ j. turn_behind heap stack n n j (omega arith)) job go go out out (λ a v i l. refl) (λ v i l. refl) w n (omega arith)

pub program_unfolds : ProgramUnfolds
program_unfolds names body input heap stack fuel =
    run_program_same Passing Passing (passing heap stack) (passing heap stack) (Agree fuel) (all_agree heap stack fuel) (at heap stack fuel) (behind heap stack)
    (λ j. turn_behind heap stack fuel fuel j (omega arith)) body (outermost_entries names) (λ v. ends (ended normal)) (λ v. ends (ended normal)) (ends stuck)
    (ends stuck) (λ a v i l. refl) (λ v i l. refl) (initial_world input) fuel (omega arith)
