-- What a run to a stop has come to after so many steps, and what a step more makes of it.
use Rattle.std.proofs.Common.{◌≡◌, ◌≢◌, ◌<◌, ◌≤◌, ◌+◌, ◌-◌, ◌*◌, ◌^◌, ℕ, zero, suc, List, [], ◌∷◌, ◌++◌, length, drop, get_or}
use Rattle.std.proofs.Common.{Option, Some, None, Bool, true, false, ◌⊎◌, inl, inr}
use Rattle.std.proofs.Common.{arith, refl, sym, ap, ◌∙◌, subst, length-append, append-nil}
use Rattle.std.specs.Prelude.{All, ◌&&◌, nat_le, is_some, if◌then◌else◌}
use Rattle.std.proofs.lemmas.Bool.{le-leb, and_cases, ne_eqb}
use Rattle.std.proofs.lemmas.List.Elements.{All-append}
use Rattle.std.proofs.lemmas.List.Sums.{sum_by-append}
use Rattle.tg_machine_state.specs.declared.ends.RunEnd.{RunEnd}
use Rattle.tg_machine_state.specs.declared.ends.RunEnd.TheVariants.{StepLimit}
use Rattle.tg_machine_state.specs.State.{code_base}
use Rattle.tg_machine.specs.declared.fetches.Seen.{Seen}
use Rattle.tg_machine.specs.declared.status.Status.{Status}
use Rattle.tg_machine.specs.declared.status.Status.TheVariants.{Running, Ended}
use Rattle.tg_machine.specs.Fetches.{IsWatched, seen_at, seen_of, seen_next, next_of, if_seen}
use Rattle.tg_machine.specs.Machines.{Simulated, simulated, end_of}
use Rattle.tg_machine.specs.Ran.{IsSimulation}
use Rattle.tg_machine.proofs.Chaining.{watched_calls_chain}
use Rattle.tg_machine.proofs.Fetching.{watched_step, watched_none}
use Rattle.tg_page.specs.Stops.{is_at, next_is_at, fetched_at, AreCounted, Halts, ended, RunsToStop}

-- what holds of the one element, or of none
only : (P : Seen → Type 0) (x : Seen) → P x → All P (x ∷ [])
only P x p zero d lt = p
only P x p (suc k) d lt = absurd (omega (arith, lt))

nothing : (P : Seen → Type 0) (n : ℕ) → All P (drop n [])
nothing P zero k d lt = absurd (omega (arith, lt))
nothing P (suc n) k d lt = absurd (omega (arith, lt))

-- after so many fetches, and one more that isn't at a breakpoint once they are passed over
passed_more : (P : Seen → Type 0) (passing : ℕ) (seen : List Seen) (x : Seen) → (passing ≤ length seen → P x) →
    All P (drop passing seen) → All P (drop passing (seen ++ x ∷ []))
passed_more P zero seen x p h = All-append P seen (x ∷ []) h (only P x (p (omega arith)))
passed_more P (suc n) [] x p h = nothing P n
passed_more P (suc n) (y ∷ ys) x p h =
    passed_more P n ys x (λ le. let more : suc n ≤ length (y ∷ ys) = omega (arith, le) in p more) h

pub all_passed : (breakpoints : List ℕ) (passing k : ℕ) (seen : List Seen) (o : Option Seen) → length seen ≤ k →
    (passing ≤ k → next_is_at breakpoints o ≡ false) → All (λ x. is_at breakpoints x ≡ false) (drop passing seen) →
    All (λ x. is_at breakpoints x ≡ false) (drop passing (seen ++ if_seen o))
all_passed breakpoints passing k seen (Some x) size apart h =
    passed_more (λ y. is_at breakpoints y ≡ false) passing seen x (λ le. let there : passing ≤ k = omega (arith, le, size) in apart there) h
all_passed breakpoints passing k seen None size apart h = rw (append-nil seen) h

-- a run goes on here
pub goes_on_here : (breakpoints : List ℕ) (passing k : ℕ) (o : Option Seen) → (nat_le passing k && next_is_at breakpoints o) ≡ false →
    passing ≤ k → next_is_at breakpoints o ≡ false
goes_on_here breakpoints passing k o h le = by (and_cases (nat_le passing k) (next_is_at breakpoints o) h)
  where
    by : (nat_le passing k ≡ false) ⊎ (next_is_at breakpoints o ≡ false) → next_is_at breakpoints o ≡ false
    by (inl p) = let q = le-leb passing k le in cc (p, q)
    by (inr p) = p

-- counts of fetches, and of more
pub counted_more : (s t : List Seen) (a b c : List ℕ) → AreCounted s a b → AreCounted t b c → AreCounted (s ++ t) a c
counted_more s t a b c first second = record {
  same = second.same ∙ first.same;
  counts = λ k lt.
      let place = code_base + 4 * k in
      let within : k < length b = omega (arith, lt, first.same) in
      let all : fetched_at place (s ++ t) ≡ fetched_at place s + fetched_at place t = sum_by-append _ s t in
      let one = first.counts k lt in
      let two = second.counts k within in
      omega (arith, one, two, all);
}

-- a fetch of a word
fetched_elsewhere : (x : Seen) (place : ℕ) → x.place ≢ place → fetched_at place (x ∷ []) ≡ 0
fetched_elsewhere x place apart = ap (λ (b : Bool). 0 + (if b then 1 else 0)) (ne_eqb x.place place apart)

pub counted_nowhere : (x : Seen) (a : List ℕ) → ((k : ℕ) → k < length a → get_or a k 0 < 2 ^ 32) → ((k : ℕ) → k < length a → x.place ≢ code_base + 4 * k) →
    AreCounted (x ∷ []) a a
counted_nowhere x a fits apart = record {
  same = refl;
  counts = λ k lt.
      let none = fetched_elsewhere x (code_base + 4 * k) (apart k lt) in
      let small = fits k lt in
      omega (arith, none, small);
}

pub counted_none : (a : List ℕ) → ((k : ℕ) → k < length a → get_or a k 0 < 2 ^ 32) → AreCounted [] a a
counted_none a fits = record {
  same = refl;
  counts = λ k lt. let small = fits k lt in omega (arith, small);
}

module _ {I O : Type 0}
    (left : I → Option (List ℕ)) (read_faults : I → ℕ) (taken : O → Option (List ℕ)) (write_faults : O → ℕ)
    (passing : ℕ) (breakpoints : List ℕ) where
  -- the machine has made so many steps and not ended
  pub record SoFar (k : ℕ) (old now : Simulated) (first input : I) (start out : O) (before counts : List ℕ) : Type 0 where
    pub seen : List Seen
    pub size : length seen ≤ k
    pub run : IsWatched left read_faults taken write_faults k old now first input start out StepLimit seen
    pub passed : All (λ x. is_at breakpoints x ≡ false) (drop passing seen)
    pub counted : AreCounted seen before counts

  pub begun : (old : Simulated) (input : I) (out : O) (counts : List ℕ) → old.end ≡ None → old.written ≡ 0 →
      ((k : ℕ) → k < length counts → get_or counts k 0 < 2 ^ 32) → SoFar 0 old old input input out out counts counts
  begun old input out counts e w fits = record {
    seen = [];
    size = omega arith;
    run =
        let small : 0 < 2 ^ 64 = omega arith in
        let same : simulated old.state None 0 old.input_ended ≡ old =
        λ i. record { state = old.state; end = sym e i; written = sym w i; input_ended = old.input_ended } in
        let P : Simulated → Type 0 = λ m. IsWatched left read_faults taken write_faults 0 m m input input out out StepLimit [] in
        subst P same (watched_none left read_faults taken write_faults old.state 0 old.input_ended input out small);
    passed = nothing (λ x. is_at breakpoints x ≡ false) passing;
    counted = counted_none counts fits;
  }

  -- a step more, that ends so
  record More (k : ℕ) (old new : Simulated) (first input' : I) (start out' : O) (e : RunEnd) (before counts' : List ℕ) : Type 0 where
    seen : List Seen
    size : length seen ≤ k
    run : IsWatched left read_faults taken write_faults k old new first input' start out' e seen
    passed : All (λ x. is_at breakpoints x ≡ false) (drop passing seen)
    counted : AreCounted seen before counts'

  more : (k : ℕ) (old now new : Simulated) (first input input' : I) (start out out' : O) (e : RunEnd) (before counts counts' : List ℕ) →
      SoFar k old now first input start out before counts →
      (o : Option Seen) → o ≡ seen_next now → (nat_le passing k && next_is_at breakpoints o) ≡ false → AreCounted (if_seen o) counts counts' →
      (now.end ≡ None → IsSimulation left read_faults taken write_faults 1 now new input input' out out' e) →
      More (k + 1) old new first input' start out' e before counts'
  more k old now new first input input' start out out' e before counts counts' s o fetched apart counted step =
      let going = (s.run.simulation.goes_on refl).end in
      let next : o ≡ seen_of now.state = fetched ∙ ap (λ e. next_of e now.state) going in
      let small : length (seen_at now.state) ≤ 1 = short (seen_of now.state) in
      let total : length (s.seen ++ seen_at now.state) ≡ length s.seen + length (seen_at now.state) = length-append s.seen (seen_at now.state) in
      let size : length (s.seen ++ seen_at now.state) ≤ k + 1 = omega (arith, total, s.size, small) in
      let Apart : Option Seen → Type 0 = λ o. passing ≤ k → next_is_at breakpoints o ≡ false in
      let Counted : Option Seen → Type 0 = λ o. AreCounted (if_seen o) counts counts' in
      record {
        seen = s.seen ++ seen_at now.state;
        size = size;
        run = watched_calls_chain left read_faults taken write_faults k 1 old now new first input input' start out out' e s.seen (seen_at now.state) s.run
            (watched_step left read_faults taken write_faults now new input input' out out' e (step going));
        passed = all_passed breakpoints passing k s.seen (seen_of now.state) s.size (subst Apart next (goes_on_here breakpoints passing k o apart)) s.passed;
        counted = counted_more s.seen (seen_at now.state) before counts counts' s.counted (subst Counted next counted);
      }
    where
      short : (o : Option Seen) → length (if_seen o) ≤ 1
      short (Some x) = omega arith
      short None = omega arith

  pub went_on : (k : ℕ) (old now new : Simulated) (first input input' : I) (start out out' : O) (status : Status) (before counts counts' : List ℕ) →
      SoFar k old now first input start out before counts →
      (o : Option Seen) → o ≡ seen_next now → (nat_le passing k && next_is_at breakpoints o) ≡ false → AreCounted (if_seen o) counts counts' →
      (now.end ≡ None → IsSimulation left read_faults taken write_faults 1 now new input input' out out' (end_of status)) →
      status ≡ Running → SoFar (k + 1) old new first input' start out' before counts'
  went_on k old now new first input input' start out out' status before counts counts' s o fetched apart counted step is =
      let P : Status → Type 0 = λ x. now.end ≡ None → IsSimulation left read_faults taken write_faults 1 now new input input' out out' (end_of x) in
      let m = more k old now new first input input' start out out' StepLimit before counts counts' s o fetched apart counted (subst P is step) in
      record { seen = m.seen; size = m.size; run = m.run; passed = m.passed; counted = m.counted }

  -- a step ended the run
  pub came_to_end : (steps k : ℕ) (old now new : Simulated) (first input input' : I) (start out out' : O) (status : Status) (e : RunEnd)
      (before counts counts' : List ℕ) → k < steps → SoFar k old now first input start out before counts →
      (o : Option Seen) → o ≡ seen_next now → (nat_le passing k && next_is_at breakpoints o) ≡ false → AreCounted (if_seen o) counts counts' →
      (now.end ≡ None → status ≢ Ended StepLimit) →
      (now.end ≡ None → IsSimulation left read_faults taken write_faults 1 now new input input' out out' (end_of status)) →
      status ≡ Ended e → RunsToStop left read_faults taken write_faults steps passing breakpoints old new first input' start out' before counts' (k + 1)
  came_to_end steps k old now new first input input' start out out' status e before counts counts' lt s o fetched apart counted own step is =
      let P : Status → Type 0 = λ x. now.end ≡ None → IsSimulation left read_faults taken write_faults 1 now new input input' out out' (end_of x) in
      let going = (s.run.simulation.goes_on refl).end in
      let stepped : now.end ≡ None → IsSimulation left read_faults taken write_faults 1 now new input input' out out' e = subst P is step in
      let m = more k old now new first input input' start out out' e before counts counts' s o fetched apart counted stepped in
      let other : e ≢ StepLimit = λ p. own going (is ∙ ap Ended p) in
      let kept : is_some new.end ≡ true = ap is_some ((stepped going).keeps other) in
      let within : k + 1 ≤ steps = omega (arith, lt) in
      record { end = e; seen = m.seen; run = m.run; passed = m.passed; counted = m.counted; halts = ended within kept }

  -- the machine stands at a breakpoint, or all steps are made
  pub came_to_stop : (steps k : ℕ) (old now : Simulated) (first input : I) (start out : O) (before counts : List ℕ) →
      SoFar k old now first input start out before counts → Halts steps passing breakpoints now k →
      RunsToStop left read_faults taken write_faults steps passing breakpoints old now first input start out before counts k
  came_to_stop steps k old now first input start out before counts s halts =
      record { end = StepLimit; seen = s.seen; run = s.run; passed = s.passed; counted = s.counted; halts = halts }
