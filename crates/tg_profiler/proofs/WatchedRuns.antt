-- What a watched run has come to after so many steps, and what it leaves at each way out.
use Rattle.std.proofs.Common.{◌≡◌, ◌≢◌, ◌<◌, ◌≤◌, ◌+◌, ◌-◌, ◌*◌, ◌%◌, ◌^◌, ℕ, List, [], ◌++◌, length, Option, Some, None, Bool, true, false}
use Rattle.std.proofs.Common.{arith, refl, sym, ap, ◌∙◌, subst, length-append, append-nil}
use Rattle.std.specs.Prelude.{All, IfSome, if◌then◌else◌, ◌&&◌, ◌==◌, nat_le, nat_lt}
use Rattle.std.proofs.lemmas.Bool.{eqb-true, leb-true, ltb-true}
use Rattle.tg_machine_state.specs.declared.ends.RunEnd.{RunEnd}
use Rattle.tg_machine_state.specs.declared.ends.RunEnd.TheVariants.{StepLimit}
use Rattle.tg_machine_state.specs.State.{MachineState, code_base}
use Rattle.tg_machine.specs.declared.fetches.Seen.{Seen}
use Rattle.tg_machine.specs.declared.status.Status.{Status}
use Rattle.tg_machine.specs.declared.status.Status.TheVariants.{Running, Ended}
use Rattle.tg_machine.specs.Fetches.{IsWatched, seen_at, seen_of, seen_there, seen_next, next_of, if_seen}
use Rattle.tg_machine.specs.Machines.{Simulated, HasEnded, end_of}
use Rattle.tg_machine.specs.Ran.{IsSimulation}
use Rattle.tg_machine.proofs.Chaining.{watched_calls_chain}
use Rattle.tg_machine.proofs.CodeStays.{code_stays}
use Rattle.tg_machine.proofs.Fetching.{watched_step}
use Rattle.tg_machine.proofs.Lasting.{watched_longer}
use Rattle.tg_profiler.specs.Watching.{Report}
use Rattle.tg_profiler.specs.Watchers.{IsInCode, CanAllSee, HaveAllSeen, HaveSeen}

-- a fetch that is seen is of the code
there_place : (s : MachineState) (o : Option ℕ) (x : Seen) → seen_there s o ≡ Some x → x.place ≡ s.place
there_place s (Some i) x h = cc h
there_place s None x h = cc h

seen_inside : (s : MachineState) (x : Seen) → seen_of s ≡ Some x → IsInCode (length s.code) x.place
seen_inside s x h = by (s.place % 4 == 0) (nat_le code_base s.place) (nat_lt s.place (code_base + 4 * length s.code)) refl refl refl h
  where
    by : (a b c : Bool) → (s.place % 4 == 0) ≡ a → nat_le code_base s.place ≡ b → nat_lt s.place (code_base + 4 * length s.code) ≡ c →
        (if a then seen_there s (if b && c then Some (s.place - code_base) else None) else None) ≡ Some x → IsInCode (length s.code) x.place
    by true true true p q r e =
        let is : x.place ≡ s.place = there_place s (Some (s.place - code_base)) x e in
        let above : code_base ≤ s.place = leb-true code_base s.place q in
        let below : s.place < code_base + 4 * length s.code = ltb-true s.place (code_base + 4 * length s.code) r in
        let whole : s.place % 4 ≡ 0 = eqb-true (s.place % 4) 0 p in
        rw is (record { above = above; below = below; whole = whole })
    by true true false p q r e = cc e
    by true false c p q r e = cc e
    by false b c p q r e = cc e

-- all steps so far were made, and the watchers stand for what they fetched
module _ {W I O : Type 0} (stands : W → List Seen → ℕ → Type 0) (report : W → Report)
    (left : I → Option (List ℕ)) (read_faults : I → ℕ) (taken : O → Option (List ℕ)) (write_faults : O → ℕ) where
  pub record Watched (k n : ℕ) (old now : Simulated) (first input : I) (start out : O) (e : RunEnd) (before after : List W) : Type 0 where
    pub list : List Seen
    pub begun : old.end ≡ None
    pub size : length list ≤ n
    pub watched : IsWatched left read_faults taken write_faults k old now first input start out e list
    pub seen : HaveSeen stands report before after list (length old.state.code)

  pub data SoFar (k : ℕ) (old now : Simulated) (first input : I) (start out : O) (before after : List W) : Type 0 where
    none : k ≡ 0 → now ≡ old → input ≡ first → out ≡ start → after ≡ before → SoFar k old now first input start out before after
    some : 0 < k → Watched k k old now first input start out StepLimit before after → SoFar k old now first input start out before after

  -- at the begin every watcher stands for nothing
  abbrev pub Empty : Simulated → List W → Type 0
  Empty old before = All (λ w. stands w [] (length old.state.code)) before

  -- what a call of `step` gives
  pub record Stepped (now new : Simulated) (input input' : I) (out out' : O) (status : Status) : Type 0 where
    pub apart : now.end ≡ None → status ≢ Ended StepLimit
    pub step : now.end ≡ None → IsSimulation left read_faults taken write_faults 1 now new input input' out out' (end_of status)
    pub again : IfSome now.end (λ e. (status ≡ Ended e) × HasEnded now new input input' out out')

  code_same : (k n : ℕ) (old now : Simulated) (first input : I) (start out : O) (before after : List W) →
      Watched k n old now first input start out StepLimit before after → now.state.code ≡ old.state.code
  code_same k n old now first input start out before after r =
      code_stays left read_faults taken write_faults k old now first input start out r.watched.simulation

  -- the watchers may see the next fetch
  pub may_all_see : (k : ℕ) (old now : Simulated) (first input : I) (start out : O) (before after : List W) → k < 2 ^ 62 →
      Empty old before → SoFar k old now first input start out before after → IfSome (seen_next now) (CanAllSee stands after)
  may_all_see k old now first input start out before after few empty s = by now.end refl
    where
      inside : (x : Seen) → now.end ≡ None → seen_of now.state ≡ Some x → SoFar k old now first input start out before after → CanAllSee stands after x
      inside x e h (none p q r t u) = record {
        seen = [];
        code = length now.state.code;
        stood = rw (q, u) empty;
        short = omega arith;
        inside = seen_inside now.state x h;
      }
      inside x e h (some p r) =
          let same = ap length (code_same k k old now first input start out before after r) in
          let short : length r.list < 2 ^ 63 = omega (arith, r.size, few) in
          record {
            seen = r.list;
            code = length old.state.code;
            stood = r.seen.stand;
            short = short;
            inside = subst (λ c. IsInCode c x.place) same (seen_inside now.state x h);
          }

      under : (o : Option Seen) → now.end ≡ None → seen_of now.state ≡ o → IfSome o (CanAllSee stands after)
      under (Some x) e h = inside x e h s
      under None e h = tt

      by : (o : Option RunEnd) → now.end ≡ o → IfSome (next_of o now.state) (CanAllSee stands after)
      by (Some e) h = tt
      by None h = under (seen_of now.state) h refl

  -- one fetch more
  joined : (list : List Seen) (old : Simulated) (before after after' : List W) (o : Option Seen) (code : ℕ) → length list < 2 ^ 63 →
      ((x : Seen) → o ≡ Some x → IsInCode code x.place) → HaveSeen stands report before after list code →
      HaveAllSeen stands report after after' o → HaveSeen stands report before after' (list ++ if_seen o) code
  joined list old before after after' (Some x) code short inside h a = record {
    same = a.same ∙ h.same;
    stand = a.stand list code h.stand short (inside x refl);
  }
  joined list old before after after' None code short inside h a = rw (a, append-nil list) h

  -- from its start
  started : (old : Simulated) (before : List W) → Empty old before → HaveSeen stands report before before [] (length old.state.code)
  started old before empty = record { same = refl; stand = empty }

  -- a step more, where the machine hasn't ended
  pub watched_more : (k : ℕ) (old now new : Simulated) (first input input' : I) (start out out' : O) (e : RunEnd) (before after after' : List W) → k < 2 ^ 62 →
      Empty old before → SoFar k old now first input start out before after → now.end ≡ None →
      IsSimulation left read_faults taken write_faults 1 now new input input' out out' e →
      HaveAllSeen stands report after after' (seen_next now) → Watched (k + 1) (k + 1) old new first input' start out' e before after'
  watched_more k old now new first input input' start out out' e before after after' few empty s going step shown = by s
    where
      small : (o : Option Seen) → length (if_seen o) ≤ 1
      small (Some x) = omega arith
      small None = omega arith

      next : seen_next now ≡ seen_of now.state
      next = ap (λ o. next_of o now.state) going

      shown' : HaveAllSeen stands report after after' (seen_of now.state)
      shown' = subst (HaveAllSeen stands report after after') next shown

      one : IsWatched left read_faults taken write_faults 1 now new input input' out out' e (seen_at now.state)
      one = watched_step left read_faults taken write_faults now new input input' out out' e step

      by : SoFar k old now first input start out before after → Watched (k + 1) (k + 1) old new first input' start out' e before after'
      by (none p q r t u) =
          let nothing : 0 < 2 ^ 63 = omega arith in
          let all : Empty now after = rw (q, u) empty in
          rw (p, sym q, sym r, sym t, sym u) (record {
            list = seen_at now.state;
            begun = going;
            size = small (seen_of now.state);
            watched = one;
            seen = joined [] now after after after' (seen_of now.state) (length now.state.code) nothing (seen_inside now.state)
                (started now after all) shown';
          })
      by (some p r) =
          let short : length r.list < 2 ^ 63 = omega (arith, r.size, few) in
          let same = ap length (code_same k k old now first input start out before after r) in
          let total : length (r.list ++ seen_at now.state) ≡ length r.list + length (seen_at now.state) = length-append r.list (seen_at now.state) in
          let size : length (r.list ++ seen_at now.state) ≤ k + 1 = omega (arith, total, r.size, small (seen_of now.state)) in
          record {
            list = r.list ++ seen_at now.state;
            begun = r.begun;
            size = size;
            watched = watched_calls_chain left read_faults taken write_faults k 1 old now new first input input' start out out' e r.list
                (seen_at now.state) r.watched one;
            seen = joined r.list old before after after' (seen_of now.state) (length old.state.code) short
                (λ x h. subst (λ c. IsInCode c x.place) same (seen_inside now.state x h)) r.seen shown';
          }

  going : (k : ℕ) (old now : Simulated) (first input : I) (start out : O) (before after : List W) →
      SoFar k old now first input start out before after → old.end ≡ None → now.end ≡ None
  going k old now first input start out before after (none p q r t u) h = ap (λ (m : Simulated). m.end) q ∙ h
  going k old now first input start out before after (some p r) h = (r.watched.simulation.goes_on refl).end

  -- what a whole call promises
  abbrev pub Runs : (n : ℕ) (old new : Simulated) (first input' : I) (start out' : O) (e : RunEnd) (before after' : List W) → Type 0
  Runs n old new first input' start out' e before after' =
      (list : List Seen) × IsWatched left read_faults taken write_faults n old new first input' start out' e list
      × HaveSeen stands report before after' list (length old.state.code)

  -- a step ended the run
  pub out_run : (k n : ℕ) (old now new : Simulated) (first input input' : I) (start out out' : O) (status : Status) (e : RunEnd) (before after after' : List W) →
      k < n → n ≤ 2 ^ 62 → Empty old before → SoFar k old now first input start out before after → Stepped now new input input' out out' status →
      status ≡ Ended e → HaveAllSeen stands report after after' (seen_next now) → old.end ≡ None →
      Runs n old new first input' start out' e before after'
  out_run k n old now new first input input' start out out' status e before after after' lt few empty s step is shown h =
      let on = going k old now first input start out before after s h in
      let small : k < 2 ^ 62 = omega (arith, lt, few) in
      let le : k + 1 ≤ n = omega (arith, lt) in
      let apart : e ≢ StepLimit = λ p. step.apart on (is ∙ ap Ended p) in
      let made = subst (λ x. IsSimulation left read_faults taken write_faults 1 now new input input' out out' (end_of x)) is (step.step on) in
      let w = watched_more k old now new first input input' start out out' e before after after' small empty s on made shown in
      (w.list, watched_longer left read_faults taken write_faults (k + 1) n old new first input' start out' e w.list apart le w.watched, w.seen)

  -- a step was made, and the run goes on
  pub went_on : (k : ℕ) (old now new : Simulated) (first input input' : I) (start out out' : O) (status : Status) (before after after' : List W) →
      k < 2 ^ 62 → Empty old before → SoFar k old now first input start out before after → Stepped now new input input' out out' status →
      status ≡ Running → HaveAllSeen stands report after after' (seen_next now) → SoFar (k + 1) old new first input' start out' before after'
  went_on k old now new first input input' start out out' status before after after' few empty s step is shown = by old.end refl
    where
      by : (o : Option RunEnd) → old.end ≡ o → SoFar (k + 1) old new first input' start out' before after'
      by None h =
          let on = going k old now first input start out before after s h in
          let made = subst (λ x. IsSimulation left read_faults taken write_faults 1 now new input input' out out' (end_of x)) is (step.step on) in
          let more : 0 < k + 1 = omega arith in
          some more (watched_more k old now new first input input' start out out' StepLimit before after after' few empty s on made shown)
      by (Some f) h = over s
        where
          over : SoFar k old now first input start out before after → SoFar (k + 1) old new first input' start out' before after'
          over (some p r) = let b = r.begun in cc (h, b)
          over (none p q r t u) =
              let ended : now.end ≡ Some f = ap (λ (m : Simulated). m.end) q ∙ h in
              let a = subst (λ o. IfSome o (λ e. (status ≡ Ended e) × HasEnded now new input input' out out')) ended step.again in
              let b = a.0 in
              cc (is, b)

  -- all steps were made
  pub all_run : (n : ℕ) (old new : Simulated) (first input' : I) (start out' : O) (before after : List W) → 0 < n →
      SoFar n old new first input' start out' before after → old.end ≡ None → Runs n old new first input' start out' StepLimit before after
  all_run n old new first input' start out' before after lt (none p q r t u) h = absurd (omega (arith, lt, p))
  all_run n old new first input' start out' before after lt (some p r) h = (r.list, r.watched, r.seen)
