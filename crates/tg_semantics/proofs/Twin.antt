-- Evaluation by results and evaluation that passes along what comes next have one outcome.
use Rattle.std.proofs.Common.{◌≡◌, ℕ, zero, suc, ◌+◌, max, List, [], ◌++◌, Option, Some, None, Bool, true, false, nat_lt, refl, sym, ap, ap₂, ◌∙◌, append_assoc}
use Rattle.std.proofs.Common.{arith}
use Rattle.std.specs.Prelude.{if◌then◌else◌}
use Rattle.std.proofs.lemmas.List.{append-nil}
use Rattle.tg_syntax.specs.Tree.{Exp}
use Rattle.tg_simulation.specs.Outcomes.{End, ended, stuck, Outcome}
use Rattle.tg_simulation.specs.Changes.{first_written, writes_first, costs, passes_limit, reaches}
use Rattle.tg_semantics.specs.Values.{Value, normal, by_heap, add_heap, Ending}
use Rattle.tg_semantics.specs.Environments.{outermost_entries}
use Rattle.tg_semantics.specs.Evaluation.{program}
use Rattle.tg_semantics.specs.Direct.{Trace, RunState, Result, gives, breaks, is_over, Direct, after, after_body, returned, fuelled, found, changed, first_past}
use Rattle.tg_semantics.specs.Direct.{past_limit, direct, begin, told_outcome, outcome, evaluate}
use Rattle.tg_semantics.specs.Passing.{Rest, Passing, over_in, ends, with_turn, with_found, passing, evaluate_passing}
use Rattle.tg_semantics.proofs.Related.{Related, program_same}

-- what comes of having done this, and then what has this outcome
abbrev earlier : Option (List ℕ) → List ℕ → Option (List ℕ) → Option (List ℕ)
earlier (Some past) output later = Some past
earlier None output later = first_written output later

abbrev since : Trace → Outcome Ending → Outcome Ending
since t o = record {
  end = o.end;
  output = t.output ++ o.output;
  input = o.input;
  heap = o.heap;
  cost = t.cost + o.cost;
  output_past_limit = earlier t.output_past_limit t.output o.output_past_limit;
  deepest = max t.deepest o.deepest;
}

-- two outcomes are the same where they differ in nothing of this
same_parts : {e : End Ending} {input output output' : List ℕ} {heap cost cost' deepest deepest' : ℕ} {past past' : Option (List ℕ)} →
    output ≡ output' → cost ≡ cost' → past ≡ past' → deepest ≡ deepest' →
    ◌≡◌ {A = Outcome Ending}
    (record { end = e; output = output; input = input; heap = heap; cost = cost; output_past_limit = past; deepest = deepest })
    (record { end = e; output = output'; input = input; heap = heap; cost = cost'; output_past_limit = past'; deepest = deepest' })
same_parts {e} {input} {output} {output'} {heap} {cost} {cost'} {deepest} {deepest'} {past} {past'} o c p d =
    ap₂ (λ x y. record { end = e; output = x; input = input; heap = heap; cost = y; output_past_limit = past; deepest = deepest }) o c ∙
    ap₂ (λ x y. record { end = e; output = output'; input = input; heap = heap; cost = cost'; output_past_limit = x; deepest = y }) p d

-- a result, and then what comes next
abbrev finished : {A : Type 0} → Result A → (A → Rest) → Rest → Outcome Ending
finished (gives a s) go out = since s.trace (go a s.world s.fuel)
finished (breaks s) go out = since s.trace (out s.world s.fuel)
finished (is_over e s) go out = since s.trace (over_in s.world e)

abbrev Same : (A : Type 0) → Direct A → Passing A → Type 0
Same A m m' = (go : A → Rest) (out : Rest) (s : RunState) → finished (m s) go out ≡ since s.trace (m' go out s.world s.fuel)

after_same : {A B : Type 0} (r : Result A) (f : A → Direct B) (f' : A → Passing B) (go : B → Rest) (out : Rest) → ((a : A) → Same B (f a) (f' a)) →
    finished (after r f) go out ≡ finished r (λ a. f' a go out) out
after_same (gives a s) f f' go out h = h a go out s
after_same (breaks s) f f' go out h = refl
after_same (is_over e s) f f' go out h = refl

loop_same : (r : Result Value) (k : Direct Value) (k' : Passing Value) (go : Value → Rest) (out : Rest) → Same Value k k' →
    finished (after_body r k) go out ≡ finished r (λ v. k' go out) (go Value.nothing)
loop_same (gives v s) k k' go out h = h go out s
loop_same (breaks s) k k' go out h = refl
loop_same (is_over e s) k k' go out h = refl

returned_same : (r : Result Value) (go : Value → Rest) (out : Rest) → finished (returned r) go out ≡ finished r go (ends stuck)
returned_same (gives v s) go out = refl
returned_same (breaks s) go out = refl
returned_same (is_over e s) go out = refl

found_same : {A : Type 0} (o : Option A) (s : RunState) (go : A → Rest) (out : Rest) → finished (found o s) go out ≡
    since s.trace (with_found o go s.world s.fuel)
found_same (Some a) s go out = refl
found_same None s go out = refl

take_same : (full : Bool) (bytes : ℕ) (s : RunState) (go : Unit {0} → Rest) (out : Rest) →
    finished (if full then is_over (ended by_heap) s else changed tt (add_heap bytes) s) go out ≡
    since s.trace ((if full then ends (ended by_heap) s.world else go tt (add_heap bytes s.world)) s.fuel)
take_same true bytes s go out = refl
take_same false bytes s go out = refl

earlier_written : (past : Option (List ℕ)) (output bytes : List ℕ) (later : Option (List ℕ)) →
    earlier past (output ++ bytes) later ≡ earlier past output (first_written bytes later)
earlier_written (Some p) output bytes later = refl
earlier_written None output bytes None = refl
earlier_written None output bytes (Some q) = ap Some (append_assoc output bytes q)

write_same : (t : Trace) (bytes : List ℕ) (o : Outcome Ending) → since (record t { output = t.output ++ bytes }) o ≡ since t (writes_first bytes o)
write_same t bytes o = same_parts (append_assoc t.output bytes o.output) refl (earlier_written t.output_past_limit t.output bytes o.output_past_limit) refl

spend_same : (t : Trace) (k : ℕ) (o : Outcome Ending) → since (record t { cost = t.cost + k }) o ≡ since t (costs k o)
spend_same t k o =
    let e : t.cost + k + o.cost ≡ t.cost + (k + o.cost) = omega arith in
    same_parts refl e refl refl

deeper_same : (t : Trace) (d : ℕ) (o : Outcome Ending) → since (record t { deepest = max t.deepest d }) o ≡ since t (reaches d o)
deeper_same t d o =
    let e : max (max t.deepest d) o.deepest ≡ max t.deepest (max d o.deepest) = omega arith in
    same_parts refl refl refl e

earlier_past : (past : Option (List ℕ)) (above : Bool) (output : List ℕ) (later : Option (List ℕ)) →
    earlier (first_past past above output) output later ≡ earlier past output (if above then Some [] else later)
earlier_past (Some p) above output later = refl
earlier_past None true output later = ap Some (sym (append-nil output))
earlier_past None false output later = refl

weigh_same : (t : Trace) (above : Bool) (o : Outcome Ending) → since (past_limit above t) o ≡ since t (passes_limit above o)
weigh_same t above o = same_parts refl refl (earlier_past t.output_past_limit above t.output o.output_past_limit) refl

turn_same : (n : ℕ) (s : RunState) (m : Direct Value) (m' : Passing Value) (go : Value → Rest) (out : Rest) → Same Value m m' →
    finished (fuelled n s m) go out ≡ since s.trace (with_turn (m' go out) s.world n)
turn_same zero s m m' go out h = refl
turn_same (suc n) s m m' go out h = h go out (record s { fuel = n })

module _ (heap stack : ℕ) where
  all_same : Related Direct Passing (direct heap stack) (passing heap stack) Same
  all_same = record {
    gives = λ A a go out s. refl;
    binds = λ A B m m' f f' g h go out s. after_same (m s) f f' go out h ∙ g (λ a. f' a go out) out s;
    breaks = λ A go out s. refl;
    overs = λ A e go out s. refl;
    loops = λ m k m' k' g h go out s. loop_same (m s) k k' go out h ∙ g (λ v. k' go out) (go Value.nothing) s;
    bodies = λ m m' g go out s. returned_same (m s) go out ∙ g go (ends stuck) s;
    looks = λ A f go out s. found_same (f s.world) s go out;
    news = λ v go out s. refl;
    sets = λ place v go out s. refl;
    makes = λ o go out s. refl;
    puts = λ place o go out s. refl;
    takes = λ bytes go out s. take_same (nat_lt heap (s.world.heap + bytes)) bytes s go out;
    reads = λ go out s. refl;
    writes = λ bytes go out s. write_same s.trace bytes _;
    spends = λ k go out s. spend_same s.trace k _;
    weighs = λ k go out s. weigh_same s.trace (nat_lt stack (s.world.weight + k)) _;
    unweighs = λ k go out s. refl;
    descends = λ go out s. deeper_same s.trace (s.world.depth + 1) _;
    ascends = λ go out s. refl;
  }

  pub program_as_passing : (body : Exp) (entries : List _) (n : ℕ) →
      Same Value (program Direct (direct heap stack) body entries n) (program Passing (passing heap stack) body entries n)
  program_as_passing body entries n =
      program_same Direct Passing (direct heap stack) (passing heap stack) Same all_same (λ m m' g go out s. turn_same s.fuel s m m' go out g) body entries n

earlier_none : (past : Option (List ℕ)) (output : List ℕ) → past ≡ earlier past output None
earlier_none (Some p) output = refl
earlier_none None output = refl

told_same : (e : End Ending) (s : RunState) → told_outcome e s ≡ since s.trace (over_in s.world e)
told_same e s =
    let c : s.trace.cost ≡ s.trace.cost + 0 = omega arith in
    let d : s.trace.deepest ≡ max s.trace.deepest 0 = omega arith in
    same_parts (sym (append-nil s.trace.output)) c (earlier_none s.trace.output_past_limit s.trace.output) d

outcome_same : (r : Result Value) → outcome r ≡ finished r (λ v. ends (ended normal)) (ends stuck)
outcome_same (gives v s) = told_same (ended normal) s
outcome_same (breaks s) = told_same stuck s
outcome_same (is_over e s) = told_same e s

first_nothing : (o : Option (List ℕ)) → first_written [] o ≡ o
first_nothing (Some p) = refl
first_nothing None = refl

since_start : (o : Outcome Ending) → since (record { output = []; cost = 0; output_past_limit = None; deepest = 0 }) o ≡ o
since_start o =
    let c : 0 + o.cost ≡ o.cost = omega arith in
    let d : max 0 o.deepest ≡ o.deepest = omega arith in
    same_parts {e = o.end} {input = o.input} {output = o.output} {heap = o.heap} refl c (first_nothing o.output_past_limit) d

pub twins : (names : List (List ℕ)) (body : Exp) (input : List ℕ) (heap stack fuel : ℕ) →
    evaluate names body input heap stack fuel ≡ evaluate_passing names body input heap stack fuel
twins names body input heap stack fuel =
    outcome_same (program Direct (direct heap stack) body (outermost_entries names) fuel (begin input fuel)) ∙
    program_as_passing heap stack body (outermost_entries names) fuel (λ v. ends (ended normal)) (ends stuck) (begin input fuel) ∙
    since_start _
