-- Nothing that was done is taken back.
use Rattle.std.proofs.Common.{◌≡◌, ◌≤◌, ℕ, zero, suc, ◌+◌, max, List, [], ◌++◌, Option, Some, None, Bool, true, false, nat_lt, refl, sym, ap, ◌∙◌, append_assoc}
use Rattle.std.proofs.Common.{arith, le_trans, take, drop}
use Rattle.std.specs.Prelude.{if◌then◌else◌}
use Rattle.std.proofs.lemmas.List.{append-nil, take-append-drop}
use Rattle.tg_simulation.specs.Outcomes.{End, ended, stuck, Outcome}
use Rattle.tg_semantics.specs.Values.{Value, normal, by_heap, add_heap, add_weight, go_deeper, Ending}
use Rattle.tg_semantics.specs.Evaluation.{eval, meaning, Job}
use Rattle.tg_semantics.specs.Direct.{RunState, Result, gives, breaks, is_over, Direct, after, after_body, returned, fuelled, found, changed}
use Rattle.tg_semantics.specs.Direct.{first_past, past_limit}
use Rattle.tg_semantics.specs.Direct.{direct, told_outcome, outcome}
use Rattle.tg_semantics.specs.laws.Laws.{OutcomeGoesOn, so_far, NothingIsTakenBack}
use Rattle.tg_semantics.proofs.Related.{Related, eval_same, meaning_same}

pub goes_on : (o : Outcome Ending) → OutcomeGoesOn o o
goes_on o = record {
  output = ([], sym (append-nil o.output));
  input = ([], refl);
  heap = omega arith;
  cost = omega arith;
  past_limit = λ past e. e;
  deepest = omega arith;
}

pub goes_on_on : (a b c : Outcome Ending) → OutcomeGoesOn a b → OutcomeGoesOn b c → OutcomeGoesOn a c
goes_on_on a b c g h = record {
  output = (g.output.0 ++ h.output.0, h.output.1 ∙ ap (λ x. x ++ h.output.0) g.output.1 ∙ append_assoc a.output g.output.0 h.output.0);
  input = (g.input.0 ++ h.input.0, g.input.1 ∙ ap (λ x. g.input.0 ++ x) h.input.1 ∙ sym (append_assoc g.input.0 h.input.0 c.input));
  heap = le_trans g.heap h.heap;
  cost = le_trans g.cost h.cost;
  past_limit = λ past e. h.past_limit past (g.past_limit past e);
  deepest = le_trans g.deepest h.deepest;
}

-- the end doesn't matter
pub whatever_end : (e e' : End Ending) (s s' : RunState) → OutcomeGoesOn (so_far s) (so_far s') → OutcomeGoesOn (told_outcome e s) (told_outcome e' s')
whatever_end e e' s s' g = record {
  output = g.output;
  input = g.input;
  heap = g.heap;
  cost = g.cost;
  past_limit = g.past_limit;
  deepest = g.deepest;
}

abbrev pub state_of : {A : Type 0} → Result A → RunState
state_of (gives a s) = s
state_of (breaks s) = s
state_of (is_over e s) = s

abbrev pub now : {A : Type 0} → Result A → Outcome Ending
now r = so_far (state_of r)

abbrev pub Keeps : (A : Type 0) → Direct A → Type 0
Keeps A m = (s : RunState) → OutcomeGoesOn (so_far s) (now (m s))

abbrev pub Keep : (A : Type 0) → Direct A → Direct A → Type 0
Keep A m m' = Keeps A m

pub after_keeps : {A B : Type 0} (o : Outcome Ending) (r : Result A) (f : A → Direct B) → OutcomeGoesOn o (now r) → ((a : A) → Keeps B (f a)) →
    OutcomeGoesOn o (now (after r f))
after_keeps o (gives a s) f g h = goes_on_on o (so_far s) (now (f a s)) g (h a s)
after_keeps o (breaks s) f g h = g
after_keeps o (is_over e s) f g h = g

pub loop_keeps : (o : Outcome Ending) (r : Result Value) (k : Direct Value) → OutcomeGoesOn o (now r) → Keeps Value k → OutcomeGoesOn o (now (after_body r k))
loop_keeps o (gives v s) k g h = goes_on_on o (so_far s) (now (k s)) g (h s)
loop_keeps o (breaks s) k g h = g
loop_keeps o (is_over e s) k g h = g

pub returned_keeps : (o : Outcome Ending) (r : Result Value) → OutcomeGoesOn o (now r) → OutcomeGoesOn o (now (returned r))
returned_keeps o (gives v s) g = g
returned_keeps o (breaks s) g = g
returned_keeps o (is_over e s) g = g

found_keeps : {A : Type 0} (o : Option A) (s : RunState) → OutcomeGoesOn (so_far s) (now (found o s))
found_keeps (Some a) s = goes_on (so_far s)
found_keeps None s = goes_on (so_far s)

pub fuelled_keeps : (n : ℕ) (s : RunState) (m : Direct Value) → Keeps Value m → OutcomeGoesOn (so_far s) (now (fuelled n s m))
fuelled_keeps zero s m g = goes_on (so_far s)
fuelled_keeps (suc n) s m g = g (record s { fuel = n })

-- where nothing is read and written, the counts may have grown
grown : (o o' : Outcome Ending) → o'.output ≡ o.output → o'.input ≡ o.input → o.heap ≤ o'.heap → o.cost ≤ o'.cost →
    ((past : List ℕ) → o.output_past_limit ≡ Some past → o'.output_past_limit ≡ Some past) → o.deepest ≤ o'.deepest → OutcomeGoesOn o o'
grown o o' w i h c p d = record { output = ([], w ∙ sym (append-nil o.output)); input = ([], sym i); heap = h; cost = c; past_limit = p; deepest = d }

take_keeps : (full : Bool) (bytes : ℕ) (s : RunState) →
    OutcomeGoesOn (so_far s) (now {A = Unit {0}} (if full then is_over (ended by_heap) s else changed tt (add_heap bytes) s))
take_keeps true bytes s = goes_on (so_far s)
take_keeps false bytes s =
    grown (so_far s) (so_far (record s { world = add_heap bytes s.world })) refl refl (omega arith) (omega arith) (λ past e. e) (omega arith)

read_keeps : (s : RunState) → OutcomeGoesOn (so_far s) (so_far (record s { world = record s.world { input = drop 1 s.world.input } }))
read_keeps s = record {
  output = ([], sym (append-nil s.trace.output));
  input = (take 1 s.world.input, sym (take-append-drop 1 s.world.input));
  heap = omega arith;
  cost = omega arith;
  past_limit = λ past e. e;
  deepest = omega arith;
}

write_keeps : (bytes : List ℕ) (s : RunState) → OutcomeGoesOn (so_far s) (so_far (record s { trace = record s.trace { output = s.trace.output ++ bytes } }))
write_keeps bytes s = record {
  output = (bytes, refl);
  input = ([], refl);
  heap = omega arith;
  cost = omega arith;
  past_limit = λ past e. e;
  deepest = omega arith;
}

spend_keeps : (k : ℕ) (s : RunState) → OutcomeGoesOn (so_far s) (so_far (record s { trace = record s.trace { cost = s.trace.cost + k } }))
spend_keeps k s =
    grown (so_far s) (so_far (record s { trace = record s.trace { cost = s.trace.cost + k } })) refl refl
    (omega arith) (omega arith) (λ past e. e) (omega arith)

first_stays : (p : Option (List ℕ)) (above : Bool) (output past : List ℕ) → p ≡ Some past → first_past p above output ≡ Some past
first_stays (Some q) above output past e = e
first_stays None above output past e = cc

weigh_keeps : (k : ℕ) (above : Bool) (s : RunState) → OutcomeGoesOn (so_far s) (so_far (record s { world = add_weight k s.world; trace = past_limit above s.trace }))
weigh_keeps k above s =
    grown (so_far s) (so_far (record s { world = add_weight k s.world; trace = past_limit above s.trace })) refl refl (omega arith) (omega arith)
    (λ past e. first_stays s.trace.output_past_limit above s.trace.output past e) (omega arith)

descend_keeps : (s : RunState) →
    OutcomeGoesOn (so_far s) (so_far (record s { world = go_deeper s.world; trace = record s.trace { deepest = max s.trace.deepest (s.world.depth + 1) } }))
descend_keeps s =
    grown (so_far s) (so_far (record s { world = go_deeper s.world; trace = record s.trace { deepest = max s.trace.deepest (s.world.depth + 1) } })) refl refl
    (omega arith) (omega arith) (λ past e. e) (omega arith)

module _ (heap stack : ℕ) where
  pub all_keep : Related Direct Direct (direct heap stack) (direct heap stack) Keep
  all_keep = record {
    gives = λ A a s. goes_on (so_far s);
    binds = λ A B m m' f f' g h s. after_keeps (so_far s) (m s) f (g s) h;
    breaks = λ A s. goes_on (so_far s);
    overs = λ A e s. goes_on (so_far s);
    loops = λ m k m' k' g h s. loop_keeps (so_far s) (m s) k (g s) h;
    bodies = λ m m' g s. returned_keeps (so_far s) (m s) (g s);
    looks = λ A f s. found_keeps (f s.world) s;
    news = λ v s. goes_on (so_far s);
    sets = λ place v s. goes_on (so_far s);
    makes = λ o s. goes_on (so_far s);
    puts = λ place o s. goes_on (so_far s);
    takes = λ bytes s. take_keeps (nat_lt heap (s.world.heap + bytes)) bytes s;
    reads = λ s. read_keeps s;
    writes = λ bytes s. write_keeps bytes s;
    spends = λ k s. spend_keeps k s;
    weighs = λ k s. weigh_keeps k (nat_lt stack (s.world.weight + k)) s;
    unweighs = λ k s. goes_on (so_far s);
    descends = λ s. descend_keeps s;
    ascends = λ s. goes_on (so_far s);
  }

  pub meaning_keeps : (n : ℕ) (job : Job) → Keeps Value (meaning Direct (direct heap stack) n job)
  meaning_keeps n job =
      meaning_same Direct Direct (direct heap stack) (direct heap stack) Keep all_keep (λ m m' g s. fuelled_keeps s.fuel s m g) n job

told_keeps : (o : Outcome Ending) (e : End Ending) (s : RunState) → OutcomeGoesOn o (so_far s) → OutcomeGoesOn o (told_outcome e s)
told_keeps o e s g = record { output = g.output; input = g.input; heap = g.heap; cost = g.cost; past_limit = g.past_limit; deepest = g.deepest }

outcome_keeps : (o : Outcome Ending) (r : Result Value) → OutcomeGoesOn o (now r) → OutcomeGoesOn o (outcome r)
outcome_keeps o (gives v s) g = told_keeps o (ended normal) s g
outcome_keeps o (breaks s) g = told_keeps o stuck s g
outcome_keeps o (is_over e s) g = told_keeps o e s g

pub nothing_taken_back : NothingIsTakenBack
nothing_taken_back heap stack bound e env s =
    outcome_keeps (so_far s) (eval Direct (direct heap stack) (λ job. meaning Direct (direct heap stack) bound job) e env s)
    (eval_same Direct Direct (direct heap stack) (direct heap stack) Keep (all_keep heap stack) (λ job. meaning Direct (direct heap stack) bound job)
    (λ job. meaning Direct (direct heap stack) bound job)
    (λ job s. fuelled_keeps s.fuel s (meaning Direct (direct heap stack) bound job) (meaning_keeps heap stack bound job)) e env s)
