-- Evaluation by results, which is how the language is explained: an action takes a state, and gives
-- a value in a new state, or breaks, or is over.
use Rattle.std.specs.Prelude.{ℕ, zero, suc, ◌+◌, max, List, [], ◌++◌, length, take, Option, Some}
use Rattle.std.specs.Prelude.{None, Bool, nat_lt, if◌then◌else◌}
use Rattle.tg_syntax.specs.Tree.{Exp}
use Rattle.tg_simulation.specs.Outcomes.{End, ended, out_of_fuel, stuck, Outcome}
use Rattle.tg_semantics.specs.Values.{Value, normal, by_heap, SourceWorld, initial_world}
use Rattle.tg_semantics.specs.Values.{add_variable, put_variable, add_object, put_object, add_heap}
use Rattle.tg_semantics.specs.Values.{drop_byte, add_weight, drop_weight, go_deeper, go_back}
use Rattle.tg_semantics.specs.Values.{Ending}
use Rattle.tg_semantics.specs.Actions.{Actions}
use Rattle.tg_semantics.specs.Environments.{outermost_entries}
use Rattle.tg_semantics.specs.Evaluation.{program}

-- what a run has done so far
pub record Trace : Type 0 where
  pub output : List ℕ
  pub cost : ℕ
  pub output_past_limit : Option (List ℕ)
  pub deepest : ℕ

-- the fuel that is left, what the run has, and what it has done
pub record RunState : Type 0 where
  pub fuel : ℕ
  pub world : SourceWorld
  pub trace : Trace

-- what an action comes to
pub data Result (A : Type 0) : Type 0 where
  gives : A → RunState → Result A
  breaks : RunState → Result A
  is_over : End Ending → RunState → Result A

abbrev pub Direct : Type 0 → Type 0
Direct A = RunState → Result A

-- one action, and then the next with what it gave
abbrev pub after : {A B : Type 0} → Result A → (A → Direct B) → Result B
after (gives a s) next = next a s
after (breaks s) next = breaks s
after (is_over e s) next = is_over e s

-- a loop's body, and then what follows it unless a `break` leaves the loop
abbrev pub after_body : Result Value → Direct Value → Result Value
after_body (gives v s) onward = onward s
after_body (breaks s) onward = gives Value.nothing s
after_body (is_over e s) onward = is_over e s

-- a function's body, in which no `break` stands outside a loop
abbrev pub returned : Result Value → Result Value
returned (gives v s) = gives v s
returned (breaks s) = is_over stuck s
returned (is_over e s) = is_over e s

-- with a unit of fuel, if one is left
abbrev pub fuelled : ℕ → RunState → Direct Value → Result Value
fuelled zero s m = is_over out_of_fuel s
fuelled (suc n) s m = m (record s { fuel = n })

-- a thing that has to be there
abbrev pub found : {A : Type 0} → Option A → RunState → Result A
found (Some a) s = gives a s
found None s = is_over stuck s

-- the world is changed
abbrev pub changed : {A : Type 0} → A → (SourceWorld → SourceWorld) → RunState → Result A
changed a change s = gives a (record s { world = change s.world })

-- a thing is noted
abbrev pub noted : (Trace → Trace) → RunState → Result (Unit {0})
noted note s = gives tt (record s { trace = note s.trace })

abbrev pub first_past : Option (List ℕ) → Bool → List ℕ → Option (List ℕ)
first_past (Some output) above so_far = Some output
first_past None above so_far = if above then Some so_far else None

-- the limit is passed where the weight is above the stack; the first time counts
abbrev pub past_limit : Bool → Trace → Trace
past_limit above t = record t { output_past_limit = first_past t.output_past_limit above t.output }

-- with so many bytes of heap, and of stack that may be passed
abbrev pub direct : (heap stack : ℕ) → Actions Direct
direct heap stack = record {
  give = λ a s. gives a s;
  bind = λ m next s. after (m s) next;
  break = λ s. breaks s;
  over = λ e s. is_over e s;
  in_loop = λ body onward s. after_body (body s) onward;
  in_function = λ m s. returned (m s);
  turn = λ m s. fuelled s.fuel s m;
  look = λ f s. found (f s.world) s;
  new_variable = λ v s. changed (length s.world.variables) (add_variable v) s;
  set_variable = λ place v s. changed tt (put_variable place v) s;
  new_object = λ o s. changed (length s.world.objects) (add_object o) s;
  set_object = λ place o s. changed tt (put_object place o) s;
  take_heap = λ bytes s.
      if nat_lt heap (s.world.heap + bytes) then is_over (ended by_heap) s
      else changed tt (add_heap bytes) s;
  read_byte = λ s. changed (take 1 s.world.input) drop_byte s;
  write = λ bytes s. noted (λ t. record t { output = t.output ++ bytes }) s;
  spend = λ k s. noted (λ t. record t { cost = t.cost + k }) s;
  weigh = λ k s.
      noted (past_limit (nat_lt stack (s.world.weight + k)))
      (record s { world = add_weight k s.world });
  unweigh = λ k s. changed tt (drop_weight k) s;
  descend = λ s.
      noted (λ t. record t { deepest = max t.deepest (s.world.depth + 1) })
      (record s { world = go_deeper s.world });
  ascend = λ s. changed tt go_back s;
}

-- how a run begins
abbrev pub begin : List ℕ → (fuel : ℕ) → RunState
begin input fuel = record {
  fuel = fuel;
  world = initial_world input;
  trace = record { output = []; cost = 0; output_past_limit = None; deepest = 0 };
}

-- what has come of a run that is over so
abbrev pub told_outcome : End Ending → RunState → Outcome Ending
told_outcome e s = record {
  end = e;
  output = s.trace.output;
  input = s.world.input;
  heap = s.world.heap;
  cost = s.trace.cost;
  output_past_limit = s.trace.output_past_limit;
  deepest = s.trace.deepest;
}

-- of a program: a value is its end, and no `break` leaves it
abbrev pub outcome : Result Value → Outcome Ending
outcome (gives v s) = told_outcome (ended normal) s
outcome (breaks s) = told_outcome stuck s
outcome (is_over e s) = told_outcome e s

-- the outcome of a program with these names, on an input, with bytes of heap and of stack, and at
-- most so much fuel
abbrev pub evaluate :
    (names : List (List ℕ)) → Exp → (input : List ℕ) → (heap stack fuel : ℕ) → Outcome Ending
evaluate names body input heap stack fuel =
    outcome
    (program Direct (direct heap stack) body (outermost_entries names) fuel (begin input fuel))
