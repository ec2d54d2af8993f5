-- Evaluation that passes along what comes next: an action takes what comes after its value and what
-- comes after a `break`, and an outcome is what happens from that moment on. Code that is made of a
-- part does the part's work and goes on to what comes next, so a translation is compared with this.
use Rattle.std.specs.Prelude.{ℕ, ◌+◌, List, [], length, take, Option, Some, None, nat_lt}
use Rattle.std.specs.Prelude.{if◌then◌else◌}
use Rattle.tg_syntax.specs.Tree.{Exp}
use Rattle.tg_simulation.specs.Runs.{Run, turn}
use Rattle.tg_simulation.specs.Outcomes.{End, ended, out_of_fuel, stuck, Outcome}
use Rattle.tg_simulation.specs.Changes.{writes_first}
use Rattle.tg_simulation.specs.Changes.{costs, passes_limit, reaches}
use Rattle.tg_semantics.specs.Values.{Value, normal, by_heap, SourceWorld, initial_world}
use Rattle.tg_semantics.specs.Values.{add_variable, put_variable, add_object, put_object, add_heap}
use Rattle.tg_semantics.specs.Values.{drop_byte, add_weight, drop_weight, go_deeper, go_back}
use Rattle.tg_semantics.specs.Values.{Ending}
use Rattle.tg_semantics.specs.Actions.{Actions}
use Rattle.tg_semantics.specs.Environments.{outermost_entries}
use Rattle.tg_semantics.specs.Evaluation.{program}

-- what comes from a world on, by the fuel that is left
abbrev pub Rest : Type 0
Rest = SourceWorld → Run (Outcome Ending)

-- an action, by what comes after its value, and what comes after a `break`
abbrev pub Passing : Type 0 → Type 0
Passing A = (go : A → Rest) → (out : Rest) → Rest

-- a run that is over in this world
abbrev pub over_in : SourceWorld → End Ending → Outcome Ending
over_in w end = record {
  end = end;
  output = [];
  input = w.input;
  heap = w.heap;
  cost = 0;
  output_past_limit = None;
  deepest = 0;
}

-- nothing comes: the run is over
abbrev pub ends : End Ending → Rest
ends e w n = over_in w e

-- a unit of fuel is used
abbrev pub with_turn : Rest → Rest
with_turn rest w = turn (over_in w out_of_fuel) (rest w)

-- a thing that has to be there
abbrev pub with_found : {A : Type 0} → Option A → (A → Rest) → Rest
with_found (Some a) go = go a
with_found None go = ends stuck

-- with so many bytes of heap, and of stack that may be passed
abbrev pub passing : (heap stack : ℕ) → Actions Passing
passing heap stack = record {
  give = λ a go out. go a;
  bind = λ m next go out. m (λ a. next a go out) out;
  break = λ go out. out;
  over = λ e go out. ends e;
  in_loop = λ body onward go out. body (λ v. onward go out) (go Value.nothing);
  in_function = λ m go out. m go (ends stuck);
  turn = λ m go out. with_turn (m go out);
  look = λ f go out w. with_found (f w) go w;
  new_variable = λ v go out w. go (length w.variables) (add_variable v w);
  set_variable = λ place v go out w. go tt (put_variable place v w);
  new_object = λ o go out w. go (length w.objects) (add_object o w);
  set_object = λ place o go out w. go tt (put_object place o w);
  take_heap = λ bytes go out w.
      if nat_lt heap (w.heap + bytes) then ends (ended by_heap) w else go tt (add_heap bytes w);
  read_byte = λ go out w. go (take 1 w.input) (drop_byte w);
  write = λ bytes go out w n. writes_first bytes (go tt w n);
  spend = λ k go out w n. costs k (go tt w n);
  weigh = λ k go out w n. passes_limit (nat_lt stack (w.weight + k)) (go tt (add_weight k w) n);
  unweigh = λ k go out w. go tt (drop_weight k w);
  descend = λ go out w n. reaches (w.depth + 1) (go tt (go_deeper w) n);
  ascend = λ go out w. go tt (go_back w);
}

-- the same outcome as by results
abbrev pub evaluate_passing :
    (names : List (List ℕ)) → Exp → (input : List ℕ) → (heap stack fuel : ℕ) → Outcome Ending
evaluate_passing names body input heap stack fuel =
    program Passing (passing heap stack) body (outermost_entries names) fuel
    (λ v. ends (ended normal)) (ends stuck) (initial_world input) fuel
