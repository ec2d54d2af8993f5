-- Runs of trees. A return to the head of a loop and a call take a unit of fuel each, and the first
-- activation of a program takes none.
use Rattle.std.specs.Prelude.{ℕ, ◌+◌, ◌==◌, List, [], ◌∷◌, Option, Some, None, length, map, nat_lt}
use Rattle.std.specs.Prelude.{if◌then◌else◌, pos}
use Rattle.tg_machine_state.specs.declared.ends.RunEnd.TheVariants.{Exit, StackFull}
use Rattle.tg_machine_state.specs.State.{stack_top}
use Rattle.tg_frame.specs.declared.accesses.Access.{Access}
use Rattle.tg_frame.specs.declared.accesses.Access.TheVariants.{InTemp, InFrame}
use Rattle.tg_simulation.specs.Runs.{Run, turn, again}
use Rattle.tg_simulation.specs.Ran.{Ran, Ended, WantsFuel, stops}
use Rattle.tg_tree.specs.Tree.{Ts, Stms, Seq, Function, Code}
use Rattle.tg_tree.specs.Units.{Stage, Canonical, marked_entry_units}
use Rattle.tg_tree.specs.Memory.{Unset, Closed, Has, put, slot, lay, begin}
use Rattle.tg_tree.specs.Actions.{World, Temps, set_temp, Activation, Back, Next, Around, over}
use Rattle.tg_tree.specs.Actions.{wrong, charged}
use Rattle.tg_tree.specs.Meaning.{Enter, Point, run}

abbrev pub function_of : {Body : Type 0} → ℕ → List (Function Body) → Option (Function Body)
function_of label [] = None
function_of label (f ∷ fs) = if f.label == label then Some f else function_of label fs

abbrev pub with_fuel : World → Run Ran → Run Ran
with_fuel w c = turn (stops w.input WantsFuel) c

-- the arguments in the homes of the parameters; another number of them goes wrong
abbrev pub placed : (base : ℕ) → List Access → List ℕ → World → Temps → Next → Run Ran
placed base [] [] w temps next = next w temps
placed base (InTemp t ∷ homes) (v ∷ vs) w temps next =
    placed base homes vs w (set_temp t.0 v temps) next
placed base (InFrame k ∷ homes) (v ∷ vs) w temps next =
    placed base homes vs (record w { memory = put (slot base k) (Has v) w.memory }) temps next
placed base _ _ w temps next = wrong w

abbrev pub with_slots : {Body : Type 0} → (f : Function Body) → (base : ℕ) → World → World
with_slots f base w = record w { memory = lay base f.slots Unset w.memory }

abbrev pub without_slots : {Body : Type 0} → (f : Function Body) → (base : ℕ) → World → World
without_slots f base w = record w { memory = lay base f.slots Closed w.memory }

abbrev pub no_temps : Temps
no_temps t = None

-- what runs a function's body, in some form of code
abbrev pub Runner : Type 0 → Type 0
Runner Body = Body → Around → World → Temps → Run Ran

-- what is around a body: it leaves no loop but its own
abbrev pub outermost : Activation → Back → Around
outermost activation back =
    record { activation = activation; out = λ k w temps. wrong w; back = back }

-- A function is entered, with a frame that begins at this address: where it reaches below the
-- stack's floor the stack is full.
abbrev pub entered :
    {Body : Type 0} → (size : ℕ → ℕ) → (floor : ℕ) → Runner Body →
    Option (Function Body) → List ℕ → (top : ℕ) → Back → World → Run Ran
entered size floor body None vs top back w = wrong w
entered size floor body (Some f) vs top back w =
    if nat_lt top (floor + size f.label) then over (Ended StackFull) w else
    placed top f.params vs (with_slots f top w) no_temps
    (body f.body
    (outermost (record { base = top; size = size f.label })
    (λ v w1. back v (without_slots f top w1))))

-- a function by its label, among these
abbrev pub begin_in :
    {Body : Type 0} → (size : ℕ → ℕ) → (floor : ℕ) → Runner Body →
    List (Function Body) → Enter
begin_in size floor runner functions label vs top back w =
    entered size floor runner (function_of label functions) vs top back w

-- a call pays for the entry, by the number of its arguments, and runs the body after a unit of
-- fuel
abbrev pub fuelled : {Body : Type 0} → Runner Body → Runner Body
fuelled body s e w temps = with_fuel w (body s e w temps)

abbrev pub call_in :
    {Body : Type 0} → (units : ℕ → ℕ) → (size : ℕ → ℕ) → (floor : ℕ) → Runner Body →
    List (Function Body) → Enter
call_in units size floor runner functions label vs top back w =
    charged (units (length vs)) (begin_in size floor (fuelled runner) functions label vs top back w)

-- a body from its begin, whose end is a return
abbrev pub body_point : Ts → Around → World → Temps → Point
body_point s e w temps =
    record { statement = s; around = e; next = λ w1 t1. wrong w1; world = w; temps = temps }

-- the first activation of a program, whose return is the program's end
abbrev pub program :
    {Body : Type 0} → (size : ℕ → ℕ) → (floor : ℕ) → Runner Body → Code Body →
    (body : ℕ) → (input : List ℕ) → Run Ran
program size floor runner code body input =
    begin_in size floor runner code.functions body [] stack_top
    (λ v w. over (Ended (Exit (pos 0))) w)
    (record { memory = begin code.literals; input = input })

-- for the stage whose units are charged, a size of each frame by its function's label, the stack's
-- floor, and the heap's room
module _ (stage : Stage) (code : Code Ts) (size : ℕ → ℕ) (floor room : ℕ) where
  abbrev pub run_body : (Point → Run Ran) → Runner Ts
  run_body later s e w temps = later (body_point s e w temps)

  abbrev pub enter : (Point → Run Ran) → Enter
  enter later = call_in marked_entry_units size floor (run_body later) code.functions

  -- one step: a statement up to the next unit of fuel
  abbrev pub step : (Point → Run Ran) → Point → Run Ran
  step later p =
      run stage room code.literals (enter later) (λ q. with_fuel q.world (later q))
      p.statement p.around p.next p.world p.temps

  abbrev pub going : Point → Run Ran
  going = again (stops [] WantsFuel) step

  abbrev pub tree_run : (body : ℕ) → (input : List ℕ) → Run Ran
  tree_run body input = program size floor (run_body going) code body input

-- Canonical statements run as the tree that has them in sequence.
abbrev pub in_sequence : Function Stms → Function Ts
in_sequence f = record {
  label = f.label;
  params = f.params;
  slots = f.slots;
  temps = f.temps;
  out = f.out;
  body = Seq f.body;
}

abbrev pub canonical_run :
    Code Stms → (size : ℕ → ℕ) → (floor room body : ℕ) → (input : List ℕ) → Run Ran
canonical_run code size floor room body input =
    tree_run Canonical
    (record { functions = map in_sequence code.functions; literals = code.literals })
    size floor room body input
