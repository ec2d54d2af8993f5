-- A call of a function whose frame is within the stack comes to its body, with the parameters in their homes.
use Rattle.std.proofs.Common.{◌≡◌, ℕ, ◌+◌, ◌≤◌, List, [], ◌∷◌, length, Some, Bool, true, false, refl, ap, ◌∙◌, arith}
use Rattle.std.proofs.Common.{ltb-true}
use Rattle.std.specs.Prelude.{nat_lt, if◌then◌else◌}
use Rattle.tg_machine_state.specs.declared.ends.RunEnd.TheVariants.{StackFull}
use Rattle.tg_frame.specs.declared.accesses.Access.{Access}
use Rattle.tg_frame.specs.declared.accesses.Access.TheVariants.{InTemp, InFrame}
use Rattle.tg_simulation.specs.Runs.{Run}
use Rattle.tg_simulation.specs.Ran.{Ran, Ended, WantsFuel, stops}
use Rattle.tg_simulation.specs.laws.Simulating.{Comes}
use Rattle.tg_simulation.proofs.Simulations.{comes_working, comes_turn}
use Rattle.tg_tree.specs.Tree.{Ts, Function}
use Rattle.tg_tree.specs.Memory.{Has, put, slot}
use Rattle.tg_tree.specs.Actions.{World, Temps, set_temp, Back, Around, Next, over}
use Rattle.tg_tree.specs.Running.{Runner, with_fuel, placed, with_slots, without_slots, no_temps, outermost, entered}
use Rattle.tg_tree.specs.Running.{fuelled, function_of, call_in, begin_in}
use Rattle.tg_runtime_proof.proofs.Coming.{comes_along}

-- the parameters in their homes
abbrev pub placed_world : (base : ℕ) → List Access → List ℕ → World → World
placed_world base (InTemp t ∷ homes) (v ∷ vs) w = placed_world base homes vs w
placed_world base (InFrame k ∷ homes) (v ∷ vs) w =
    placed_world base homes vs (record w { memory = put (slot base k) (Has v) w.memory })
placed_world base _ _ w = w

abbrev pub placed_temps : List Access → List ℕ → Temps → Temps
placed_temps (InTemp t ∷ homes) (v ∷ vs) temps = placed_temps homes vs (set_temp t.0 v temps)
placed_temps (InFrame k ∷ homes) (v ∷ vs) temps = placed_temps homes vs temps
placed_temps _ _ temps = temps

pub placed_is : (base : ℕ) (homes : List Access) (vs : List ℕ) (w : World) (t : Temps) (next : Next) →
    length homes ≡ length vs →
    placed base homes vs w t next ≡ next (placed_world base homes vs w) (placed_temps homes vs t)
placed_is base [] [] w t next e = refl
placed_is base [] (v ∷ vs) w t next e = cc
placed_is base (InTemp i ∷ homes) [] w t next e = cc
placed_is base (InFrame k ∷ homes) [] w t next e = cc
placed_is base (InTemp i ∷ homes) (v ∷ vs) w t next e =
    placed_is base homes vs w (set_temp i.0 v t) next (omega (arith, e))
placed_is base (InFrame k ∷ homes) (v ∷ vs) w t next e =
    placed_is base homes vs (record w { memory = put (slot base k) (Has v) w.memory }) t next (omega (arith, e))

by_test : (P : Bool → Type 0) (b : Bool) → (b ≡ true → P true) → (b ≡ false → P false) → P b
by_test P true h k = h refl
by_test P false h k = k refl

frame_fits : (top need : ℕ) → need ≤ top → nat_lt top need ≡ false
frame_fits top need le =
    by_test (λ b. b ≡ false) (nat_lt top need) (λ e. absurd (omega (arith, le, ltb-true top need e))) (λ e. refl)

-- what is around a body that is called
abbrev pub around_body : (size : ℕ → ℕ) → Function Ts → (top : ℕ) → Back → Around
around_body size f top back =
    outermost (record { base = top; size = size f.label }) (λ v w1. back v (without_slots f top w1))

-- a call comes to the body, after the entry's units and a unit of fuel
pub call_comes : (units : ℕ → ℕ) (size : ℕ → ℕ) (floor : ℕ) (runner : Runner Ts) (functions : List (Function Ts))
    (label : ℕ) (f : Function Ts) (vs : List ℕ) (top : ℕ) (back : Back) (w : World) (e : Run Ran) (k : ℕ) →
    function_of label functions ≡ Some f → floor + size f.label ≤ top → length f.params ≡ length vs →
    Comes k
    (runner f.body (around_body size f top back) (placed_world top f.params vs (with_slots f top w))
    (placed_temps f.params vs no_temps)) e →
    Comes (units (length vs) + k) (call_in units size floor runner functions label vs top back w) e
call_comes units size floor runner functions label f vs top back w e k found fits many c =
    let laid = placed_world top f.params vs (with_slots f top w) in
    let body = runner f.body (around_body size f top back) laid (placed_temps f.params vs no_temps) in
    let in_it : Next = fuelled runner f.body (around_body size f top back) in
    let begun : Run Ran = begin_in size floor (fuelled runner) functions label vs top back w in
    comes_working k (units (length vs)) begun e
    (comes_along k begun (with_fuel laid body) e
    (λ i. ap (λ o. entered size floor (fuelled runner) o vs top back w i) found ∙
    (ap (λ b. (if b then over (Ended StackFull) w else placed top f.params vs (with_slots f top w) no_temps in_it) i)
    (frame_fits top (floor + size f.label) fits) ∙
    ap (λ (d : Run Ran). d i) (placed_is top f.params vs (with_slots f top w) no_temps in_it many)))
    (comes_turn k (stops laid.input WantsFuel) body e c))
