-- Runs of flat code (Appel, chapter 8). A jump, a branch that is taken and a call take a unit of
-- fuel each.
use Rattle.std.specs.Prelude.{ℕ, ◌==◌, List, [], ◌∷◌, Option, Some, None, if◌then◌else◌}
use Rattle.tg_machine_state.specs.declared.ends.RunEnd.TheVariants.{Break}
use Rattle.tg_simulation.specs.Runs.{Run, again}
use Rattle.tg_simulation.specs.Ran.{Ran, Ended, WantsFuel, Wrong, stops}
use Rattle.tg_tree.specs.Tree.{Linear, Mark, Do', Jump, Branch, Fault', Return', Code}
use Rattle.tg_tree.specs.Operators.{holds}
use Rattle.tg_tree.specs.Units.{Canonical, element_units, entry_units}
use Rattle.tg_tree.specs.Actions.{World, Temps, Around, Acts, ◌>>=◌, ◌>>◌, pay, stop, go_back}
use Rattle.tg_tree.specs.Actions.{wrong}
use Rattle.tg_tree.specs.Meaning.{Enter, value, run}
use Rattle.tg_tree.specs.Running.{Runner, with_fuel, call_in, program}

-- what stands after a mark
abbrev pub behind : (mark : ℕ) → List Linear → Option (List Linear)
behind m [] = None
behind m (Mark k ∷ rest) = if k == m then Some rest else behind m rest
behind m (_ ∷ rest) = behind m rest

-- a place in a function's code: the whole code, and what is left of it from there on
pub record FlatPoint : Type 0 where
  pub whole : List Linear
  pub rest : List Linear
  pub around : Around
  pub world : World
  pub temps : Temps

-- nothing comes next after flat code
abbrev pub Last : Type 0
Last = Unit {0}

module _ (code : Code (List Linear)) (size : ℕ → ℕ) (floor room : ℕ) where
  abbrev pub run_flat_body : (FlatPoint → Run Ran) → Runner (List Linear)
  run_flat_body later all e w temps =
      later (record { whole = all; rest = all; around = e; world = w; temps = temps })

  abbrev pub enter_flat : (FlatPoint → Run Ran) → Enter
  enter_flat later = call_in entry_units size floor (run_flat_body later) code.functions

  module _ (later : FlatPoint → Run Ran) (whole : List Linear) where
    abbrev pub jump_to : Option (List Linear) → Acts Last
    jump_to None e last w temps = wrong w
    jump_to (Some rest) e last w temps =
        with_fuel w
        (later (record { whole = whole; rest = rest; around = e; world = w; temps = temps }))

    -- no loop stands in flat code
    abbrev pub run_flat : List Linear → Acts Last
    run_flat [] = stop Wrong
    run_flat (Mark m ∷ rest) = do
      pay (element_units (Mark m))
      run_flat rest
    run_flat (Do' s ∷ rest) = do
      pay (element_units (Do' s))
      run Canonical room code.literals (enter_flat later) (λ q. wrong q.world) s
      run_flat rest
    run_flat (Jump m ∷ rest) = do
      pay (element_units (Jump m))
      jump_to (behind m whole)
    run_flat (Branch rel x y m ∷ rest) = do
      pay (element_units (Branch rel x y m))
      u ← value Canonical room code.literals (enter_flat later) (λ q. wrong q.world) x
      v ← value Canonical room code.literals (enter_flat later) (λ q. wrong q.world) y
      if holds rel u v then jump_to (behind m whole) else run_flat rest
    run_flat (Fault' n ∷ rest) = do
      pay (element_units (Fault' n))
      stop (Ended (Break n))
    run_flat (Return' x ∷ rest) = do
      pay (element_units (Return' x))
      v ← value Canonical room code.literals (enter_flat later) (λ q. wrong q.world) x
      go_back v

  abbrev pub flat_step : (FlatPoint → Run Ran) → FlatPoint → Run Ran
  flat_step later p = run_flat later p.whole p.rest p.around tt p.world p.temps

  abbrev pub flat_going : FlatPoint → Run Ran
  flat_going = again (stops [] WantsFuel) flat_step

  abbrev pub flat_run : (body : ℕ) → (input : List ℕ) → Run Ran
  flat_run body input = program size floor (run_flat_body flat_going) code body input
