-- What gives a value back from the arms of its choices does what a return of the value does:
-- whatever the fuel, it writes the same, reads the same and stops the same way, with no more work.
-- What would come next in the body doesn't matter.
use Rattle.std.specs.Prelude.{ℕ, List}
use Rattle.tg_simulation.specs.Preserving.{DoesTheSame}
use Rattle.tg_tree.specs.Tree.{Tx, Ts, Return, Code}
use Rattle.tg_tree.specs.Units.{Stage}
use Rattle.tg_tree.specs.Actions.{World, Temps, Around, Acts, Next}
use Rattle.tg_tree.specs.Meaning.{run}
use Rattle.tg_tree.specs.Running.{with_fuel, enter, going}
use Rattle.tg_tree.specs.Links.{enter_linked, linked_going}
use Rattle.tg_translate.specs.mirror.Returning.{given_back}

module _ (stage : Stage) (code : Code Ts) (size : ℕ → ℕ) (floor room : ℕ) where
  -- a part of a body in a run of trees
  abbrev pub run_part : Ts → Acts Next
  run_part =
      run stage room code.literals
      (enter stage code size floor room (going stage code size floor room))
      (λ q. with_fuel q.world (going stage code size floor room q))

  -- and in one with static links, where these are the frames of its function and of those around
  abbrev pub run_linked_part : (level : ℕ → ℕ) → (frames : List ℕ) → Ts → Acts Next
  run_linked_part level frames =
      run stage room code.literals
      (enter_linked stage code size floor room level
      (linked_going stage code size floor room level) frames)
      (λ q.
      with_fuel q.world
      (linked_going stage code size floor room level (record { point = q; frames = frames })))

abbrev pub TreesGiveBack : Type 0
TreesGiveBack =
    (stage : Stage) (code : Code Ts) (size : ℕ → ℕ) (floor room : ℕ)
    (x : Tx) (e : Around) (next next' : Next) (w : World) (t : Temps) (n : ℕ) →
    DoesTheSame 1 0
    (run_part stage code size floor room (Return x) e next w t n)
    (run_part stage code size floor room (given_back x) e next' w t n)

abbrev pub LinkedTreesGiveBack : Type 0
LinkedTreesGiveBack =
    (stage : Stage) (code : Code Ts) (size : ℕ → ℕ) (floor room : ℕ) (level : ℕ → ℕ)
    (frames : List ℕ)
    (x : Tx) (e : Around) (next next' : Next) (w : World) (t : Temps) (n : ℕ) →
    DoesTheSame 1 0
    (run_linked_part stage code size floor room level frames (Return x) e next w t n)
    (run_linked_part stage code size floor room level frames (given_back x) e next' w t n)
