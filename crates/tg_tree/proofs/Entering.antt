-- What bodies keep, calls and programs keep, in any form of code.
use Rattle.std.proofs.Common.{◌≡◌, ℕ, ◌<◌, ◌≤◌, List, [], length, arith}
use Rattle.std.specs.Prelude.{pos}
use Rattle.tg_machine_state.specs.declared.ends.RunEnd.TheVariants.{Exit}
use Rattle.tg_machine_state.specs.State.{stack_top}
use Rattle.tg_simulation.specs.Ran.{Ended, IsOver, GoesOn}
use Rattle.tg_tree.specs.Tree.{Function, Code}
use Rattle.tg_tree.specs.Memory.{begin}
use Rattle.tg_tree.specs.Actions.{World, Temps, Around, Back}
use Rattle.tg_tree.specs.Running.{Runner, function_of, fuelled, call_in, program}
use Rattle.tg_tree.proofs.Relating.{Related, RelatedWorlds, RelatedTemps, Keeps, AlikeBack, AlikeAround, around_down, keep_entered}
use Rattle.tg_tree.proofs.Going.{one, OneWorld, OneTemps, IsOnward, Onward, onward_keeps}

module _ (R : Related) (W : RelatedWorlds) (T : RelatedTemps) (n : ℕ) where
  -- bodies that are run from worlds and temporaries that are related
  abbrev pub BodiesKeep : {Body : Type 0} → (runner runner' : Runner Body) → Type 0
  BodiesKeep {Body} runner runner' =
      (s : Body) (e e' : Around) (w x : World) (t u : Temps) → AlikeAround R W T n e e' → W w x → T t u → R n w (runner s e w t) (runner' s e' x u)

module _ (R : Related) (W : RelatedWorlds) (T : RelatedTemps) (keeps : Keeps R W T) where
  -- a call runs the body after a unit of fuel
  pub keep_call_in :
      {Body : Type 0} (size : ℕ → ℕ) (floor n : ℕ) (units : ℕ → ℕ) (runner runner' : Runner Body) (functions : List (Function Body)) →
      ((m : ℕ) → m < n → BodiesKeep R W T m runner runner') →
      (label : ℕ) (vs : List ℕ) (top : ℕ) (back back' : Back) (w x : World) → W w x → AlikeBack R W T n back back' →
      R n w (call_in units size floor runner functions label vs top back w) (call_in units size floor runner' functions label vs top back' x)
  keep_call_in size floor n units runner runner' functions runs label vs top back back' w x r h =
      keeps.work n (units (length vs)) w _ _ (keep_entered R W T keeps n size floor (fuelled runner) (fuelled runner')
      (λ s e e' w1 x1 t1 u1 he r1 s1. keeps.fuel n w1 x1 _ _ r1
      (λ m lt. runs m lt s e e' w1 x1 t1 u1 (around_down R W T keeps m n e e' (omega arith) he) r1 s1))
      (function_of label functions) vs top back back' w x r h)

-- A program goes on with more fuel alone, where bodies do.
module _
    {Body : Type 0} (size : ℕ → ℕ) (floor : ℕ) (runner : Runner Body) (code : Code Body)
    (runs : (n : ℕ) → BodiesKeep Onward OneWorld OneTemps n runner runner) (body : ℕ) (input : List ℕ) (i j : ℕ) (le : i ≤ j) where
  onward :
      IsOnward (record { memory = begin code.literals; input = input }) (program size floor runner code body input i)
      (program size floor runner code body input j)
  onward =
      keep_entered Onward OneWorld OneTemps onward_keeps j size floor runner runner (runs j) (function_of body code.functions) [] stack_top _ _
      (record { memory = begin code.literals; input = input }) _ (one _) (λ v w x r. onward_keeps.stop j (Ended (Exit (pos 0))) w x r) j i
      (omega arith) le

  pub stays_over :
      IsOver (program size floor runner code body input i).stop →
      program size floor runner code body input j ≡ program size floor runner code body input i
  stays_over o = onward.over o

  pub only_goes_on : GoesOn (program size floor runner code body input i) (program size floor runner code body input j)
  only_goes_on = onward.on
