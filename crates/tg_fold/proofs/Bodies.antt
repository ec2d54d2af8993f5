-- Bodies are carried, and with them calls and programs.
use Rattle.std.proofs.Common.{◌≡◌, ℕ, zero, suc, ◌+◌, ◌<◌, ◌≤◌, List, [], ◌∷◌, map, subst, arith}
use Rattle.std.specs.Prelude.{pos}
use Rattle.tg_machine_state.specs.declared.ends.RunEnd.TheVariants.{Exit}
use Rattle.tg_machine_state.specs.State.{stack_top}
use Rattle.tg_simulation.specs.Runs.{Run}
use Rattle.tg_simulation.specs.Ran.{Ran, Ended, Wrong}
use Rattle.tg_simulation.specs.Preserving.{Preserves}
use Rattle.tg_simulation.proofs.Simulations.{simulation_preserves, simulates_stopping, simulates_turn, simulates_less}
use Rattle.tg_tree.specs.Tree.{Ts, Loop, Function, Literal, Code}
use Rattle.tg_tree.specs.Memory.{begin}
use Rattle.tg_tree.specs.Units.{Trees, marked_entry_units}
use Rattle.tg_tree.specs.Actions.{World, Temps, Activation, Back, Next, Out, wrong}
use Rattle.tg_tree.specs.Meaning.{Point}
use Rattle.tg_tree.specs.Running.{with_fuel, outermost, body_point, enter, going, tree_run}
use Rattle.tg_tree.specs.Carrying.{CallsSimulate, EntriesPay, BodyCarried, AllCarried, none, one}
use Rattle.tg_tree.proofs.TreeRuns.{trees_step}
use Rattle.tg_tree.proofs.Linking.{calls_carried, programs_carried}
use Rattle.tg_fold.specs.laws.Laws.{folded_function}
use Rattle.tg_fold.specs.laws.Meaning.{folded_code, runner, added_work}
use Rattle.tg_fold.specs.mirror.Folding.{folded}
use Rattle.tg_fold.proofs.Paying.{Sim, along}
use Rattle.tg_fold.proofs.Copying.{loop_at, all_passed_run}
use Rattle.tg_fold.proofs.Doing.{Scene, GoSim, NextSim, BackSim, run_sim}

module _ (functions functions' : List (Function Ts)) (literals : List Literal) (size : ℕ → ℕ) (floor room : ℕ) where
  abbrev code : Code Ts
  code = record { functions = functions; literals = literals }

  abbrev code' : Code Ts
  code' = record { functions = functions'; literals = literals }

  abbrev goes : Point → Run Ran
  goes = going Trees code size floor room

  abbrev goes' : Point → Run Ran
  goes' = going Trees code' size floor room

  abbrev Calls : ℕ → Type 0
  Calls n =
      (m : ℕ) → m ≤ n →
      CallsSimulate 1 added_work size floor marked_entry_units marked_entry_units (runner functions literals size floor room)
      (runner functions' literals size floor room) functions functions' m

  calls_less : (m n : ℕ) → m ≤ n → Calls n → Calls m
  calls_less m n le h k lk = h k (omega (arith, le, lk))

  abbrev scene : (n : ℕ) → Calls n → Scene
  scene n calls = record {
    fuel = n;
    room = room;
    literals = literals;
    enter = enter Trees code size floor room goes;
    enter' = enter Trees code' size floor room goes';
    later = λ q. with_fuel q.world (goes q);
    later' = λ q. with_fuel q.world (goes' q);
    calls = calls n (omega arith);
    passes = all_passed_run code' size floor room;
  }

  abbrev Again : ℕ → Type 0
  Again n =
      (r : ℕ) (a : Activation) (b b' : Back) → BackSim r n b b' → (s : Ts) (o o' : Out) (next next' : Next) →
      GoSim r n o o' → NextSim r n next next' → (w : World) (t : Temps) →
      Sim r n (with_fuel w (goes (loop_at s a o b next w t))) (with_fuel w (goes' (loop_at (folded s) a o' b' next' w t)))

  -- a return to a loop's head, with less fuel
  again_next : (n : ℕ) → Calls n → ((m : ℕ) → m < n → Again m) → Again n
  again_next n calls below_n r a b b' backs s o o' next next' ho hn w t =
      let from : Point = loop_at s a o b next w t in
      let to : Point = loop_at (folded s) a o' b' next' w t in
      simulates_turn 1 r n w.input (goes from) (goes' to) (λ m lt.
      let fewer : BackSim r m b b' = λ v w1. simulates_less 1 r m n _ _ (omega arith) (backs v w1) in
      along r m _ (goes from) _ (goes' to)
      (λ i j. trees_step Trees code size floor room from j i) (λ i j. trees_step Trees code' size floor room to j i)
      (run_sim (scene m (calls_less m n (omega arith) calls)) r a b b' fewer (below_n m lt r a b b' fewer) (Loop s) o o'
      (λ k w1 t1. simulates_less 1 r m n _ _ (omega arith) (ho k w1 t1)) next next' (λ w1 t1. simulates_less 1 r m n _ _ (omega arith) (hn w1 t1)) w t))

  again_below : (n m : ℕ) → m < n → Calls m → Again m
  again_below zero m lt c = absurd (omega arith)
  again_below (suc n) m lt c = again_next m c (λ k km. again_below n k (omega arith) (calls_less k m (omega arith) c))

  again_at : (n : ℕ) → Calls n → Again n
  again_at n calls = again_next n calls (λ m lt. again_below n m lt (calls_less m n (omega arith) calls))

  pub bodies_carried : (body : Ts) →
      BodyCarried 1 added_work size floor marked_entry_units marked_entry_units (runner functions literals size floor room)
      (runner functions' literals size floor room) functions functions' body (folded body)
  bodies_carried body n r act back back' w t calls backs =
      let z = scene n calls in
      let e : r ≡ r + 0 = omega arith in
      subst (λ k. Sim k n (goes (body_point body (outermost act back) w t)) (goes' (body_point (folded body) (outermost act back') w t))) e
      (along r n _ (goes (body_point body (outermost act back) w t)) _ (goes' (body_point (folded body) (outermost act back') w t))
      (λ i j. trees_step Trees code size floor room (body_point body (outermost act back) w t) j i)
      (λ i j. trees_step Trees code' size floor room (body_point (folded body) (outermost act back') w t) j i)
      (run_sim z r act back back' backs (again_at n calls r act back back' backs) body (λ k w1 t1. wrong w1) (λ k w1 t1. wrong w1)
      (λ k w1 t1. simulates_stopping 1 r n w1.input Wrong) (λ w1 t1. wrong w1) (λ w1 t1. wrong w1) (λ w1 t1. simulates_stopping 1 r n w1.input Wrong) w t))

module _ (code : Code Ts) (size : ℕ → ℕ) (floor room : ℕ) where
  abbrev behind : List (Function Ts)
  behind = map folded_function code.functions

  all_carried : (fs : List (Function Ts)) →
      AllCarried 1 added_work size floor marked_entry_units marked_entry_units (runner code.functions code.literals size floor room)
      (runner behind code.literals size floor room) code.functions behind fs (map folded_function fs)
  all_carried [] = none
  all_carried (f ∷ fs) =
      one f.label f.params f.slots f.temps f.temps f.out f.out f.body (folded f.body) fs (map folded_function fs)
      (bodies_carried code.functions behind code.literals size floor room f.body) (all_carried fs)

  entries_pay :
      EntriesPay 1 added_work size floor marked_entry_units marked_entry_units (runner code.functions code.literals size floor room)
      (runner behind code.literals size floor room) code.functions behind
  entries_pay k = omega arith

  pub calls_are_carried : (n : ℕ) →
      CallsSimulate 1 added_work size floor marked_entry_units marked_entry_units (runner code.functions code.literals size floor room)
      (runner behind code.literals size floor room) code.functions behind n
  calls_are_carried n =
      calls_carried 1 added_work size floor marked_entry_units marked_entry_units (runner code.functions code.literals size floor room)
      (runner behind code.literals size floor room) code.functions behind entries_pay (all_carried code.functions) n

  pub programs_are_preserved : (body : ℕ) (input : List ℕ) →
      Preserves 1 added_work (tree_run Trees code size floor room body input) (tree_run Trees (folded_code code) size floor room body input)
  programs_are_preserved body input =
      simulation_preserves 1 added_work _ _ (λ n.
      programs_carried 1 added_work size floor marked_entry_units marked_entry_units (runner code.functions code.literals size floor room)
      (runner behind code.literals size floor room) code.functions behind entries_pay (all_carried code.functions) n
      body [] stack_top _ _ (record { memory = begin code.literals; input = input }) 0 (λ v w. simulates_stopping 1 0 n w.input (Ended (Exit (pos 0)))))
