-- Bodies are carried, and with them calls and programs.
use Rattle.std.proofs.Common.{◌≡◌, ℕ, zero, suc, ◌+◌, ◌<◌, ◌≤◌, List, [], ◌∷◌, map, refl, arith}
use Rattle.std.specs.List.{Contains}
use Rattle.std.specs.Prelude.{pos}
use Rattle.tg_machine_state.specs.declared.ends.RunEnd.TheVariants.{Exit}
use Rattle.tg_machine_state.specs.State.{stack_top}
use Rattle.tg_simulation.specs.Runs.{Run}
use Rattle.tg_simulation.specs.Ran.{Ran, Ended, Wrong}
use Rattle.tg_simulation.specs.Preserving.{Preserves}
use Rattle.tg_simulation.proofs.Simulations.{simulation_preserves, simulates_stopping, simulates_turn, simulates_less}
use Rattle.tg_tree.specs.Tree.{Ts, Move, Store, StoreByte, Do, If, Loop, Break, Fault, Seq, Return, Function, Literal, Code}
use Rattle.tg_tree.specs.Memory.{begin}
use Rattle.tg_tree.specs.Units.{Trees, Canonical, marked_entry_units}
use Rattle.tg_tree.specs.Actions.{World, Temps, Around, Next, wrong}
use Rattle.tg_tree.specs.Meaning.{Point}
use Rattle.tg_tree.specs.Running.{with_fuel, outermost, body_point, enter, step, going, in_sequence, tree_run, canonical_run}
use Rattle.tg_tree.specs.Carrying.{CallsSimulate, EntriesPay, BodyCarried, AllCarried, none, one}
use Rattle.tg_tree.specs.Named.{named_ts}
use Rattle.tg_tree.proofs.TreeRuns.{trees_step}
use Rattle.tg_tree.proofs.Linking.{calls_carried, programs_carried}
use Rattle.tg_tree.proofs.NamesPassing.{TsPasses, body_passes}
use Rattle.tg_canon.specs.laws.Laws.{AreTempsBelow}
use Rattle.tg_canon.specs.laws.Meaning.{canonical, canonical_code, HasOwnTemps, runner, added_work}
use Rattle.tg_canon.specs.mirror.Canon.{statements_of, inside, linear, linearized}
use Rattle.tg_canon.proofs.Naming.{IsBelow, below_more}
use Rattle.tg_canon.proofs.Paying.{credit, along, free}
use Rattle.tg_canon.proofs.Fixed.{Scene, around, then_does}
use Rattle.tg_canon.proofs.Dones.{GoesOn}
use Rattle.tg_canon.proofs.Tests.{JoinsPay}
use Rattle.tg_canon.proofs.Carried.{linear_at}

statements_run : (z : Scene) (s : Ts) (e : Around) (next : Next) (w : World) (t : Temps) →
    then_does z (Seq (statements_of s)) e next w t ≡ then_does z s e next w t
statements_run z (Seq ss) e next w t = refl
statements_run z (Move i x) e next w t = free (then_does z (Move i x) e next w t)
statements_run z (Store x y) e next w t = free (then_does z (Store x y) e next w t)
statements_run z (StoreByte x y) e next w t = free (then_does z (StoreByte x y) e next w t)
statements_run z (Do x) e next w t = free (then_does z (Do x) e next w t)
statements_run z (If c s s') e next w t = free (then_does z (If c s s') e next w t)
statements_run z (Loop s) e next w t = free (then_does z (Loop s) e next w t)
statements_run z (Break k) e next w t = free (then_does z (Break k) e next w t)
statements_run z (Fault k) e next w t = free (then_does z (Fault k) e next w t)
statements_run z (Return x) e next w t = free (then_does z (Return x) e next w t)

module _ (functions functions' : List (Function Ts)) (literals : List Literal) (size : ℕ → ℕ) (floor room : ℕ) where
  abbrev code : Code Ts
  code = record { functions = functions; literals = literals }

  abbrev code' : Code Ts
  code' = record { functions = functions'; literals = literals }

  abbrev goes : Point → Run Ran
  goes = going Trees code size floor room

  abbrev goes' : Point → Run Ran
  goes' = going Canonical code' size floor room

  abbrev Calls : ℕ → Type 0
  Calls n =
      (m : ℕ) → m ≤ n →
      CallsSimulate 1 added_work size floor marked_entry_units marked_entry_units (runner Trees functions literals size floor room)
      (runner Canonical functions' literals size floor room) functions functions' m

  calls_less : (m n : ℕ) → m ≤ n → Calls n → Calls m
  calls_less m n le h k lk = h k (omega (arith, le, lk))

  abbrev scene : (own n : ℕ) → Calls n → Scene
  scene own n calls = record {
    fuel = n;
    room = room;
    literals = literals;
    enter = enter Trees code size floor room goes;
    enter' = enter Canonical code' size floor room goes';
    later = λ q. with_fuel q.world (goes q);
    later' = λ q. with_fuel q.world (goes' q);
    own = own;
    calls = calls n (omega arith);
  }

  module _ (pay : JoinsPay) (own : ℕ) where
    abbrev Again : (n : ℕ) → Calls n → Type 1
    Again n calls = (out : ℕ → ℕ) (s : Ts) (k : ℕ) → TsPasses (IsBelow own) s → own ≤ k → GoesOn (scene own n calls) out s (linear (inside out) s k).it k
        (linear (inside out) s k).next

    -- a return to a loop's head, with less fuel
    again_next : (n : ℕ) (calls : Calls n) → ((m : ℕ) → m < n → (c : Calls m) → Again m c) → Again n calls
    again_next n calls below_n out s k passes le J r a o o' b b' next next' kept outs backs nexts w t t' near =
        let from : Point = record { statement = Loop s; around = around a o b; next = next; world = w; temps = t } in
        let to : Point = record { statement = Loop (linear (inside out) s k).it.statement; around = around a o' b'; next = next'; world = w; temps = t' } in
        simulates_turn 1 r n w.input (goes from) (goes' to) (λ m lt.
        let c = calls_less m n (omega arith) calls in
        along m r (step Trees code size floor room goes from) (goes from) (step Canonical code' size floor room goes' to) (goes' to)
        (λ i j. trees_step Trees code size floor room from j i) (λ i j. trees_step Canonical code' size floor room to j i)
        ((linear_at (scene own m c) pay (below_n m lt c) (Loop s) out k passes le).done.runs J r a o o' b b' next next' kept
        (λ q w1 t1 u1 near1. simulates_less 1 r m n _ _ (omega arith) (outs q w1 t1 u1 near1)) (λ v w1. simulates_less 1 r m n _ _ (omega arith) (backs v w1))
        (λ w1 t1 u1 near1. simulates_less 1 r m n _ _ (omega arith) (nexts w1 t1 u1 near1)) w t t' near))

    again_below : (n m : ℕ) → m < n → (c : Calls m) → Again m c
    again_below zero m lt c = absurd (omega arith)
    again_below (suc n) m lt c = again_next m c (λ k km d. again_below n k (omega arith) d)

    again_at : (n : ℕ) (calls : Calls n) → Again n calls
    again_at n calls = again_next n calls (λ m lt c. again_below n m lt c)

  pub bodies_carried : JoinsPay → (body : Ts) (temps : ℕ) → AreTempsBelow temps (named_ts body []) →
      BodyCarried 1 added_work size floor marked_entry_units marked_entry_units (runner Trees functions literals size floor room)
      (runner Canonical functions' literals size floor room) functions functions' body (Seq (linearized body temps).it)
  bodies_carried pay body temps own n r act back back' w t calls backs =
      let z = scene temps n calls in
      let passes = body_passes (IsBelow temps) body (below_more temps temps (named_ts body []) (omega arith) own) in
      let part = linear (λ k. k) body temps in
      along n (r + 0) _ _ (then_does z (Seq (statements_of part.it.statement)) (outermost act back') (λ w1 t1. wrong w1) w t) _
      (λ i j. trees_step Trees code size floor room (body_point body (outermost act back) w t) j i)
      (λ i j. trees_step Canonical code' size floor room (body_point (Seq (linearized body temps).it) (outermost act back') w t) j i)
      (along n (r + 0) _ _ (then_does z part.it.statement (outermost act back') (λ w1 t1. wrong w1) w t) _ refl
      (statements_run z part.it.statement (outermost act back') (λ w1 t1. wrong w1) w t)
      (credit n r (r + 0) _ _ (omega arith)
      ((linear_at z pay (again_at pay temps n calls) body (λ k. k) temps passes (omega arith)).done.runs (λ w1 t1 u1. Unit {0}) r act (λ k w1 t1. wrong w1)
      (λ k w1 t1. wrong w1) back back' (λ w1 t1. wrong w1) (λ w1 t1. wrong w1)
      (λ e. record { world = λ w1 x t1 u1 h. tt; assigned = λ i v w1 t1 u1 lo hi h. tt; drawn = λ i v w1 t1 u1 lo hi h. tt })
      (λ k w1 t1 u1 h. simulates_stopping 1 r n w1.input Wrong) backs (λ w1 t1 u1 h. simulates_stopping 1 r n w1.input Wrong) w t t
      (record { agree = λ i lt. refl; holds = tt }))))

in_rest : (x : Function Ts) (xs : List (Function Ts)) (y : Function Ts) → Contains xs y → Contains (x ∷ xs) y
in_rest x xs y (k, l, e) = (suc k, omega arith, e)

module _ (pay : JoinsPay) (code : Code Ts) (size : ℕ → ℕ) (floor room : ℕ) where
  abbrev behind : List (Function Ts)
  behind = map in_sequence (canonical_code code).functions

  all_carried : (fs : List (Function Ts)) → ((f : Function Ts) → Contains fs f → HasOwnTemps f) →
      AllCarried 1 added_work size floor marked_entry_units marked_entry_units (runner Trees code.functions code.literals size floor room)
      (runner Canonical behind code.literals size floor room) code.functions behind fs (map in_sequence (map canonical fs))
  all_carried [] h = none
  all_carried (f ∷ fs) h =
      one f.label f.params f.slots f.temps (canonical f).temps f.out f.out f.body (Seq (canonical f).body) fs (map in_sequence (map canonical fs))
      (bodies_carried code.functions behind code.literals size floor room pay f.body f.temps (h f (0, omega arith, refl)))
      (all_carried fs (λ g c. h g (in_rest f fs g c)))

  entries_pay :
      EntriesPay 1 added_work size floor marked_entry_units marked_entry_units
      (runner Trees code.functions code.literals size floor room) (runner Canonical behind code.literals size floor room) code.functions behind
  entries_pay k = omega arith

  pub calls_are_carried : (n : ℕ) → ((f : Function Ts) → Contains code.functions f → HasOwnTemps f) →
      CallsSimulate 1 added_work size floor marked_entry_units marked_entry_units (runner Trees code.functions code.literals size floor room)
      (runner Canonical behind code.literals size floor room) code.functions behind n
  calls_are_carried n h =
      calls_carried 1 added_work size floor marked_entry_units marked_entry_units (runner Trees code.functions code.literals size floor room)
      (runner Canonical behind code.literals size floor room) code.functions behind entries_pay (all_carried code.functions h) n

  pub programs_are_preserved : (body : ℕ) (input : List ℕ) → ((f : Function Ts) → Contains code.functions f → HasOwnTemps f) →
      Preserves 1 added_work (tree_run Trees code size floor room body input) (canonical_run (canonical_code code) size floor room body input)
  programs_are_preserved body input h =
      simulation_preserves 1 added_work _ _ (λ n.
      programs_carried 1 added_work size floor marked_entry_units marked_entry_units (runner Trees code.functions code.literals size floor room)
      (runner Canonical behind code.literals size floor room) code.functions behind entries_pay (all_carried code.functions h) n
      body [] stack_top _ _ (record { memory = begin code.literals; input = input }) 0 (λ v w. simulates_stopping 1 0 n w.input (Ended (Exit (pos 0)))))
