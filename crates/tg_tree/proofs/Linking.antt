-- Where each function is carried, calls are, and so is a program from its first activation on.
use Rattle.std.proofs.Common.{ℕ, zero, suc, ◌+◌, ◌*◌, ◌<◌, ◌≤◌, List, [], ◌∷◌, length, Bool, true, false, Option, Some, arith}
use Rattle.std.specs.Prelude.{◌==◌, nat_lt, if◌then◌else◌}
use Rattle.tg_machine_state.specs.declared.ends.RunEnd.TheVariants.{StackFull}
use Rattle.tg_frame.specs.declared.accesses.Access.{Access}
use Rattle.tg_frame.specs.declared.accesses.Access.TheVariants.{InTemp, InFrame}
use Rattle.tg_simulation.specs.Runs.{Run}
use Rattle.tg_simulation.specs.Ran.{Ran, Ended, Wrong, works}
use Rattle.tg_simulation.specs.laws.Simulating.{Simulates}
use Rattle.tg_simulation.proofs.Simulations.{simulates_stopping, simulates_turn, simulates_less, simulates_paying, simulates_working, simulates_with_credit}
use Rattle.tg_tree.specs.Tree.{Function}
use Rattle.tg_tree.specs.Memory.{Has, put, slot}
use Rattle.tg_tree.specs.Actions.{World, Temps, set_temp, Activation, Next, Back}
use Rattle.tg_tree.specs.Running.{Runner, function_of, placed, entered, fuelled, outermost, without_slots, no_temps}
use Rattle.tg_tree.specs.Carrying.{BacksSimulate, CallsSimulate, EntriesPay, BodyCarried, AllCarried, none, one, CallsCarried, ProgramsCarried}

module _ (a r n : ℕ) where
  simulates_if : (b : Bool) (c c' d d' : Run Ran) → Simulates a r n c d → Simulates a r n c' d' → Simulates a r n (if b then c else c') (if b then d else d')
  simulates_if true c c' d d' h k = h
  simulates_if false c c' d d' h k = k

  placed_simulates : (base : ℕ) (homes : List Access) (vs : List ℕ) (w : World) (t : Temps) (p q : Next) →
      ((w1 : World) (t1 : Temps) → Simulates a r n (p w1 t1) (q w1 t1)) → Simulates a r n (placed base homes vs w t p) (placed base homes vs w t q)
  placed_simulates base [] [] w t p q h = h w t
  placed_simulates base [] (v ∷ vs) w t p q h = simulates_stopping a r n w.input Wrong
  placed_simulates base (InTemp i ∷ homes) [] w t p q h = simulates_stopping a r n w.input Wrong
  placed_simulates base (InFrame k ∷ homes) [] w t p q h = simulates_stopping a r n w.input Wrong
  placed_simulates base (InTemp i ∷ homes) (v ∷ vs) w t p q h = placed_simulates base homes vs w (set_temp i.0 v t) p q h
  placed_simulates base (InFrame k ∷ homes) (v ∷ vs) w t p q h =
      placed_simulates base homes vs (record w { memory = put (slot base k) (Has v) w.memory }) t p q h

  -- two functions that differ in their temporaries and bodies alone
  pub entered_simulates : {A B : Type 0} (size : ℕ → ℕ) (floor : ℕ) (runner : Runner A) (runner' : Runner B) (label : ℕ)
      (params : List Access) (slots temps temps' out out' : ℕ) (s : A) (s' : B) (vs : List ℕ) (top : ℕ) (back back' : Back) (w : World) →
      let f : Function A = record { label = label; params = params; slots = slots; temps = temps; out = out; body = s } in
      let g : Function B = record { label = label; params = params; slots = slots; temps = temps'; out = out'; body = s' } in
      ((w1 : World) (t1 : Temps) →
      Simulates a r n (runner s (outermost (record { base = top; size = size label }) (λ v w2. back v (without_slots f top w2))) w1 t1)
      (runner' s' (outermost (record { base = top; size = size label }) (λ v w2. back' v (without_slots g top w2))) w1 t1)) →
      Simulates a r n (entered size floor runner (Some f) vs top back w) (entered size floor runner' (Some g) vs top back' w)
  entered_simulates size floor runner runner' label params slots temps temps' out out' s s' vs top back back' w h =
      simulates_if (nat_lt top (floor + size label)) _ _ _ _ (simulates_stopping a r n w.input (Ended StackFull))
      (placed_simulates top params vs _ no_temps _ _ (λ w1 t1. h w1 t1))

backs_less : (a r m n : ℕ) (back back' : Back) → m ≤ n → BacksSimulate a r n back back' → BacksSimulate a r m back back'
backs_less a r m n back back' le h v w = simulates_less a r m n (back v w) (back' v w) le (h v w)

-- both pay, the first enough for the second's and e units more
paid : (a e n k k' r : ℕ) (c d : Run Ran) → k' + e ≤ a * k → Simulates a (r + e) n c d → Simulates a (r + 0) n (λ i. works k (c i)) (λ j. works k' (d j))
paid a e n k k' r c d le h =
    simulates_paying a (r + 0) n k c (λ j. works k' (d j))
    (simulates_with_credit a (r + e + k') (r + 0 + a * k) n c (λ j. works k' (d j)) (omega (arith, le)) (simulates_working a (r + e) n k' c d h))

module _ {A B : Type 0} (a e : ℕ) (size : ℕ → ℕ) (floor : ℕ) (units units' : ℕ → ℕ) (runner : Runner A) (runner' : Runner B)
    (functions : List (Function A)) (functions' : List (Function B)) where
  abbrev Calls : ℕ → Type 0
  Calls n = CallsSimulate a e size floor units units' runner runner' functions functions' n

  abbrev Carried : List (Function A) → List (Function B) → Type 0
  Carried fs gs = AllCarried a e size floor units units' runner runner' functions functions' fs gs

  abbrev Pay : Type 0
  Pay = EntriesPay a e size floor units units' runner runner' functions functions'

  -- one of two that were found
  either : (n r : ℕ) (first : Runner A) (first' : Runner B) (b : Bool) (f : Option (Function A)) (g : Option (Function B))
      (o : Option (Function A)) (p : Option (Function B)) (vs : List ℕ) (top : ℕ) (back back' : Back) (w : World) →
      Simulates a r n (entered size floor first f vs top back w) (entered size floor first' g vs top back' w) →
      Simulates a r n (entered size floor first o vs top back w) (entered size floor first' p vs top back' w) →
      Simulates a r n (entered size floor first (if b then f else o) vs top back w) (entered size floor first' (if b then g else p) vs top back' w)
  either n r first first' true f g o p vs top back back' w h k = h
  either n r first first' false f g o p vs top back back' w h k = k

  -- where each body that is carried does what it did, run so, the function that is found does
  module _ (n : ℕ) (first : Runner A) (first' : Runner B) (runs : (s : A) (s' : B) →
      BodyCarried a e size floor units units' runner runner' functions functions' s s' →
      (r : ℕ) (activation : Activation) (back back' : Back) (w : World) (t : Temps) → BacksSimulate a r n back back' →
      Simulates a (r + e) n (first s (outermost activation back) w t) (first' s' (outermost activation back') w t)) where
    found : (fs : List (Function A)) (gs : List (Function B)) → Carried fs gs →
        (label : ℕ) (vs : List ℕ) (top : ℕ) (back back' : Back) (w : World) (r : ℕ) → BacksSimulate a r n back back' →
        Simulates a (r + e) n (entered size floor first (function_of label fs) vs top back w) (entered size floor first' (function_of label gs) vs top back' w)
    found fs gs none label vs top back back' w r h = simulates_stopping a (r + e) n w.input Wrong
    found fs gs (one here params slots temps temps' out out' s s' fs1 gs1 carried rest) label vs top back back' w r h =
        let f : Function A = record { label = here; params = params; slots = slots; temps = temps; out = out; body = s } in
        let g : Function B = record { label = here; params = params; slots = slots; temps = temps'; out = out'; body = s' } in
        either n (r + e) first first' (here == label) (Some f) (Some g) (function_of label fs1) (function_of label gs1) vs top back back' w
        (entered_simulates a (r + e) n size floor first first' here params slots temps temps' out out' s s' vs top back back' w
        (λ w1 t1. runs s s' carried r (record { base = top; size = size here }) _ _ w1 t1 (λ v w2. h v (without_slots f top w2))))
        (found fs1 gs1 rest label vs top back back' w r h)

  -- calls with so much fuel, where they are with less
  calls_next : Pay → Carried functions functions' → (n : ℕ) → ((m : ℕ) → m < n → Calls m) → Calls n
  calls_next pays c n below label vs top back back' w r h =
      paid a e n (units (length vs)) (units' (length vs)) r _ _ (pays (length vs))
      (found n (fuelled runner) (fuelled runner')
      (λ s s' carried r1 act b b' w1 t1 hb. simulates_turn a (r1 + e) n w1.input _ _
      (λ m lt. carried m r1 act b b' w1 t1 (λ j le. below j (omega (arith, le, lt))) (backs_less a r1 m n b b' (omega arith) hb)))
      functions functions' c label vs top back back' w r h)

  calls_below : Pay → Carried functions functions' → (n m : ℕ) → m < n → Calls m
  calls_below pays c zero m lt = absurd (omega arith)
  calls_below pays c (suc n) m lt = calls_next pays c m (λ k km. calls_below pays c n k (omega arith))

  pub calls_carried : CallsCarried a e size floor units units' runner runner' functions functions'
  calls_carried pays c n = calls_next pays c n (λ m lt. calls_below pays c n m lt)

  pub programs_carried : ProgramsCarried a e size floor units units' runner runner' functions functions'
  programs_carried pays c n label vs top back back' w r h =
      found n runner runner' (λ s s' carried r1 act b b' w1 t1 hb. carried n r1 act b b' w1 t1 (λ m le. calls_carried pays c m) hb)
      functions functions' c label vs top back back' w r h
