-- Where each body does what it did if calls do, calls do: by induction on fuel.
use Rattle.std.proofs.Common.{◌≡◌, ◌≤◌, ◌<◌, ℕ, zero, suc, ◌+◌, ◌*◌, List, [], ◌∷◌, length, map, Bool, true, false}
use Rattle.std.proofs.Common.{refl, sym, ◌∙◌, subst, arith}
use Rattle.std.proofs.lemmas.Bool.Decides.{nat_tests}
use Rattle.std.specs.Prelude.{◌==◌, nat_lt, Option, Some, if◌then◌else◌}
use Rattle.std.specs.List.{AllByRecursion}
use Rattle.tg_machine_state.specs.declared.ends.RunEnd.TheVariants.{StackFull}
use Rattle.tg_frame.specs.declared.accesses.Access.{Access}
use Rattle.tg_frame.specs.declared.accesses.Access.TheVariants.{InTemp, InFrame}
use Rattle.tg_simulation.specs.Runs.{Run, turn}
use Rattle.tg_simulation.specs.Ran.{Ran, Ended, WantsFuel, Wrong, stops}
use Rattle.tg_simulation.specs.laws.Simulating.{Simulates}
use Rattle.tg_simulation.proofs.Simulations.{simulates_wrong, simulates_stopping, simulates_turn, simulates_less}
use Rattle.tg_simulation.proofs.Simulations.{simulates_paying, simulates_with_credit}
use Rattle.tg_tree.specs.Tree.{Linear, Function}
use Rattle.tg_tree.specs.Memory.{Has, Unset, Closed, put, slot}
use Rattle.tg_tree.specs.Units.{entry_units, parameter_units}
use Rattle.tg_tree.specs.Actions.{World, Temps, set_temp, Activation, Next, over, Back as TreeBack}
use Rattle.tg_tree.specs.Holding.{WorldHoldsAtLeast, in_stack}
use Rattle.tg_tree.specs.Flat.{run_flat_body}
use Rattle.tg_tree.specs.Running.{placed, entered, fuelled, function_of, with_fuel, with_slots, without_slots}
use Rattle.tg_tree.specs.Running.{no_temps, outermost}
use Rattle.tg_instr.specs.declared.instr.Instr.{Instr}
use Rattle.tg_instr.specs.Contents.{Contents, at_entry}
use Rattle.tg_instr.specs.Meaning.{Back}
use Rattle.tg_instr.specs.Running.{CodePoint, begin_code, with_frame}
use Rattle.tg_munch.specs.laws.Lengths.{kept_count}
use Rattle.tg_munch.specs.mirror.Bodies.{munched}
use Rattle.tg_munch_proof.specs.glue.Places.{each_one}
use Rattle.tg_munch_proof.specs.laws.Chosen.{chosen}
use Rattle.tg_munch_proof.specs.glue.Outlines.{Outline, IsAbove, IsTop}
use Rattle.tg_munch_proof.specs.glue.Relating.{Program, AreAlike, ArePassed, EntersMatch, BacksMatch, IsActivation}
use Rattle.tg_munch_proof.specs.glue.Relating.{BodyMatches, IsPlaced, placed_all, placed_in_temp, placed_in_frame, going}
use Rattle.tg_munch_proof.specs.glue.Relating.{going_behind, code_behind}

-- arguments are placed, or the run goes wrong
pub placed_case : (r n base : ℕ) (homes : List Access) (vs : List ℕ) (w : World) (t : Temps) (next : Next) (d : Run
    Ran) →
    ((w1 : World) (t1 : Temps) → IsPlaced base homes vs w t w1 t1 → Simulates 1 r n (next w1 t1) d) → Simulates 1 r n
    (placed base homes vs w t next) d
placed_case r n base [] [] w t next d h = h w t (placed_all w t)
placed_case r n base [] (v ∷ vs) w t next d h = simulates_wrong 1 r n (over Wrong w) d (λ i. refl)
placed_case r n base (InTemp i ∷ homes) [] w t next d h = simulates_wrong 1 r n (over Wrong w) d (λ i. refl)
placed_case r n base (InFrame k ∷ homes) [] w t next d h = simulates_wrong 1 r n (over Wrong w) d (λ i. refl)
placed_case r n base (InTemp i ∷ homes) (v ∷ vs) w t next d h =
    placed_case r n base homes vs w (set_temp i.0 v t) next d (λ w1 t1 p. h w1 t1 (placed_in_temp i v homes vs w w1 t
    t1 p))
placed_case r n base (InFrame k ∷ homes) (v ∷ vs) w t next d h =
    placed_case r n base homes vs (record w { memory = put (slot base k) (Has v) w.memory }) t next d
    (λ w1 t1 p. h w1 t1 (placed_in_frame k v homes vs w w1 t t1 p))

placed_input : (base : ℕ) (homes : List Access) (vs : List ℕ) (w w1 : World) (t t1 : Temps) → IsPlaced base homes vs
    w t w1 t1 → w1.input ≡ w.input
placed_input base homes vs w w1 t t1 (placed_all v s) = refl
placed_input base homes vs w w1 t t1 (placed_in_temp i v hs us y y1 s s1 p) = placed_input base hs us y y1 (set_temp
    i.0 v s) s1 p
placed_input base homes vs w w1 t t1 (placed_in_frame k v hs us y y1 s s1 p) = placed_input base hs us _ y1 s s1 p

same_input : (w x : World) → WorldHoldsAtLeast w x → x.input ≡ w.input
same_input w x (in_stack statics heap input c c' m) = refl

pub not_below : (m n : ℕ) → nat_lt m n ≡ false → n ≤ m
not_below m n h = grind (arith, nat_tests)

module _ (program : Program) where
  abbrev Calls : ℕ → Type 0
  Calls n = EntersMatch program n

  abbrev Bodies : Function (List Linear) → Type 0
  Bodies f = BodyMatches program f

  module _ (n : ℕ) (below : (m : ℕ) → m < n → Calls m) (vs : List ℕ) (s : Contents) (o : Outline) (back : TreeBack)
      (back' : Back) (w x : World) (r : ℕ)
      (top : IsTop program.floor o.low (length vs)) (above : IsAbove o.low o) (passed : ArePassed o.low s x.memory 0 vs)
      (alike : AreAlike program o w x) (backs : BacksMatch program r n o back back') where
    abbrev credit : ℕ
    credit = r + (kept_count + parameter_units * length vs)

    abbrev flat_goes : Option (Function (List Linear)) → Run Ran
    flat_goes f =
        entered program.size program.floor
        (fuelled (run_flat_body program.code program.size program.floor program.room (going program)))
        f vs o.low back w

    abbrev code_goes : Option (Function (List Instr)) → Run Ran
    code_goes g =
        begin_code each_one (code_behind program) program.size program.floor program.room
        (λ p. with_fuel p.world (going_behind program p)) g (at_entry s) o.low back' x

    abbrev activation : Function (List Linear) → Activation
    activation f = record { base = o.low; size = program.size f.label }

    abbrev fits_or_full : (f : Function (List Linear)) → Bool → Run Ran
    fits_or_full f b =
        if b then over (Ended StackFull) w else
        placed o.low f.params vs (with_slots f o.low w) no_temps
        (fuelled (run_flat_body program.code program.size program.floor program.room (going program)) f.body
        (outermost (activation f) (λ v w1. back v (without_slots f o.low w1))))

    abbrev begun : (f : Function (List Linear)) → CodePoint
    begun f = record {
      function = chosen f;
      rest = (munched f).code;
      activation = activation f;
      back = λ c x2. back' c (with_frame (chosen f) (activation f) Closed x2);
      world = with_frame (chosen f) (activation f) Unset x;
      contents = at_entry s;
    }

    abbrev fits_or_full_behind : (f : Function (List Linear)) → Bool → Run Ran
    fits_or_full_behind f b =
        if b then over (Ended StackFull) x else
        with_fuel (begun f).world (going_behind program (begun f))

    full : (input input' : List ℕ) → input' ≡ input → Simulates 1 credit n (λ i. stops input (Ended StackFull)) (λ j.
        stops input' (Ended StackFull))
    full input input' e =
        subst (λ y. Simulates 1 credit n (λ i. stops input (Ended StackFull)) (λ j. stops y (Ended StackFull))) (sym
        e) (simulates_stopping 1 credit n input (Ended StackFull))

    turns : (input input' : List ℕ) (c d : Run Ran) → input' ≡ input → ((m : ℕ) → m < n → Simulates 1 credit m c d) →
        Simulates 1 credit n (turn (stops input WantsFuel) c) (turn (stops input' WantsFuel) d)
    turns input input' c d e h =
        subst (λ y. Simulates 1 credit n (turn (stops input WantsFuel) c) (turn (stops y WantsFuel) d)) (sym e)
        (simulates_turn 1 credit n input c d h)

    active : (f : Function (List Linear)) → program.floor + program.size f.label ≤ o.low →
        IsActivation program f (activation f) o
    active f fits =
        let words = top.words in
        let below' = top.below in
        record { frame = refl; fits = fits; words = words; below = omega (arith, below'); low = refl; apart = above }

    begins_by : (f : Function (List Linear)) → Bodies f → (b : Bool) → nat_lt o.low (program.floor + program.size f.label) ≡ b →
        Simulates 1 credit n (fits_or_full f b) (fits_or_full_behind f b)
    begins_by f body true e = full w.input x.input (same_input w x alike.holds)
    begins_by f body false e =
        placed_case credit n o.low f.params vs (with_slots f o.low w) no_temps _ _
        (λ w1 t1 p. turns w1.input x.input _ _ (same_input w x alike.holds ∙ sym (placed_input o.low f.params vs
        (with_slots f o.low w) w1 no_temps t1 p))
        (λ m lt. body m r vs s (activation f) o back back' w x w1 t1
        (λ k le. below k (omega arith)) (active f (not_below o.low (program.floor + program.size f.label) e)) top
        passed alike
        (λ v w2 x2 word q. simulates_less 1 r m n _ _ (omega arith) (backs v w2 x2 word q)) p))

    begins : (f : Function (List Linear)) → Bodies f → (b : Bool) → nat_lt o.low (program.floor + program.size f.label) ≡ b →
        Simulates 1 credit n (flat_goes (Some f)) (code_goes (Some (chosen f)))
    begins f body b e =
        subst (λ c. Simulates 1 credit n (fits_or_full f c) (fits_or_full_behind f c)) (sym e) (begins_by f body b e)

    one_of : (b : Bool) (f : Function (List Linear)) (o1 : Option (Function (List Linear))) (o2 : Option (Function
        (List Instr))) →
        Simulates 1 credit n (flat_goes (Some f)) (code_goes (Some (chosen f))) → Simulates 1 credit n (flat_goes o1)
        (code_goes o2) →
        Simulates 1 credit n (flat_goes (if b then Some f else o1)) (code_goes (if b then Some (chosen f) else o2))
    one_of true f o1 o2 h k = h
    one_of false f o1 o2 h k = k

    found : (label : ℕ) (fs : List (Function (List Linear))) → AllByRecursion Bodies fs →
        Simulates 1 credit n (flat_goes (function_of label fs)) (code_goes (function_of label (map chosen fs)))
    found label [] h = simulates_wrong 1 credit n (over Wrong w) _ (λ i. refl)
    found label (f ∷ fs) h = one_of (f.label == label) f (function_of label fs) (function_of label (map chosen fs))
        (begins f h.0 _ refl) (found label fs h.1)

  calls_next : AllByRecursion Bodies program.code.functions → (n : ℕ) → ((m : ℕ) → m < n → Calls m) → Calls n
  calls_next bodies n below label vs s o back back' w x r top above passed alike backs =
      simulates_paying 1 r n (entry_units (length vs)) _ _
      (simulates_with_credit 1 (r + (kept_count + parameter_units * length vs)) (r + 1 * entry_units (length vs)) n _
      _ (omega arith)
      (found n below vs s o back back' w x r top above passed alike backs label program.code.functions bodies))

  calls_below : AllByRecursion Bodies program.code.functions → (n m : ℕ) → m < n → Calls m
  calls_below bodies zero m lt = absurd (omega arith)
  calls_below bodies (suc n) m lt = calls_next bodies m (λ k km. calls_below bodies n k (omega arith))

  pub calls_match : AllByRecursion Bodies program.code.functions → (n : ℕ) → Calls n
  calls_match bodies n = calls_next bodies n (λ m lt. calls_below bodies n m lt)
