-- Whole programs: their first activation, after which nothing is.
use Rattle.std.proofs.Common.{◌≡◌, ◌≤◌, ℕ, ◌+◌, List, [], ◌∷◌, map, Bool, true, false, refl, sym, subst, arith, pos}
use Rattle.std.specs.Prelude.{◌==◌, nat_lt, Option, Some, if◌then◌else◌}
use Rattle.std.specs.List.{AllByRecursion}
use Rattle.tg_machine_state.specs.declared.ends.RunEnd.TheVariants.{Exit, StackFull}
use Rattle.tg_machine_state.specs.State.{stack_top}
use Rattle.tg_simulation.specs.Runs.{Run}
use Rattle.tg_simulation.specs.Ran.{Ran, Ended, Wrong}
use Rattle.tg_simulation.specs.Preserving.{Preserves}
use Rattle.tg_simulation.specs.laws.Simulating.{Simulates}
use Rattle.tg_simulation.proofs.Simulations.{simulation_preserves, simulates_wrong, simulates_stopping}
use Rattle.tg_tree.specs.Tree.{Linear, Function}
use Rattle.tg_tree.specs.Memory.{Closed, Unset, begin}
use Rattle.tg_tree.specs.Actions.{World, Activation, over}
use Rattle.tg_tree.specs.Holding as holding
use Rattle.tg_tree.specs.Holding.{in_stack}
use Rattle.tg_tree.specs.Flat.{flat_run, run_flat_body}
use Rattle.tg_tree.specs.Running.{placed, entered, function_of, with_slots, without_slots, no_temps, outermost}
use Rattle.tg_instr.specs.declared.instr.Instr.{Instr}
use Rattle.tg_instr.specs.Contents.{no_contents, at_entry}
use Rattle.tg_instr.specs.Running.{CodePoint, begin_code, code_run, with_frame}
use Rattle.tg_munch.specs.mirror.Bodies.{munched}
use Rattle.tg_simulation.specs.Bytes.{AreBytes}
use Rattle.tg_munch_proof.specs.glue.Places.{each_one}
use Rattle.tg_munch_proof.specs.Words.{AreWords}
use Rattle.tg_munch_proof.specs.laws.Chosen.{chosen, added_work}
use Rattle.tg_munch_proof.specs.glue.Outlines.{Outline, IsAbove, IsTop}
use Rattle.tg_munch_proof.specs.glue.Relating.{Program, AreAlike, BodyMatches, going, going_behind, code_behind}
use Rattle.tg_munch_proof.proofs.Linked.{placed_case, not_below, calls_match}

abbrev nothing_open : Outline
nothing_open = record { low = stack_top; shut = λ a. false; for_arguments = λ a. false }

not_so : {P : Type 0} → false ≡ true → P
not_so e = cc

module _ (program : Program) (input : List ℕ)
    (words : AreWords (begin program.code.literals)) (bytes : AreBytes input) (stack : program.floor ≤ stack_top)
    (bodies : AllByRecursion (BodyMatches program) program.code.functions) (n : ℕ) where
  abbrev world : World
  world = record { memory = begin program.code.literals; input = input }

  alike : AreAlike program nothing_open world world
  alike = record {
    holds = in_stack (begin program.code.literals).statics [] input (λ a. Closed) (λ a. Closed) (λ a. holding.elsewhere Closed);
    closed = λ a lt. refl;
    shut = λ a e. refl;
    for_arguments = λ a e. not_so e;
    words = words;
    input = bytes;
    statics = omega arith;
    heap = omega arith;
  }

  top : IsTop program.floor stack_top 0
  top = record { words = refl; above = stack; below = omega arith }

  above : IsAbove stack_top nothing_open
  above = record { shut = λ a e. not_so e; for_arguments = λ a e. not_so e }

  abbrev ends : {A : Type 0} → A → World → Run Ran
  ends v w = over (Ended (Exit (pos 0))) w

  abbrev activation : Function (List Linear) → Activation
  activation f = record { base = stack_top; size = program.size f.label }

  abbrev flat_goes : Option (Function (List Linear)) → Run Ran
  flat_goes f =
      entered program.size program.floor
      (run_flat_body program.code program.size program.floor program.room (going program)) f [] stack_top ends world

  abbrev code_goes : Option (Function (List Instr)) → Run Ran
  code_goes g =
      begin_code each_one (code_behind program) program.size program.floor program.room (going_behind program) g
      (at_entry no_contents) stack_top ends world

  abbrev fits_or_full : (f : Function (List Linear)) → Bool → Run Ran
  fits_or_full f b =
      if b then over (Ended StackFull) world else
      placed stack_top f.params [] (with_slots f stack_top world) no_temps
      (run_flat_body program.code program.size program.floor program.room (going program) f.body
      (outermost (activation f) (λ v w1. ends v (without_slots f stack_top w1))))

  abbrev begun : (f : Function (List Linear)) → CodePoint
  begun f = record {
    function = chosen f;
    rest = (munched f).code;
    activation = activation f;
    back = λ c x2. ends c (with_frame (chosen f) (activation f) Closed x2);
    world = with_frame (chosen f) (activation f) Unset world;
    contents = at_entry no_contents;
  }

  abbrev fits_or_full_behind : (f : Function (List Linear)) → Bool → Run Ran
  fits_or_full_behind f b =
      if b then over (Ended StackFull) world else going_behind program (begun f)

  same_end : (w x : World) → holding.WorldHoldsAtLeast w x → Simulates 1 0 n (over (Ended (Exit (pos 0))) w) (over
      (Ended (Exit (pos 0))) x)
  same_end w x (in_stack statics heap inputs c c' m) = simulates_stopping 1 0 n inputs (Ended (Exit (pos 0)))

  begins_by : (f : Function (List Linear)) → BodyMatches program f → (b : Bool) → nat_lt
      stack_top (program.floor + program.size f.label) ≡ b →
      Simulates 1 added_work n (fits_or_full f b) (fits_or_full_behind f b)
  begins_by f body true e = simulates_stopping 1 added_work n input (Ended StackFull)
  begins_by f body false e =
      placed_case added_work n stack_top f.params [] (with_slots f stack_top world) no_temps _ _
      (λ w1 t1 p. body n 0 [] no_contents (activation f) nothing_open ends ends world world w1 t1
      (λ m le. calls_match program bodies m)
      (record {
        frame = refl;
        fits = not_below stack_top (program.floor + program.size f.label) e;
        words = refl;
        below = omega arith;
        low = refl;
        apart = above;
      })
      top tt alike (λ v w x word q. same_end w x q.holds) p)

  begins : (f : Function (List Linear)) → BodyMatches program f → (b : Bool) → nat_lt
      stack_top (program.floor + program.size f.label) ≡ b →
      Simulates 1 added_work n (flat_goes (Some f)) (code_goes (Some (chosen f)))
  begins f body b e = subst (λ c. Simulates 1 added_work n (fits_or_full f c) (fits_or_full_behind f c)) (sym e)
      (begins_by f body b e)

  one_of : (b : Bool) (f : Function (List Linear)) (o1 : Option (Function (List Linear))) (o2 : Option (Function
      (List Instr))) →
      Simulates 1 added_work n (flat_goes (Some f)) (code_goes (Some (chosen f))) → Simulates 1 added_work n
      (flat_goes o1) (code_goes o2) →
      Simulates 1 added_work n (flat_goes (if b then Some f else o1)) (code_goes (if b then Some (chosen f) else o2))
  one_of true f o1 o2 h k = h
  one_of false f o1 o2 h k = k

  pub found : (label : ℕ) (fs : List (Function (List Linear))) → AllByRecursion (BodyMatches program) fs →
      Simulates 1 added_work n (flat_goes (function_of label fs)) (code_goes (function_of label (map chosen fs)))
  found label [] h = simulates_wrong 1 added_work n (over Wrong world) _ (λ i. refl)
  found label (f ∷ fs) h = one_of (f.label == label) f (function_of label fs) (function_of label (map chosen fs))
      (begins f h.0 _ refl) (found label fs h.1)

-- what each body does is enough
pub programs_match : (program : Program) (body : ℕ) (input : List ℕ) →
    AreWords (begin program.code.literals) → AreBytes input → program.floor ≤ stack_top →
    AllByRecursion (BodyMatches program) program.code.functions →
    Preserves 1 added_work (flat_run program.code program.size program.floor program.room body input)
    (code_run each_one (code_behind program) program.size program.floor program.room body input)
programs_match program body input words bytes stack bodies =
    simulation_preserves 1 added_work _ _
    (λ n. found program input words bytes stack bodies n body program.code.functions bodies)
