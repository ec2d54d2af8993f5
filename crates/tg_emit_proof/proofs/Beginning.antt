-- The first activation, the last fetch of a run, and with them the first half.
use Rattle.std.proofs.Common.{ℕ, suc, ◌≡◌, ◌<◌, ◌≤◌, ◌+◌, ◌-◌, ◌%◌, ◌^◌, ◌==◌, List, [], ◌∷◌, ◌++◌, length}
use Rattle.std.proofs.Common.{replicate, pos, refl, ap, sym, subst, arith, eqb-true, codes, Bool, true, false, Option}
use Rattle.std.proofs.Common.{Some, None}
use Rattle.std.proofs.lemmas.Bool.Decides.{nat_tests}
use Rattle.std.proofs.lemmas.Grind.{common_steps}
use Rattle.std.proofs.lemmas.List.Elements.{All-set, All-replicate}
use Rattle.std.specs.Prelude.{Err, if◌then◌else◌, nat_lt}
use Rattle.std.specs.List.{Contains}
use Rattle.tg_machine_state.specs.declared.ends.RunEnd.TheVariants.{Exit, StackFull}
use Rattle.tg_machine_state.specs.State.{MachineState, register, initial_machine, floor, stack_top, most_bytes, load_word}
use Rattle.tg_machine_state.specs.State.{padded, word_at}
use Rattle.tg_simulation.specs.Runs.{Run}
use Rattle.tg_simulation.specs.Ran.{Ran, Ended}
use Rattle.tg_simulation.specs.laws.Simulating.{Simulates}
use Rattle.tg_simulation.specs.Preserving.{Preserves}
use Rattle.tg_simulation.proofs.Simulations.{simulation_preserves, simulates_wrong, simulates_coming, simulates_stopping}
use Rattle.tg_isa.specs.declared.mips.Mips.TheVariants as row
use Rattle.tg_tree.specs.Memory as memory
use Rattle.tg_tree.specs.Memory.{Unset, Closed}
use Rattle.tg_tree.specs.Actions.{World, Activation, over}
use Rattle.tg_tree.specs.Running.{function_of}
use Rattle.tg_tree.specs.Tree.{Function}
use Rattle.tg_instr.specs.declared.instr.Instr.{Instr}
use Rattle.tg_instr.specs.Contents.{Nothing, Word, no_contents, at_entry}
use Rattle.tg_instr.specs.Running.{CodePoint, code_run, with_frame}
use Rattle.tg_emit.specs.declared.assembly.Line.{Line}
use Rattle.tg_emit.specs.mirror.Names.{function_name}
use Rattle.tg_emit.specs.mirror.Lines.{alone, lowered, code_lines}
use Rattle.tg_simulation.specs.Bytes.{AreBytes}
use Rattle.tg_emit_proof.specs.LinesRun.{behind, lines_run, statics_of, left, at_zero}
use Rattle.tg_emit_proof.specs.Setting.{entry_steps, emitted_units, Setting, from, back_to, going_to, later}
use Rattle.tg_emit_proof.specs.Setting.{begin_with}
use Rattle.tg_emit_proof.specs.glue.Standing.{Finds, IsHeld, HasRegisters, AreWhole, HasMemory, HasSizes, HasFrame}
use Rattle.tg_emit_proof.specs.glue.Standing.{BackGoesOn, Stands}
use Rattle.tg_emit_proof.specs.glue.Situation.{HasSize, IsEmitted, point}
use Rattle.tg_emit_proof.proofs.Calling.{linked, linked_there, entry_registers}
use Rattle.tg_emit_proof.proofs.Entering.{in_stack_there, full_there, lower, entry_comes, entry_is_full}
use Rattle.tg_emit_proof.proofs.Frames.{found_in, owns_slots, opened}
use Rattle.tg_emit_proof.proofs.Instructions.{emitted_code_goes_on}

module _ (g : Setting) where
  abbrev s0 : MachineState
  s0 = initial_machine [] (statics_of g.literals) 0 g.room g.stack

  abbrev outside : Activation
  outside = record { base = stack_top; size = 0 }

  first_registers : HasRegisters (λ r. 0) outside no_contents s0
  first_registers = record {
    count = refl;
    words = All-set (λ v. v < 2 ^ 32) (replicate 32 0) 29 stack_top (omega arith)
        (All-replicate (λ v. v < 2 ^ 32) 32 0 (omega arith));
    each = λ r n. by r (r == 0) refl (r == 29) refl;
    high = tt;
    low = tt;
    high_word = omega arith;
    low_word = omega arith;
  }
    where
      by : (r : ℕ) (b : Bool) → (r == 0) ≡ b → (c : Bool) → (r == 29) ≡ c →
          IsHeld (λ q. 0) (if b then Word 0 else if c then Word (stack_top - 0) else Nothing) (register s0 r)
      by r true e c f = subst (λ q. register s0 q ≡ 0) (sym (eqb-true r 0 e)) refl
      by r false e true f = subst (λ q. register s0 q ≡ stack_top) (sym (eqb-true r 29 f)) refl
      by r false e false f = tt

  -- at the end of the run the place is 0
  last_goes_on : (n : ℕ) (finds : Finds) (found : ℕ → ℕ) → found 31 ≡ 0 →
      BackGoesOn g 1 n finds found stack_top (λ c w. over (Ended (Exit (pos 0))) w)
  last_goes_on n finds found none c w t sizes memory back handed input =
      let to : back_to g (found 31) ≡ Some at_zero = ap (λ v. back_to g v) none in
      subst (λ o. Simulates 1 1 n (over (Ended (Exit (pos 0))) w) (going_to g o t w.input)) (sym to)
      (simulates_coming 1 0 n 1 _ _ _
      (λ i. (suc i, omega arith, 1, omega arith, refl))
      (simulates_stopping 1 0 n w.input (Ended (Exit (pos 0)))))

-- the statics are those of the code's literals, in whole words, and fit
pub record StaticsAre (g : Setting) : Type 0 where
  pub same : padded (statics_of g.literals) ≡ memory.statics_of g.program.literals
  pub whole : AreWhole (memory.statics_of g.program.literals)
  pub short : length (padded (statics_of g.literals)) ≤ most_bytes

module _ (g : Setting) (known : IsEmitted g) (statics : StaticsAre g) (input : List ℕ)
    (bytes : AreBytes input) (f : Function (List Instr)) (c : Contains g.program.functions f) where
  -- $ra has 0
  abbrev s1 : MachineState
  s1 = linked (s0 g) 0

  abbrev size : ℕ
  size = g.size f.label

  abbrev there : MachineState
  there = lower s1 size

  abbrev w : World
  w = record { memory = memory.begin g.program.literals; input = input }

  abbrev frame : Activation
  frame = record { base = stack_top; size = size }

  abbrev found : ℕ → ℕ
  found r = register there r

  abbrev finds : Finds
  finds = found_in stack_top f.slots found (λ a r. 0)

  abbrev inside : List Line
  inside = code_lines g.turned f.label size 0 f.body ++ (known.functions f c).after

  abbrev first : CodePoint
  first =
      point f f.body frame (λ d w1. over (Ended (Exit (pos 0))) (with_frame f frame Closed w1))
      (with_frame f frame Unset w) (at_entry no_contents)

  size_is : HasSize size f
  size_is = known.frames f c

  stack_is : length {A = ℕ} (replicate g.stack 0) ≡ g.stack
  stack_is = grind (arith, common_steps)

  sizes_there : HasSizes g there
  sizes_there = record { heap = refl; taken = omega arith; whole = stack_is; statics = statics.short }

  memory_there : HasMemory (λ a r. 0) (memory.begin g.program.literals) there
  memory_there = record {
    statics = statics.same;
    heap = refl;
    stack = All-replicate (λ b. b < 256) g.stack 0 (omega arith);
    cells = λ a. tt;
    whole_statics = statics.whole;
    whole_heap = ((λ i d l. absurd (omega (arith, l))), refl);
  }

  stands : floor there + size ≤ stack_top → Stands g finds found first inside there
  stands fits =
      let z = size_is in
      let p = known.functions f c in
      let most = z.most in
      let i : HasFrame frame f there =
      record { words = refl; size_words = z.whole; holds = z.holds; above = fits; below = omega arith } in
      record {
        function = c;
        placed = p;
        front = [];
        code = refl;
        place = 0;
        here = refl;
        before = p.before;
        whole = p.whole;
        sizes = sizes_there;
        sized = refl;
        frame = i;
        registers = entry_registers (λ r. 0) (outside g) no_contents (s0 g) 0 size (first_registers g) (omega arith)
            (omega (arith, most)) (omega arith);
        memory = opened f frame there found (λ a r. 0) i w memory_there;
        owns = λ j h. owns_slots stack_top f.slots found (λ a r. 0) j h;
        input = bytes;
      }

  abbrev entering : Run Ran
  entering = from g (lowered size ++ alone (row.Lw 0 0 29) ∷ inside) s1 input

  begins : (n : ℕ) → Simulates 1 (entry_steps + 1) n
      (begin_with g (later g) (Some f) (at_entry no_contents) stack_top (λ d w1. over (Ended (Exit (pos 0))) w1) w)
      entering
  begins n = by (nat_lt stack_top (stack_top - g.stack + size)) refl
    where
      some : 0 < size
      some = let l = size_is.some in omega (arith, l)

      within : size ≤ stack_top
      within = let m = size_is.most in omega (arith, m)

      whole : (stack_top - size) % 4 ≡ 0
      whole = let z = size_is in let w = z.whole in let m = z.most in omega (arith, w, m)

      by : (b : Bool) → nat_lt stack_top (stack_top - g.stack + size) ≡ b →
          Simulates 1 (entry_steps + 1) n (if b then over (Ended StackFull) w else later g first) entering
      by true e =
          let l : stack_top < stack_top - g.stack + size = grind (arith, nat_tests, e) in
          let k = stack_is in let m = size_is.most in let most = known.stack_most in let short = statics.short in
          let loads : load_word s1 (stack_top - size) ≡ Err StackFull =
          full_there s1 (stack_top - size) whole (omega (arith, m)) (omega (arith, l, k, most, m)) (omega arith)
          (omega (arith, short)) in
          simulates_coming 1 1 n 4 _ _ _
          (entry_is_full g size s1 input refl some size_is.most within (omega arith) inside loads)
          (simulates_stopping 1 1 n input (Ended StackFull))
      by false e =
          let l : stack_top - g.stack + size ≤ stack_top = grind (arith, nat_tests, e) in
          let k = stack_is in let z = size_is.some in let most = known.stack_most in
          let fits : floor there + size ≤ stack_top = omega (arith, l, k) in
          let loads = in_stack_there s1 (stack_top - size) whole (omega (arith, fits)) (omega (arith, z, within))
          (omega (arith, k, most)) in
          simulates_coming 1 1 n 4 _ _ _
          (entry_comes g size s1 input refl some size_is.most within (omega arith) inside
          (word_at s1.stack (stack_top - size - floor s1)) loads)
          (emitted_code_goes_on g known 1 n finds found first inside there (stands fits)
          (last_goes_on g n finds found (linked_there (s0 g) 0 size refl)))

-- The first half, for a program whose lines are known.
pub emitted_runs_keep : (g : Setting) → IsEmitted g → StaticsAre g → (input : List ℕ) → AreBytes input →
    Preserves 1 (entry_steps + 1)
    (code_run emitted_units g.program g.size (stack_top - g.stack) g.room 32 input)
    (lines_run g.returns g.lines g.literals input g.room g.stack)
emitted_runs_keep g known statics input bytes =
    simulation_preserves 1 (entry_steps + 1) _ _ (by (function_of 32 g.program.functions) refl)
  where
    begun : Option (Function (List Instr)) → Run Ran
    begun o =
        begin_with g (later g) o (at_entry no_contents) stack_top (λ d w1. over (Ended (Exit (pos 0))) w1)
        (record { memory = memory.begin g.program.literals; input = input })

    by : (o : Option (Function (List Instr))) → function_of 32 g.program.functions ≡ o → (n : ℕ) →
        Simulates 1 (entry_steps + 1) n (begun o) (lines_run g.returns g.lines g.literals input g.room g.stack)
    by None e n = simulates_wrong 1 (entry_steps + 1) n _ _ (λ i. refl)
    by (Some f) e n =
        let h = known.found 32 f e in
        let p = known.functions f h.0 in
        let to : behind (codes "main") g.lines
        ≡ Some (left (lowered (g.size f.label) ++ alone (row.Lw 0 0 29) ∷ inside g known statics input bytes f h.0)) =
        subst (λ l. behind (function_name l) g.lines
        ≡ Some (left (lowered (g.size f.label) ++ alone (row.Lw 0 0 29) ∷ inside g known statics input bytes f h.0)))
        h.1 p.entered in
        subst (λ o. Simulates 1 (entry_steps + 1) n (begun (Some f)) (going_to g o (s0 g) input)) (sym to)
        (begins g known statics input bytes f h.0 n)
