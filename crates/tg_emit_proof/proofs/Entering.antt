-- The entry of a function: $sp is lowered by its frame, and the word there is loaded; where the
-- stack is too small, that ends the run.
use Rattle.std.proofs.Common.{ℕ, ◌≡◌, ◌<◌, ◌≤◌, ◌+◌, ◌-◌, ◌%◌, ◌^◌, ◌==◌, List, [], ◌∷◌, ◌++◌, length, refl, ap}
use Rattle.std.proofs.Common.{◌∙◌, arith}
use Rattle.std.proofs.Common.{Bool, true, false, None}
use Rattle.std.proofs.lemmas.Bool.Decides.{nat_tests}
use Rattle.std.proofs.lemmas.List.{get_or-set_same}
use Rattle.std.specs.Prelude.{Ok, Err, if◌then◌else◌, nat_lt, nat_le}
use Rattle.tg_machine_state.specs.declared.ends.RunEnd.TheVariants.{StackFull}
use Rattle.tg_base.specs.Words.{add, sub, extended}
use Rattle.tg_machine_state.specs.State.{MachineState, register, set_register, floor, stack_top, stack_reach}
use Rattle.tg_machine_state.specs.State.{load_word, word_there, word_at, offset, in_stack, in_heap, in_statics, fault}
use Rattle.tg_machine_state.specs.State.{heap_base, statics_base}
use Rattle.tg_machine_state.specs.Services as machine
use Rattle.tg_simulation.specs.Ran as ran
use Rattle.tg_simulation.specs.Ran.{stops}
use Rattle.tg_simulation.specs.laws.Simulating.{Comes}
use Rattle.tg_simulation.proofs.Simulations.{comes_on}
use Rattle.tg_isa.specs.declared.mips.Mips.TheVariants as row
use Rattle.tg_isa.specs.Effects.{put, effective_address}
use Rattle.tg_isa.proofs.Anywhere.{load_word_seen}
use Rattle.tg_emit.specs.declared.assembly.Line.{Line}
use Rattle.tg_emit.specs.mirror.Lines.{alone, in_at, lowered}
use Rattle.tg_emit_proof.specs.Setting.{Setting, from}
use Rattle.tg_emit_proof.proofs.Registers.{other_register, moved, moved_stack}
use Rattle.tg_emit_proof.proofs.Rows.{row_comes, row_ends, comes_more}
use Rattle.tg_emit_proof.proofs.Offsets.{in_at_comes}

-- A word of the stack is there.
pub in_stack_there : (s : MachineState) (b : ℕ) → b % 4 ≡ 0 → floor s ≤ b → b + 4 ≤ stack_top →
    length s.stack ≤ stack_top → load_word s b ≡ Ok (word_at s.stack (b - floor s))
in_stack_there s b w low high short =
    let t : (b % 4 == 0) ≡ true = rw w refl in
    let from : nat_le (floor s) b ≡ true = grind (arith, nat_tests, low) in
    let whole : floor s + length s.stack ≡ stack_top = omega (arith, short) in
    let to : nat_lt b (floor s + length s.stack) ≡ true = grind (arith, nat_tests, whole, high) in
    rw (t, from, to) refl

-- A word below the floor is of no region.
pub full_there : (s : MachineState) (a : ℕ) → a % 4 ≡ 0 → stack_reach ≤ a → a < floor s →
    heap_base + length s.heap ≤ stack_reach → statics_base + length s.statics ≤ stack_reach →
    load_word s a ≡ Err StackFull
full_there s a w low high heap statics =
    let t : (a % 4 == 0) ≡ true = rw w refl in
    let outside : nat_le (floor s) a ≡ false = grind (arith, nat_tests, high) in
    let above_heap : nat_lt a (heap_base + length s.heap) ≡ false = grind (arith, nat_tests, heap, low) in
    let above_statics : nat_lt a (statics_base + length s.statics) ≡ false = grind (arith, nat_tests, statics, low) in
    let from_heap : nat_le heap_base a ≡ true = grind (arith, nat_tests, low) in
    let from_statics : nat_le statics_base a ≡ true = grind (arith, nat_tests, low) in
    let in_reach : nat_le stack_reach a ≡ true = grind (arith, nat_tests, low) in
    let below : nat_lt a (floor s) ≡ true = grind (arith, nat_tests, high) in
    let none_stack : offset a (floor s) (length s.stack) ≡ None = rw outside refl in
    let none_heap : offset a heap_base (length s.heap) ≡ None = rw (from_heap, above_heap) refl in
    let none_statics : offset a statics_base (length s.statics) ≡ None = rw (from_statics, above_statics) refl in
    let nowhere : fault s a ≡ StackFull = rw (in_reach, below) refl in
    rw t (ap (λ o. word_there s (in_stack s a o)) none_stack ∙ (ap (λ o. word_there s (in_heap s a o)) none_heap
    ∙ (ap (λ o. word_there s (in_statics s a o)) none_statics ∙ ap (λ e. Err e) nowhere)))

-- the state after an entry
abbrev pub lower : MachineState → (size : ℕ) → MachineState
lower s size = moved (nat_le size 32768) s size (register s 29 - size)

-- $sp and a frame's bytes less, by the number that the entry adds
lowered_word : (sp size : ℕ) → 0 < size → size ≤ 32768 → size ≤ sp → sp < 2 ^ 32 →
    add sp (extended (65536 - size)) ≡ sp - size
lowered_word sp size z h k l =
    let high : nat_lt (65536 - size) 32768 ≡ false = grind (arith, nat_tests, h) in
    rw high (omega (arith, z, h, k, l))

module _ (g : Setting) (size : ℕ) (s : MachineState) (input : List ℕ) (count : length s.registers ≡ 32)
    (some : 0 < size) (most : size < 2 ^ 29) (within : size ≤ register s 29) (fits : register s 29 < 2 ^ 32) where
  -- $sp gets the frame's low end
  lowering_comes : (rest : List Line) →
      Comes 3 (from g (lowered size ++ rest) s input) (from g rest (lower s size) input)
  lowering_comes rest = by (nat_le size 32768) refl
    where
      by : (b : Bool) → nat_le size 32768 ≡ b →
          Comes 3
          (from g ((if b then alone (row.Addiu 29 29 (65536 - size)) ∷ [] else
          in_at size ++ alone (row.Subu 29 29 1) ∷ []) ++ rest) s input)
          (from g rest (moved b s size (register s 29 - size)) input)
      by true e =
          let small : size ≤ 32768 = grind (arith, nat_tests, e) in
          comes_more 1 3 _ _ (omega arith)
          (row_comes g (row.Addiu 29 29 (65536 - size)) [] rest s
          (moved true s size (register s 29 - size)) input refl
          (ap (λ v. machine.Goes (moved true s size v)) (lowered_word (register s 29) size some small within fits)))
      by false e =
          let t : MachineState = set_register s 1 size in
          let sp : register t 29 ≡ register s 29 = other_register s 1 29 size (λ e. omega (arith, e)) in
          let at : register t 1 ≡ size = get_or-set_same s.registers 1 size 0 (omega (arith, count)) in
          let less : sub (register s 29) size ≡ register s 29 - size = omega (arith, within, fits) in
          comes_on 2 1 _ (from g (alone (row.Subu 29 29 1) ∷ rest) t input) _
          (in_at_comes g size (alone (row.Subu 29 29 1) ∷ rest) s input count (omega (arith, most)))
          (row_comes g (row.Subu 29 29 1) [] rest t (moved false s size (register s 29 - size)) input refl
          (ap (λ v. machine.Goes (moved false s size v))
          (ap (λ v. sub v (register t 1)) sp ∙ (ap (sub (register s 29)) at ∙ less))))

  -- where the probe is
  probed : load_word (lower s size) (effective_address (lower s size) 29 0) ≡ load_word s (register s 29 - size)
  probed =
      let sp = moved_stack (nat_le size 32768) s size (register s 29 - size) count in
      let e : add (register s 29 - size) (extended 0) ≡ register s 29 - size = omega (arith, fits) in
      ap (λ v. load_word (lower s size) (add v (extended 0))) sp
      ∙ (ap (load_word (lower s size)) e
      ∙ load_word_seen s.code s.place (lower s size).registers s (register s 29 - size))

  abbrev at_entry : List Line → List Line
  at_entry rest = lowered size ++ alone (row.Lw 0 0 29) ∷ rest

  pub entry_comes : (rest : List Line) (v : ℕ) → load_word s (register s 29 - size) ≡ Ok v →
      Comes 4 (from g (at_entry rest) s input) (from g rest (lower s size) input)
  entry_comes rest v is =
      comes_on 3 1 _ _ _ (lowering_comes (alone (row.Lw 0 0 29) ∷ rest))
      (row_comes g (row.Lw 0 0 29) [] rest (lower s size) (lower s size) input refl
      (ap (put (lower s size) 0) (probed ∙ is)))

  pub entry_is_full : (rest : List Line) → load_word s (register s 29 - size) ≡ Err StackFull →
      Comes 4 (from g (at_entry rest) s input) (λ i. stops input (ran.Ended StackFull))
  entry_is_full rest is =
      comes_on 3 1 _ _ _ (lowering_comes (alone (row.Lw 0 0 29) ∷ rest))
      (row_ends g (row.Lw 0 0 29) [] rest (lower s size) StackFull input refl
      (ap (put (lower s size) 0) (probed ∙ is)))
