-- The services of the system.
use Rattle.std.proofs.Common.{ℕ, zero, suc, ◌≡◌, ◌<◌, ◌≤◌, ◌+◌, ◌-◌, ◌%◌, ◌^◌, ◌==◌, List, [], ◌∷◌, ◌++◌, length}
use Rattle.std.proofs.Common.{replicate, pos, refl, ap, sym, ◌∙◌, subst, arith, Bool, true, false, Option, Some, None}
use Rattle.std.proofs.lemmas.Bool.Decides.{nat_tests}
use Rattle.std.proofs.lemmas.Grind.{common_steps}
use Rattle.std.proofs.lemmas.List.Elements.{All-append, All-replicate}
use Rattle.std.specs.Prelude.{All, Ok, Err, Result, if◌then◌else◌, slice_index, slice_set, nat_lt}
use Rattle.std.specs.Fmt.{signed_decimal}
use Rattle.tg_machine_state.specs.declared.ends.RunEnd.{RunEnd}
use Rattle.tg_machine_state.specs.declared.ends.RunEnd.TheVariants.{Exit, HeapFull, BadService}
use Rattle.tg_base.specs.Words.{signed}
use Rattle.tg_machine_state.specs.State as machine
use Rattle.tg_machine_state.specs.State.{MachineState, register, set_register, floor, offset, statics_base, heap_base}
use Rattle.tg_machine_state.specs.State.{stack_top, in_stack, in_heap, in_statics, byte_there}
use Rattle.tg_machine_state.specs.Services as machine_does
use Rattle.tg_machine_state.specs.Services.{Step, whole_words, text_at, write_text, answered}
use Rattle.tg_simulation.specs.Runs.{Run}
use Rattle.tg_simulation.specs.Ran.{Ran, Ended, works, writes}
use Rattle.tg_simulation.specs.laws.Simulating.{Comes}
use Rattle.tg_simulation.proofs.Simulations.{simulates_wrong, simulates_paying, simulates_coming, simulates_writing}
use Rattle.tg_isa.specs.declared.mips.Mips.TheVariants as row
use Rattle.tg_isa.specs.Effects.{effect}
use Rattle.tg_isa.specs.ImageRuns.{first_byte, later_bytes}
use Rattle.tg_tree.specs.Actions as code
use Rattle.tg_tree.specs.Actions.{World, charged, written, with_text, read_byte, take_heap, over}
use Rattle.tg_tree.specs.Memory as memory
use Rattle.tg_tree.specs.Memory.{Memory}
use Rattle.tg_instr.specs.declared.operands.Opnd.TheVariants.{Reg}
use Rattle.tg_instr.specs.declared.instr.Instr.{Instr}
use Rattle.tg_instr.specs.declared.instr.Instr.TheVariants as instr
use Rattle.tg_emit.specs.mirror.Lines.{alone}
use Rattle.tg_instr.specs.Shapes.{Operand}
use Rattle.tg_instr.specs.Contents.{Word, set}
use Rattle.tg_emit_proof.specs.LinesRun.{onward as does_onward, left}
use Rattle.tg_emit_proof.specs.Setting.{Setting, from}
use Rattle.tg_emit_proof.specs.glue.Standing.{Finds, HasRegisters, HasMemory, HasSizes}
use Rattle.tg_emit_proof.specs.glue.Situation.{At, onward, LinesFollow, InstructionGoesOn}
use Rattle.tg_emit_proof.proofs.Rows.{done}
use Rattle.tg_emit_proof.proofs.Onward.{own, behind, here_is, stands_behind, puts}
use Rattle.tg_emit_proof.proofs.Reaching.{load_byte_there}
use Rattle.tg_emit_proof.proofs.Regions.{offset_is}
use Rattle.tg_emit_proof.proofs.Registers.{got}
use Rattle.tg_emit_proof.proofs.Straight.{IsRowOf, reads_register, registers_stay, ends_there, row_once, word_of}

-- Service 4: bytes up to a 0 byte. No text is longer than the memory, since each byte of it is of a region.
module _ (g : Setting) (finds : Finds) (m : Memory) (s : MachineState) (has : HasMemory finds m s)
    (sizes : HasSizes g s)
    (room_most : g.room ≤ machine.most_room) (stack_most : g.stack ≤ machine.most_room) where
  -- how many bytes of the regions are at an address or above it
  abbrev above : ℕ → ℕ
  above a =
      (length s.statics - (a - statics_base)) + (length s.heap - (a - heap_base)) + (length s.stack - (a - floor s))

  none : (e : RunEnd) (v : ℕ) → Err e ≡ Ok v → {P : Type 0} → P
  none e v h = cc

  fewer : (a v : ℕ) → machine.load_byte s a ≡ Ok v → above (a + 1) < above a
  fewer a v h =
      by (offset a (floor s) (length s.stack)) refl (offset a heap_base (length s.heap)) refl
      (offset a statics_base (length s.statics)) refl h
    where
      by : (o : Option ℕ) → offset a (floor s) (length s.stack) ≡ o → (p : Option ℕ) →
          offset a heap_base (length s.heap) ≡ p →
          (q : Option ℕ) → offset a statics_base (length s.statics) ≡ q → byte_there s (in_stack s a o) ≡ Ok v →
          above (a + 1) < above a
      by (Some i) e p f q d h = let o = offset_is a (floor s) (length s.stack) i e in let x = o.from in let y =
          o.to in omega (arith, x, y)
      by None e (Some i) f q d h = let o = offset_is a heap_base (length s.heap) i f in let x = o.from in let y =
          o.to in omega (arith, x, y)
      by None e None f (Some i) d h = let o = offset_is a statics_base (length s.statics) i d in let x = o.from in
          let y = o.to in omega (arith, x, y)
      by None e None f None d h =
          none (machine.fault s a) v (sym (ap (byte_there s) (ap (in_heap s a) f ∙ ap (in_statics s a) d)) ∙ h)

  text_there : (n k a : ℕ) (bytes : List ℕ) → code.text_from n m a ≡ Some bytes → above a < k →
      machine_does.text_from k s a ≡ Ok bytes
  text_there zero k a bytes h l = cc
  text_there (suc n) zero a bytes h l = absurd (omega (arith, l))
  text_there (suc n) (suc k) a bytes h l =
      loaded (λ more. text_there n k (a + 1) more) (memory.load_byte m a) refl h
    where
      Again : Type 0
      Again = (more : List ℕ) → code.text_from n m (a + 1) ≡ Some more → above (a + 1) < k →
          machine_does.text_from k s (a + 1) ≡ Ok more

      some_list : (xs ys : List ℕ) → Some xs ≡ Some ys → xs ≡ ys
      some_list xs ys h = cc

      rest : Again → (v : ℕ) → (o : Option (List ℕ)) → code.text_from n m (a + 1) ≡ o → code.before v o ≡ Some bytes →
          above (a + 1) < k →
          machine_does.before v (machine_does.text_from k s (a + 1)) ≡ Ok bytes
      rest again v None e h l = cc
      rest again v (Some more) e h l =
          ap (machine_does.before v) (again more e l) ∙ ap (λ (b : List ℕ). Ok b) (some_list (v ∷ more) bytes h)

      zero_or : Again → (v : ℕ) (b : Bool) → above (a + 1) < k →
          (elim b as (λ _. Option (List ℕ)) [
            | true ↦ Some []
            | false ↦ code.before v (code.text_from n m (a + 1))
          ]) ≡ Some bytes →
          (elim b as (λ _. Result (List ℕ) RunEnd) [
            | true ↦ Ok []
            | false ↦ machine_does.before v (machine_does.text_from k s (a + 1))
          ]) ≡ Ok bytes
      zero_or again v true l h = ap (λ (b : List ℕ). Ok b) (some_list [] bytes h)
      zero_or again v false l h = rest again v (code.text_from n m (a + 1)) refl h l

      loaded : Again → (o : Option ℕ) → memory.load_byte m a ≡ o →
          (elim o as (λ _. Option (List ℕ)) [
            | Some b ↦
                elim (b == 0) as (λ _. Option (List ℕ)) [
                  | true ↦ Some []
                  | false ↦ code.before b (code.text_from n m (a + 1))
                ]
            | None ↦ None
          ]) ≡ Some bytes → machine_does.text_from (suc k) s a ≡ Ok bytes
      loaded again None e h = cc
      loaded again (Some v) e h =
          let t = load_byte_there g finds m s has sizes room_most stack_most a v e in
          let f = fewer a v t.0 in
          ap (λ r. elim r as (λ _. Result (List ℕ) RunEnd) [
            | Ok b ↦
                elim (b == 0) as (λ _. Result (List ℕ) RunEnd) [
                  | true ↦ Ok []
                  | false ↦ machine_does.before b (machine_does.text_from k s (a + 1))
                ]
            | Err e ↦ Err e
          ]) t.0
          ∙ zero_or again v (v == 0) (omega (arith, f, l)) h

  pub text_is : (n a : ℕ) (bytes : List ℕ) → code.text_from n m a ≡ Some bytes → text_at s a ≡ Ok bytes
  text_is n a bytes h = text_there n (length s.statics + length s.heap + length s.stack + 1) a bytes h (omega arith)

-- a register that gets what it has
set_same : (s : MachineState) (r : ℕ) → set_register s r (register s r) ≡ s
set_same s r = by (r == 0)
  where
    same : slice_set s.registers r (slice_index s.registers r) ≡ s.registers
    same = grind (arith, common_steps)

    by : (b : Bool) → (if b then s else record s { registers = slice_set s.registers r (register s r) }) ≡ s
    by true = refl
    by false = ap (λ rs. record s { registers = rs }) same

all_first : (b : ℕ) (rest : List ℕ) → All (λ x. x < 256) (b ∷ rest) → b < 256
all_first b rest h = h 0 0 (omega arith)

all_rest : (b : ℕ) (rest : List ℕ) → All (λ x. x < 256) (b ∷ rest) → All (λ x. x < 256) rest
all_rest b rest h i d l = h (suc i) d (omega (arith, l))

module _ (g : Setting) (k : At g instr.Service) where
  abbrev one : Instr
  one = instr.Service

  abbrev s : MachineState
  s = k.state

  abbrev w : World
  w = k.world

  abbrev asked : ℕ
  asked = register s 2

  abbrev argument : ℕ
  argument = register s 4

  -- what the code does with its result
  abbrev gives_it : ℕ → World → Run Ran
  gives_it v w1 = onward g one k w1 (set (Operand (Reg 2)) (Word v) k.contents)

  is_row : IsRowOf g one k row.Syscall
  is_row = record { lines = refl; straight = refl }

  -- what is written and leaves its own number in $v0
  writes_on : (bytes : List ℕ) → effect row.Syscall s ≡ machine_does.Writes bytes s →
      LinesFollow g one k (charged 1 (written bytes (gives_it asked w)))
  writes_on bytes does =
      let has = got k.found k.activation k.contents s k.stands.registers 2 asked (Word asked) refl refl refl
      (word_of g one k 2) in
      let has' = subst (λ t. HasRegisters k.found k.activation (set (Operand (Reg 2)) (Word asked) k.contents) t)
      (set_same s 2) has in
      let goes = k.next w (set (Operand (Reg 2)) (Word asked) k.contents) (behind g one k) s
      (stands_behind g one k w (set (Operand (Reg 2)) (Word asked) k.contents) s k.stands.sizes has' k.stands.memory
      k.stands.input) in
      simulates_paying 1 k.credit k.fuel 1 _ _
      (simulates_coming 1 k.credit k.fuel 1 _ _ (λ i. writes bytes (from g (behind g one k) s w.input i)) comes
      (simulates_writing 1 k.credit k.fuel bytes (gives_it asked w) (from g (behind g one k) s w.input) goes))
    where
      here : k.here ≡ alone row.Syscall ∷ behind g one k
      here = here_is g one k

      comes : Comes 1 (from g k.here k.state k.world.input) (λ i. writes bytes (from g (behind g one k) s w.input i))
      comes i = (
        suc i,
        omega arith,
        1,
        omega arith,
        ap (λ l. from g l s w.input (suc i)) here
            ∙ ap (λ d. works 1 (done g w.input i (does_onward d (left (behind g one k))))) does,
      )

  -- a text up to its 0 byte
  texts : (o : Option (List ℕ)) → code.text_from (2 ^ 32) w.memory argument ≡ o → effect row.Syscall s
      ≡ write_text s (text_at s argument) →
      LinesFollow g one k (charged 1 (with_text o w (gives_it asked w)))
  texts None e does = simulates_wrong 1 k.credit k.fuel _ _ (λ i. refl)
  texts (Some bytes) e does =
      writes_on bytes (does ∙ ap (write_text s)
      (text_is g k.finds w.memory s k.stands.memory k.stands.sizes k.known.room_most k.known.stack_most
      (2 ^ 32) argument bytes e))

  -- more heap
  abbrev bytes_more : ℕ
  bytes_more = whole_words argument

  abbrev more_heap : MachineState
  more_heap = record s { heap = s.heap ++ replicate bytes_more 0 }

  abbrev more_world : World
  more_world = record w { memory = record w.memory { heap = w.memory.heap ++ replicate bytes_more 0 } }

  heaps : (b : Bool) → nat_lt g.room (length w.memory.heap + bytes_more) ≡ b →
      effect row.Syscall s ≡ machine_does.take_heap s bytes_more →
      LinesFollow g one k
      (charged 1 (if b then over (Ended HeapFull) w else gives_it (heap_base + length w.memory.heap) more_world))
  heaps b e does = by b (same ∙ e)
    where
      lengths : length s.heap ≡ length w.memory.heap
      lengths = ap (λ (l : List ℕ). length l) k.stands.memory.heap

      same : nat_lt s.room (length s.heap + bytes_more) ≡ nat_lt g.room (length w.memory.heap + bytes_more)
      same = ap (λ r. nat_lt r (length s.heap + bytes_more)) k.stands.sizes.heap
          ∙ ap (λ l. nat_lt g.room (l + bytes_more)) lengths

      count : length (s.heap ++ replicate bytes_more 0) ≡ length s.heap + bytes_more
      count = grind (arith, common_steps)

      count' : length (w.memory.heap ++ replicate bytes_more 0) ≡ length w.memory.heap + bytes_more
      count' = grind (arith, common_steps)

      memory : HasMemory k.finds more_world.memory more_heap
      memory =
          let m = k.stands.memory in
          let h = m.whole_heap.1 in
          let c = count' in
          record {
            statics = m.statics;
            heap = ap (λ l. l ++ replicate bytes_more 0) m.heap;
            stack = m.stack;
            cells = m.cells;
            whole_statics = m.whole_statics;
            whole_heap = (
              All-append (λ b. b < 256) w.memory.heap (replicate bytes_more 0) m.whole_heap.0
                  (All-replicate (λ b. b < 256) bytes_more 0 (omega arith)),
              omega (arith, h, c),
            );
          }

      by : (b : Bool) → nat_lt s.room (length s.heap + bytes_more) ≡ b →
          LinesFollow g one k
          (charged 1 (if b then over (Ended HeapFull) w else gives_it (heap_base + length w.memory.heap) more_world))
      by true f =
          ends_there g one k row.Syscall HeapFull 1 (omega arith) is_row
          (does ∙ ap (λ b. if b then machine_does.Ends HeapFull else machine_does.Goes
          (set_register more_heap 2 (heap_base + length s.heap))) f)
      by false f =
          let fits : length s.heap + bytes_more ≤ s.room = grind (arith, nat_tests, f) in
          let r = k.stands.sizes.heap in
          let most = k.known.room_most in
          let c = count in
          let l = lengths in
          let sizes : HasSizes g more_heap =
          record {
            heap = k.stands.sizes.heap;
            taken = omega (arith, fits, r, c);
            whole = k.stands.sizes.whole;
            statics = k.stands.sizes.statics;
          } in
          let registers : HasRegisters k.found k.activation k.contents more_heap =
          registers_stay g one k more_heap refl refl refl in
          let z : effect row.Syscall s ≡ machine_does.Goes
          (set_register more_heap 2 (heap_base + length w.memory.heap)) =
          does ∙ (ap (λ b. if b then machine_does.Ends HeapFull else machine_does.Goes
          (set_register more_heap 2 (heap_base + length s.heap))) f
          ∙ ap (λ n. machine_does.Goes (set_register more_heap 2 (heap_base + n))) l) in
          puts g one k 1 1 more_world more_heap 2 (heap_base + length w.memory.heap)
          (Word (heap_base + length w.memory.heap)) (omega arith) refl refl
          (omega (arith, fits, r, most, l)) sizes registers memory k.stands.input
          (row_once g one k row.Syscall (set_register more_heap 2 (heap_base + length w.memory.heap)) is_row z)

  -- a byte of input, or -1
  reads_on : (input : List ℕ) → w.input ≡ input → effect row.Syscall s ≡ machine_does.Reads s →
      LinesFollow g one k (charged 1 (read_byte input w gives_it))
  reads_on input e does = by input e
    where
      here : k.here ≡ alone row.Syscall ∷ behind g one k
      here = here_is g one k

      comes : Comes 1 (from g (own g one k ++ behind g one k) s w.input)
          (from g (behind g one k) (answered s (first_byte w.input)) (later_bytes w.input))
      comes i = (
        suc i,
        omega arith,
        1,
        omega arith,
        ap (λ d. works 1 (done g w.input i (does_onward d (left (behind g one k))))) does,
      )

      by : (input : List ℕ) → w.input ≡ input → LinesFollow g one k (charged 1 (read_byte input w gives_it))
      by [] e =
          puts g one k 1 1 w s 2 4294967295 (Word 4294967295) (omega arith) refl refl (omega arith)
          k.stands.sizes k.stands.registers k.stands.memory k.stands.input
          (subst (λ l. Comes 1 (from g (own g one k ++ behind g one k) s w.input)
          (from g (behind g one k) (set_register s 2 4294967295) l)) (sym e)
          (subst (λ l. Comes 1 (from g (own g one k ++ behind g one k) s w.input)
          (from g (behind g one k) (answered s (first_byte l)) (later_bytes l))) e comes))
      by (b ∷ rest) e =
          let all : All (λ x. x < 256) (b ∷ rest) = subst (λ l. All (λ x. x < 256) l) e k.stands.input in
          let small = all_first b rest all in
          puts g one k 1 1 (record w { input = rest }) s 2 b (Word b) (omega arith) refl refl (omega (arith, small))
          k.stands.sizes k.stands.registers k.stands.memory (all_rest b rest all)
          (subst (λ l. Comes 1 (from g (own g one k ++ behind g one k) s w.input)
          (from g (behind g one k) (answered s (first_byte l)) (later_bytes l))) e comes)

  serves : LinesFollow g one k (charged 1 (code.service g.room asked argument w gives_it))
  serves =
      by (asked == 1) (asked == 4) (asked == 9) (asked == 10) (asked == 11) (asked == 12) (asked == 17) refl
    where
      by : (b1 b4 b9 b10 b11 b12 b17 : Bool) →
          effect row.Syscall s
          ≡ (if b1 then machine_does.Writes (signed_decimal (signed argument)) s else
          if b4 then write_text s (text_at s argument) else
          if b9 then machine_does.take_heap s (whole_words argument) else
          if b10 then machine_does.Ends (Exit (pos 0)) else
          if b11 then machine_does.Writes (argument % 256 ∷ []) s else
          if b12 then machine_does.Reads s else
          if b17 then machine_does.Ends (Exit (signed argument)) else machine_does.Ends (BadService asked)) →
          LinesFollow g one k
          (charged 1 (if b1 then written (signed_decimal (signed argument)) (gives_it asked w) else
          if b4 then with_text (code.text_from (2 ^ 32) w.memory argument) w (gives_it asked w) else
          if b9 then take_heap g.room (whole_words argument) w gives_it else
          if b10 then over (Ended (Exit (pos 0))) w else
          if b11 then written (argument % 256 ∷ []) (gives_it asked w) else
          if b12 then read_byte w.input w gives_it else
          if b17 then over (Ended (Exit (signed argument))) w else over (Ended (BadService asked)) w))
      by true b4 b9 b10 b11 b12 b17 does = writes_on (signed_decimal (signed argument)) does
      by false true b9 b10 b11 b12 b17 does = texts (code.text_from (2 ^ 32) w.memory argument) refl does
      by false false true b10 b11 b12 b17 does = heaps (nat_lt g.room (length w.memory.heap + bytes_more)) refl does
      by false false false true b11 b12 b17 does =
          ends_there g one k row.Syscall (Exit (pos 0)) 1 (omega arith) is_row does
      by false false false false true b12 b17 does = writes_on (argument % 256 ∷ []) does
      by false false false false false true b17 does = reads_on w.input refl does
      by false false false false false false true does =
          ends_there g one k row.Syscall (Exit (signed argument)) 1 (omega arith) is_row does
      by false false false false false false false does =
          ends_there g one k row.Syscall (BadService asked) 1 (omega arith) is_row does

pub service_goes : (g : Setting) → InstructionGoesOn g instr.Service
service_goes g k =
    reads_register g instr.Service k 2 1 _ refl (reads_register g instr.Service k 4 1 _ refl (serves g k))
