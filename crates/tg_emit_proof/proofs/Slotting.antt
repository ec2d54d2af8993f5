-- Slots of the frame.
use Rattle.std.proofs.Common.{ℕ, ◌≡◌, ◌<◌, ◌+◌, ◌-◌, ◌*◌, ◌/◌, ◌^◌, ◌==◌, List, [], ◌++◌, length, refl, ap, sym}
use Rattle.std.proofs.Common.{◌∙◌, subst, arith, Bool, true, false}
use Rattle.std.proofs.lemmas.Bool.Decides.{nat_tests}
use Rattle.std.specs.Prelude.{All, IsTrue, Ok, if◌then◌else◌, nat_lt}
use Rattle.tg_base.specs.Words.{add, extended}
use Rattle.tg_machine_state.specs.State as machine
use Rattle.tg_machine_state.specs.State.{MachineState, register, set_register, stack_top}
use Rattle.tg_machine_state.specs.Services as machine_does
use Rattle.tg_simulation.specs.Ran.{Wrong, stops}
use Rattle.tg_simulation.specs.laws.Simulating.{Comes}
use Rattle.tg_simulation.proofs.Simulations.{simulates_wrong}
use Rattle.tg_isa.specs.declared.mips.Mips.TheVariants as row
use Rattle.tg_isa.specs.Effects.{effect, put, stored, effective_address}
use Rattle.tg_tree.specs.Memory.{Cell, Closed, Unset, Has, Kept, slot}
use Rattle.tg_tree.specs.Memory as memory
use Rattle.tg_tree.specs.Actions.{World, charged, wrong}
use Rattle.tg_instr.specs.declared.operands.Opnd.{Opnd}
use Rattle.tg_instr.specs.declared.operands.Opnd.TheVariants.{Temp, Reg}
use Rattle.tg_instr.specs.declared.instr.Instr.{Instr}
use Rattle.tg_instr.specs.declared.instr.Instr.TheVariants as instr
use Rattle.tg_instr.specs.Shapes.{Operand, Hi, Lo}
use Rattle.tg_instr.specs.Contents.{Content, Nothing, Word, Found, set, held, content_of, cell_of}
use Rattle.tg_instr.specs.Meaning.{with_content}
use Rattle.tg_instr.proofs.Tests.{left_holds}
use Rattle.tg_emit.specs.mirror.Lines.{load_at, store_at, slot_offset}
use Rattle.tg_instr.specs.Codes.{is_allocated}
use Rattle.tg_emit_proof.specs.Setting.{Setting, from}
use Rattle.tg_emit_proof.specs.glue.Standing.{IsHeld, HasRegisters, IsStackWord, is_at, IsCell, HasMemory, HasSizes}
use Rattle.tg_emit_proof.specs.glue.Situation.{At, onward, LinesFollow, InstructionGoesOn}
use Rattle.tg_emit_proof.proofs.Registers.{not_at, other_register, at_free}
use Rattle.tg_emit_proof.proofs.Rows.{row_comes}
use Rattle.tg_emit_proof.proofs.Offsets.{with_at, far_load, far_store}
use Rattle.tg_emit_proof.proofs.Onward.{own, behind, comes_behind, puts, set_sizes, set_memory}
use Rattle.tg_emit_proof.proofs.Reaching.{IsStored, load_cell, store_cell}
use Rattle.tg_emit_proof.proofs.Straight.{names, word_of}

module _ (g : Setting) (one : Instr) (k : At g one) where
  abbrev offset : ℕ → ℕ
  offset j = slot_offset (g.size k.function.label) j

  -- a slot is there, so far above $sp
  record IsSlot (j : ℕ) : Type 0 where
    it : register k.state 29 + offset j ≡ slot k.activation.base j
    least : offset j < 2 ^ 29
    fits : register k.state 29 + offset j < 2 ^ 32

  is_slot : (j : ℕ) → nat_lt j k.function.slots ≡ true → IsSlot j
  is_slot j e =
      let l : j < k.function.slots = grind (arith, nat_tests, e) in
      let f = k.stands.frame in
      let sp : register k.state 29 ≡ k.activation.base - k.activation.size = k.stands.registers.each 29 refl in
      let sized = k.stands.sized in
      let most = (k.known.frames k.function k.stands.function).most in
      let h = f.holds in let u = f.above in let t = f.below in
      record {
        it = omega (arith, l, sp, sized, h, u);
        least = omega (arith, most);
        fits = omega (arith, l, sp, sized, h, u, t);
      }

  near_address : (j : ℕ) → nat_lt (offset j) 32768 ≡ true → IsSlot j → effective_address k.state 29 (offset j)
      ≡ slot k.activation.base j
  near_address j near i =
      let e : add (register k.state 29) (extended (offset j)) ≡ add (register k.state 29) (offset j) = rw near refl in
      let f = i.fits in let x = i.it in
      let w : add (register k.state 29) (offset j) ≡ slot k.activation.base j = omega (arith, f, x) in
      e ∙ w

  abbrev at_state : ℕ → MachineState
  at_state j = with_at g k.state (offset j)

  at_registers : (j : ℕ) → offset j < 2 ^ 29 → HasRegisters k.found k.activation k.contents (at_state j)
  at_registers j h =
      at_free k.found k.activation k.contents _ _ (omega arith)
      (at_free k.found k.activation k.contents k.state _ (omega (arith, h)) k.stands.registers)

  at_sizes : (j : ℕ) → HasSizes g (at_state j)
  at_sizes j = set_sizes g one k _ 1 _ (set_sizes g one k k.state 1 _ k.stands.sizes)

  at_memory : (j : ℕ) → HasMemory k.finds k.world.memory (at_state j)
  at_memory j = set_memory g one k k.world _ 1 _ (set_memory g one k k.world k.state 1 _ k.stands.memory)

  -- a slot is loaded
  loaded : (r j : ℕ) (c : Content) → IsTrue (is_allocated r) → own g one k ≡ load_at r (offset j) → IsSlot j →
      IsStackWord k.state (slot k.activation.base j) →
      IsHeld k.found c (is_at k.state (slot k.activation.base j)) →
      LinesFollow g one k (charged 3 (if r == 29 then (λ i. stops k.world.input Wrong) else onward g one k k.world
      (set (Operand (Reg r)) c k.contents)))
  loaded r j c named mine i within is = by (nat_lt (offset j) 32768) refl
    where
      a : ℕ
      a = slot k.activation.base j

      v : ℕ
      v = is_at k.state a

      there : (machine.load_word k.state a ≡ Ok v) × (v < 2 ^ 32)
      there = load_cell g k.finds k.world.memory k.state k.stands.memory k.stands.sizes k.known.room_most
          k.known.stack_most a within

      mine_comes : (m : ℕ) (t : MachineState) →
          Comes m (from g (load_at r (offset j) ++ behind g one k) k.state k.world.input)
          (from g (behind g one k) t k.world.input) →
          Comes m (from g (own g one k ++ behind g one k) k.state k.world.input)
          (from g (behind g one k) t k.world.input)
      mine_comes m t =
          subst (λ l. Comes m (from g (l ++ behind g one k) k.state k.world.input)
          (from g (behind g one k) t k.world.input)) (sym mine)

      by : (b : Bool) → nat_lt (offset j) 32768 ≡ b →
          LinesFollow g one k (charged 3 (if r == 29 then (λ i. stops k.world.input Wrong) else onward g one k k.world
          (set (Operand (Reg r)) c k.contents)))
      by true near =
          let does : effect (row.Lw r (offset j) 29) k.state ≡ machine_does.Goes (set_register k.state r v) =
          ap (λ b. put k.state r (machine.load_word k.state b)) (near_address j near i)
          ∙ ap (put k.state r) there.0 in
          puts g one k 1 3 k.world k.state r v c (omega arith) named is there.1 k.stands.sizes k.stands.registers
          k.stands.memory k.stands.input
          (mine_comes 1 (set_register k.state r v)
          (rw near (row_comes g (row.Lw r (offset j) 29) [] (behind g one k) k.state
          (set_register k.state r v) k.world.input refl does)))
      by false far =
          puts g one k 3 3 k.world (at_state j) r v c (omega arith) named is there.1 (at_sizes j)
          (at_registers j i.least) (at_memory j) k.stands.input
          (mine_comes 3 (set_register (at_state j) r v)
          (far_load g r (offset j) v (behind g one k) k.state k.world.input far k.stands.registers.count i.least
          i.fits
          (ap (machine.load_word k.state) i.it ∙ there.0)))

  -- a slot is stored to
  saved : (r j : ℕ) (c : Content) → IsTrue (is_allocated r) → own g one k ≡ store_at r (offset j) → IsSlot j →
      IsStackWord k.state (slot k.activation.base j) →
      ((t : MachineState) → IsStackWord t (slot k.activation.base j) → is_at t (slot k.activation.base j)
      ≡ register k.state r →
      IsCell (k.finds (slot k.activation.base j)) t (slot k.activation.base j) (cell_of c)) →
      LinesFollow g one k
      (charged 3 (onward g one k (record k.world {
        memory =
            memory.put (slot k.activation.base j) (cell_of c) k.world.memory;
      }) k.contents))
  saved r j c named mine i within cell = by (nat_lt (offset j) 32768) refl
    where
      a : ℕ
      a = slot k.activation.base j

      w : World
      w = record k.world { memory = memory.put a (cell_of c) k.world.memory }

      mine_comes : (m : ℕ) (t : MachineState) →
          Comes m (from g (store_at r (offset j) ++ behind g one k) k.state k.world.input)
          (from g (behind g one k) t k.world.input) →
          Comes m (from g (own g one k ++ behind g one k) k.state k.world.input)
          (from g (behind g one k) t k.world.input)
      mine_comes m t =
          subst (λ l. Comes m (from g (l ++ behind g one k) k.state k.world.input)
          (from g (behind g one k) t k.world.input)) (sym mine)

      stays : (s t : MachineState) → HasRegisters k.found k.activation k.contents s →
          IsStored g k.finds (memory.put a (cell_of c) k.world.memory) s t →
          HasRegisters k.found k.activation k.contents t
      stays s t has d = record {
        count = ap (λ (rs : List ℕ). length rs) d.registers ∙ has.count;
        words = subst (λ rs. All (λ v. v < 2 ^ 32) rs) (sym d.registers) has.words;
        each = λ q n. subst (λ rs. IsHeld k.found (held k.activation k.contents (Operand (Reg q)))
            (machine.register (record s { registers = rs }) q)) (sym d.registers) (has.each q n);
        high = subst (λ v. IsHeld k.found (k.contents Hi) v) (sym d.high) has.high;
        low = subst (λ v. IsHeld k.found (k.contents Lo) v) (sym d.low) has.low;
        high_word = subst (λ v. v < 2 ^ 32) (sym d.high) has.high_word;
        low_word = subst (λ v. v < 2 ^ 32) (sym d.low) has.low_word;
      }

      upper : ℕ
      upper = (offset j + 32768) / 65536 * 65536

      up : MachineState
      up = set_register k.state 1 upper

      same : register (at_state j) r ≡ register k.state r
      same = other_register up 1 r (add (register up 1) (register up 29)) (not_at r named)
          ∙ other_register k.state 1 r upper (not_at r named)

      by : (b : Bool) → nat_lt (offset j) 32768 ≡ b → LinesFollow g one k (charged 3 (onward g one k w k.contents))
      by true near =
          let d = store_cell g k.finds k.world.memory k.state k.stands.memory k.stands.sizes k.known.room_most
          k.known.stack_most
          a (register k.state r) (cell_of c) within (word_of g one k r) cell in
          let does : effect (row.Sw r (offset j) 29) k.state ≡ machine_does.Goes d.0 =
          ap (λ b. stored (machine.store_word k.state b (register k.state r))) (near_address j near i)
          ∙ ap stored d.1 in
          comes_behind g one k 1 3 w k.contents d.0 (omega arith) d.2.sizes
          (stays k.state d.0 k.stands.registers d.2) d.2.memory k.stands.input
          (mine_comes 1 d.0
          (rw near (row_comes g (row.Sw r (offset j) 29) [] (behind g one k) k.state d.0 k.world.input refl does)))
      by false far =
          let d = store_cell g k.finds k.world.memory (at_state j) (at_memory j)
          (at_sizes j) k.known.room_most k.known.stack_most
          a (register (at_state j) r) (cell_of c) within (subst (λ v. v < 2 ^ 32) (sym same) (word_of g one k r))
          (λ t w e. cell t w (e ∙ same)) in
          comes_behind g one k 3 3 w k.contents d.0 (omega arith) d.2.sizes
          (stays (at_state j) d.0 (at_registers j i.least) d.2) d.2.memory k.stands.input
          (mine_comes 3 d.0
          (far_store g r (offset j) (behind g one k) k.state d.0 k.world.input far k.stands.registers.count i.least
          i.fits
          (ap (λ b. machine.store_word (at_state j) b (register (at_state j) r)) i.it ∙ d.1)))

-- A slot is loaded where it holds a word, or what was found in a register.
pub frame_load_goes : (g : Setting) (to : Opnd) (j : ℕ) → InstructionGoesOn g (instr.FrameLoad to j)
frame_load_goes g (Temp t) j k = absurd (not_named (names g (instr.FrameLoad (Temp t) j) k))
  where
    not_named : false ≡ true → ⊥
    not_named h = cc
frame_load_goes g (Reg r) j k = by (nat_lt j k.function.slots) refl
  where
    it : Instr
    it = instr.FrameLoad (Reg r) j

    named : IsTrue (is_allocated r)
    named = left_holds (is_allocated r) true (names g it k)

    a : ℕ
    a = slot k.activation.base j

    goes : IsSlot g it k j → k.finds a ≡ k.found → (c : Cell) → IsCell (k.finds a) k.state a c →
        LinesFollow g it k
        (charged 3 (with_content (content_of c) k.world
        (λ d. if r == 29 then (λ i. stops k.world.input Wrong) else onward g it k k.world
        (set (Operand (Reg r)) d k.contents))))
    goes i owns Closed is = simulates_wrong 1 k.credit k.fuel _ _ (λ i. refl)
    goes i owns Unset is = simulates_wrong 1 k.credit k.fuel _ _ (λ i. refl)
    goes i owns (Has v) is = loaded g it k r j (Word v) named refl i is.0 is.2
    goes i owns (Kept q) is = loaded g it k r j (Found q) named refl i is.0 (is.1 ∙ ap (λ f. f q) owns)

    by : (b : Bool) → nat_lt j k.function.slots ≡ b →
        LinesFollow g it k
        (charged 3 (if b then with_content (content_of (k.world.memory.stack a)) k.world
        (λ d. if r == 29 then (λ i. stops k.world.input Wrong) else onward g it k k.world
        (set (Operand (Reg r)) d k.contents)) else wrong k.world))
    by false e = simulates_wrong 1 k.credit k.fuel _ _ (λ i. refl)
    by true e =
        let l : j < k.function.slots = grind (arith, nat_tests, e) in
        goes (is_slot g it k j e) (k.stands.owns j l) (k.world.memory.stack a) (k.stands.memory.cells a)

-- A slot is stored to.
pub frame_store_goes : (g : Setting) (from : Opnd) (j : ℕ) → InstructionGoesOn g (instr.FrameStore from j)
frame_store_goes g (Temp t) j k = absurd (not_named (names g (instr.FrameStore (Temp t) j) k))
  where
    not_named : false ≡ true → ⊥
    not_named h = cc
frame_store_goes g (Reg r) j k = by (held k.activation k.contents (Operand (Reg r))) (k.stands.registers.each r named)
  where
    it : Instr
    it = instr.FrameStore (Reg r) j

    named : IsTrue (is_allocated r)
    named = left_holds (is_allocated r) true (names g it k)

    a : ℕ
    a = slot k.activation.base j

    within : nat_lt j k.function.slots ≡ true → IsStackWord k.state a
    within e =
        let l : j < k.function.slots = grind (arith, nat_tests, e) in
        let f = k.stands.frame in
        let w = f.words in let z = f.holds in let u = f.above in let t = f.below in
        (omega (arith, l, w, z, u, t), omega (arith, l, w, z, u, t), omega (arith, l, w, z, u, t))

    stores : (c : Content) → ((t : MachineState) → nat_lt j k.function.slots ≡ true → IsStackWord t a →
        is_at t a ≡ register k.state r → IsCell (k.finds a) t a (cell_of c)) →
        (b : Bool) → nat_lt j k.function.slots ≡ b →
        LinesFollow g it k
        (charged 3 (if b then onward g it k (record k.world { memory = memory.put a (cell_of c) k.world.memory })
        k.contents else wrong k.world))
    stores c cell false e = simulates_wrong 1 k.credit k.fuel _ _ (λ i. refl)
    stores c cell true e = saved g it k r j c named refl (is_slot g it k j e) (within e) (λ t w x. cell t e w x)

    by : (c : Content) → IsHeld k.found c (register k.state r) →
        LinesFollow g it k
        (charged 3 (with_content c k.world (λ d. if nat_lt j k.function.slots then
        onward g it k (record k.world { memory = memory.put a (cell_of d) k.world.memory }) k.contents else wrong
        k.world)))
    by Nothing h = simulates_wrong 1 k.credit k.fuel _ _ (λ i. refl)
    by (Word v) h =
        stores (Word v) (λ t e w x. (w, subst (λ n. n < 2 ^ 32) h (word_of g it k r), x ∙ h))
        (nat_lt j k.function.slots) refl
    by (Found q) h =
        stores (Found q)
        (λ t e w x.
        let l : j < k.function.slots = grind (arith, nat_tests, e) in
        (w, x ∙ (h ∙ sym (ap (λ f. f q) (k.stands.owns j l)))))
        (nat_lt j k.function.slots) refl
