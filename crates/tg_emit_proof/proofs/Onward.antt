-- From an instruction on to what is after it.
use Rattle.std.proofs.Common.{ℕ, ◌≡◌, ◌<◌, ◌≤◌, ◌+◌, ◌*◌, ◌-◌, ◌^◌, ◌==◌, List, [], ◌∷◌, ◌++◌, length, refl, ap, sym}
use Rattle.std.proofs.Common.{◌∙◌, subst, arith, append_assoc, Bool, true, false}
use Rattle.std.specs.Prelude.{IsTrue, if◌then◌else◌, slice_set}
use Rattle.tg_machine_state.specs.State.{MachineState, set_register, stack_top}
use Rattle.tg_simulation.specs.Ran.{Wrong, stops}
use Rattle.tg_simulation.specs.laws.Simulating.{Comes}
use Rattle.tg_simulation.proofs.Simulations.{simulates_paying, simulates_coming, simulates_wrong, simulates_with_credit}
use Rattle.tg_tree.specs.Actions.{World, charged}
use Rattle.tg_instr.specs.declared.operands.Opnd.TheVariants.{Reg}
use Rattle.tg_instr.specs.declared.instr.Instr.{Instr}
use Rattle.tg_instr.specs.Shapes.{Operand}
use Rattle.tg_instr.specs.Contents.{Content, Contents, set}
use Rattle.tg_emit.specs.declared.assembly.Line.{Line}
use Rattle.tg_emit.specs.mirror.Lines.{instruction_lines, code_lines}
use Rattle.tg_simulation.specs.Bytes.{AreBytes}
use Rattle.tg_instr.specs.Codes.{is_allocated}
use Rattle.tg_emit_proof.specs.Setting.{Setting, from}
use Rattle.tg_emit_proof.specs.glue.Standing.{IsHeld, HasRegisters, HasMemory, HasSizes, Stands}
use Rattle.tg_emit_proof.specs.glue.Situation.{point, At, onward, LinesFollow}
use Rattle.tg_emit_proof.proofs.Registers.{got, sizes_stay, memory_stays}

-- lines that are a part of lines
joined : (before here own more : List Line) (lines : List Line) → lines ≡ before ++ here → here ≡ own ++ more →
    lines ≡ (before ++ own) ++ more
joined before here own more lines e h = e ∙ (ap (λ l. before ++ l) h ∙ sym (append_assoc before own more))

code_joined : (front rest all : List Instr) (one : Instr) → all ≡ front ++ one ∷ rest →
    all ≡ (front ++ one ∷ []) ++ rest
code_joined front rest all one e = e ∙ sym (append_assoc front (one ∷ []) rest)

module _ (g : Setting) (one : Instr) (k : At g one) where
  -- its own lines, and those after it
  abbrev pub own : List Line
  own = instruction_lines g.turned k.function.label (g.size k.function.label) k.stands.place one

  abbrev pub behind : List Line
  behind = code_lines g.turned k.function.label (g.size k.function.label)
      (k.stands.place + 1) k.rest ++ k.stands.placed.after

  pub here_is : k.here ≡ own ++ behind
  here_is =
      k.stands.here
      ∙ append_assoc own (code_lines g.turned k.function.label (g.size k.function.label) (k.stands.place + 1) k.rest)
      k.stands.placed.after

  -- after it a run stands with what it has done
  pub stands_behind : (w : World) (contents : Contents) (t : MachineState) →
      HasSizes g t → HasRegisters k.found k.activation contents t → HasMemory k.finds w.memory t →
      AreBytes w.input →
      Stands g k.finds k.found (point k.function k.rest k.activation k.back w contents) behind t
  stands_behind w contents t sizes registers memory input =
      let f = k.stands.frame in
      let l : length t.stack ≡ length k.state.stack = sizes.whole ∙ sym k.stands.sizes.whole in
      record {
        function = k.stands.function;
        placed = k.stands.placed;
        front = k.stands.front ++ one ∷ [];
        code = code_joined k.stands.front k.rest k.function.body one k.stands.code;
        place = k.stands.place + 1;
        here = refl;
        before = k.stands.before ++ own;
        whole = joined k.stands.before k.here own behind g.lines k.stands.whole here_is;
        sizes = sizes;
        sized = k.stands.sized;
        frame = record {
          words = f.words;
          size_words = f.size_words;
          holds = f.holds;
          above = subst (λ n. stack_top - n + k.activation.size ≤ k.activation.base) (sym l) f.above;
          below = f.below;
        };
        registers = registers;
        memory = memory;
        owns = k.stands.owns;
        input = input;
      }

  -- so many rows come after it, for which it is charged
  pub comes_behind : (m units : ℕ) (w : World) (contents : Contents) (t : MachineState) → m ≤ units →
      HasSizes g t → HasRegisters k.found k.activation contents t → HasMemory k.finds w.memory t →
      AreBytes w.input →
      Comes m (from g (own ++ behind) k.state k.world.input) (from g behind t w.input) →
      LinesFollow g one k (charged units (onward g one k w contents))
  comes_behind m units w contents t h sizes registers memory input comes =
      let goes = k.next w contents behind t (stands_behind w contents t sizes registers memory input) in
      simulates_paying 1 k.credit k.fuel units _ _
      (simulates_with_credit 1 (k.credit + m) (k.credit + 1 * units) k.fuel _ _ (omega (arith, h))
      (simulates_coming 1 k.credit k.fuel m _ _ _
      (subst (λ l. Comes m (from g l k.state k.world.input) (from g behind t w.input)) (sym here_is) comes) goes))

  pub set_sizes : (t : MachineState) (r v : ℕ) → HasSizes g t → HasSizes g (set_register t r v)
  set_sizes t r v h = by (r == 0)
    where
      by : (b : Bool) → HasSizes g (if b then t else record t { registers = slice_set t.registers r v })
      by true = h
      by false = sizes_stay t (slice_set t.registers r v) t.hi t.lo g h

  pub set_memory : (w : World) (t : MachineState) (r v : ℕ) → HasMemory k.finds w.memory t →
      HasMemory k.finds w.memory (set_register t r v)
  set_memory w t r v m = by (r == 0)
    where
      by : (b : Bool) → HasMemory k.finds w.memory (if b then t else record t {
        registers =
            slice_set t.registers r v;
      })
      by true = m
      by false = memory_stays t (slice_set t.registers r v) t.hi t.lo k.finds w.memory m

  -- It puts a content into a register: after other rows, that leave what is known as it was.
  pub puts : (m units : ℕ) (w : World) (t : MachineState) (r v : ℕ) (c : Content) → m ≤ units →
      IsTrue (is_allocated r) → IsHeld k.found c v → v < 2 ^ 32 →
      HasSizes g t → HasRegisters k.found k.activation k.contents t → HasMemory k.finds w.memory t →
      AreBytes w.input →
      Comes m (from g (own ++ behind) k.state k.world.input) (from g behind (set_register t r v) w.input) →
      LinesFollow g one k (charged units
      (if r == 29 then (λ i. stops w.input Wrong) else onward g one k w (set (Operand (Reg r)) c k.contents)))
  puts m units w t r v c h named is fits sizes registers memory input comes = by (r == 29) refl
    where
      by : (b : Bool) → (r == 29) ≡ b →
          LinesFollow g one k (charged units
          (if b then (λ i. stops w.input Wrong) else onward g one k w (set (Operand (Reg r)) c k.contents)))
      by true e = simulates_wrong 1 k.credit k.fuel _ _ (λ i. refl)
      by false e =
          comes_behind m units w (set (Operand (Reg r)) c k.contents) (set_register t r v) h (set_sizes t r v sizes)
          (got k.found k.activation k.contents t registers r v c named e is fits)
          (set_memory w t r v memory) input comes
