-- The frame address, and addresses of literals.
use Rattle.std.proofs.Common.{ℕ, suc, ◌≡◌, ◌<◌, ◌*◌, ◌/◌, ◌%◌, ◌^◌, ◌==◌, [], ◌∷◌, ◌++◌, refl, ap}
use Rattle.std.proofs.Common.{arith, true, Option, Some, None}
use Rattle.std.specs.Prelude.{IsTrue, if◌then◌else◌, nat_lt}
use Rattle.tg_base.specs.Words.{add}
use Rattle.tg_machine_state.specs.State.{MachineState, register, set_register, statics_base}
use Rattle.tg_machine_state.specs.Services as machine_does
use Rattle.tg_simulation.specs.Ran.{Wrong, stops, works}
use Rattle.tg_simulation.specs.laws.Simulating.{Comes}
use Rattle.tg_simulation.proofs.Simulations.{simulates_wrong, comes_on}
use Rattle.tg_isa.specs.declared.mips.Mips.TheVariants as row
use Rattle.tg_tree.specs.Memory.{literal_address}
use Rattle.tg_tree.specs.Actions.{charged, with_word}
use Rattle.tg_instr.specs.declared.operands.Opnd.{Opnd}
use Rattle.tg_instr.specs.declared.operands.Opnd.TheVariants.{Temp, Reg}
use Rattle.tg_base.specs.declared.ids.Label.{Label}
use Rattle.tg_instr.specs.declared.instr.Instr.{Instr}
use Rattle.tg_instr.specs.declared.instr.Instr.TheVariants as instr
use Rattle.tg_instr.specs.Shapes.{Operand}
use Rattle.tg_instr.specs.Contents.{Word, set}
use Rattle.tg_instr.proofs.Tests.{left_holds}
use Rattle.tg_emit.specs.mirror.Names.{literal_name}
use Rattle.tg_emit.specs.mirror.Lines.{alone}
use Rattle.tg_instr.specs.Codes.{is_allocated}
use Rattle.tg_emit_proof.specs.LinesRun.{address_from, goes_halfway}
use Rattle.tg_emit_proof.specs.Setting.{Setting, from}
use Rattle.tg_emit_proof.specs.glue.Situation.{onward, LinesFollow, InstructionGoesOn}
use Rattle.tg_emit_proof.proofs.Basics.{no_true}
use Rattle.tg_emit_proof.proofs.Each.{fits_here}
use Rattle.tg_emit_proof.proofs.Registers.{sizes_stay, memory_stays, with_number, numbered}
use Rattle.tg_emit_proof.proofs.Rows.{done, row_comes}
use Rattle.tg_emit_proof.proofs.Offsets.{set_halves, below, above_comes}
use Rattle.tg_emit_proof.proofs.Onward.{own, behind, puts}
use Rattle.tg_emit_proof.proofs.Straight.{names}

-- the address of a literal
pub address_goes : (g : Setting) (to : Opnd) (label : Label) → InstructionGoesOn g (instr.Address to label)
address_goes g (Temp t) label k = absurd (no_true (names g (instr.Address (Temp t) label) k))
address_goes g (Reg r) label k = by (literal_address g.program.literals label.0) refl
  where
    it : Instr
    it = instr.Address (Reg r) label

    named : IsTrue (is_allocated r)
    named = left_holds (is_allocated r) true (names g it k)

    comes : (a : ℕ) → address_from statics_base (literal_name label.0) g.literals ≡ Some a → a < 2 ^ 32 →
        Comes 2 (from g (own g it k ++ behind g it k) k.state k.world.input)
        (from g (behind g it k) (set_register k.state r a) k.world.input)
    comes a e f =
        comes_on 1 1 _
        (from g (alone (row.Ori r r (a % 65536)) ∷ behind g it k)
        (set_register k.state r (a / 65536 * 65536)) k.world.input) _
        (λ i. (
          suc i,
          omega arith,
          1,
          omega arith,
          ap (λ o. works 1 (done g k.world.input i (goes_halfway r o (behind g it k) k.state))) e,
        ))
        (row_comes g (row.Ori r r (a % 65536)) [] (behind g it k) (set_register k.state r (a / 65536 * 65536))
        (set_register k.state r a) k.world.input refl
        (ap machine_does.Goes (set_halves k.state r a k.stands.registers.count (below r named) f)))

    by : (o : Option ℕ) → literal_address g.program.literals label.0 ≡ o →
        LinesFollow g it k
        (charged 2 (with_word o k.world
        (λ a. if r == 29 then (λ i. stops k.world.input Wrong) else onward g it k k.world
        (set (Operand (Reg r)) (Word a) k.contents))))
    by None e = simulates_wrong 1 k.credit k.fuel _ _ (λ i. refl)
    by (Some a) e =
        let h = k.known.addresses label.0 a (fits_here g it k).numbers.1 e in
        puts g it k 2 2 k.world k.state r a (Word a) (omega arith) named refl h.1 k.stands.sizes k.stands.registers
        k.stands.memory k.stands.input (comes a h.0 h.1)

-- the frame address
pub frame_address_goes : (g : Setting) (to : Opnd) → InstructionGoesOn g (instr.FrameAddress to)
frame_address_goes g (Temp t) k = absurd (no_true (names g (instr.FrameAddress (Temp t)) k))
frame_address_goes g (Reg r) k =
    puts g it k 3 3 k.world t r base (Word base) (omega arith) named refl fits
    (sizes_stay k.state t.registers k.state.hi k.state.lo g k.stands.sizes)
    (numbered (nat_lt size 32768) k.found k.activation k.contents k.state size
    (omega (arith, least)) k.stands.registers)
    (memory_stays k.state t.registers k.state.hi k.state.lo k.finds k.world.memory k.stands.memory) k.stands.input
    (above_comes g r size base (behind g it k) k.state k.world.input k.stands.registers.count
    (omega (arith, least)) sum)
  where
    it : Instr
    it = instr.FrameAddress (Reg r)

    named : IsTrue (is_allocated r)
    named = left_holds (is_allocated r) true (names g it k)

    size : ℕ
    size = g.size k.function.label

    base : ℕ
    base = k.activation.base

    t : MachineState
    t = with_number (nat_lt size 32768) k.state size

    least : size < 2 ^ 29
    least = (k.known.frames k.function k.stands.function).most

    sum : add (register k.state 29) size ≡ base
    sum =
        let f = k.stands.frame in
        let a = f.above in let b = f.below in let z = k.stands.sized in
        let sp = k.stands.registers.each 29 refl in
        omega (arith, a, b, sp, z)

    fits : base < 2 ^ 32
    fits = let b = k.stands.frame.below in omega (arith, b)
