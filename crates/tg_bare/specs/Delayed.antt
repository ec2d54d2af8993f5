-- The machine with delayed branches: behind an instruction that jumps or branches it does the one
-- in the delay slot, the next word, and only then goes on where that one leads (MIPS I manual,
-- jumps and branches; SPIM does so with `-delayed_branches`).
use Rattle.std.specs.Prelude.{ℕ, ◌==◌, Bool, true, false, if◌then◌else◌, Option, Some, None}
use Rattle.std.specs.Prelude.{Result, Ok, Err, List}
use Rattle.tg_base.specs.Words.{add, less}
use Rattle.tg_machine_state.specs.declared.ends.RunEnd.{RunEnd}
use Rattle.tg_machine_state.specs.declared.ends.RunEnd.TheVariants.{BadWord}
use Rattle.tg_machine_state.specs.State.{MachineState, register, set_register, go}
use Rattle.tg_machine_state.specs.State.{initial_machine}
use Rattle.tg_machine_state.specs.Services as plain
use Rattle.tg_machine_state.specs.Services.{Step}
use Rattle.tg_isa.specs.declared.mips.Mips.{Mips}
use Rattle.tg_isa.specs.declared.mips.Mips.TheVariants.{Jr, Jalr, J, Jal, Beq, Bne, Blez, Bgtz}
use Rattle.tg_isa.specs.declared.mips.Mips.TheVariants.{Bltz, Bgez}
use Rattle.tg_isa.specs.Table.{word_of}
use Rattle.tg_isa.specs.Effects.{effect, fetch, branch, jump}

-- The state, whose place is that of the next step; the place of the step behind that one; and
-- whether the next step is in the delay slot of the step before it.
pub record Bare : Type 0 where
  pub state : MachineState
  pub next : ℕ
  pub in_slot : Bool

-- Where an instruction leads: straight on; or it controls, and behind its delay slot the run is at
-- a place, where it is taken. Whether it is taken is told by the option, since a branch may lead to
-- its own slot.
pub data Way : Type 0 where
  Straight : Way
  Turns : (taken : Option ℕ) → MachineState → Way

abbrev pub turns_if : Bool → (place : ℕ) → MachineState → Way
turns_if b place s = Turns (if b then Some place else None) s

abbrev pub turns_unless : Bool → (place : ℕ) → MachineState → Way
turns_unless b place s = Turns (if b then None else Some place) s

-- the place that a branch leads to
abbrev pub branched : MachineState → ℕ → ℕ
branched s number = (branch s number).place

-- In a state whose place is the delay slot's: offsets and the upper bits of a jump count from
-- there, and the register of a call gets the place behind it.
abbrev pub way : Mips → MachineState → Way
way (J n) s = Turns (Some (jump s n)) s
way (Jal n) s = Turns (Some (jump s n)) (set_register s 31 (add s.place 4))
way (Jr rs) s = Turns (Some (register s rs)) s
way (Jalr rd rs) s = Turns (Some (register s rs)) (set_register s rd (add s.place 4))
way (Beq rs rt n) s = turns_if (register s rs == register s rt) (branched s n) s
way (Bne rs rt n) s = turns_unless (register s rs == register s rt) (branched s n) s
way (Blez rs n) s = turns_unless (less 0 (register s rs)) (branched s n) s
way (Bgtz rs n) s = turns_if (less 0 (register s rs)) (branched s n) s
way (Bltz rs n) s = turns_if (less (register s rs) 0) (branched s n) s
way (Bgez rs n) s = turns_unless (less (register s rs) 0) (branched s n) s
way one s = Straight

-- What a step does: as a step of the machine without delay slots, in the state of this one.
pub data Did : Type 0 where
  Goes : Bare → Did
  Ends : RunEnd → Did
  Reads : Bare → Did
  Writes : List ℕ → Bare → Did

-- behind an instruction that goes straight on: the step behind the next one is 4 further on
abbrev pub behind : MachineState → Bare
behind s = record { state = s; next = add s.place 4; in_slot = false }

abbrev pub straight_on : Step → Did
straight_on (plain.Goes s) = Goes (behind s)
straight_on (plain.Ends e) = Ends e
straight_on (plain.Reads s) = Reads (behind s)
straight_on (plain.Writes bytes s) = Writes bytes (behind s)

-- the place behind the delay slot: where it is taken, or 4 further on
abbrev pub taken_to : Option ℕ → (place : ℕ) → ℕ
taken_to (Some p) place = p
taken_to None place = place

-- no instruction may jump or branch in a delay slot
abbrev pub turned : (in_slot : Bool) → (word : ℕ) → (taken : Option ℕ) → MachineState → Did
turned true word taken s = Ends (BadWord word)
turned false word taken s =
    Goes (record { state = s; next = taken_to taken (add s.place 4); in_slot = true })

abbrev pub led : Way → (in_slot : Bool) → Mips → MachineState → Did
led Straight in_slot one s = straight_on (effect one s)
led (Turns taken t) in_slot one s = turned in_slot (word_of one) taken t

-- one step: the fetch, and then what the instruction does, in a state whose place is the next one
abbrev pub performed : Bare → Result Mips RunEnd → Did
performed b (Ok one) =
    let s : MachineState = go b.state b.next in led (way one s) b.in_slot one s
performed b (Err e) = Ends e

abbrev pub bare_step : Bare → Did
bare_step b = performed b (fetch b.state)

-- the machine at the start of a program
abbrev pub initial_bare : (code statics : List ℕ) (entry heap stack : ℕ) → Bare
initial_bare code statics entry heap stack = record {
  state = initial_machine code statics entry heap stack;
  next = add entry 4;
  in_slot = false;
}
