-- A machine's state in other code and at another place of it, and the rows that do the same there.
use Rattle.std.specs.Prelude.{ℕ, ◌≡◌, List}
use Rattle.tg_machine_state.specs.State.{MachineState}
use Rattle.tg_machine_state.specs.Services.{Step, Goes, Ends, Reads, Writes}
use Rattle.tg_isa.specs.declared.mips.Mips.{Mips}
use Rattle.tg_isa.specs.declared.mips.Mips.TheVariants.{J, Jal, Jr, Jalr, Beq, Bne, Blez, Bgtz}
use Rattle.tg_isa.specs.declared.mips.Mips.TheVariants.{Bltz, Bgez}
use Rattle.tg_isa.specs.Effects.{effect}

abbrev pub on : (code : List ℕ) → (place : ℕ) → MachineState → MachineState
on code place s = record s { code = code; place = place }

abbrev pub step_on : (code : List ℕ) → (place : ℕ) → Step → Step
step_on code place (Goes s) = Goes (on code place s)
step_on code place (Ends e) = Ends e
step_on code place (Reads s) = Reads (on code place s)
step_on code place (Writes bytes s) = Writes bytes (on code place s)

-- a row that neither jumps nor branches
abbrev pub IsStraight : Mips → Type 0
IsStraight (J n) = ⊥
IsStraight (Jal n) = ⊥
IsStraight (Jr rs) = ⊥
IsStraight (Jalr rd rs) = ⊥
IsStraight (Beq rs rt n) = ⊥
IsStraight (Bne rs rt n) = ⊥
IsStraight (Blez rs n) = ⊥
IsStraight (Bgtz rs n) = ⊥
IsStraight (Bltz rs n) = ⊥
IsStraight (Bgez rs n) = ⊥
IsStraight one = Unit {0}

-- its effect is the same wherever code and place are
abbrev pub EffectsAreAnywhere : Type 0
EffectsAreAnywhere =
    (code : List ℕ) (place : ℕ) (one : Mips) (s : MachineState) → IsStraight one →
    effect one (on code place s) ≡ step_on code place (effect one s)
