use Rattle.std.proofs.Common.{ℕ, ◌≡◌, refl, sym, subst}
use Rattle.tg_machine_state.specs.State.{MachineState, go}
use Rattle.tg_machine.specs.declared.rows.Row.{Row}
use Rattle.tg_machine.specs.declared.rows.Row.TheVariants as row
use Rattle.tg_bare.specs.declared.ways.Way.TheVariants as to
use Rattle.tg_bare.specs.Delayed.{Way, Straight}
use Rattle.tg_bare.specs.glue.Moves.{Leads}
use Rattle.tg_bare.specs.mirror.Ways.{row_way}
use Rattle.tg_bare.proofs.ways.lead.Goals as goal

-- a row that is none of the ten goes straight on
other_row : (one : Row) (s : MachineState) →
    ((n : ℕ) → one ≡ row.J n → ⊥) → ((n : ℕ) → one ≡ row.Jal n → ⊥) → ((rs : ℕ) → one ≡ row.Jr rs → ⊥) →
    ((rd rs : ℕ) → one ≡ row.Jalr rd rs → ⊥) → ((rs rt n : ℕ) → one ≡ row.Beq rs rt n → ⊥) → ((rs rt n : ℕ) → one ≡ row.Bne rs rt n → ⊥) →
    ((rs n : ℕ) → one ≡ row.Blez rs n → ⊥) → ((rs n : ℕ) → one ≡ row.Bgtz rs n → ⊥) → ((rs n : ℕ) → one ≡ row.Bltz rs n → ⊥) →
    ((rs n : ℕ) → one ≡ row.Bgez rs n → ⊥) → row_way one s ≡ Straight
other_row (row.J n) s j jal jr jalr beq bne blez bgtz bltz bgez = absurd (j n refl)
other_row (row.Jal n) s j jal jr jalr beq bne blez bgtz bltz bgez = absurd (jal n refl)
other_row (row.Jr rs) s j jal jr jalr beq bne blez bgtz bltz bgez = absurd (jr rs refl)
other_row (row.Jalr rd rs) s j jal jr jalr beq bne blez bgtz bltz bgez = absurd (jalr rd rs refl)
other_row (row.Beq rs rt n) s j jal jr jalr beq bne blez bgtz bltz bgez = absurd (beq rs rt n refl)
other_row (row.Bne rs rt n) s j jal jr jalr beq bne blez bgtz bltz bgez = absurd (bne rs rt n refl)
other_row (row.Blez rs n) s j jal jr jalr beq bne blez bgtz bltz bgez = absurd (blez rs n refl)
other_row (row.Bgtz rs n) s j jal jr jalr beq bne blez bgtz bltz bgez = absurd (bgtz rs n refl)
other_row (row.Bltz rs n) s j jal jr jalr beq bne blez bgtz bltz bgez = absurd (bltz rs n refl)
other_row (row.Bgez rs n) s j jal jr jalr beq bne blez bgtz bltz bgez = absurd (bgez rs n refl)
other_row one s j jal jr jalr beq bne blez bgtz bltz bgez = refl

pub returns-in_default : goal.returns-in_default
returns-in_default c =
    let s = go c.args.core.now c.args.slot in
    let d = c.in_default in
    subst (λ (w : Way). Leads to.Straight w s)
    (sym (other_row c.args.one s d.not-J d.not-Jal d.not-Jr d.not-Jalr d.not-Beq d.not-Bne d.not-Blez d.not-Bgtz d.not-Bltz d.not-Bgez)) tt
