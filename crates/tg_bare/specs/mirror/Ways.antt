-- Where a word of code leads, as the machine executes it.
use Rattle.std.specs.Prelude.{◌==◌, Some}
use Rattle.tg_base.specs.Words.{add, less}
use Rattle.tg_machine_state.specs.State.{MachineState, register, set_register}
use Rattle.tg_machine.specs.declared.rows.Row.{Row}
use Rattle.tg_machine.specs.declared.rows.Row.TheVariants as row
use Rattle.tg_machine.specs.mirror.Rows.{jump}
use Rattle.tg_bare.specs.Delayed.{Way, Straight, Turns, turns_if, turns_unless}

-- where a row leads, in a state whose place is the delay slot's
abbrev pub row_way : Row → MachineState → Way
row_way (row.J target) s = Turns (Some (jump s target)) s
row_way (row.Jal target) s = Turns (Some (jump s target)) (set_register s 31 (add s.place 4))
row_way (row.Jr rs) s = Turns (Some (register s rs)) s
row_way (row.Jalr rd rs) s = Turns (Some (register s rs)) (set_register s rd (add s.place 4))
row_way (row.Beq rs rt bytes) s =
    turns_if (register s rs == register s rt) (add s.place bytes) s
row_way (row.Bne rs rt bytes) s =
    turns_unless (register s rs == register s rt) (add s.place bytes) s
row_way (row.Blez rs bytes) s = turns_unless (less 0 (register s rs)) (add s.place bytes) s
row_way (row.Bgtz rs bytes) s = turns_if (less 0 (register s rs)) (add s.place bytes) s
row_way (row.Bltz rs bytes) s = turns_if (less (register s rs) 0) (add s.place bytes) s
row_way (row.Bgez rs bytes) s = turns_unless (less (register s rs) 0) (add s.place bytes) s
row_way one s = Straight
