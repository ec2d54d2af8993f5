-- What the instructions of a code name: registers, temporaries, slots, labels and faults.
use Rattle.std.specs.Prelude.{ℕ, ◌&&◌, ◌||◌, ◌==◌, nat_lt, nat_le, Bool, true}
use Rattle.tg_tree.specs.Named.{Named, function, literal, fault}
use Rattle.tg_instr.specs.declared.instr.Instr.{Instr}
use Rattle.tg_instr.specs.declared.instr.Instr.TheVariants.{Address, Call, Fault}
use Rattle.tg_instr.specs.Renaming.{named}
use Rattle.tg_instr.specs.Codes.{has_register}

-- $v0, $a0 to $a3, $s0 to $s7 and $ra, which code writes
abbrev pub is_written : ℕ → Bool
is_written r = r == 2 || (r == 31 || ((nat_le 4 r && nat_lt r 8) || (nat_le 16 r && nat_lt r 24)))

-- these, $zero and $sp, which code reads
abbrev pub is_read : ℕ → Bool
is_read r = r == 0 || (r == 29 || is_written r)

-- an instruction writes none but those, and reads none but these
abbrev pub names_registers : Instr → Bool
names_registers one =
    has_register is_written (named one).to
    && (has_register is_read (named one).first && has_register is_read (named one).second)

-- the function that it calls, the literal whose address it takes, or its fault passes a test
abbrev pub names_allowed : (Named → Bool) → Instr → Bool
names_allowed allowed (Call label) = allowed (function label.0)
names_allowed allowed (Address to label) = allowed (literal label.0)
names_allowed allowed (Fault n) = allowed (fault n)
names_allowed allowed _ = true
