-- What each instruction does, a row of the table a line, and one step of the machine (MIPS I
-- manual, appendix A).
use Rattle.std.specs.Prelude.{ℕ, ◌+◌, ◌*◌, ◌/◌, ◌%◌, ◌^◌, length, slice_index, Bool, if◌then◌else◌}
use Rattle.std.specs.Prelude.{◌==◌, nat_lt, Option, Some, None, Result, Ok, Err, bit_and, bit_or}
use Rattle.std.specs.Prelude.{bit_xor, pos}
use Rattle.tg_isa.specs.declared.mips.Mips.{Mips}
use Rattle.tg_isa.specs.declared.mips.Mips.TheVariants.{Sll, Srl, Sra, Jr, Jalr, Syscall, Break}
use Rattle.tg_isa.specs.declared.mips.Mips.TheVariants.{Mfhi, Mflo, Mult, Div, Add, Sub, Addu, Subu}
use Rattle.tg_isa.specs.declared.mips.Mips.TheVariants.{And, Or, Xor, Nor, Slt, Sltu, J, Jal, Beq}
use Rattle.tg_isa.specs.declared.mips.Mips.TheVariants.{Bne, Blez, Bgtz, Bltz, Bgez, Addi, Addiu}
use Rattle.tg_isa.specs.declared.mips.Mips.TheVariants.{Slti, Sltiu, Andi, Ori, Xori, Lui, Lb, Lbu}
use Rattle.tg_isa.specs.declared.mips.Mips.TheVariants.{Lw, Sb, Sw}
use Rattle.tg_isa.specs.Table.{decode_of}
use Rattle.tg_machine_state.specs.declared.ends.RunEnd.TheVariants as ends
use Rattle.tg_machine_state.specs.declared.ends.RunEnd.{RunEnd}
use Rattle.tg_machine_state.specs.declared.ends.RunEnd.TheVariants.{Exit, Overflow, BadAddress}
use Rattle.tg_machine_state.specs.declared.ends.RunEnd.TheVariants.{Unaligned}
use Rattle.tg_machine_state.specs.declared.ends.RunEnd.TheVariants.{BadWord}
use Rattle.tg_base.specs.Words.{add, sub, less, quot, rem, exact_sum, exact_difference}
use Rattle.tg_base.specs.Words.{product_high, product_low, extended, extended_byte, shift_left}
use Rattle.tg_base.specs.Words.{shift_right, shift_signed, neither, flag}
use Rattle.tg_machine_state.specs.State.{MachineState, code_base, register, set_register, go}
use Rattle.tg_machine_state.specs.State.{offset}
use Rattle.tg_machine_state.specs.State.{load_byte}
use Rattle.tg_machine_state.specs.State.{load_word, store_byte, store_word}
use Rattle.tg_machine_state.specs.Services.{Step, Goes, Ends, service}

-- a register gets a word, or the access ends
abbrev pub put : MachineState → ℕ → Result ℕ RunEnd → Step
put s r (Ok v) = Goes (set_register s r v)
put s r (Err e) = Ends e

-- a register gets an exact result, or the word of it is not there
abbrev pub put_exact : MachineState → ℕ → Option ℕ → Step
put_exact s r (Some v) = Goes (set_register s r v)
put_exact s r None = Ends Overflow

-- memory was stored to, or the access ends
abbrev pub stored : Result MachineState RunEnd → Step
stored (Ok s) = Goes s
stored (Err e) = Ends e

-- the address of a load or a store
abbrev pub effective_address : MachineState → ℕ → ℕ → ℕ
effective_address s base number = add (register s base) (extended number)

-- a load of a byte, as a word with its sign
abbrev pub extended_load : Result ℕ RunEnd → Result ℕ RunEnd
extended_load (Ok b) = Ok (extended_byte b)
extended_load (Err e) = Err e

-- the place of a branch, in a state whose place is the next one: so many words further on
abbrev pub branch : MachineState → ℕ → MachineState
branch s number = go s (add s.place (4 * extended number % 2 ^ 32))

-- a branch where a test holds
abbrev pub branch_if : Bool → MachineState → ℕ → Step
branch_if b s number = if b then Goes (branch s number) else Goes s

abbrev pub branch_unless : Bool → MachineState → ℕ → Step
branch_unless b s number = if b then Goes s else Goes (branch s number)

-- the place of a jump: the upper 4 bits of the next place, then the target, then 00
abbrev pub jump : MachineState → ℕ → ℕ
jump s target = s.place / 2 ^ 28 * 2 ^ 28 + 4 * target

-- the quotient and the remainder, where the divisor is not 0
abbrev pub divide : MachineState → ℕ → ℕ → MachineState
divide s a b = if b == 0 then s else record s { hi = rem a b; lo = quot a b }

-- the effect of an instruction, in a state whose place is the next one
abbrev pub effect : Mips → MachineState → Step
effect (Sll rd rt shamt) s = Goes (set_register s rd (shift_left (register s rt) shamt))
effect (Srl rd rt shamt) s = Goes (set_register s rd (shift_right (register s rt) shamt))
effect (Sra rd rt shamt) s = Goes (set_register s rd (shift_signed (register s rt) shamt))
effect (Jr rs) s = Goes (go s (register s rs))
effect (Jalr rd rs) s = Goes (go (set_register s rd s.place) (register s rs))
effect Syscall s = service s
effect (Break code) s = Ends (ends.Break code)
effect (Mfhi rd) s = Goes (set_register s rd s.hi)
effect (Mflo rd) s = Goes (set_register s rd s.lo)
effect (Mult rs rt) s =
    Goes (record s {
      hi = product_high (register s rs) (register s rt);
      lo = product_low (register s rs) (register s rt);
    })
effect (Div rs rt) s = Goes (divide s (register s rs) (register s rt))
effect (Add rd rs rt) s = put_exact s rd (exact_sum (register s rs) (register s rt))
effect (Sub rd rs rt) s = put_exact s rd (exact_difference (register s rs) (register s rt))
effect (Addu rd rs rt) s = Goes (set_register s rd (add (register s rs) (register s rt)))
effect (Subu rd rs rt) s = Goes (set_register s rd (sub (register s rs) (register s rt)))
effect (And rd rs rt) s = Goes (set_register s rd (bit_and (register s rs) (register s rt)))
effect (Or rd rs rt) s = Goes (set_register s rd (bit_or (register s rs) (register s rt)))
effect (Xor rd rs rt) s = Goes (set_register s rd (bit_xor (register s rs) (register s rt)))
effect (Nor rd rs rt) s = Goes (set_register s rd (neither (register s rs) (register s rt)))
effect (Slt rd rs rt) s = Goes (set_register s rd (flag (less (register s rs) (register s rt))))
effect (Sltu rd rs rt) s = Goes (set_register s rd (flag (nat_lt (register s rs) (register s rt))))
effect (J target) s = Goes (go s (jump s target))
effect (Jal target) s = Goes (go (set_register s 31 s.place) (jump s target))
effect (Beq rs rt number) s = branch_if (register s rs == register s rt) s number
effect (Bne rs rt number) s = branch_unless (register s rs == register s rt) s number
effect (Blez rs number) s = branch_unless (less 0 (register s rs)) s number
effect (Bgtz rs number) s = branch_if (less 0 (register s rs)) s number
effect (Bltz rs number) s = branch_if (less (register s rs) 0) s number
effect (Bgez rs number) s = branch_unless (less (register s rs) 0) s number
effect (Addi rt rs number) s = put_exact s rt (exact_sum (register s rs) (extended number))
effect (Addiu rt rs number) s = Goes (set_register s rt (add (register s rs) (extended number)))
effect (Slti rt rs number) s =
    Goes (set_register s rt (flag (less (register s rs) (extended number))))
effect (Sltiu rt rs number) s =
    Goes (set_register s rt (flag (nat_lt (register s rs) (extended number))))
effect (Andi rt rs number) s = Goes (set_register s rt (bit_and (register s rs) number))
effect (Ori rt rs number) s = Goes (set_register s rt (bit_or (register s rs) number))
effect (Xori rt rs number) s = Goes (set_register s rt (bit_xor (register s rs) number))
effect (Lui rt number) s = Goes (set_register s rt (number * 65536))
effect (Lb rt number rs) s = put s rt (extended_load (load_byte s (effective_address s rs number)))
effect (Lbu rt number rs) s = put s rt (load_byte s (effective_address s rs number))
effect (Lw rt number rs) s = put s rt (load_word s (effective_address s rs number))
effect (Sb rt number rs) s = stored (store_byte s (effective_address s rs number) (register s rt))
effect (Sw rt number rs) s = stored (store_word s (effective_address s rs number) (register s rt))

-- the instruction at the place, or how its fetch ends
abbrev pub decoded : ℕ → Option Mips → Result Mips RunEnd
decoded w (Some one) = Ok one
decoded w None = Err (BadWord w)

abbrev pub fetched : MachineState → Option ℕ → Result Mips RunEnd
fetched s (Some i) = decoded (slice_index s.code (i / 4)) (decode_of (slice_index s.code (i / 4)))
fetched s None = Err (BadAddress s.place)

abbrev pub fetch : MachineState → Result Mips RunEnd
fetch s =
    if s.place == 0 then Err (Exit (pos 0)) else
    if s.place % 4 == 0 then fetched s (offset s.place code_base (4 * length s.code)) else
    Err (Unaligned s.place)

-- one step: the fetch, and then the effect
abbrev pub performed : MachineState → Result Mips RunEnd → Step
performed s (Ok one) = effect one (go s (add s.place 4))
performed s (Err e) = Ends e

abbrev pub step : MachineState → Step
step s = performed s (fetch s)
