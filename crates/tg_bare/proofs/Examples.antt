-- Runs of the machine with delayed branches, computed: those of the table of `exec --bare`.
use Rattle.std.proofs.Common.{ℕ, ◌≡◌, ◌+◌, ◌/◌, List, [], ◌∷◌, map, refl, pos}
use Rattle.tg_machine_state.specs.declared.ends.RunEnd.TheVariants.{Exit, BadWord, BadAddress, BadService}
use Rattle.tg_machine_state.specs.State.{code_base, initial_machine}
use Rattle.tg_simulation.specs.Ran.{Stop, Ended}
use Rattle.tg_isa.specs.declared.mips.Mips.{Mips}
use Rattle.tg_isa.specs.declared.mips.Mips.TheVariants as row
use Rattle.tg_isa.specs.Table.{word_of}
use Rattle.tg_isa.specs.ImageRuns.{machine_run}
use Rattle.tg_bare.specs.Delayed.{initial_bare}
use Rattle.tg_bare.specs.BareRuns.{bare_run}

abbrev words : List Mips → List ℕ
words rows = map word_of rows

abbrev bare : List Mips → ℕ → Stop
bare rows n = (bare_run (initial_bare (words rows) [] code_base 0 16) [] n).stop

abbrev plain : List Mips → ℕ → Stop
plain rows n = (machine_run (initial_machine (words rows) [] code_base 0 16) [] n).stop

abbrev word : ℕ → ℕ
word n = code_base / 4 + n

-- row 93
abbrev slot : List Mips
slot = row.Addiu 2 0 17 ∷ row.J (word 4) ∷ row.Addiu 4 0 7 ∷ row.Addiu 4 0 9 ∷ row.Syscall ∷ []

row_93 : bare slot 9 ≡ Ended (Exit (pos 7))
row_93 = refl

row_93_plain : plain slot 9 ≡ Ended (Exit (pos 0))
row_93_plain = refl

-- row 94
abbrev jumps : List Mips
jumps = row.J (word 0) ∷ row.J (word 0) ∷ []

row_94 : bare jumps 9 ≡ Ended (BadWord 0x08100000)
row_94 = refl

-- a branch to its own slot, which is done twice
abbrev twice : List Mips
twice = row.Beq 0 0 0 ∷ row.Addiu 4 4 1 ∷ row.Addiu 2 0 17 ∷ row.Syscall ∷ []

slot_twice : bare twice 9 ≡ Ended (Exit (pos 2))
slot_twice = refl

slot_once : plain twice 9 ≡ Ended (Exit (pos 1))
slot_once = refl

-- a call's word is that behind its slot
abbrev linked : List Mips
linked = row.Jal (word 2) ∷ row.Sll 0 0 0 ∷ row.Andi 4 31 255 ∷ row.Addiu 2 0 17 ∷ row.Syscall ∷ []

link_is_8 : bare linked 9 ≡ Ended (Exit (pos 8))
link_is_8 = refl

link_is_4 : plain linked 9 ≡ Ended (Exit (pos 4))
link_is_4 = refl

-- and so is that of `jalr`
abbrev linked_there : List Mips
linked_there =
    row.Lui 8 64 ∷ row.Ori 8 8 20 ∷ row.Jalr 9 8 ∷ row.Addiu 4 9 0 ∷ row.Break 9 ∷ row.Andi 4 4 255
    ∷ row.Addiu 2 0 17 ∷ row.Syscall ∷ []

jalr_is_16 : bare linked_there 9 ≡ Ended (Exit (pos 16))
jalr_is_16 = refl

jalr_is_0 : plain linked_there 9 ≡ Ended (Exit (pos 0))
jalr_is_0 = refl

-- behind a branch that isn't taken is a slot too
untaken : bare (row.Bne 0 0 65535 ∷ row.Beq 0 0 65534 ∷ []) 9 ≡ Ended (BadWord 0x1000fffe)
untaken = refl

-- a slot behind the code, and one in it
no_slot : bare (row.Jr 31 ∷ []) 9 ≡ Ended (BadAddress 0x00400004)
no_slot = refl

slot_and_end : bare (row.Jr 31 ∷ row.Addiu 4 0 5 ∷ []) 9 ≡ Ended (Exit (pos 0))
slot_and_end = refl

bad_service : bare (row.J (word 2) ∷ row.Syscall ∷ row.Sll 0 0 0 ∷ []) 9 ≡ Ended (BadService 0)
bad_service = refl

bad_address : plain (row.J (word 2) ∷ row.Syscall ∷ row.Sll 0 0 0 ∷ []) 9 ≡ Ended (BadAddress 0x0040000c)
bad_address = refl
