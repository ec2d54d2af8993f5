-- Lines with their slots, and lines whose branches are turned round, computed.
use Rattle.std.proofs.Common.{◌≡◌, [], ◌∷◌, refl}
use Rattle.std.specs.Prelude.{codes}
use Rattle.std.specs.Fmt.{digits}
use Rattle.tg_isa.specs.declared.mips.Mips.TheVariants as row
use Rattle.tg_emit.specs.declared.assembly.Line.{Line}
use Rattle.tg_emit.specs.declared.assembly.Line.TheVariants.{Label, One, La, Statics}
use Rattle.tg_emit.specs.mirror.Lines.{alone}
use Rattle.tg_delay.specs.Filling.{nop, filled, turned_round, delayed}

abbrev branch : Line
branch = One (row.Beq 8 0 0) (codes "a")

abbrev call : Line
call = One (row.Jal 0) (codes "f33")

-- A function that adds 1 to $a0, called with 65; its result is printed as a byte. The argument goes into the slot of the call, $sp into that of the last
-- return, and the row that writes $v0 into that of the other.
called_filled : filled (
    Label (codes "main") ∷ alone (row.Addiu 29 29 65528) ∷ alone (row.Lw 0 0 29) ∷ alone (row.Sw 31 4 29)
    ∷ alone (row.Addiu 4 0 65) ∷ call ∷ alone (row.Addu 4 0 2) ∷ alone (row.Addiu 2 0 11)
    ∷ alone row.Syscall ∷ alone (row.Lw 31 4 29) ∷ alone (row.Addiu 29 29 8) ∷ alone (row.Jr 31)
    ∷ Label (codes "f33") ∷ alone (row.Addiu 2 4 1) ∷ alone (row.Jr 31) ∷ [])
    ≡ (Label (codes "main") ∷ alone (row.Addiu 29 29 65528) ∷ alone (row.Lw 0 0 29) ∷ alone (row.Sw 31 4 29)
    ∷ call ∷ alone (row.Addiu 4 0 65) ∷ alone (row.Addu 4 0 2) ∷ alone (row.Addiu 2 0 11)
    ∷ alone row.Syscall ∷ alone (row.Lw 31 4 29) ∷ alone (row.Jr 31) ∷ alone (row.Addiu 29 29 8)
    ∷ Label (codes "f33") ∷ alone (row.Jr 31) ∷ alone (row.Addiu 2 4 1) ∷ [])
called_filled = refl

-- a probe of the stack writes $zero, which is no write
probe_moved : filled (alone (row.Lw 0 0 29) ∷ One (row.Beq 0 0 0) (codes "a") ∷ []) ≡ (One (row.Beq 0 0 0) (codes "a") ∷ alone (row.Lw 0 0 29) ∷ [])
probe_moved = refl

-- What isn't moved: what the branch reads, what a label parts from it, a service, half of a literal's address, what reads the register that a call writes,
-- and what writes it.
read_kept : filled (alone (row.Addiu 8 8 1) ∷ branch ∷ []) ≡ (alone (row.Addiu 8 8 1) ∷ branch ∷ nop ∷ [])
read_kept = refl

label_kept : filled (alone (row.Addiu 9 9 1) ∷ Label (codes "a") ∷ branch ∷ []) ≡ (alone (row.Addiu 9 9 1) ∷ Label (codes "a") ∷ branch ∷ nop ∷ [])
label_kept = refl

service_kept : filled (alone row.Syscall ∷ One (row.J 0) (codes "a") ∷ []) ≡ (alone row.Syscall ∷ One (row.J 0) (codes "a") ∷ nop ∷ [])
service_kept = refl

address_kept : filled (La 4 (codes "s40") ∷ One (row.J 0) (codes "a") ∷ []) ≡ (La 4 (codes "s40") ∷ One (row.J 0) (codes "a") ∷ nop ∷ [])
address_kept = refl

link_kept : filled (alone (row.Sw 31 4 29) ∷ call ∷ []) ≡ (alone (row.Sw 31 4 29) ∷ call ∷ nop ∷ [])
link_kept = refl

written_link_kept : filled (alone (row.Lw 31 4 29) ∷ call ∷ []) ≡ (alone (row.Lw 31 4 29) ∷ call ∷ nop ∷ [])
written_link_kept = refl

-- a branch behind a branch; the row before the first one goes into its slot
two_filled : filled (alone (row.Addiu 9 9 1) ∷ branch ∷ One (row.J 0) (codes "b") ∷ []) ≡
    (branch ∷ alone (row.Addiu 9 9 1) ∷ One (row.J 0) (codes "b") ∷ nop ∷ [])
two_filled = refl

-- the labels behind turned branches count down to b0
branches_turned : turned_round (branch ∷ alone (row.Addiu 9 9 1) ∷ One (row.Blez 9 0) (codes "c") ∷ []) ≡
    (One (row.Bne 8 0 0) (codes "b1") ∷ One (row.J 0) (codes "a") ∷ Label (codes "b1") ∷ alone (row.Addiu 9 9 1)
    ∷ One (row.Bgtz 9 0) (codes "b0") ∷ One (row.J 0) (codes "c") ∷ Label (codes "b0") ∷ [])
unfolding digits
branches_turned = refl

-- short code keeps its branches, and statics stay
delayed_short : delayed (Label (codes "main") ∷ branch ∷ alone (row.Jr 31) ∷ Label (codes "s40") ∷ Statics (1 ∷ []) ∷ []) ≡
    (Label (codes "main") ∷ branch ∷ nop ∷ alone (row.Jr 31) ∷ nop ∷ Label (codes "s40") ∷ Statics (1 ∷ []) ∷ [])
delayed_short = refl
