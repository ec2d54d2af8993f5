-- Runs of lines, computed: a call and its return, a loop, a full stack, and the address of a literal.
use Rattle.std.proofs.Common.{ℕ, ◌≡◌, ◌+◌, ◌*◌, List, [], ◌∷◌, refl, pos}
use Rattle.std.specs.Prelude.{codes}
use Rattle.std.specs.Fmt.{digits}
use Rattle.tg_machine_state.specs.declared.ends.RunEnd.TheVariants.{Exit, StackFull}
use Rattle.tg_simulation.specs.Ran.{Ran, Ended, WantsFuel, Wrong}
use Rattle.tg_isa.specs.declared.mips.Mips.TheVariants as row
use Rattle.tg_tree.specs.declared.fragments.Literal.{Literal}
use Rattle.tg_emit.specs.declared.assembly.Line.{Line}
use Rattle.tg_emit.specs.declared.assembly.Line.TheVariants.{Label, One, La}
use Rattle.tg_emit.specs.mirror.Lines.{alone}
use Rattle.tg_emit_proof.specs.LinesRun.{Returns, lines_run}

-- whatever the words after calls are: 12, 16, ..
abbrev words_are : Returns
words_are k = 12 + 4 * k

abbrev ran : List Line → ℕ → Ran
ran lines n = lines_run words_are lines [] [] 0 16 n

-- a function that adds 1 to $a0, called with 65; its result is printed as a byte
abbrev called : List Line
called =
    Label (codes "main") ∷ alone (row.Addiu 29 29 65528) ∷ alone (row.Lw 0 0 29) ∷ alone (row.Sw 31 4 29)
    ∷ alone (row.Addiu 4 0 65) ∷ One (row.Jal 0) (codes "f33") ∷ alone (row.Addu 4 0 2) ∷ alone (row.Addiu 2 0 11)
    ∷ alone row.Syscall ∷ alone (row.Lw 31 4 29) ∷ alone (row.Addiu 29 29 8) ∷ alone (row.Jr 31)
    ∷ Label (codes "f33") ∷ alone (row.Addiu 2 4 1) ∷ alone (row.Jr 31) ∷ []

prints : (ran called 20).output ≡ 66 ∷ []
prints = refl

ends : (ran called 20).stop ≡ Ended (Exit (pos 0))
ends = refl

-- 13 rows, and the fetch at place 0
work : (ran called 20).work ≡ 14
work = refl

one_before : (ran called 13).stop ≡ WantsFuel
one_before = refl

-- a loop without end, a stack without a floor
abbrev loop : List Line
loop = Label (codes "main") ∷ Label (codes "a") ∷ One (row.J 0) (codes "a") ∷ []

loops : (ran loop 9).stop ≡ WantsFuel
loops = refl

abbrev deep : List Line
deep = Label (codes "main") ∷ alone (row.Addiu 29 29 65528) ∷ alone (row.Lw 0 0 29) ∷ One (row.Jal 0)
    (codes "main") ∷ []

fills : (ran deep 99).stop ≡ Ended StackFull
fills = refl

-- two frames of 8 bytes, and the probe of a third
fills_after : (ran deep 99).work ≡ 8
fills_after = refl

-- a jump to what no call has put there
abbrev lost : List Line
lost = Label (codes "main") ∷ alone (row.Addiu 31 0 13) ∷ alone (row.Jr 31) ∷ []

goes_wrong : (ran lost 9).stop ≡ Wrong
goes_wrong = refl

-- the address of the second literal, as a byte of it
abbrev literals : List Literal
literals = record { label = record { 0 = 40 }; text = 1 ∷ [] } ∷ record {
  label = record { 0 = 41 };
  text =
      77 ∷ [];
} ∷ []

abbrev addressed : List Line
addressed =
    Label (codes "main") ∷ La 4 (codes "s41") ∷ alone (row.Lbu 4 0 4) ∷ alone
    (row.Addiu 2 0 11) ∷ alone row.Syscall ∷ alone (row.Jr 31) ∷ []

addresses : (lines_run words_are addressed literals [] 0 16 9).output ≡ 77 ∷ []
unfolding digits
addresses = refl
