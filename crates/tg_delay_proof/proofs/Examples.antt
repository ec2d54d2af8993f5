-- Runs of lines with their slots, computed.
use Rattle.std.proofs.Common.{ℕ, ◌≡◌, ◌+◌, ◌*◌, List, [], ◌∷◌, refl, pos}
use Rattle.std.specs.Prelude.{codes}
use Rattle.std.specs.Fmt.{digits}
use Rattle.tg_machine_state.specs.declared.ends.RunEnd.TheVariants.{Exit, StackFull, Unaligned}
use Rattle.tg_simulation.specs.Ran.{Ran, Ended}
use Rattle.tg_isa.specs.declared.mips.Mips.TheVariants as row
use Rattle.tg_tree.specs.declared.fragments.Literal.{Literal}
use Rattle.tg_emit.specs.declared.assembly.Line.{Line}
use Rattle.tg_emit.specs.declared.assembly.Line.TheVariants.{Label, One, La}
use Rattle.tg_emit.specs.mirror.Lines.{alone}
use Rattle.tg_emit_proof.specs.LinesRun.{Returns, lines_run}
use Rattle.tg_delay.specs.Filling.{filled, delayed}
use Rattle.tg_delay_proof.specs.DelayedRun.{delayed_run}

-- whatever the words behind calls are: 12, 16, ..
abbrev words_are : Returns
words_are k = 12 + 4 * k

abbrev ran : List Line → ℕ → Ran
ran lines n = lines_run words_are lines [] [] 0 16 n

abbrev ran_delayed : List Line → ℕ → Ran
ran_delayed lines n = delayed_run words_are (delayed lines) [] [] 0 16 n

-- a function that adds 1 to $a0, called with 65; its result is printed as a byte
abbrev called : List Line
called =
    Label (codes "main") ∷ alone (row.Addiu 29 29 65528) ∷ alone (row.Lw 0 0 29) ∷ alone (row.Sw 31 4 29)
    ∷ alone (row.Addiu 4 0 65) ∷ One (row.Jal 0) (codes "f33") ∷ alone (row.Addu 4 0 2) ∷ alone (row.Addiu 2 0 11)
    ∷ alone row.Syscall ∷ alone (row.Lw 31 4 29) ∷ alone (row.Addiu 29 29 8) ∷ alone (row.Jr 31)
    ∷ Label (codes "f33") ∷ alone (row.Addiu 2 4 1) ∷ alone (row.Jr 31) ∷ []

prints : (ran_delayed called 20).output ≡ 66 ∷ []
prints = refl

ends : (ran_delayed called 20).stop ≡ Ended (Exit (pos 0))
ends = refl

work : (ran_delayed called 20).work ≡ 14
work = refl

-- a probe in the slot of a call ends the run there, a row later
abbrev deep : List Line
deep = Label (codes "main") ∷ alone (row.Addiu 29 29 65528) ∷ alone (row.Lw 0 0 29) ∷ One (row.Jal 0) (codes "main") ∷ []

deep_filled : filled deep ≡
    (Label (codes "main") ∷ alone (row.Addiu 29 29 65528) ∷ One (row.Jal 0) (codes "main") ∷ alone (row.Lw 0 0 29) ∷ [])
deep_filled = refl

fills : (ran_delayed deep 99).stop ≡ Ended StackFull
fills = refl

fills_after : (ran_delayed deep 99).work ≡ 9
fills_after = refl

-- A row that ends the run goes into the slot of a jump to nowhere: the run before ends by it, and so must the run behind, which is why a jump to nowhere
-- goes wrong behind its slot alone.
abbrev lost : List Line
lost = Label (codes "main") ∷ alone (row.Addiu 8 0 13) ∷ alone (row.Lw 9 0 8) ∷ alone (row.Jr 8) ∷ []

lost_filled : filled lost ≡ (Label (codes "main") ∷ alone (row.Addiu 8 0 13) ∷ alone (row.Jr 8) ∷ alone (row.Lw 9 0 8) ∷ [])
lost_filled = refl

lost_ends : (ran lost 9).stop ≡ Ended (Unaligned 13)
lost_ends = refl

lost_ends_behind : (ran_delayed lost 9).stop ≡ Ended (Unaligned 13)
lost_ends_behind = refl

-- a literal's text: its address is two rows
abbrev hello : List Literal
hello = record { label = record { 0 = 40 }; text = codes "hello" } ∷ []

abbrev greeting : List Line
greeting =
    Label (codes "main") ∷ La 4 (codes "s40") ∷ alone (row.Addiu 2 0 4) ∷ alone row.Syscall ∷ alone (row.Addiu 4 0 10)
    ∷ alone (row.Addiu 2 0 11) ∷ alone row.Syscall ∷ alone (row.Jr 31) ∷ []

greets : (delayed_run words_are (delayed greeting) hello [] 0 16 20).output ≡ codes "hello\n"
unfolding digits
greets = refl
