-- Lines with their slots on the machine that has them, computed.
use Rattle.std.proofs.Common.{ℕ, ◌≡◌, ◌+◌, ◌*◌, List, [], ◌∷◌, refl}
use Rattle.std.specs.Prelude.{codes}
use Rattle.tg_machine_state.specs.declared.ends.RunEnd.TheVariants.{BadAddress}
use Rattle.tg_simulation.specs.Ran.{Ended}
use Rattle.tg_isa.specs.declared.mips.Mips.TheVariants as row
use Rattle.tg_emit.specs.declared.assembly.Line.{Line}
use Rattle.tg_emit.specs.declared.assembly.Line.TheVariants.{Label, One}
use Rattle.tg_emit.specs.mirror.Lines.{alone}
use Rattle.tg_emit_proof.specs.LinesRun.{Returns}
use Rattle.tg_delay.specs.Filling.{filled}
use Rattle.tg_delay_proof.specs.DelayedRun.{delayed_run}
use Rattle.tg_bare_proof.specs.laws.Laws.{image_run, image_with}

-- whatever the words behind calls are: 12, 16, ..
abbrev words_are : Returns
words_are k = 12 + 4 * k

-- a function that adds 1 to $a0, called with 65; its result is printed as a byte
abbrev called : List Line
called =
    Label (codes "main") ∷ alone (row.Addiu 29 29 65528) ∷ alone (row.Lw 0 0 29) ∷ alone (row.Sw 31 4 29)
    ∷ alone (row.Addiu 4 0 65) ∷ One (row.Jal 0) (codes "f33") ∷ alone (row.Addu 4 0 2) ∷ alone (row.Addiu 2 0 11)
    ∷ alone row.Syscall ∷ alone (row.Lw 31 4 29) ∷ alone (row.Addiu 29 29 8) ∷ alone (row.Jr 31)
    ∷ Label (codes "f33") ∷ alone (row.Addiu 2 4 1) ∷ alone (row.Jr 31) ∷ []

prints_there : (image_run (image_with (filled called) []) [] 0 16 20).output ≡ 66 ∷ []
prints_there = refl

-- Of a `jalr` the run of lines doesn't know the word: a row in its slot that reads it ends otherwise on the machine, which is why the law of the machine
-- asks that there be none.
abbrev linked : List Line
linked = Label (codes "main") ∷ alone (row.Jalr 9 8) ∷ alone (row.Lw 10 0 9) ∷ []

linked_lines : (delayed_run words_are linked [] [] 0 16 9).stop ≡ Ended (BadAddress 0)
linked_lines = refl

linked_there : (image_run (image_with linked []) [] 0 16 9).stop ≡ Ended (BadAddress 0x00400008)
linked_there = refl
