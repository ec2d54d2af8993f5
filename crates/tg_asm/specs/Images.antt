-- What the second pass makes, and images, as the definition has them.
use Rattle.std.specs.Prelude.{ℕ, ◌≡◌, ⊤, Result, Ok, Err}
use Rattle.tg_base.specs.declared.faulty.Faulty.{Faulty}
use Rattle.tg_base.specs.declared.faulty.Faulty.TheVariants as fault
use Rattle.tg_asm_text.specs.declared.keywords.AsmRule.{AsmRule}
use Rattle.tg_asm_text.specs.Assembly as assembly
use Rattle.tg_isa.specs.declared.images.Image.{Image}
use Rattle.tg_asm.specs.declared.making.Made.{Made}

abbrev pub made_of : Made → assembly.Made
made_of m = record { segment = m.segment; code = m.code.items; statics = m.statics.items }

-- A call gives what the lines make by the definition, or its fault; or it is out of memory.
abbrev pub GivesMade : Result assembly.Made assembly.Fault → Result Made (Faulty AsmRule ℕ) → Type 0
GivesMade meant (Ok m) = meant ≡ Ok (made_of m)
GivesMade meant (Err (fault.Bad rule line)) = meant ≡ Err (record { rule = rule; line = line })
GivesMade meant (Err fault.Memory) = ⊤

abbrev pub image_of : Image → assembly.Assembled
image_of i = record { code = i.code; statics = i.statics; entry = i.entry }

-- A call gives the image of the definition, or its first fault; or it is out of memory.
abbrev pub GivesImage : Result assembly.Assembled assembly.Fault →
    Result Image (Faulty AsmRule ℕ) → Type 0
GivesImage meant (Ok i) = meant ≡ Ok (image_of i)
GivesImage meant (Err (fault.Bad rule line)) = meant ≡ Err (record { rule = rule; line = line })
GivesImage meant (Err fault.Memory) = ⊤
