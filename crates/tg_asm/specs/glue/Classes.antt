-- Classes of bytes.
use Rattle.std.specs.Prelude.{ℕ, Bool, ◌==◌}
use Rattle.tg_asm_text.specs.Lines.{is_solid, is_end, is_past_label}
use Rattle.tg_asm.specs.declared.bytes.Class.{Class}
use Rattle.tg_asm.specs.declared.bytes.Class.TheVariants.{Newline, Solid, End, PastLabel, Open}
use Rattle.tg_asm.specs.declared.bytes.Class.TheVariants.{Close}

abbrev pub in_class : Class → ℕ → Bool
in_class Newline = λ c. c == 10
in_class Solid = is_solid
in_class End = is_end
in_class PastLabel = is_past_label
in_class Open = λ c. c == 40
in_class Close = λ c. c == 41
