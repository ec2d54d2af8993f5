-- Numbers of the code, as the definition has them.
use Rattle.std.specs.Prelude.{Option, Some, None}
use Rattle.tg_asm_text.specs.Operands as operands
use Rattle.tg_asm.specs.declared.numbers.Signed.{Signed}

abbrev pub signed_of : Signed → operands.Signed
signed_of n = record { negative = n.negative; size = n.size }

abbrev pub found_number : Option Signed → Option operands.Signed
found_number (Some n) = Some (signed_of n)
found_number None = None
