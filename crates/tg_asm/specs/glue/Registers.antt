-- Registers and addresses of the code, as the definition has them.
use Rattle.std.specs.Prelude.{ℕ, Option, Some, None}
use Rattle.tg_asm_text.specs.Operands as operands
use Rattle.tg_asm.specs.glue.Numbers.{signed_of}
use Rattle.tg_asm.specs.declared.numbers.Signed.{Signed}
use Rattle.tg_asm.specs.declared.fields.Fields.{Fields}

abbrev pub found_address : Option (Signed × ℕ) → Option operands.Address
found_address (Some a) = Some (record { number = signed_of a.0; base = a.1 })
found_address None = None

abbrev pub fields_of : Fields → operands.Fields
fields_of f =
    record { rd = f.rd; rs = f.rs; rt = f.rt; number = signed_of f.number; label = f.label.now }

abbrev pub found_fields : Option Fields → Option operands.Fields
found_fields (Some f) = Some (fields_of f)
found_fields None = None
