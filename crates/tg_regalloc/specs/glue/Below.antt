-- Operands whose temporaries are below a number.
use Rattle.std.specs.Prelude.{ℕ, Bool, true, Option, Some, None}
use Rattle.tg_instr.specs.declared.operands.Opnd.{Opnd}
use Rattle.tg_instr.specs.Codes.{is_below}

abbrev pub is_option_below : ℕ → Option Opnd → Bool
is_option_below n (Some x) = is_below n x
is_option_below n None = true
