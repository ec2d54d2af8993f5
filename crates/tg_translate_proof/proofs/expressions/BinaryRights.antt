-- The right operands along the left spine of an expression: what an assignment needs that begins with a read of its place.
use Rattle.std.proofs.Common.{ℕ}
use Rattle.tg_syntax.specs.Tree.{Exp, Binary}
use Rattle.tg_translate_proof.specs.glue.Situations.{Program}
use Rattle.tg_translate_proof.specs.glue.Shown.{Shown}

-- a law on each right operand, along the left spine
abbrev pub RightsShown : Program → ℕ → Exp → Type 0
RightsShown P n (Binary sp o at a b) = RightsShown P n a × Shown P n b
RightsShown P n _ = Unit {0}
