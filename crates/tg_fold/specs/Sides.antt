-- Two sides of an operator or of a comparison.
use Rattle.std.specs.Prelude.{ℕ, Option, Some, None}
use Rattle.tg_tree.specs.Tree.{Tx, Const}

-- their words, where both are constants
abbrev pub constants : Tx → Tx → Option (ℕ × ℕ)
constants (Const a) (Const b) = Some (a, b)
constants _ _ = None
