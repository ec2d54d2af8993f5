-- What a source in memory holds that never fails.
use Rattle.std.specs.Prelude.{ℕ, List}

-- bytes that never fail to be read: those left, and the calls so far
pub record PlainBytes : Type 0 where
  pub left : List ℕ
  pub calls : ℕ
