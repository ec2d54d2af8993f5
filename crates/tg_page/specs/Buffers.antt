-- Buffers of the page, into which answers are put.
use Rattle.std.specs.Prelude.{ℕ, ◌≡◌, List, ◌++◌, length, min, take, drop}

-- bytes stand at the front of a buffer, as many as fit, and the rest of it is as it was
pub record IsPut (bytes old new : List ℕ) (count : ℕ) : Type 0 where
  pub counted : count ≡ min (length bytes) (length old)
  pub put : new ≡ take count bytes ++ drop count old
