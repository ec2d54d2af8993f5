-- What private functions put at the end of a text.
use Rattle.std.specs.Prelude.{ℕ, ◌≡◌, List, ◌++◌}

-- a text of which this holds was put at the end
pub record Puts (before after : List ℕ) (Holds : List ℕ → Type 0) : Type 0 where
  pub told : List ℕ
  pub is_behind : after ≡ before ++ told
  pub holds : Holds told
