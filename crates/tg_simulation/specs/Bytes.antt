-- Bytes that runs read and write, and the bytes of stack that an activation has at least.
use Rattle.std.specs.Prelude.{ℕ, ◌≡◌, ◌<◌, List, ◌++◌, All}

-- numbers that are bytes: what input, strings and statics consist of
abbrev pub AreBytes : List ℕ → Type 0
AreBytes bytes = All (λ b. b < 256) bytes

-- a prefix of a list
pub record IsPrefix {A : Type 0} (xs ys : List A) : Type 0 where
  pub more : List A
  pub whole : ys ≡ xs ++ more

-- the bytes of stack that an open activation has at least: a frame of two words
abbrev pub least_frame : ℕ
least_frame = 8
