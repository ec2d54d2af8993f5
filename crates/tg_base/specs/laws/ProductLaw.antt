-- When the product of two words has a word.
use Rattle.std.specs.Prelude.{◌≡◌, ◌≢◌, ℕ, Some, None}
use Rattle.tg_base.specs.Words.{exact_product, product_high, product_low, shift_signed}

-- a product has a word where its upper word is the sign of its lower one, and it is the lower one
pub record IsExactBySign (a b : ℕ) : Type 0 where
  pub exact : product_high a b ≡ shift_signed (product_low a b) 31 →
      exact_product a b ≡ Some (product_low a b)
  pub inexact : product_high a b ≢ shift_signed (product_low a b) 31 → exact_product a b ≡ None
