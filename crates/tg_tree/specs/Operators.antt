-- What operators and comparisons make of words.
use Rattle.std.specs.Prelude.{ℕ, ◌%◌, ◌==◌, Bool, not, nat_lt, if◌then◌else◌, Option, Some, None}
use Rattle.std.specs.Prelude.{bit_and, bit_or, bit_xor}
use Rattle.tg_machine_state.specs.declared.ends.RunEnd.TheVariants.{Overflow}
use Rattle.tg_base.specs.Words.{add, sub, mul, quot, less, exact_sum, exact_difference}
use Rattle.tg_base.specs.Words.{product_high, shift_left, shift_right, shift_signed}
use Rattle.tg_simulation.specs.Ran.{Stop, Ended, Wrong}
use Rattle.tg_tree.specs.declared.operators.Bin.{Bin}
use Rattle.tg_tree.specs.declared.operators.Bin.TheVariants.{Add, Sub, Mul, Div, And, Or, Xor}
use Rattle.tg_tree.specs.declared.operators.Bin.TheVariants.{ShiftLeft, ShiftRight, ShiftSigned}
use Rattle.tg_tree.specs.declared.operators.Bin.TheVariants.{AddTrap, SubTrap, MulHigh}
use Rattle.tg_tree.specs.declared.operators.Rel.{Rel}
use Rattle.tg_tree.specs.declared.operators.Rel.TheVariants.{Equal, NotEqual, Less, LessEqual}
use Rattle.tg_tree.specs.declared.operators.Rel.TheVariants.{Greater, GreaterEqual, Below, NotBelow}

-- a word, or how the run stops
pub data Given : Type 0 where
  word : ℕ → Given
  stops_by : Stop → Given

abbrev pub exactly : Option ℕ → Given
exactly (Some n) = word n
exactly None = stops_by (Ended Overflow)

abbrev pub operate : Bin → ℕ → ℕ → Given
operate Add a b = word (add a b)
operate Sub a b = word (sub a b)
operate Mul a b = word (mul a b)
operate Div a b = if b == 0 then stops_by Wrong else word (quot a b)
operate And a b = word (bit_and a b)
operate Or a b = word (bit_or a b)
operate Xor a b = word (bit_xor a b)
operate ShiftLeft a b = word (shift_left a (b % 32))
operate ShiftRight a b = word (shift_right a (b % 32))
operate ShiftSigned a b = word (shift_signed a (b % 32))
operate AddTrap a b = exactly (exact_sum a b)
operate SubTrap a b = exactly (exact_difference a b)
operate MulHigh a b = word (product_high a b)

abbrev pub holds : Rel → ℕ → ℕ → Bool
holds Equal a b = a == b
holds NotEqual a b = not (a == b)
holds Less a b = less a b
holds LessEqual a b = not (less b a)
holds Greater a b = less b a
holds GreaterEqual a b = not (less a b)
holds Below a b = nat_lt a b
holds NotBelow a b = not (nat_lt a b)

-- what holds where a comparison doesn't
abbrev pub opposite : Rel → Rel
opposite Equal = NotEqual
opposite NotEqual = Equal
opposite Less = GreaterEqual
opposite LessEqual = Greater
opposite Greater = LessEqual
opposite GreaterEqual = Less
opposite Below = NotBelow
opposite NotBelow = Below
