-- The digits of a numeral, as bytes of a class.
use Rattle.std.proofs.Common.{ℕ, ◌+◌, ◌-◌, ◌≡◌, ◌≤◌, ◌<◌, List, [], ◌∷◌, true, arith}
use Rattle.std.specs.Char.{digit_value}
use Rattle.std.specs.Int.{IsInRange}
use Rattle.std.specs.Str.Parse.{AllDigits, IsNumeral}
use Rattle.std.proofs.lemmas.Bool.Decides.{nat_tests}
use Rattle.std.proofs.lemmas.Str.{digit_value_digit}
use Rattle.std.proofs.lemmas.Str.Parse.{digit_from_value}
use Rattle.tg_syntax.specs.Spellings.{is_digit, AllAre}

in_range : (b : ℕ) → is_digit b ≡ true → (48 ≤ b) × (b ≤ 57)
in_range b h = (grind (arith, nat_tests), grind (arith, nat_tests))

from_range : (b : ℕ) → 48 ≤ b → b ≤ 57 → is_digit b ≡ true
from_range b l h = grind (arith, nat_tests)

pub digit_worth : (b : ℕ) → is_digit b ≡ true → digit_value b ≡ b - 48
digit_worth b h = let e = digit_value_digit b (in_range b h) in omega (arith, e)

pub is_digit_from : (b : ℕ) → digit_value b < 10 → is_digit b ≡ true
is_digit_from b h = let k = digit_from_value b h in from_range b k.0 k.1

pub digit_small : (b : ℕ) → is_digit b ≡ true → digit_value b < 10
digit_small b h = let k = in_range b h in omega (arith, digit_worth b h)

pub bytes_of_digits : (bytes : List ℕ) → AllDigits 10 bytes → AllAre is_digit bytes
bytes_of_digits [] h = tt
bytes_of_digits (b ∷ bytes) h = (is_digit_from b h.0, bytes_of_digits bytes h.1)

pub digits_of_bytes : (bytes : List ℕ) → AllAre is_digit bytes → AllDigits 10 bytes
digits_of_bytes [] h = tt
digits_of_bytes (b ∷ bytes) h = (digit_small b h.0, digits_of_bytes bytes h.1)

pub none_is_numeral : {A : Type 0} → IsNumeral 10 [] → A
none_is_numeral h = absurd (omega (arith, h.0))
