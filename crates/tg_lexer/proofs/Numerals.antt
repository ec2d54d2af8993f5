-- The number that digits stand for, read one by one.
use Rattle.std.proofs.Common.{ℕ, zero, suc, ◌+◌, ◌-◌, ◌*◌, ◌≡◌, ◌≤◌, ◌<◌, List, [], ◌∷◌, length, take, get_or, true, arith}
use Rattle.std.specs.Prelude.{IsTrue}
use Rattle.std.specs.Str.Parse.{digits_value}
use Rattle.std.proofs.lemmas.Bool.Decides.{nat_tests}
use Rattle.std.proofs.lemmas.Int.Digits.{digits_value_more}
use Rattle.std.proofs.lemmas.Str.Parse.{digits_value-take-le}
use Rattle.tg_syntax.specs.Spellings.{is_digit, AllAre}
use Rattle.tg_syntax.proofs.Numerals.{digit_worth}

digit_at : (text : List ℕ) (i : ℕ) → AllAre is_digit text → i < length text → IsTrue (is_digit (get_or text i 0))
digit_at [] i a lt = absurd (omega arith)
digit_at (b ∷ text) zero a lt = a.0
digit_at (b ∷ text) (suc i) a lt = digit_at text i a.1 (omega arith)

pub number_more : (text : List ℕ) (i value : ℕ) → AllAre is_digit text → value ≡ digits_value 10 (take i text) →
    i < length text → digits_value 10 (take (i + 1) text) ≡ 10 * value + (get_or text i 0 - 48)
number_more text i value a e lt = omega (arith, digits_value_more 10 text i lt, digit_worth (get_or text i 0) (digit_at text i a lt))

pub number_great : (text : List ℕ) (i value : ℕ) → AllAre is_digit text → value ≡ digits_value 10 (take i text) →
    i < length text → 2147483647 < 10 * value + (get_or text i 0 - 48) → 2147483647 < digits_value 10 text
number_great text i value a e lt h = omega (arith, number_more text i value a e lt, digits_value-take-le 10 text (i + 1) (omega arith))

digit_low : (b : ℕ) → is_digit b ≡ true → 48 ≤ b
digit_low b h = grind (arith, nat_tests)

pub digit_low_at : (text : List ℕ) (i : ℕ) → AllAre is_digit text → i < length text → 48 ≤ get_or text i 0
digit_low_at text i a lt = digit_low (get_or text i 0) (digit_at text i a lt)
