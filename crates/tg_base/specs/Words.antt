-- Words: numbers below 2 ^ 32, which stand for themselves or for ints in two's complement (MIPS I
-- manual, chapter 3).
use Rattle.std.specs.Prelude.{ℕ, ◌+◌, ◌-◌, ◌*◌, ◌/◌, ◌%◌, ◌^◌, ℤ, pos, negsuc, ◌+ℤ◌, ◌-ℤ◌, ◌*ℤ◌}
use Rattle.std.specs.Prelude.{Bool, ◌&&◌, if◌then◌else◌, Option, Some, None, nat_lt, int_lt}
use Rattle.std.specs.Prelude.{int_div, int_rem, bit_or}
use Rattle.std.specs.Int.{cast_signed, cast_unsigned, int_shr}
use Rattle.std.proofs.Common.{w32, w64}

-- the int that a word stands for, and the word of an int
abbrev pub signed : ℕ → ℤ
signed a = cast_signed w32 a

abbrev pub unsigned : ℤ → ℕ
unsigned z = cast_unsigned w32 z

-- whether a word stands for an int below 0
abbrev pub is_negative : ℕ → Bool
is_negative a = int_lt (signed a) (pos 0)

-- the wrapping sum, difference and product
abbrev pub add : ℕ → ℕ → ℕ
add a b = (a + b) % 2 ^ 32

abbrev pub sub : ℕ → ℕ → ℕ
sub a b = (a + (2 ^ 32 - b)) % 2 ^ 32

abbrev pub mul : ℕ → ℕ → ℕ
mul a b = (a * b) % 2 ^ 32

-- the quotient toward zero, and its remainder; the least int by -1 gives the least int, and 0
abbrev pub quot : ℕ → ℕ → ℕ
quot a b = unsigned (int_div (signed a) (signed b))

abbrev pub rem : ℕ → ℕ → ℕ
rem a b = unsigned (int_rem (signed a) (signed b))

-- the order of the ints that words stand for
abbrev pub less : ℕ → ℕ → Bool
less a b = int_lt (signed a) (signed b)

-- whether an int has a word
abbrev pub is_word : ℤ → Bool
is_word z = int_lt (negsuc (2 ^ 31)) z && int_lt z (pos (2 ^ 31))

-- the word of an int, where it has one
abbrev pub within : ℤ → Option ℕ
within z = if is_word z then Some (unsigned z) else None

-- the exact sum, difference and product, where they have a word
abbrev pub exact_sum : ℕ → ℕ → Option ℕ
exact_sum a b = within (signed a +ℤ signed b)

abbrev pub exact_difference : ℕ → ℕ → Option ℕ
exact_difference a b = within (signed a -ℤ signed b)

abbrev pub exact_product : ℕ → ℕ → Option ℕ
exact_product a b = within (signed a *ℤ signed b)

-- the signed product in 64 bits, and its two words
abbrev pub product : ℕ → ℕ → ℕ
product a b = cast_unsigned w64 (signed a *ℤ signed b)

abbrev pub product_high : ℕ → ℕ → ℕ
product_high a b = product a b / 2 ^ 32

abbrev pub product_low : ℕ → ℕ → ℕ
product_low a b = product a b % 2 ^ 32

-- 16 bits as a word with their sign
abbrev pub extended : ℕ → ℕ
extended n = if nat_lt n 32768 then n else n + 4294901760

-- a byte as a word with its sign
abbrev pub extended_byte : ℕ → ℕ
extended_byte n = if nat_lt n 128 then n else n + 4294967040

-- a word shifted by less than 32 bits: to the left, and to the right with zeros or with its sign
abbrev pub shift_left : ℕ → ℕ → ℕ
shift_left a k = a * 2 ^ k % 2 ^ 32

abbrev pub shift_right : ℕ → ℕ → ℕ
shift_right a k = a / 2 ^ k

abbrev pub shift_signed : ℕ → ℕ → ℕ
shift_signed a k = unsigned (int_shr (signed a) k)

-- each bit that neither word has
abbrev pub neither : ℕ → ℕ → ℕ
neither a b = 4294967295 - bit_or a b

-- 1 where a test holds, else 0
abbrev pub flag : Bool → ℕ
flag b = if b then 1 else 0
