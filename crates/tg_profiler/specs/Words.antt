-- A word as text.
use Rattle.std.specs.Prelude.{ℕ, ◌+◌, ◌/◌, ◌%◌, List, [], ◌∷◌, nat_lt, if◌then◌else◌}

-- a digit of base 16, in lower case; a word as `0x` and eight of them
abbrev pub hex_digit : ℕ → ℕ
hex_digit d = if nat_lt d 10 then d + 48 else d + 87

abbrev pub word_in_hex : ℕ → List ℕ
word_in_hex w =
    48 ∷ 120
    ∷ hex_digit (w / 268435456 % 16) ∷ hex_digit (w / 16777216 % 16)
    ∷ hex_digit (w / 1048576 % 16) ∷ hex_digit (w / 65536 % 16)
    ∷ hex_digit (w / 4096 % 16) ∷ hex_digit (w / 256 % 16)
    ∷ hex_digit (w / 16 % 16) ∷ hex_digit (w % 16) ∷ []
