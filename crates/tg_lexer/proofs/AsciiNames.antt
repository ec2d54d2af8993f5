-- The bytes of a name are ASCII, and so they are text.
use Rattle.std.proofs.Common.{ℕ, zero, suc, ◌≡◌, ◌<◌, List, [], ◌∷◌, true, arith}
use Rattle.std.specs.Str.{IsAscii, IsUtf8}
use Rattle.std.proofs.lemmas.Bool.Decides.{nat_tests}
use Rattle.std.proofs.lemmas.Str.{IsUtf8-from_ascii}
use Rattle.tg_syntax.specs.Spellings.{is_name_byte, AllAre}

name_byte_low : (b : ℕ) → is_name_byte b ≡ true → b < 128
name_byte_low b h = grind (arith, nat_tests)

names_ascii : (bytes : List ℕ) → AllAre is_name_byte bytes → IsAscii bytes
names_ascii [] h i = omega arith
names_ascii (b ∷ bytes) h zero = name_byte_low b h.0
names_ascii (b ∷ bytes) h (suc i) = names_ascii bytes h.1 i

pub name_is_text : (bytes : List ℕ) → AllAre is_name_byte bytes → IsUtf8 bytes
name_is_text bytes h = IsUtf8-from_ascii bytes (names_ascii bytes h)
