-- A string is read as it was written.
use Rattle.std.proofs.Common.{ℕ, ◌+◌, ◌-◌, ◌*◌, ◌/◌, ◌%◌, ◌≡◌, ◌≤◌, ◌<◌, List, [], ◌∷◌, ◌++◌, Bool, true, false, refl, sym, ap, subst, ◌∙◌, arith, append_assoc}
use Rattle.std.specs.Prelude.{All, codes, IsTrue, ◌==◌, ◌&&◌, ◌||◌, not, nat_le, if◌then◌else◌}
use Rattle.std.specs.Char.{digit_value}
use Rattle.std.specs.Str.Parse.{digits_value}
use Rattle.std.proofs.lemmas.Bool.{eqb-true}
use Rattle.std.proofs.lemmas.Bool.Decides.{nat_tests}
use Rattle.std.proofs.lemmas.List.Elements.{All-head, All-tail}
use Rattle.tg_syntax.specs.Spellings.{Escape, IsQuoted, nothing, plain, escaped, is_plain, is_digit, is_between}
use Rattle.tg_syntax.proofs.Numerals.{digit_worth, digits_of_bytes}
use Rattle.tg_formatter.specs.Canonical.{quoted_byte, quoted_text, decimal_escape}

is_digit_between : (b : ℕ) → 48 ≤ b → b ≤ 57 → is_digit b ≡ true
is_digit_between b l h = grind (arith, nat_tests)

-- the three digits of a byte
decimal_value : (b a x y z : ℕ) → b < 256 → a ≡ 48 + b / 100 → x ≡ 48 + b / 10 % 10 → y ≡ 48 + b % 10 →
    Escape (a ∷ x ∷ y ∷ []) (b ∷ [])
decimal_value b a x y z small ea ex ey =
    let da : is_digit a ≡ true = is_digit_between a (omega arith) (omega arith) in
    let dx : is_digit x ≡ true = is_digit_between x (omega arith) (omega arith) in
    let dy : is_digit y ≡ true = is_digit_between y (omega arith) (omega arith) in
    let wa = digit_worth a da in
    let wx = digit_worth x dx in
    let wy = digit_worth y dy in
    let value : digits_value 10 (a ∷ x ∷ y ∷ []) ≡ b = omega arith in
    subst (λ n. Escape (a ∷ x ∷ y ∷ []) (n ∷ [])) value
    (Escape.decimal a x y (digits_of_bytes (a ∷ x ∷ y ∷ []) (da, (dx, (dy, tt)))) (omega arith))

plain_between : (b : ℕ) → is_between 32 126 b ≡ true → (b == 34) ≡ false → (b == 92) ≡ false → IsTrue (is_plain b)
plain_between b h k l = grind (arith, nat_tests)

module _ (b : ℕ) (bytes meant : List ℕ) (small : b < 256) (q : IsQuoted bytes meant) where
  by_escape : (other : ℕ) (escape : List ℕ) → Escape escape (other ∷ []) → b ≡ other → IsQuoted (92 ∷ escape ++ bytes) (b ∷ meant)
  by_escape other escape e same = subst (λ n. IsQuoted (92 ∷ escape ++ bytes) (n ∷ meant)) (sym same) (escaped e q)

  last : (t : Bool) → is_between 32 126 b ≡ t → (b == 34) ≡ false → (b == 92) ≡ false →
      IsQuoted ((if t then b ∷ [] else decimal_escape b) ++ bytes) (b ∷ meant)
  last true e k l = plain b (plain_between b e k l) q
  last false e k l = escaped (decimal_value b (48 + b / 100) (48 + b / 10 % 10) (48 + b % 10) 0 small refl refl refl) q

  fourth : (t : Bool) → (b == 92) ≡ t → (b == 34) ≡ false →
      IsQuoted ((if t then codes "\\\\" else if is_between 32 126 b then b ∷ [] else decimal_escape b) ++ bytes) (b ∷ meant)
  fourth true e k = by_escape 92 (92 ∷ []) Escape.backslash (eqb-true b 92 e)
  fourth false e k = last (is_between 32 126 b) refl k e

  third : (t : Bool) → (b == 34) ≡ t →
      IsQuoted ((if t then codes "\\\"" else if b == 92 then codes "\\\\" else if is_between 32 126 b then b ∷ [] else decimal_escape b) ++ bytes)
      (b ∷ meant)
  third true e = by_escape 34 (34 ∷ []) Escape.quote (eqb-true b 34 e)
  third false e = fourth (b == 92) refl e

  second : (t : Bool) → (b == 9) ≡ t →
      IsQuoted ((if t then codes "\\t" else if b == 34 then codes "\\\"" else if b == 92 then codes "\\\\" else if is_between 32 126 b then b ∷ []
      else decimal_escape b) ++ bytes) (b ∷ meant)
  second true e = by_escape 9 (codes "t") Escape.tab (eqb-true b 9 e)
  second false e = third (b == 34) refl

  first : (t : Bool) → (b == 10) ≡ t →
      IsQuoted ((if t then codes "\\n" else if b == 9 then codes "\\t" else if b == 34 then codes "\\\"" else if b == 92 then codes "\\\\"
      else if is_between 32 126 b then b ∷ [] else decimal_escape b) ++ bytes) (b ∷ meant)
  first true e = by_escape 10 (codes "n") Escape.newline (eqb-true b 10 e)
  first false e = second (b == 9) refl

  byte_quoted : IsQuoted (quoted_byte b ++ bytes) (b ∷ meant)
  byte_quoted = first (b == 10) refl

pub text_quoted : (bytes : List ℕ) → All (λ b. b < 256) bytes → IsQuoted (quoted_text bytes) bytes
text_quoted [] h = nothing
text_quoted (b ∷ bytes) h =
    byte_quoted b (quoted_text bytes) bytes (All-head (λ b. b < 256) b bytes h) (text_quoted bytes (All-tail (λ b. b < 256) b bytes h))
