-- Which prefixes of a text are the longest with the form of a token, by the byte that follows.
use Rattle.std.proofs.Common.{ℕ, ◌≡◌, List, [], ◌∷◌, ◌++◌, Bool, true, false, refl, sym, ap, subst, ◌∙◌, arith}
use Rattle.std.specs.Prelude.{not, ◌||◌, ◌&&◌, ◌==◌}
use Rattle.std.proofs.lemmas.Bool.{eq-eqb}
use Rattle.std.proofs.lemmas.Bool.Decides.{nat_tests}
use Rattle.std.specs.Str.Parse.{IsNumeral}
use Rattle.tg_syntax.specs.declared.tokens.Sign.{Sign}
use Rattle.tg_syntax.specs.declared.tokens.Sign.TheVariants.{Comma}
use Rattle.tg_syntax.specs.Spellings.{sign_text, is_letter, is_digit, is_name_byte, IsName, AllAre, HasTokenForm, name, sign, digits, quoted}
use Rattle.tg_syntax.specs.Lexing.{IsLongest}
use Rattle.tg_syntax.proofs.Numerals.{bytes_of_digits, none_is_numeral}

abbrev pub begins : (ℕ → Bool) → List ℕ → Bool
begins class [] = false
begins class (b ∷ bytes) = class b

clash : {b : Bool} → b ≡ false → b ≡ true → ⊥
clash x y = cc

pub AllAre_right : (class : ℕ → Bool) (xs ys : List ℕ) → AllAre class (xs ++ ys) → AllAre class ys
AllAre_right class [] ys a = a
AllAre_right class (x ∷ xs) ys a = AllAre_right class xs ys a.1

-- the first byte of a sign
abbrev pub is_mark : ℕ → Bool
is_mark b = not (is_letter b) && (not (is_digit b) && not (b == 34))

sign_mark : (s : Sign) → begins is_mark (sign_text s) ≡ true
sign_mark Comma = refl
sign_mark _ = refl

-- the signs of two bytes begin with `:`, `<` or `>`
abbrev pub begins_pair : List ℕ → Bool
begins_pair (b ∷ c ∷ bytes) = b == 58 || (b == 60 || b == 62)
begins_pair _ = true

sign_pair : (s : Sign) → begins_pair (sign_text s) ≡ true
sign_pair Comma = refl
sign_pair _ = refl

letter_mark : (b : ℕ) → is_letter b ≡ true → is_mark b ≡ false
letter_mark b h = grind (arith, nat_tests)

digit_mark : (b : ℕ) → is_digit b ≡ true → is_mark b ≡ false
digit_mark b h = grind (arith, nat_tests)

digit_letter : (b : ℕ) → is_digit b ≡ true → is_letter b ≡ false
digit_letter b h = grind (arith, nat_tests)

mark_letter : (b : ℕ) → is_mark b ≡ true → is_letter b ≡ false
mark_letter b h = grind (arith, nat_tests)

mark_digit : (b : ℕ) → is_mark b ≡ true → is_digit b ≡ false
mark_digit b h = grind (arith, nat_tests)

mark_quote : (b : ℕ) → is_mark b ≡ true → (b == 34) ≡ false
mark_quote b h = grind (arith, nat_tests)

quote_only : (b : ℕ) (bytes inside : List ℕ) → 34 ∷ inside ≡ b ∷ bytes → (b == 34) ≡ true
quote_only b bytes inside e = let q : b ≡ 34 = cc in eq-eqb b 34 q

-- what has the form of a token and begins with a letter is a name, with a digit digits, with another byte a sign
pub form_of_letter : {xs : List ℕ} → HasTokenForm xs → (b : ℕ) (bytes : List ℕ) → xs ≡ b ∷ bytes → is_letter b ≡ true → AllAre is_name_byte bytes
form_of_letter (name [] h) b bytes e l = absurd h
form_of_letter (name (c ∷ cs) h) b bytes e l = let same : cs ≡ bytes = cc in subst (AllAre is_name_byte) same h.1
form_of_letter (sign s) b bytes e l = absurd (clash (letter_mark b l) (sym (ap (begins is_mark) e) ∙ sign_mark s))
form_of_letter (digits [] h) b bytes e l = none_is_numeral h
form_of_letter (digits (c ∷ cs) h) b bytes e l = let same : c ≡ b = cc in absurd
    (clash (digit_letter c (bytes_of_digits (c ∷ cs) h.1).0) (ap is_letter same ∙ l))
form_of_letter (quoted {inside} q) b bytes e l = let same : 34 ≡ b = cc in absurd (clash refl (ap is_letter same ∙ l))

pub form_of_digit : {xs : List ℕ} → HasTokenForm xs → (b : ℕ) (bytes : List ℕ) → xs ≡ b ∷ bytes → is_digit b ≡ true → AllAre is_digit bytes
form_of_digit (name [] h) b bytes e d = absurd h
form_of_digit (name (c ∷ cs) h) b bytes e d = let same : c ≡ b = cc in absurd (clash (digit_letter b d) (sym (ap is_letter same) ∙ h.0))
form_of_digit (sign s) b bytes e d = absurd (clash (digit_mark b d) (sym (ap (begins is_mark) e) ∙ sign_mark s))
form_of_digit (digits [] h) b bytes e d = none_is_numeral h
form_of_digit (digits (c ∷ cs) h) b bytes e d = let same : cs ≡ bytes = cc in subst (AllAre is_digit) same (bytes_of_digits (c ∷ cs) h.1).1
form_of_digit (quoted {inside} q) b bytes e d = let same : 34 ≡ b = cc in absurd (clash refl (ap is_digit same ∙ d))

pub form_of_mark : {xs : List ℕ} → HasTokenForm xs → (b : ℕ) (bytes : List ℕ) → xs ≡ b ∷ bytes → is_mark b ≡ true → (s : Sign) × (sign_text s ≡ b ∷ bytes)
form_of_mark (name [] h) b bytes e m = absurd h
form_of_mark (name (c ∷ cs) h) b bytes e m = let same : c ≡ b = cc in absurd (clash (mark_letter b m) (sym (ap is_letter same) ∙ h.0))
form_of_mark (sign s) b bytes e m = (s, e)
form_of_mark (digits [] h) b bytes e m = none_is_numeral h
form_of_mark (digits (c ∷ cs) h) b bytes e m = let same : c ≡ b = cc in absurd
    (clash (mark_digit b m) (sym (ap is_digit same) ∙ (bytes_of_digits (c ∷ cs) h.1).0))
form_of_mark (quoted {inside} q) b bytes e m = let same : 34 ≡ b = cc in absurd (clash refl (ap is_mark same ∙ m))

-- a name that no letter, digit or underscore follows
pub name_longest : (bytes rest : List ℕ) → IsName bytes → begins is_name_byte rest ≡ false → IsLongest bytes rest
name_longest bytes rest h stop [] after e ne f = ne refl
name_longest [] rest h stop (c ∷ more) after e ne f = h
name_longest (b ∷ bytes) rest h stop (c ∷ more) after e ne f =
    clash (sym (ap (begins is_name_byte) e) ∙ stop) (AllAre_right is_name_byte bytes (c ∷ more) (form_of_letter f b (bytes ++ c ∷ more) refl h.0)).0

-- digits that no digit follows
pub digits_longest : (bytes rest : List ℕ) → IsNumeral 10 bytes → begins is_digit rest ≡ false → IsLongest bytes rest
digits_longest bytes rest h stop [] after e ne f = ne refl
digits_longest [] rest h stop (c ∷ more) after e ne f = none_is_numeral h
digits_longest (b ∷ bytes) rest h stop (c ∷ more) after e ne f =
    clash (sym (ap (begins is_digit) e) ∙ stop)
    (AllAre_right is_digit bytes (c ∷ more) (form_of_digit f b (bytes ++ c ∷ more) refl (bytes_of_digits (b ∷ bytes) h.1).0)).0

-- a byte that is a sign, and no first byte of a longer one
pub mark_longest : (b : ℕ) (rest : List ℕ) → is_mark b ≡ true → begins_pair (b ∷ b ∷ []) ≡ false → IsLongest (b ∷ []) rest
mark_longest b rest m stop [] after e ne f = ne refl
mark_longest b rest m stop (c ∷ more) after e ne f =
    let s = form_of_mark f b (c ∷ more) refl m in
    clash stop (ap begins_pair (sym s.1) ∙ sign_pair s.0)
