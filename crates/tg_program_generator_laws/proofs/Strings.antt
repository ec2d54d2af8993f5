-- The two strings of generated programs are the longest prefixes of any text.
use Rattle.std.proofs.Common.{ℕ, ◌≡◌, List, [], ◌∷◌, ◌++◌, true, false, refl, sym, ap, subst, ◌∙◌, arith, append_assoc}
use Rattle.std.specs.Prelude.{codes, ◌==◌}
use Rattle.std.specs.Str.Parse.{IsNumeral}
use Rattle.std.proofs.lemmas.Bool.{false≢true}
use Rattle.tg_syntax.specs.declared.tokens.Sign.{Sign}
use Rattle.tg_syntax.specs.declared.tokens.Sign.TheVariants.{Comma}
use Rattle.tg_syntax.specs.Spellings.{sign_text, is_digit, is_white_space, IsName, HasTokenForm, Escape, IsQuoted, nothing, plain, escaped, is_plain}
use Rattle.tg_syntax.specs.Lexing.{IsLongest}
use Rattle.tg_syntax.proofs.Longest.{begins}
use Rattle.tg_syntax.proofs.Numerals.{bytes_of_digits}

head_is : {a b : ℕ} {xs ys : List ℕ} → a ∷ xs ≡ b ∷ ys → a ≡ b
head_is e = cc

tail_is : {a b : ℕ} {xs ys : List ℕ} → a ∷ xs ≡ b ∷ ys → xs ≡ ys
tail_is e = cc

no_end : {c : ℕ} {more : List ℕ} → [] ≡ c ∷ more → ⊥
no_end e = cc

not_plain : (a b : ℕ) → is_plain a ≡ false → is_plain b ≡ true → b ≡ a → ⊥
not_plain a b h k e = false≢true (sym h ∙ ap is_plain (sym e) ∙ k)

ends_at_quote : {inside meant : List ℕ} → IsQuoted inside meant → (c : ℕ) (more : List ℕ) → inside ++ 34 ∷ [] ≡ 34 ∷ c ∷ more → ⊥
ends_at_quote nothing c more e = no_end (tail_is e)
ends_at_quote (plain b h q) c more e = not_plain 34 b refl h (head_is e)
ends_at_quote (escaped h q) c more e = let same = head_is e in omega (arith, same)

-- a zero
one_byte : {inside meant : List ℕ} → IsQuoted inside meant → (c : ℕ) (more : List ℕ) → inside ++ 34 ∷ [] ≡ 48 ∷ 34 ∷ c ∷ more → ⊥
one_byte nothing c more e = let same = head_is e in omega (arith, same)
one_byte (plain b h q) c more e = ends_at_quote q c more (tail_is e)
one_byte (escaped h q) c more e = let same = head_is e in omega (arith, same)

-- a newline
one_escape : {escape means : List ℕ} → Escape escape means → {inside meant : List ℕ} → IsQuoted inside meant → (c : ℕ) (more : List ℕ) →
    escape ++ (inside ++ 34 ∷ []) ≡ 110 ∷ 34 ∷ c ∷ more → ⊥
one_escape Escape.newline q c more e = ends_at_quote q c more (tail_is e)
one_escape Escape.tab q c more e = let same = head_is e in omega (arith, same)
one_escape Escape.quote q c more e = let same = head_is e in omega (arith, same)
one_escape Escape.backslash q c more e = let same = head_is e in omega (arith, same)
one_escape (Escape.control b h) q c more e = let same = head_is e in omega (arith, same)
one_escape (Escape.decimal x y z h le) q c more e =
    false≢true (ap is_digit (sym (head_is e)) ∙ (bytes_of_digits (x ∷ y ∷ z ∷ []) h).0)
one_escape (Escape.blanks b bytes h) q c more e = false≢true (ap is_white_space (sym (head_is e)) ∙ h.0)

two_bytes : {inside meant : List ℕ} → IsQuoted inside meant → (c : ℕ) (more : List ℕ) → inside ++ 34 ∷ [] ≡ 92 ∷ 110 ∷ 34 ∷ c ∷ more → ⊥
two_bytes nothing c more e = let same = head_is e in omega (arith, same)
two_bytes (plain b h q) c more e = not_plain 92 b refl h (head_is e)
two_bytes (escaped {escape = escape} {bytes = bytes} h q) c more e =
    one_escape h q c more (sym (append_assoc escape bytes (34 ∷ [])) ∙ tail_is e)

-- what has the form of a token and begins with a quote is a string
sign_no_quote : (s : Sign) → begins (λ b. b == 34) (sign_text s) ≡ false
sign_no_quote Comma = refl
sign_no_quote _ = refl

only_quoted : {xs : List ℕ} → HasTokenForm xs → (bytes : List ℕ) → xs ≡ 34 ∷ bytes →
    ((inside meant : List ℕ) → IsQuoted inside meant → inside ++ 34 ∷ [] ≡ bytes → ⊥) → ⊥
only_quoted (HasTokenForm.quoted {inside} {meant} q) bytes e none = none inside meant q (tail_is e)
only_quoted (HasTokenForm.name xs h) bytes e none = false≢true (subst IsName e h).0
only_quoted (HasTokenForm.digits xs h) bytes e none = false≢true (bytes_of_digits (34 ∷ bytes) (subst (IsNumeral 10) e h).1).0
only_quoted (HasTokenForm.sign s) bytes e none = false≢true (sym (sign_no_quote s) ∙ ap (begins (λ b. b == 34)) e)

pub zero_longest : (rest : List ℕ) → IsLongest (codes "\"0\"") rest
zero_longest rest [] after e ne f = ne refl
zero_longest rest (c ∷ more) after e ne f = only_quoted f (48 ∷ 34 ∷ c ∷ more) refl (λ inside meant q h. one_byte q c more h)

pub newline_longest : (rest : List ℕ) → IsLongest (codes "\"\\n\"") rest
newline_longest rest [] after e ne f = ne refl
newline_longest rest (c ∷ more) after e ne f = only_quoted f (92 ∷ 110 ∷ 34 ∷ c ∷ more) refl (λ inside meant q h. two_bytes q c more h)
