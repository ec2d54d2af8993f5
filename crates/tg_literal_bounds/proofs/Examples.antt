-- A text of two strings, the second with escapes: `"a"="\066\n"`, of 12 bytes.
use Rattle.std.proofs.Common.{ℕ, ◌≡◌, ◌<◌, List, [], ◌∷◌, ◌++◌, None, true, false, refl, sym, ap, subst, ◌∙◌, arith}
use Rattle.std.specs.Prelude.{codes, ◌==◌}
use Rattle.std.specs.List.{sum_by}
use Rattle.std.specs.Str.Parse.{IsNumeral}
use Rattle.tg_base.specs.declared.ids.Span.{Span}
use Rattle.tg_syntax.specs.declared.tokens.Sign.{Sign}
use Rattle.tg_syntax.specs.declared.tokens.Sign.TheVariants.{Comma, Equal}
use Rattle.tg_syntax.specs.declared.tokens.Token.TheVariants as token
use Rattle.tg_syntax.specs.declared.tokens.Spanned.{Spanned}
use Rattle.tg_syntax.specs.declared.trees.Op.TheVariants as op
use Rattle.tg_syntax.specs.Tree.{Exp, Int, Text, Binary}
use Rattle.tg_syntax.specs.OfWords.{OfWords}
use Rattle.tg_syntax.specs.Spellings.{sign_text, IsName, HasTokenForm, Escape, IsQuoted, nothing, plain, escaped, is_plain}
use Rattle.tg_syntax.specs.Lexing.{Lexes, spanned, IsLongest}
use Rattle.tg_syntax.specs.Grammar.{Sum, Reads, whole_up, or_up, and_up, cmp_two, sum_up, term_up, unary_primary, primary_text, program}
use Rattle.tg_syntax.proofs.Longest.{begins, mark_longest}
use Rattle.tg_syntax.proofs.Numerals.{bytes_of_digits, digits_of_bytes}
use Rattle.tg_translate.specs.mirror.Scopes.{Findings}
use Rattle.tg_translate.specs.mirror.Translate.{translated}
use Rattle.tg_translate_laws.specs.Strings.{strings}
use Rattle.tg_translate_laws.specs.Programs.{with_runtime}
use Rattle.tg_literal_bounds.specs.TokenStrings.{spaced_length}
use Rattle.tg_literal_bounds.specs.laws.Laws.{IsTextOf, statics_length}

abbrev text : List ℕ
text = codes "\"a\"=\"\\066\\n\""

abbrev first : Spanned
first = spanned (token.Text (codes "a")) 0 3

abbrev equals : Spanned
equals = spanned (token.Sign Equal) 3 4

abbrev second : Spanned
second = spanned (token.Text (66 ∷ 10 ∷ [])) 4 12

abbrev the_end : Spanned
the_end = spanned token.End 12 12

abbrev span : ℕ → ℕ → Span
span from to = record { from = from; to = to }

abbrev body : Exp
body = Binary (span 0 12) op.Equal 3 (Text (span 0 3) (codes "a")) (Text (span 4 12) (66 ∷ 10 ∷ []))

-- what begins with a quote, one byte and a quote is no longer string
head_is : {a b : ℕ} {xs ys : List ℕ} → a ∷ xs ≡ b ∷ ys → a ≡ b
head_is e = cc

tail_is : {a b : ℕ} {xs ys : List ℕ} → a ∷ xs ≡ b ∷ ys → xs ≡ ys
tail_is e = cc

no_end : {c : ℕ} {more : List ℕ} → [] ≡ c ∷ more → ⊥
no_end e = cc

clash : false ≡ true → ⊥
clash e = cc

quote_not_plain : (b : ℕ) → is_plain b ≡ true → b ≡ 34 → ⊥
quote_not_plain b h e = clash (subst (λ c. is_plain c ≡ true) e h)

ends_at_quote : {inside meant : List ℕ} → IsQuoted inside meant → (c : ℕ) (more : List ℕ) → inside ++ 34 ∷ [] ≡ 34 ∷ c ∷ more → ⊥
ends_at_quote nothing c more e = no_end (tail_is e)
ends_at_quote (plain b h q) c more e = quote_not_plain b h (head_is e)
ends_at_quote (escaped h q) c more e = let same = head_is e in omega (arith, same)

one_byte : {inside meant : List ℕ} → IsQuoted inside meant → (c : ℕ) (more : List ℕ) → inside ++ 34 ∷ [] ≡ 97 ∷ 34 ∷ c ∷ more → ⊥
one_byte nothing c more e = let same = head_is e in omega (arith, same)
one_byte (plain b h q) c more e = ends_at_quote q c more (tail_is e)
one_byte (escaped h q) c more e = let same = head_is e in omega (arith, same)

sign_no_quote : (s : Sign) → begins (λ b. b == 34) (sign_text s) ≡ false
sign_no_quote Comma = refl
sign_no_quote _ = refl

no_longer : {xs : List ℕ} → HasTokenForm xs → (c : ℕ) (more : List ℕ) → xs ≡ 34 ∷ 97 ∷ 34 ∷ c ∷ more → ⊥
no_longer (HasTokenForm.quoted q) c more e = one_byte q c more (tail_is e)
no_longer (HasTokenForm.name xs h) c more e = clash (subst IsName e h).0
no_longer (HasTokenForm.digits xs h) c more e = clash (bytes_of_digits (34 ∷ 97 ∷ 34 ∷ c ∷ more) (subst (IsNumeral 10) e h).1).0
no_longer (HasTokenForm.sign s) c more e = clash (sym (sign_no_quote s) ∙ ap (begins (λ b. b == 34)) e)

first_longest : IsLongest (codes "\"a\"") (codes "=\"\\066\\n\"")
first_longest [] after e ne f = ne refl
first_longest (c ∷ more) after e ne f = no_longer f c more refl

second_longest : (bytes : List ℕ) → IsLongest bytes []
second_longest bytes [] after e ne f = ne refl
second_longest bytes (c ∷ more) after e ne f = cc

inside_second : IsQuoted (codes "\\066\\n") (66 ∷ 10 ∷ [])
inside_second =
    escaped {escape = codes "066"} {more = 66 ∷ []} (Escape.decimal 48 54 54 (digits_of_bytes (codes "066") (refl, (refl, (refl, tt)))) (omega arith))
    (escaped {escape = codes "n"} {bytes = []} Escape.newline nothing)

lexed : Lexes [] 0 text (first ∷ equals ∷ second ∷ the_end ∷ [])
lexed =
    Lexes.token (codes "\"a\"") (token.Text (codes "a")) {rest = codes "=\"\\066\\n\""} (codes "a", refl, plain 97 refl nothing)
    first_longest (λ h. omega (arith, h.0))
    (Lexes.token (codes "=") (token.Sign Equal) {rest = codes "\"\\066\\n\""} refl
    (mark_longest 61 (codes "\"\\066\\n\"") refl refl) (λ h. omega (arith, h.0))
    (Lexes.token (codes "\"\\066\\n\"") (token.Text (66 ∷ 10 ∷ [])) {rest = []} (codes "\\066\\n", refl, inside_second)
    (second_longest (codes "\"\\066\\n\"")) (λ h. omega (arith, h.0))
    (Lexes.ends 12)))

a_string : (t : Spanned) (bytes : List ℕ) → t.token ≡ token.Text bytes → Reads Sum (t ∷ []) (Text t.span bytes)
a_string t bytes e = sum_up (term_up (unary_primary (primary_text t bytes e)))

is_text : IsTextOf [] text body
is_text = record {
  tokens = first ∷ equals ∷ second ∷ the_end ∷ [];
  lexed = lexed;
  parsed =
      program {a = first ∷ equals ∷ second ∷ []} the_end
      (whole_up (or_up (and_up (cmp_two {a = first ∷ []} {b = second ∷ []} equals (a_string first (codes "a") refl) refl refl
      (a_string second (66 ∷ 10 ∷ []) refl))))) refl;
}

its_strings : strings body ≡ codes "a" ∷ (66 ∷ 10 ∷ []) ∷ []
its_strings = refl

spaced : sum_by spaced_length (strings body) ≡ 9
spaced = refl

abbrev findings : Findings
findings = record { meaning = λ at. None; escapes = λ at. false; keeps_link = λ at. false }

in_statics : statics_length (with_runtime (translated findings body)).literals ≡ 16
in_statics = refl

-- a greater int stands in no text, nor does a greater byte in a string of one
no_word : OfWords (Int (span 0 10) 5000000000) → ⊥
no_word h = omega (arith, h)

no_byte : OfWords (Text (span 0 3) (300 ∷ [])) → ⊥
no_byte h = let k : 300 < 256 = h 0 0 (omega arith) in omega (arith, k)
