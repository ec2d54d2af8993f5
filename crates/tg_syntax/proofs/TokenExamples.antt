-- Examples of tokens and of lexical faults, by the definitions.
use Rattle.std.proofs.Common.{ℕ, zero, suc, ◌≡◌, ◌≢◌, List, [], ◌∷◌, ◌++◌, Bool, true, false, refl, sym, ap, ◌∙◌, arith}
use Rattle.std.specs.Prelude.{codes, cond, ◌||◌, ◌==◌, ◌&&◌}
use Rattle.std.proofs.lemmas.Bool.Decides.{nat_tests}
use Rattle.std.specs.Str.Parse.{IsNumeral}
use Rattle.tg_syntax.specs.declared.tokens.Word.{Word}
use Rattle.tg_syntax.specs.declared.tokens.Word.TheVariants.{WArray}
use Rattle.tg_syntax.specs.declared.tokens.Sign.{Sign}
use Rattle.tg_syntax.specs.declared.tokens.Sign.TheVariants.{Comma, LeftParen, RightParen, Minus}
use Rattle.tg_syntax.specs.declared.tokens.Token.TheVariants as token
use Rattle.tg_syntax.specs.declared.faults.LexRule.TheVariants.{L1, L2, L3, L4, L5, L6}
use Rattle.tg_syntax.specs.Spellings.{word_text, sign_text, is_digit, is_white_space, HasTokenForm, nothing, plain, Escape}
use Rattle.tg_syntax.specs.Lexing.{Lexes, spanned, IsLongest, OpensComment, Closes}
use Rattle.tg_syntax.specs.LexicalFaults.{HasLexicalFault, met, LeadsTo, here, illegal_byte, comment_not_closed, in_string, bad_escape, large_int}
use Rattle.tg_syntax.specs.LexicalFaults.{control_byte, end_in_escape, line_in_escape, IsBegun}
use Rattle.tg_syntax.proofs.Numerals.{bytes_of_digits, digits_of_bytes}
use Rattle.tg_syntax.proofs.Longest.{name_longest, digits_longest, mark_longest, form_of_mark, begins}

-- no text that begins with another byte opens a comment
not_opening : (b : ℕ) (rest : List ℕ) → (b == 47) ≡ false → OpensComment (b ∷ rest) → ⊥
not_opening b [] e h = h
not_opening b (c ∷ rest) e h = no (h.0) e
  where
    no : b ≡ 47 → (b == 47) ≡ false → ⊥
    no same e = cc

-- no reserved word begins with `ex`
abbrev begins_ex : List ℕ → Bool
begins_ex (a ∷ b ∷ bytes) = a == 101 && b == 120
begins_ex _ = false

word_ex : (w : Word) → begins_ex (word_text w) ≡ false
word_ex WArray = refl
word_ex _ = refl

no_word : (w : Word) → codes "exit" ≢ word_text w
no_word w e = no (ap begins_ex e ∙ word_ex w)
  where
    no : true ≡ false → ⊥
    no e = cc

-- `exit(-1)`
pub exit_tokens : Lexes (codes "exit" ∷ []) 0 (codes "exit(-1)") (spanned (token.Ident (record { 0 = 0 })) 0 4 ∷
    spanned (token.Sign LeftParen) 4 5 ∷ spanned (token.Sign Minus) 5 6 ∷ spanned (token.Int 1) 6 7 ∷
    spanned (token.Sign RightParen) 7 8 ∷ spanned token.End 8 8 ∷ [])
exit_tokens =
    Lexes.token (codes "exit") (token.Ident (record { 0 = 0 })) {rest = codes "(-1)"} ((refl, (refl, (refl, (refl, tt)))), no_word, refl)
    (name_longest (codes "exit") (codes "(-1)") (refl, (refl, (refl, (refl, tt)))) refl) (not_opening 101 (codes "xit(-1)") refl)
    (Lexes.token (codes "(") (token.Sign LeftParen) {rest = codes "-1)"} refl (mark_longest 40 (codes "-1)") refl refl) (not_opening 40 (codes "-1)") refl)
    (Lexes.token (codes "-") (token.Sign Minus) {rest = codes "1)"} refl (mark_longest 45 (codes "1)") refl refl) (not_opening 45 (codes "1)") refl)
    (Lexes.token (codes "1") (token.Int 1) {rest = codes ")"} (one_digit, refl, omega arith)
    (digits_longest (codes "1") (codes ")") one_digit refl) (not_opening 49 (codes ")") refl)
    (Lexes.token (codes ")") (token.Sign RightParen) {rest = []} refl (mark_longest 41 [] refl refl) (not_opening 41 [] refl)
    (Lexes.ends 8)))))
  where
    one_digit : IsNumeral 10 (codes "1")
    one_digit = (omega arith, digits_of_bytes (codes "1") (refl, tt))

-- `abc` is never `ab` and `c`, and 2147483648 is never two ints
pub name_not_cut : IsLongest (codes "ab") (codes "c") → ⊥
name_not_cut h = h (codes "c") [] refl (λ e. cc) (HasTokenForm.name (codes "abc") (refl, (refl, (refl, tt))))

ten_digits : IsNumeral 10 (codes "2147483648")
ten_digits = (omega arith, digits_of_bytes (codes "2147483648") (refl, (refl, (refl, (refl, (refl, (refl, (refl, (refl, (refl, (refl, tt)))))))))))

pub int_not_cut : IsLongest (codes "214748364") (codes "8") → ⊥
int_not_cut h = h (codes "8") [] refl (λ e. cc) (HasTokenForm.digits (codes "2147483648") ten_digits)

or_left : (a b : Bool) → a ≡ true → (a || b) ≡ true
or_left a b h = ap (λ a. a || b) h

or_right : (a : Bool) {b : Bool} → b ≡ true → (a || b) ≡ true
or_right true h = refl
or_right false h = h

-- L1: a vertical tab
clash : {b : Bool} → b ≡ false → b ≡ true → ⊥
clash x y = cc

sign_tab : (s : Sign) → begins (λ b. b == 11) (sign_text s) ≡ false
sign_tab Comma = refl
sign_tab _ = refl

no_tab : (more : List ℕ) → HasTokenForm (11 ∷ more) → ⊥
no_tab more f = let s = form_of_mark f 11 more refl refl in clash (sign_tab s.0) (ap (begins (λ b. b == 11)) s.1)

pub vertical_tab : HasLexicalFault (32 ∷ 11 ∷ []) L1 1
vertical_tab = met (omega arith) (LeadsTo.blank 32 refl here) (illegal_byte 11 [] refl no_tab)

-- L3: a newline in the place of an escape's third digit, and the end after a backslash
digit_escape : {xs meant : List ℕ} → Escape xs meant → (a b c : ℕ) → xs ≡ a ∷ b ∷ c ∷ [] → is_digit a ≡ true → is_digit c ≡ true
digit_escape Escape.newline a b c e d = absurd (cc)
digit_escape Escape.tab a b c e d = absurd (cc)
digit_escape Escape.quote a b c e d = absurd (cc)
digit_escape Escape.backslash a b c e d = absurd (cc)
digit_escape (Escape.control x h) a b c e d = absurd (cc)
digit_escape (Escape.decimal x y z h le) a b c e d = let same : z ≡ c = cc in ap is_digit (sym same) ∙ (bytes_of_digits (x ∷ y ∷ z ∷ []) h).1.1.0
digit_escape (Escape.blanks x more h) a b c e d = let same : x ≡ a = cc in absurd (no_digit x h.0 (ap is_digit same ∙ d))
  where
    no_digit : (x : ℕ) → is_white_space x ≡ true → is_digit x ≡ true → ⊥
    no_digit x b d = grind (arith, nat_tests)

three_begun : {xs : List ℕ} → IsBegun xs → (a b c : ℕ) → xs ≡ a ∷ b ∷ c ∷ [] → is_white_space a ≡ true
three_begun IsBegun.backslash a b c e = absurd (cc)
three_begun IsBegun.caret a b c e = absurd (cc)
three_begun (IsBegun.digit x h) a b c e = absurd (cc)
three_begun (IsBegun.digits x y h k) a b c e = absurd (cc)
three_begun (IsBegun.blanks x more h) a b c e = let same : x ≡ a = cc in ap is_white_space (sym same) ∙ h.0

pub newline_for_digit : HasLexicalFault (34 ∷ 92 ∷ 51 ∷ 57 ∷ 10 ∷ []) L3 0
newline_for_digit =
    met (omega arith) here
    (in_string [] [] (92 ∷ 51 ∷ 57 ∷ 10 ∷ []) nothing
    (line_in_escape (51 ∷ 57 ∷ []) []
    (record {
      is_begun = IsBegun.digits 51 57 refl refl;
      goes_on = λ h. clash refl (three_begun h 51 57 10 refl);
      ends = λ meant h. clash refl (digit_escape h 51 57 10 refl refl);
    })))

pub end_behind_backslash : HasLexicalFault (codes "\"a\\") L3 0
end_behind_backslash = met (omega arith) here (in_string (codes "a") (codes "a") (92 ∷ []) (plain 97 refl nothing) (end_in_escape [] IsBegun.backslash))

-- L5, and L6 at a byte after the opening quote
pub large : HasLexicalFault (codes "2147483648") L5 0
large = met (omega arith) here (large_int (codes "2147483648") [] ten_digits (digits_longest (codes "2147483648") [] ten_digits refl) (omega arith))

pub control_in_string : HasLexicalFault (34 ∷ 97 ∷ 127 ∷ 34 ∷ []) L6 2
control_in_string = met (omega arith) here (in_string (codes "a") (codes "a") (127 ∷ 34 ∷ []) (plain 97 refl nothing)
    (control_byte 127 (34 ∷ []) refl (λ e. cc)))

-- L4: `\q`
one_begun : {xs : List ℕ} → IsBegun xs → (a : ℕ) → xs ≡ a ∷ [] → (a == 94 || (is_digit a || is_white_space a)) ≡ true
one_begun IsBegun.backslash a e = absurd (cc)
one_begun IsBegun.caret a e = let same : 94 ≡ a = cc in ap (λ a. a == 94 || (is_digit a || is_white_space a)) (sym same)
one_begun (IsBegun.digit x h) a e = let same : x ≡ a = cc in ap (λ a. a == 94 || (is_digit a || is_white_space a)) (sym same)
    ∙ or_right (x == 94) (or_left (is_digit x) (is_white_space x) h)
one_begun (IsBegun.digits x y h k) a e = absurd (cc)
one_begun (IsBegun.blanks x more h) a e = let same : x ≡ a = cc in ap (λ a. a == 94 || (is_digit a || is_white_space a)) (sym same)
    ∙ or_right (x == 94) (or_right (is_digit x) h.0)

one_escape : {xs meant : List ℕ} → Escape xs meant → (a : ℕ) → xs ≡ a ∷ [] → (a == 113) ≡ false
one_escape Escape.newline a e = let same : 110 ≡ a = cc in ap (λ a. a == 113) (sym same)
one_escape Escape.tab a e = let same : 116 ≡ a = cc in ap (λ a. a == 113) (sym same)
one_escape Escape.quote a e = let same : 34 ≡ a = cc in ap (λ a. a == 113) (sym same)
one_escape Escape.backslash a e = let same : 92 ≡ a = cc in ap (λ a. a == 113) (sym same)
one_escape (Escape.control x h) a e = absurd (cc)
one_escape (Escape.decimal x y z h le) a e = absurd (cc)
one_escape (Escape.blanks x [] h) a e = absurd (cc)
one_escape (Escape.blanks x (y ∷ more) h) a e = absurd (cc)

pub bad_letter : HasLexicalFault (codes "\"\\q\"") L4 1
bad_letter =
    met (omega arith) here
    (in_string [] [] (codes "\\q\"") nothing
    (bad_escape [] 113 (34 ∷ [])
    (record {
      is_begun = IsBegun.backslash;
      goes_on = λ h. clash refl (one_begun h 113 refl);
      ends = λ meant h. clash (one_escape h 113 refl) refl;
    }) (λ e. cc)))

-- L2: of two comments the outermost is not closed
abbrev front_closes : ℕ → List ℕ → Bool
front_closes zero text = true
front_closes (suc depth) [] = false
front_closes (suc depth) (b ∷ []) = false
front_closes (suc depth) (b ∷ c ∷ text) =
    cond (b == 42 && c == 47) (front_closes depth text) (cond (b == 47 && c == 42) (front_closes (suc (suc depth)) text) (front_closes (suc depth) (c ∷ text)))

pair_false : (b c x y : ℕ) → ((b ≡ x) × (c ≡ y) → ⊥) → (b == x && c == y) ≡ false
pair_false b c x y apart = by (b == x) (c == y) refl refl
  where
    same : (m n : ℕ) → (m == n) ≡ true → m ≡ n
    same m n e = grind (arith, nat_tests)

    by : (p q : Bool) → (b == x) ≡ p → (c == y) ≡ q → (p && q) ≡ false
    by false q e f = refl
    by true false e f = refl
    by true true e f = absurd (apart (same b x e, same c y f))

closes-front : {depth : ℕ} {inside : List ℕ} → Closes depth inside → (rest : List ℕ) → front_closes depth (inside ++ rest) ≡ true
closes-front Closes.done rest = refl
closes-front (Closes.closes h) rest = closes-front h rest
closes-front (Closes.opens h) rest = closes-front h rest
closes-front (Closes.byte {depth} b {more = []} no_open no_close h) rest = elim h [ ]
closes-front (Closes.byte {depth} b {more = c ∷ more} no_open no_close h) rest =
    ap (λ p. cond p (front_closes depth (more ++ rest)) (cond (b == 47 && c == 42) (front_closes (suc (suc depth)) (more ++ rest))
    (front_closes (suc depth) (c ∷ more ++ rest)))) (pair_false b c 42 47 no_close)
    ∙ ap (λ p. cond p (front_closes (suc (suc depth)) (more ++ rest)) (front_closes (suc depth) (c ∷ more ++ rest))) (pair_false b c 47 42 no_open)
    ∙ closes-front h rest

pub outer_not_closed : HasLexicalFault (codes "/* /* */") L2 0
outer_not_closed = met (omega arith) here (comment_not_closed (codes " /* */") (λ inside rest e h. clash refl (ap (front_closes 1) e ∙ closes-front h rest)))
