-- What stands directly after a token of a canonical text doesn't go on with it.
use Rattle.std.proofs.Common.{ℕ, ◌≡◌, ◌≢◌, ◌⊎◌, inl, inr, List, [], ◌∷◌, ◌++◌, Bool, true, false, refl, sym, ap, subst, ◌∙◌, arith}
use Rattle.std.specs.Prelude.{codes, ◌==◌, ◌&&◌, ◌||◌, not, if◌then◌else◌, Some}
use Rattle.std.specs.List.{list_all, list_any}
use Rattle.std.specs.Fmt.{decimal}
use Rattle.std.specs.Str.Parse.{IsNumeral}
use Rattle.std.proofs.lemmas.Bool.{eqb-true, eq-eqb}
use Rattle.std.proofs.lemmas.Bool.Decides.{nat_tests}
use Rattle.std.proofs.lemmas.Fmt.{decimal_is_IsNumeral}
use Rattle.std.proofs.lemmas.Option.{get_or_from_slice_get}
use Rattle.tg_syntax.specs.declared.tokens.Word.{Word as ReservedWord}
use Rattle.tg_syntax.specs.declared.tokens.Word.TheVariants.{WArray}
use Rattle.tg_syntax.specs.declared.tokens.Sign.{Sign as Mark}
use Rattle.tg_syntax.specs.declared.tokens.Sign.TheVariants.{Comma, Colon, Semicolon, Divide, LeftParen, RightParen, LeftBracket, RightBracket}
use Rattle.tg_syntax.specs.declared.tokens.Sign.TheVariants.{LeftBrace, RightBrace, Dot, Minus}
use Rattle.tg_syntax.specs.declared.tokens.Token.{Token}
use Rattle.tg_syntax.specs.declared.tokens.Token.TheVariants.{Word, Sign, Ident, Int, Text, End}
use Rattle.tg_syntax.specs.Spellings.{word_text, sign_text, is_letter, is_digit, is_name_byte, IsName, AllAre, Spells}
use Rattle.tg_syntax.specs.Lexing.{IsLongest, OpensComment}
use Rattle.tg_syntax.proofs.Longest.{begins, form_of_mark, mark_longest, name_longest, digits_longest, is_mark}
use Rattle.tg_syntax.proofs.Numerals.{bytes_of_digits, none_is_numeral}
use Rattle.tg_lexer.proofs.Readings.{string_longest}
use Rattle.tg_formatter.specs.Canonical.{quoted_text, spelling, is_close_before, is_close_behind, is_bracket, is_minus, takes_bracket, are_close}
use Rattle.tg_formatter.specs.Canonical.{between_tokens, line}
use Rattle.tg_formatter.specs.Canonical.{begins_line, ends_line}
use Rattle.tg_formatter.specs.Writable.{HasSpelling}
use Rattle.tg_formatter_laws.proofs.Quoting.{text_quoted}

clash : {b : Bool} → b ≡ false → b ≡ true → ⊥
clash x y = cc

-- what may stand directly after each token: a newline, a blank, `(`, `)`, `,`, `.`, `:`, `;`, `[`, `]`, `{` and `}`
abbrev stops : List ℕ
stops = 10 ∷ 32 ∷ 40 ∷ 41 ∷ 44 ∷ 46 ∷ 58 ∷ 59 ∷ 91 ∷ 93 ∷ 123 ∷ 125 ∷ []

abbrev pub is_stop : ℕ → Bool
is_stop b = list_any (λ s. b == s) stops

-- what holds of each of these bytes
of_any : (p : ℕ → Bool) (bs : List ℕ) → list_all p bs ≡ true → (b : ℕ) → list_any (λ s. b == s) bs ≡ true → p b ≡ true
of_any p [] h b k = cc
of_any p (s ∷ bs) h b k = by (b == s) refl (p s) refl (λ g. of_any p bs g b) h k
  where
    by : (t : Bool) → (b == s) ≡ t → (u : Bool) → p s ≡ u → (list_all p bs ≡ true → list_any (λ s. b == s) bs ≡ true → p b ≡ true) →
        (u && list_all p bs) ≡ true → (t || list_any (λ s. b == s) bs) ≡ true → p b ≡ true
    by true e true f more g i = ap p (eqb-true b s e) ∙ f
    by true e false f more g i = cc
    by false e true f more g i = more g i
    by false e false f more g i = cc

not_true : (t : Bool) → not t ≡ true → t ≡ false
not_true true h = cc
not_true false h = refl

-- no byte of a class may stand there
pub stopped : (class : ℕ → Bool) → list_all (λ b. not (class b)) stops ≡ true → (rest : List ℕ) → begins is_stop rest ≡ true → begins class rest ≡ false
stopped class h [] k = refl
stopped class h (b ∷ rest) k = not_true (class b) (of_any (λ b. not (class b)) stops h b k)

-- signs: each byte after the first is `=` or `>`
abbrev is_second : ℕ → Bool
is_second b = b == 61 || b == 62

abbrev seconds : List ℕ → Bool
seconds [] = true
seconds (b ∷ bytes) = list_all is_second bytes

sign_seconds : (s : Mark) → seconds (sign_text s) ≡ true
sign_seconds Comma = refl
sign_seconds _ = refl

sign_mark : (s : Mark) → begins is_mark (sign_text s) ≡ true
sign_mark Comma = refl
sign_mark _ = refl

pub and_left : (t u : Bool) → (t && u) ≡ true → t ≡ true
and_left true u k = refl
and_left false u k = cc

and_right : (t u : Bool) → (t && u) ≡ true → u ≡ true
and_right true u k = k
and_right false u k = cc

all_at : (class : ℕ → Bool) (xs : List ℕ) (c : ℕ) (ys : List ℕ) → list_all class (xs ++ c ∷ ys) ≡ true → class c ≡ true
all_at class [] c ys h = and_left (class c) (list_all class ys) h
all_at class (x ∷ xs) c ys h = all_at class xs c ys (and_right (class x) (list_all class (xs ++ c ∷ ys)) h)

marks_longest : (text rest : List ℕ) → begins is_mark text ≡ true → begins is_stop rest ≡ true → IsLongest text rest
marks_longest text rest m stop [] after e ne f = ne refl
marks_longest [] rest m stop (c ∷ more) after e ne f = cc
marks_longest (b ∷ bytes) rest m stop (c ∷ more) after e ne f =
    let s = form_of_mark f b (bytes ++ c ∷ more) refl m in
    let k : list_all is_second (bytes ++ c ∷ more) ≡ true = ap seconds (sym s.1) ∙ sign_seconds s.0 in
    clash (sym (ap (begins is_second) e) ∙ stopped is_second refl rest stop) (all_at is_second bytes c more k)

-- reserved words are names
abbrev is_name : List ℕ → Bool
is_name [] = false
is_name (b ∷ bytes) = is_letter b && list_all is_name_byte bytes

all_are : (class : ℕ → Bool) (bytes : List ℕ) → list_all class bytes ≡ true → AllAre class bytes
all_are class [] h = tt
all_are class (b ∷ bytes) h =
    (and_left (class b) (list_all class bytes) h, all_are class bytes (and_right (class b) (list_all class bytes) h))

name_from : (bytes : List ℕ) → is_name bytes ≡ true → IsName bytes
name_from [] h = cc
name_from (b ∷ bytes) h =
    (and_left (is_letter b) (list_all is_name_byte bytes) h, all_are is_name_byte bytes (and_right (is_letter b) (list_all is_name_byte bytes) h))

word_name : (w : ReservedWord) → is_name (word_text w) ≡ true
word_name WArray = refl
word_name _ = refl

-- a token that can be written is spelled so
pub spelled : (names : List (List ℕ)) (one : Token) → HasSpelling names one → Spells names (spelling names one) one
spelled names (Word w) h = refl
spelled names (Sign s) h = refl
spelled names (Ident n) (text, at, is) =
    let e = get_or_from_slice_get names n.0 text [] at in
    (subst IsName (sym e) is.name, λ w k. is.no_word w (sym e ∙ k), at ∙ ap Some (sym e))
spelled names (Int n) h = let d = decimal_is_IsNumeral n (omega arith) in (d.0, sym d.1, h)
spelled names (Text bytes) h = (quoted_text bytes, refl, text_quoted bytes h)
spelled names End h = absurd h

-- no longer prefix is a token: after a bracket that opens, a dot and a minus whatever follows, else before one of these bytes
abbrev pub is_alone : Token → Bool
is_alone one = is_close_behind one || is_minus one

abbrev pub MayFollow : Token → List ℕ → Type 0
MayFollow one rest = (begins is_stop rest ≡ true) ⊎ (is_alone one ≡ true)

alone_longest : (names : List (List ℕ)) (one : Token) (rest : List ℕ) → is_alone one ≡ true → IsLongest (spelling names one) rest
alone_longest names (Sign LeftParen) rest h = mark_longest 40 rest refl refl
alone_longest names (Sign LeftBracket) rest h = mark_longest 91 rest refl refl
alone_longest names (Sign LeftBrace) rest h = mark_longest 123 rest refl refl
alone_longest names (Sign Dot) rest h = mark_longest 46 rest refl refl
alone_longest names (Sign Minus) rest h = mark_longest 45 rest refl refl
alone_longest names _ rest h = cc

stop_longest : (names : List (List ℕ)) (one : Token) (rest : List ℕ) → HasSpelling names one → begins is_stop rest ≡ true →
    IsLongest (spelling names one) rest
stop_longest names (Word w) rest h stop = name_longest (word_text w) rest (name_from (word_text w) (word_name w)) (stopped is_name_byte refl rest stop)
stop_longest names (Sign s) rest h stop = marks_longest (sign_text s) rest (sign_mark s) stop
stop_longest names (Ident n) rest h stop =
    name_longest (spelling names (Ident n)) rest (spelled names (Ident n) h).0 (stopped is_name_byte refl rest stop)
stop_longest names (Int n) rest h stop = digits_longest (decimal n) rest (spelled names (Int n) h).0 (stopped is_digit refl rest stop)
stop_longest names (Text bytes) rest h stop = string_longest (quoted_text bytes) bytes rest (text_quoted bytes h)
stop_longest names End rest h stop = absurd h

pub longest : (names : List (List ℕ)) (one : Token) (rest : List ℕ) → HasSpelling names one → MayFollow one rest → IsLongest (spelling names one) rest
longest names one rest h (inl stop) = stop_longest names one rest h stop
longest names one rest h (inr alone) = alone_longest names one rest alone

-- and no comment begins
abbrev is_no_slash : ℕ → Bool
is_no_slash b = not (b == 47)

no_slash : (text rest : List ℕ) → begins is_no_slash text ≡ true → OpensComment (text ++ rest) → ⊥
no_slash [] rest h k = cc
no_slash (b ∷ bytes) rest h k = by (bytes ++ rest) k
  where
    by : (more : List ℕ) → OpensComment (b ∷ more) → ⊥
    by [] k = k
    by (c ∷ more) k = clash refl (sym (ap is_no_slash k.0) ∙ h)

letter_no_slash : (b : ℕ) → is_letter b ≡ true → is_no_slash b ≡ true
letter_no_slash b h = grind (arith, nat_tests)

digit_no_slash : (b : ℕ) → is_digit b ≡ true → is_no_slash b ≡ true
digit_no_slash b h = grind (arith, nat_tests)

name_no_slash : (bytes : List ℕ) → IsName bytes → begins is_no_slash bytes ≡ true
name_no_slash [] h = absurd h
name_no_slash (b ∷ bytes) h = letter_no_slash b h.0

numeral_no_slash : (bytes : List ℕ) → IsNumeral 10 bytes → begins is_no_slash bytes ≡ true
numeral_no_slash [] h = none_is_numeral h
numeral_no_slash (b ∷ bytes) h = digit_no_slash b (bytes_of_digits (b ∷ bytes) h.1).0

sign_no_comment : (s : Mark) (rest : List ℕ) → MayFollow (Sign s) rest → OpensComment (sign_text s ++ rest) → ⊥
sign_no_comment Divide [] f k = k
sign_no_comment Divide (c ∷ rest) (inl stop) k = clash (stopped (λ b. b == 42) refl (c ∷ rest) stop) (eq-eqb c 42 k.1)
sign_no_comment Divide (c ∷ rest) (inr alone) k = cc
sign_no_comment s rest f k = no_slash (sign_text s) rest refl k

pub no_comment : (names : List (List ℕ)) (one : Token) (rest : List ℕ) → HasSpelling names one → MayFollow one rest →
    OpensComment (spelling names one ++ rest) → ⊥
no_comment names (Word w) rest h f k = no_slash (word_text w) rest (name_no_slash (word_text w) (name_from (word_text w) (word_name w))) k
no_comment names (Sign s) rest h f k = sign_no_comment s rest f k
no_comment names (Ident n) rest h f k = no_slash (spelling names (Ident n)) rest (name_no_slash (spelling names (Ident n)) (spelled names (Ident n) h).0) k
no_comment names (Int n) rest h f k = no_slash (decimal n) rest (numeral_no_slash (decimal n) (spelled names (Int n) h).0) k
no_comment names (Text bytes) rest h f k = no_slash (spelling names (Text bytes)) rest refl k
no_comment names End rest h f k = h

-- what stands after a token
close_before_stops : (names : List (List ℕ)) (one : Token) (rest : List ℕ) → is_close_before one ≡ true → begins is_stop (spelling names one ++ rest) ≡ true
close_before_stops names (Sign RightParen) rest h = refl
close_before_stops names (Sign RightBracket) rest h = refl
close_before_stops names (Sign RightBrace) rest h = refl
close_before_stops names (Sign Comma) rest h = refl
close_before_stops names (Sign Semicolon) rest h = refl
close_before_stops names (Sign Colon) rest h = refl
close_before_stops names (Sign Dot) rest h = refl
close_before_stops names _ rest h = cc

bracket_stops : (names : List (List ℕ)) (one : Token) (rest : List ℕ) → is_bracket one ≡ true → begins is_stop (spelling names one ++ rest) ≡ true
bracket_stops names (Sign LeftParen) rest h = refl
bracket_stops names (Sign LeftBracket) rest h = refl
bracket_stops names (Sign LeftBrace) rest h = refl
bracket_stops names _ rest h = cc

or_right : (t u : Bool) → u ≡ true → (t || u) ≡ true
or_right true u h = refl
or_right false u h = h

module _ (names : List (List ℕ)) (a : Token) (unary : Bool) (depth : ℕ) (minus : unary ≡ true → is_minus a ≡ true) where
  close_stands : (one : Token) (rest : List ℕ) → are_close a unary one ≡ true → MayFollow a (spelling names one ++ rest)
  close_stands one rest h =
      by (is_close_before one) refl (is_close_behind a) refl unary refl (is_bracket one) refl h
    where
      by : (p : Bool) → is_close_before one ≡ p → (q : Bool) → is_close_behind a ≡ q → (u : Bool) → unary ≡ u → (r : Bool) → is_bracket one ≡ r →
          (p || (q || (u || (r && takes_bracket a)))) ≡ true → MayFollow a (spelling names one ++ rest)
      by true e q f u g r i h = inl (close_before_stops names one rest e)
      by false e true f u g r i h = inr (ap (λ t. t || is_minus a) f)
      by false e false f true g r i h = inr (or_right (is_close_behind a) (is_minus a) (minus g))
      by false e false f false g true i h = inl (bracket_stops names one rest i)
      by false e false f false g false i h = cc

  between_stands : (one : Token) (rest : List ℕ) (p : Bool) (q : Bool) → are_close a unary one ≡ q →
      MayFollow a ((if p then line depth one else if q then [] else 32 ∷ []) ++ (spelling names one ++ rest))
  between_stands one rest true q e = inl refl
  between_stands one rest false true e = close_stands one rest e
  between_stands one rest false false e = inl refl

  pub behind_stands : (one : Token) (rest : List ℕ) → MayFollow a (between_tokens a unary depth one ++ (spelling names one ++ rest))
  behind_stands (Word w) rest = between_stands (Word w) rest (begins_line (Word w) || ends_line a) (are_close a unary (Word w)) refl
  behind_stands (Sign s) rest = between_stands (Sign s) rest (begins_line (Sign s) || ends_line a) (are_close a unary (Sign s)) refl
  behind_stands (Ident n) rest = between_stands (Ident n) rest (begins_line (Ident n) || ends_line a) (are_close a unary (Ident n)) refl
  behind_stands (Int n) rest = between_stands (Int n) rest (begins_line (Int n) || ends_line a) (are_close a unary (Int n)) refl
  behind_stands (Text bytes) rest = between_stands (Text bytes) rest (begins_line (Text bytes) || ends_line a) (are_close a unary (Text bytes)) refl
  behind_stands End rest = inl refl
