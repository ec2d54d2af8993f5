-- A text is spelled by one token alone, and a text's tokens are its only ones.
use Rattle.std.proofs.Common.{ℕ, zero, suc, ◌+◌, ◌≡◌, ◌<◌, ◌⊎◌, inl, inr, List, [], ◌∷◌, ◌++◌, length, Bool, true, false, cond, Some, get_or, refl}
use Rattle.std.proofs.Common.{sym, ap, subst, ◌∙◌, arith, append-nil}
use Rattle.std.specs.Prelude.{◌==◌, codes, slice_get}
use Rattle.std.specs.Str.{bytes_eq}
use Rattle.std.proofs.lemmas.Bool.Decides.{nat_tests}
use Rattle.std.proofs.lemmas.List.{append_cancel_left}
use Rattle.std.proofs.lemmas.Option.{slice_get_within, get_or_from_slice_get}
use Rattle.tg_base.specs.Interned.{AreDistinct}
use Rattle.tg_syntax.specs.declared.tokens.Token.{Token}
use Rattle.tg_syntax.specs.declared.tokens.Token.TheVariants as token
use Rattle.tg_syntax.specs.declared.tokens.Spanned.{Spanned}
use Rattle.tg_syntax.specs.declared.tokens.Word.{Word}
use Rattle.tg_syntax.specs.declared.tokens.Word.TheVariants.{WArray, WBreak, WDo, WElse, WEnd, WFor, WFunction, WIf, WIn, WLet, WNil, WOf, WThen, WTo}
use Rattle.tg_syntax.specs.declared.tokens.Word.TheVariants.{WType, WVar, WWhile}
use Rattle.tg_syntax.specs.declared.tokens.Sign.{Sign}
use Rattle.tg_syntax.specs.declared.tokens.Sign.TheVariants.{Comma, Colon, Semicolon, LeftParen, RightParen, LeftBracket, RightBracket, LeftBrace}
use Rattle.tg_syntax.specs.declared.tokens.Sign.TheVariants.{RightBrace, Dot, Plus, Minus, Times, Divide, Equal, NotEqual, Less, LessEqual, Greater}
use Rattle.tg_syntax.specs.declared.tokens.Sign.TheVariants.{GreaterEqual, And, Or, Assign}
use Rattle.std.specs.Str.Parse.{IsNumeral}
use Rattle.tg_syntax.proofs.Numerals.{is_digit_from, none_is_numeral}
use Rattle.tg_syntax.specs.Spellings.{Spells, word_text, sign_text, is_letter, is_digit, is_name_byte, is_white_space, AllAre, IsName, HasTokenForm, name}
use Rattle.tg_syntax.specs.Spellings.{sign, digits, quoted, IsQuoted}
use Rattle.tg_syntax.specs.Lexing.{Lexes, ends, blank, comment, token, spanned, IsLongest, OpensComment, Closes}
use Rattle.tg_syntax.proofs.Longest.{begins, is_mark}
use Rattle.tg_lexer.proofs.Basics.{head_is, tail_is, not_cons, differ, apart, clash, GoesOn, two_fronts}
use Rattle.tg_lexer.proofs.Closings.{closes_once}
use Rattle.tg_lexer.proofs.Quotings.{quoted_once}
use Rattle.tg_lexer.proofs.SignSteps.{sign_mark}

-- the kind of a token, by its first byte
abbrev pub byte_kind : ℕ → ℕ
byte_kind b = cond (is_letter b) 0 (cond (is_digit b) 1 (cond (b == 34) 2 3))

abbrev pub kind_of : List ℕ → ℕ
kind_of [] = 5
kind_of (b ∷ bytes) = byte_kind b

abbrev pub kind : Token → ℕ
kind (token.Word w) = 0
kind (token.Ident n) = 0
kind (token.Int n) = 1
kind (token.Text t) = 2
kind (token.Sign s) = 3
kind token.End = 4

word_kind : (w : Word) → kind_of (word_text w) ≡ 0
word_kind WArray = refl
word_kind _ = refl

sign_kind : (s : Sign) → kind_of (sign_text s) ≡ 3
sign_kind Comma = refl
sign_kind _ = refl

digit_letter : (b : ℕ) → is_digit b ≡ true → is_letter b ≡ false
digit_letter b h = grind (arith, nat_tests)

name_kind : (bytes : List ℕ) → IsName bytes → kind_of bytes ≡ 0
name_kind [] h = absurd h
name_kind (b ∷ bytes) h = ap (λ x. cond x 0 (cond (is_digit b) 1 (cond (b == 34) 2 3))) h.0

pub digits_kind : (bytes : List ℕ) → IsNumeral 10 bytes → kind_of bytes ≡ 1
digits_kind [] h = none_is_numeral h
digits_kind (b ∷ bytes) h =
    let d = is_digit_from b h.1.0 in
    ap (λ x. cond x 0 (cond (is_digit b) 1 (cond (b == 34) 2 3))) (digit_letter b d) ∙ ap (λ x. cond x 1 (cond (b == 34) 2 3)) d

pub spells_kind : (names : List (List ℕ)) (bytes : List ℕ) (one : Token) → Spells names bytes one → kind_of bytes ≡ kind one
spells_kind names bytes (token.Word w) h = ap kind_of h ∙ word_kind w
spells_kind names bytes (token.Sign s) h = ap kind_of h ∙ sign_kind s
spells_kind names bytes (token.Ident n) h = name_kind bytes h.0
spells_kind names bytes (token.Int n) h = digits_kind bytes h.0
spells_kind names bytes (token.Text t) h = ap kind_of h.1
spells_kind names bytes token.End h = absurd h

-- what is spelled has the form of a token
abbrev all : (ℕ → Bool) → List ℕ → Bool
all class [] = true
all class (b ∷ bytes) = cond (class b) (all class bytes) false

abbrev is_name : List ℕ → Bool
is_name [] = false
is_name (b ∷ bytes) = cond (is_letter b) (all is_name_byte bytes) false

both : (x y : Bool) → cond x y false ≡ true → (x ≡ true) × (y ≡ true)
both true y e = (refl, e)
both false y e = cc

all_are : (class : ℕ → Bool) (bytes : List ℕ) → all class bytes ≡ true → AllAre class bytes
all_are class [] e = tt
all_are class (b ∷ bytes) e = let h = both (class b) (all class bytes) e in (h.0, all_are class bytes h.1)

name_is : (bytes : List ℕ) → is_name bytes ≡ true → IsName bytes
name_is [] e = cc
name_is (b ∷ bytes) e = let h = both (is_letter b) (all is_name_byte bytes) e in (h.0, all_are is_name_byte bytes h.1)

word_name : (w : Word) → is_name (word_text w) ≡ true
word_name WArray = refl
word_name _ = refl

pub spells_form : (names : List (List ℕ)) (bytes : List ℕ) (one : Token) → Spells names bytes one → HasTokenForm bytes
spells_form names bytes (token.Word w) h = subst HasTokenForm (sym h) (name (word_text w) (name_is (word_text w) (word_name w)))
spells_form names bytes (token.Sign s) h = subst HasTokenForm (sym h) (sign s)
spells_form names bytes (token.Ident n) h = name bytes h.0
spells_form names bytes (token.Int n) h = digits bytes h.0
spells_form names bytes (token.Text t) h = subst HasTokenForm (sym h.1) (quoted h.2)
spells_form names bytes token.End h = absurd h

-- two longest prefixes are one
no_more : (a c b d : List ℕ) → IsLongest a b → HasTokenForm c → GoesOn a c b d → c ≡ a
no_more a c b d l s h = by_more h.more h.long_is h.rest_is
  where
    by_more : (more : List ℕ) → c ≡ a ++ more → b ≡ more ++ d → c ≡ a
    by_more [] e f = e ∙ append-nil a
    by_more (x ∷ more) e f = absurd (l (x ∷ more) d f (λ n. not_cons (sym n)) (subst HasTokenForm e s))

pub one_front : (a b c d : List ℕ) → a ++ b ≡ c ++ d → HasTokenForm a → IsLongest a b → HasTokenForm c → IsLongest c d → c ≡ a
one_front a b c d e s l s' l' = by (two_fronts a b c d e)
  where
    by : GoesOn a c b d ⊎ GoesOn c a d b → c ≡ a
    by (inl h) = no_more a c b d l s' h
    by (inr h) = sym (no_more c a d b l' s h)

-- bytes spell one token
abbrev word_of : List ℕ → Word
word_of bytes = cond (bytes_eq bytes (codes "array")) WArray
    (cond (bytes_eq bytes (codes "break")) WBreak (cond (bytes_eq bytes (codes "do")) WDo (cond (bytes_eq bytes (codes "else")) WElse
    (cond (bytes_eq bytes (codes "end")) WEnd (cond (bytes_eq bytes (codes "for")) WFor (cond (bytes_eq bytes (codes "function")) WFunction
    (cond (bytes_eq bytes (codes "if")) WIf (cond (bytes_eq bytes (codes "in")) WIn (cond (bytes_eq bytes (codes "let")) WLet
    (cond (bytes_eq bytes (codes "nil")) WNil (cond (bytes_eq bytes (codes "of")) WOf (cond (bytes_eq bytes (codes "then")) WThen
    (cond (bytes_eq bytes (codes "to")) WTo (cond (bytes_eq bytes (codes "type")) WType (cond (bytes_eq bytes (codes "var")) WVar WWhile)))))))))))))))

word_of-text : (w : Word) → word_of (word_text w) ≡ w
word_of-text WArray = refl
word_of-text _ = refl

abbrev sign_of : List ℕ → Sign
sign_of bytes = cond (bytes_eq bytes (codes ",")) Comma
    (cond (bytes_eq bytes (codes ":")) Colon (cond (bytes_eq bytes (codes ";")) Semicolon
    (cond (bytes_eq bytes (codes "(")) LeftParen (cond (bytes_eq bytes (codes ")")) RightParen
    (cond (bytes_eq bytes (codes "[")) LeftBracket (cond (bytes_eq bytes (codes "]")) RightBracket
    (cond (bytes_eq bytes (codes "{")) LeftBrace (cond (bytes_eq bytes (codes "}")) RightBrace
    (cond (bytes_eq bytes (codes ".")) Dot
    (cond (bytes_eq bytes (codes "+")) Plus
    (cond (bytes_eq bytes (codes "-")) Minus
    (cond (bytes_eq bytes (codes "*")) Times
    (cond (bytes_eq bytes (codes "/")) Divide
    (cond (bytes_eq bytes (codes "=")) Equal (cond (bytes_eq bytes (codes "<>")) NotEqual
    (cond (bytes_eq bytes (codes "<")) Less (cond (bytes_eq bytes (codes "<=")) LessEqual
    (cond (bytes_eq bytes (codes ">")) Greater (cond (bytes_eq bytes (codes ">=")) GreaterEqual
    (cond (bytes_eq bytes (codes "&")) And (cond (bytes_eq bytes (codes "|")) Or (Assign))))))))))))))))))))))

sign_of-text : (s : Sign) → sign_of (sign_text s) ≡ s
sign_of-text Comma = refl
sign_of-text _ = refl

order : (n m : ℕ) → (n < m) ⊎ ((n ≡ m) ⊎ (m < n))
order zero zero = inr (inl refl)
order zero (suc m) = inl (omega arith)
order (suc n) zero = inr (inr (omega arith))
order (suc n) (suc m) = by (order n m)
  where
    by : (n < m) ⊎ ((n ≡ m) ⊎ (m < n)) → (suc n < suc m) ⊎ ((suc n ≡ suc m) ⊎ (suc m < suc n))
    by (inl h) = inl (omega arith)
    by (inr (inl h)) = inr (inl (ap suc h))
    by (inr (inr h)) = inr (inr (omega arith))

place_once : (names : List (List ℕ)) (bytes : List ℕ) (n m : ℕ) → AreDistinct names → slice_get names n ≡ Some bytes → slice_get names m ≡ Some bytes → n ≡ m
place_once names bytes n m d e f = by (order n m)
  where
    same : get_or names n bytes ≡ get_or names m bytes
    same = get_or_from_slice_get names n bytes bytes e ∙ sym (get_or_from_slice_get names m bytes bytes f)

    by : (n < m) ⊎ ((n ≡ m) ⊎ (m < n)) → n ≡ m
    by (inl h) = absurd (d.apart n m bytes h (slice_get_within names m bytes f) same)
    by (inr (inl h)) = h
    by (inr (inr h)) = absurd (d.apart m n bytes h (slice_get_within names n bytes e) (sym same))

same_text : (inside other meant meaning : List ℕ) → IsQuoted inside meant → IsQuoted other meaning → inside ++ 34 ∷ [] ≡ other ++ 34 ∷ [] → meant ≡ meaning
same_text inside other meant meaning q q' e = (quoted_once q q' [] [] e).meant_is

-- no bytes spell two tokens of different kinds
kinds_differ : (names : List (List ℕ)) (bytes : List ℕ) {one other : Token} → (kind one == kind other) ≡ false → Spells names bytes one →
    Spells names bytes other → one ≡ other
kinds_differ names bytes {one = one} {other = other} d h k =
    absurd (differ (kind one) (kind other) d (sym (spells_kind names bytes one h) ∙ spells_kind names bytes other k))

pub spells_once : (names : List (List ℕ)) (bytes : List ℕ) (one other : Token) → AreDistinct names → Spells names bytes one →
    Spells names bytes other → one ≡ other
spells_once names bytes (token.Word w) (token.Word w') d h k = ap token.Word (sym (word_of-text w) ∙ ap word_of (sym h ∙ k) ∙ word_of-text w')
spells_once names bytes (token.Word w) (token.Ident n') d h k = absurd (k.1 w h)
spells_once names bytes (token.Word w) _ d h k = kinds_differ names bytes refl h k
spells_once names bytes (token.Ident n) (token.Word w') d h k = absurd (h.1 w' k)
spells_once names bytes (token.Ident n) (token.Ident n') d h k = ap (λ m. token.Ident (record { 0 = m })) (place_once names bytes n.0 n'.0 d h.2 k.2)
spells_once names bytes (token.Ident n) _ d h k = kinds_differ names bytes refl h k
spells_once names bytes (token.Int n) (token.Int n') d h k = ap token.Int (h.1 ∙ sym k.1)
spells_once names bytes (token.Int n) _ d h k = kinds_differ names bytes refl h k
spells_once names bytes (token.Text t) (token.Text t') d h k = ap token.Text (same_text h.0 k.0 t t' h.2 k.2 (tail_is (sym h.1 ∙ k.1)))
spells_once names bytes (token.Text t) _ d h k = kinds_differ names bytes refl h k
spells_once names bytes (token.Sign s) (token.Sign s') d h k = ap token.Sign (sym (sign_of-text s) ∙ ap sign_of (sym h ∙ k) ∙ sign_of-text s')
spells_once names bytes (token.Sign s) _ d h k = kinds_differ names bytes refl h k
spells_once names bytes token.End _ d h k = absurd h

-- what has the form of a token begins with a byte that is no blank
sign_blank : (s : Sign) → begins is_white_space (sign_text s) ≡ false
sign_blank Comma = refl
sign_blank _ = refl

letter_blank : (b : ℕ) → is_letter b ≡ true → is_white_space b ≡ false
letter_blank b h = grind (arith, nat_tests)

digit_blank : (b : ℕ) → is_digit b ≡ true → is_white_space b ≡ false
digit_blank b h = grind (arith, nat_tests)

pub form_begins : {xs : List ℕ} → HasTokenForm xs → begins is_white_space xs ≡ false
form_begins (name [] h) = absurd h
form_begins (name (b ∷ bytes) h) = letter_blank b h.0
form_begins (sign s) = sign_blank s
form_begins (digits [] h) = none_is_numeral h
form_begins (digits (b ∷ bytes) h) = digit_blank b (is_digit_from b h.1.0)
form_begins (quoted q) = refl

pub form_some : {xs : List ℕ} → HasTokenForm xs → xs ≡ [] → ⊥
form_some (name [] h) e = h
form_some (name (b ∷ bytes) h) e = not_cons (sym e)
form_some (sign s) e = clash (ap (begins is_mark) e) (sign_mark s)
form_some (digits [] h) e = none_is_numeral h
form_some (digits (b ∷ bytes) h) e = not_cons (sym e)
form_some (quoted q) e = not_cons (sym e)

pub no_blank_front : (bytes rest : List ℕ) (b : ℕ) (after : List ℕ) → HasTokenForm bytes → b ∷ after ≡ bytes ++ rest → is_white_space b ≡ true → ⊥
no_blank_front [] rest b after f e h = form_some f refl
no_blank_front (x ∷ bytes) rest b after f e h = apart is_white_space x b (form_begins f) h (sym (head_is e))

-- the first step of tokens, by what a text begins with
pub lexes_blank : {names : List (List ℕ)} {at : ℕ} {text : List ℕ} {tokens : List Spanned} → Lexes names at text tokens →
    (b : ℕ) (rest : List ℕ) → text ≡ b ∷ rest → is_white_space b ≡ true → Lexes names (at + 1) rest tokens
lexes_blank (ends at) b rest e h = absurd (not_cons e)
lexes_blank {names = names} {at = at} {tokens = tokens} (blank x k l) b rest e h = subst (λ r. Lexes names (at + 1) r tokens) (tail_is e) l
lexes_blank (comment inside c l) b rest e h = absurd (apart is_white_space 47 b refl h (head_is e))
lexes_blank {names = names} (token bytes one {rest = after} s longest o l) b rest e h =
    absurd (no_blank_front bytes after b rest (spells_form names bytes one s) (sym e) h)

pub lexes_comment : {names : List (List ℕ)} {at : ℕ} {text : List ℕ} {tokens : List Spanned} → Lexes names at text tokens →
    (inside rest : List ℕ) → text ≡ 47 ∷ 42 ∷ inside ++ rest → Closes 1 inside → Lexes names (at + 2 + length inside) rest tokens
lexes_comment (ends at) inside rest e c = absurd (not_cons e)
lexes_comment (blank x k l) inside rest e c = absurd (apart is_white_space 47 x refl k (sym (head_is e)))
lexes_comment {names = names} {at = at} {tokens = tokens} (comment other {rest = after} c' l) inside rest e c =
    let f : other ++ after ≡ inside ++ rest = tail_is (tail_is e) in
    let same : other ≡ inside = closes_once c' c after rest f in
    let r : after ≡ rest = append_cancel_left inside after rest (ap (λ l. l ++ after) (sym same) ∙ f) in
    subst (λ l. Lexes names (at + 2 + length l) rest tokens) same (subst (λ l. Lexes names (at + 2 + length other) l tokens) r l)
lexes_comment (token bytes one {rest = after} s longest o l) inside rest e c = absurd (o (subst OpensComment (sym e) (refl, refl)))

pub record Head (names : List (List ℕ)) (at : ℕ) (bytes rest : List ℕ) (tokens : List Spanned) : Type 0 where
  pub one : Token
  pub more : List Spanned
  pub whole : tokens ≡ spanned one at (at + length bytes) ∷ more
  pub spells : Spells names bytes one
  pub lexed : Lexes names (at + length bytes) rest more

no_form_front : (bytes rest : List ℕ) → HasTokenForm bytes → [] ≡ bytes ++ rest → ⊥
no_form_front [] rest f e = form_some f refl
no_form_front (b ∷ bytes) rest f e = not_cons e

pub lexes_token : {names : List (List ℕ)} {at : ℕ} {text : List ℕ} {tokens : List Spanned} → Lexes names at text tokens →
    (bytes rest : List ℕ) → text ≡ bytes ++ rest → HasTokenForm bytes → IsLongest bytes rest → (OpensComment text → ⊥) → Head names at bytes rest tokens
lexes_token (ends at) bytes rest e f longest o = absurd (no_form_front bytes rest f e)
lexes_token (blank x {rest = after} k l) bytes rest e f longest o = absurd (no_blank_front bytes rest x after f e k)
lexes_token (comment inside c l) bytes rest e f longest o = absurd (o (refl, refl))
lexes_token {names = names} {at = at} (token other one {rest = after} {tokens = more} s long' o' l) bytes rest e f longest o =
    let same : other ≡ bytes = one_front bytes rest other after (sym e) f longest (spells_form names other one s) long' in
    let r : after ≡ rest = append_cancel_left bytes after rest (ap (λ l. l ++ after) (sym same) ∙ e) in
    record {
      one = one;
      more = more;
      whole = ap (λ l. spanned one at (at + length l) ∷ more) same;
      spells = subst (λ l. Spells names l one) same s;
      lexed = subst (λ l. Lexes names (at + length l) rest more) same (subst (λ x. Lexes names (at + length other) x more) r l);
    }

lexes_end : {names : List (List ℕ)} {at : ℕ} {text : List ℕ} {tokens : List Spanned} → Lexes names at text tokens →
    text ≡ [] → tokens ≡ spanned token.End at at ∷ []
lexes_end (ends at) e = refl
lexes_end (blank x k l) e = absurd (not_cons (sym e))
lexes_end (comment inside c l) e = absurd (not_cons (sym e))
lexes_end {names = names} (token bytes one {rest = rest} s longest o l) e = absurd (no_form_front bytes rest (spells_form names bytes one s) (sym e))

-- a text's tokens are its only ones
pub lexes_once : (names : List (List ℕ)) → AreDistinct names → {at : ℕ} {text : List ℕ} {tokens : List Spanned} →
    Lexes names at text tokens → (others : List Spanned) → Lexes names at text others → tokens ≡ others
lexes_once names d (ends at) others k = sym (lexes_end k refl)
lexes_once names d (blank b {rest = rest} h l) others k = lexes_once names d l others (lexes_blank k b rest refl h)
lexes_once names d (comment inside {rest = rest} c l) others k = lexes_once names d l others (lexes_comment k inside rest refl c)
lexes_once names d (token {at = at} bytes one {rest = rest} {tokens = tokens} s longest o l) others k =
    let h = lexes_token k bytes rest refl (spells_form names bytes one s) longest o in
    let same : one ≡ h.one = spells_once names bytes one h.one d s h.spells in
    ap (λ t. spanned t at (at + length bytes) ∷ tokens) same ∙ ap (λ l. spanned h.one at (at + length bytes) ∷ l)
    (lexes_once names d l h.more h.lexed) ∙ sym h.whole
