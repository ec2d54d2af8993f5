-- Which signs, words and strings are the longest prefixes of a text, by the byte that follows.
use Rattle.std.proofs.Common.{ℕ, ◌≡◌, ◌≢◌, List, [], ◌∷◌, ◌++◌, drop, get_or, Bool, true, false, refl, sym, ap, ◌∙◌, arith}
use Rattle.std.specs.Prelude.{codes, ◌||◌, ◌&&◌, ◌==◌}
use Rattle.std.specs.Str.{bytes_eq}
use Rattle.std.proofs.lemmas.Bool.{and_parts}
use Rattle.tg_syntax.specs.declared.tokens.Word.{Word}
use Rattle.tg_syntax.specs.declared.tokens.Word.TheVariants.{WArray}
use Rattle.tg_syntax.specs.declared.tokens.Sign.{Sign}
use Rattle.tg_syntax.specs.declared.tokens.Sign.TheVariants.{Comma, NotEqual, LessEqual, GreaterEqual, Assign}
use Rattle.tg_syntax.specs.Spellings.{word_text, sign_text, is_letter, is_digit, is_name_byte, AllAre, IsName}
use Rattle.tg_syntax.specs.Lexing.{IsLongest, OpensComment}
use Rattle.tg_syntax.proofs.Longest.{begins, is_mark, form_of_mark}

clash : {b : Bool} → b ≡ false → b ≡ true → ⊥
clash x y = cc

-- a byte with which a sign may go on, or a comment open
abbrev pub goes_on : ℕ → Bool
goes_on b = b == 61 || (b == 62 || b == 42)

-- no sign is longer than two bytes, and the second one of two is `=` or `>`
abbrev is_cut : List ℕ → Bool
is_cut [] = true
is_cut (a ∷ []) = true
is_cut (a ∷ b ∷ []) = goes_on b
is_cut (a ∷ b ∷ c ∷ bytes) = false

sign_cut : (s : Sign) → is_cut (sign_text s) ≡ true
sign_cut Comma = refl
sign_cut _ = refl

longer_uncut : (s : Sign) (c : ℕ) (more : List ℕ) → goes_on c ≡ false → is_cut (sign_text s ++ c ∷ more) ≡ false
longer_uncut NotEqual c more h = refl
longer_uncut LessEqual c more h = refl
longer_uncut GreaterEqual c more h = refl
longer_uncut Assign c more h = refl
longer_uncut Comma c [] h = h
longer_uncut Comma c (d ∷ more) h = refl
longer_uncut _ c [] h = h
longer_uncut _ c (d ∷ more) h = refl

abbrev first : List ℕ → ℕ
first bytes = get_or bytes 0 0

sign_first : (s : Sign) → sign_text s ≡ first (sign_text s) ∷ drop 1 (sign_text s)
sign_first Comma = refl
sign_first _ = refl

sign_mark : (s : Sign) → is_mark (first (sign_text s)) ≡ true
sign_mark Comma = refl
sign_mark _ = refl

pub sign_longest : (s : Sign) (rest : List ℕ) → begins goes_on rest ≡ false → IsLongest (sign_text s) rest
sign_longest s rest stop [] after e ne f = ne refl
sign_longest s rest stop (c ∷ more) after e ne f =
    let g = form_of_mark f (first (sign_text s)) (drop 1 (sign_text s) ++ c ∷ more) (ap (λ l. l ++ c ∷ more) (sign_first s)) (sign_mark s) in
    let whole : sign_text g.0 ≡ sign_text s ++ c ∷ more = g.1 ∙ ap (λ l. l ++ c ∷ more) (sym (sign_first s)) in
    clash (longer_uncut s c more (sym (ap (begins goes_on) e) ∙ stop)) (sym (ap is_cut whole) ∙ sign_cut g.0)

-- nothing that begins with another byte than a slash opens a comment
pub no_slash : (class : ℕ → Bool) (text : List ℕ) → class 47 ≡ false → begins class text ≡ true → OpensComment text → ⊥
no_slash class [] c h o = o
no_slash class (b ∷ []) c h o = o
no_slash class (b ∷ x ∷ text) c h o = clash c (ap class (sym o.0) ∙ h)

-- no sign that a byte follows with which none goes on
star : (b : ℕ) → goes_on b ≡ false → b ≡ 42 → ⊥
star b h e = clash h (ap goes_on e)

pub sign_no_comment : (s : Sign) (rest : List ℕ) → begins goes_on rest ≡ false → OpensComment (sign_text s ++ rest) → ⊥
sign_no_comment NotEqual rest h o = omega (arith, o.0)
sign_no_comment LessEqual rest h o = omega (arith, o.0)
sign_no_comment GreaterEqual rest h o = omega (arith, o.0)
sign_no_comment Assign rest h o = omega (arith, o.0)
sign_no_comment Comma [] h o = o
sign_no_comment Comma (b ∷ rest) h o = star b h o.1
sign_no_comment _ [] h o = o
sign_no_comment _ (b ∷ rest) h o = star b h o.1

-- names that are no words
abbrev pub is_word : List ℕ → Bool
is_word b = bytes_eq b (codes "array") || (bytes_eq b (codes "break") || (bytes_eq b (codes "do") || (bytes_eq b (codes "else")
    || (bytes_eq b (codes "end") || (bytes_eq b (codes "for") || (bytes_eq b (codes "function") || (bytes_eq b (codes "if")
    || (bytes_eq b (codes "in") || (bytes_eq b (codes "let") || (bytes_eq b (codes "nil") || (bytes_eq b (codes "of")
    || (bytes_eq b (codes "then") || (bytes_eq b (codes "to") || (bytes_eq b (codes "type") || (bytes_eq b (codes "var")
    || bytes_eq b (codes "while"))))))))))))))))

word_is_word : (w : Word) → is_word (word_text w) ≡ true
word_is_word WArray = refl
word_is_word _ = refl

pub no_word : (bytes : List ℕ) → is_word bytes ≡ false → (w : Word) → bytes ≢ word_text w
no_word bytes h w e = clash h (ap is_word e ∙ word_is_word w)

-- no word has a digit second
abbrev has_digit : List ℕ → Bool
has_digit bytes = begins is_digit (drop 1 bytes)

word_no_digit : (w : Word) → has_digit (word_text w) ≡ false
word_no_digit WArray = refl
word_no_digit _ = refl

pub numbered_no_word : (bytes : List ℕ) → has_digit bytes ≡ true → (w : Word) → bytes ≢ word_text w
numbered_no_word bytes h w e = clash (ap has_digit e ∙ word_no_digit w) h

word_letter : (w : Word) → begins is_letter (word_text w) ≡ true
word_letter WArray = refl
word_letter _ = refl

abbrev all : (ℕ → Bool) → List ℕ → Bool
all class [] = true
all class (b ∷ bytes) = class b && all class bytes

all_are : (class : ℕ → Bool) (bytes : List ℕ) → all class bytes ≡ true → AllAre class bytes
all_are class [] e = tt
all_are class (b ∷ bytes) e = let h = and_parts (class b) (all class bytes) e in (h.0, all_are class bytes h.1)

abbrev pub is_name : List ℕ → Bool
is_name [] = false
is_name (b ∷ bytes) = is_letter b && all is_name_byte bytes

pub name_is : (bytes : List ℕ) → is_name bytes ≡ true → IsName bytes
name_is [] e = cc
name_is (b ∷ bytes) e = let h = and_parts (is_letter b) (all is_name_byte bytes) e in (h.0, all_are is_name_byte bytes h.1)

word_name : (w : Word) → is_name (word_text w) ≡ true
word_name WArray = refl
word_name _ = refl

pub word_is_name : (w : Word) → IsName (word_text w)
word_is_name w = name_is (word_text w) (word_name w)
