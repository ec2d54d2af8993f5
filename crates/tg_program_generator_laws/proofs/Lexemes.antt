-- Texts as lists of lexemes: what each is spelled, and which tokens they are.
use Rattle.std.proofs.Common.{ℕ, suc, ◌+◌, ◌-◌, ◌≡◌, List, [], ◌∷◌, ◌++◌, length, Bool, true, take, drop, refl, sym, ap, ◌∙◌, arith}
use Rattle.std.proofs.Common.{append_assoc}
use Rattle.std.specs.Prelude.{not, ◌&&◌, ◌==◌}
use Rattle.std.proofs.lemmas.List.{length-append}
use Rattle.std.proofs.Math.Seq.{drop-append_seam, take-append_seam}
use Rattle.std.proofs.lemmas.Bool.{and_parts, and_from, not-true}
use Rattle.std.specs.Str.Parse.{IsNumeral}
use Rattle.tg_base.specs.declared.ids.Span.{Span}
use Rattle.tg_syntax.specs.declared.tokens.Word.{Word}
use Rattle.tg_syntax.specs.declared.tokens.Sign.{Sign}
use Rattle.tg_syntax.specs.declared.tokens.Token.{Token}
use Rattle.tg_syntax.specs.declared.tokens.Token.TheVariants as token
use Rattle.tg_syntax.specs.declared.tokens.Spanned.{Spanned}
use Rattle.tg_syntax.specs.Spellings.{word_text, sign_text, is_white_space, is_letter, is_digit, is_name_byte, Spells, IsName, IsQuoted}
use Rattle.tg_syntax.specs.Lexing.{Lexes, spanned, IsLongest}
use Rattle.tg_syntax.proofs.Longest.{begins, name_longest, digits_longest}
use Rattle.tg_syntax.proofs.Numerals.{is_digit_from, none_is_numeral}
use Rattle.tg_lexer.specs.Numbering.{idents}
use Rattle.tg_program_generator_laws.proofs.Signs.{goes_on, sign_longest, no_slash, sign_no_comment, word_is_name}

-- a blank, a sign, a word, a name with its number, and an int with its digits
pub data Lexeme : Type 0 where
  gap : (b : ℕ) → Lexeme
  mark : Sign → Lexeme
  word : Word → Lexeme
  name : (text : List ℕ) → (number : ℕ) → Lexeme
  int : (text : List ℕ) → (value : ℕ) → Lexeme
  quote : (inside meant : List ℕ) → Lexeme

abbrev pub spelling : Lexeme → List ℕ
spelling (gap b) = b ∷ []
spelling (mark s) = sign_text s
spelling (word w) = word_text w
spelling (name text n) = text
spelling (int text n) = text
spelling (quote inside meant) = 34 ∷ inside ++ 34 ∷ []

abbrev pub spelled : List Lexeme → List ℕ
spelled [] = []
spelled (l ∷ ls) = spelling l ++ spelled ls

-- where they end that begin at a byte
abbrev pub past : ℕ → List Lexeme → ℕ
past at [] = at
past at (l ∷ ls) = past (at + length (spelling l)) ls

abbrev pub numbered : ℕ → Token
numbered n = token.Ident (record { 0 = n })

abbrev pub tokens_at : ℕ → List Lexeme → List Spanned
tokens_at at [] = []
tokens_at at (gap b ∷ ls) = tokens_at (at + 1) ls
tokens_at at (mark s ∷ ls) = let to = at + length (sign_text s) in spanned (token.Sign s) at to ∷ tokens_at to ls
tokens_at at (word w ∷ ls) = let to = at + length (word_text w) in spanned (token.Word w) at to ∷ tokens_at to ls
tokens_at at (name text n ∷ ls) = let to = at + length text in spanned (numbered n) at to ∷ tokens_at to ls
tokens_at at (int text n ∷ ls) = let to = at + length text in spanned (token.Int n) at to ∷ tokens_at to ls
tokens_at at (quote inside meant ∷ ls) =
    let to = at + length (34 ∷ inside ++ 34 ∷ []) in spanned (token.Text meant) at to ∷ tokens_at to ls

-- the tokens of lexemes, whose spans are known by their places from a number on
abbrev pub marked : (s : ℕ → Span) → ℕ → List Lexeme → List Spanned
marked s k [] = []
marked s k (gap b ∷ ls) = marked s k ls
marked s k (mark m ∷ ls) = record { token = token.Sign m; span = s k } ∷ marked s (suc k) ls
marked s k (word w ∷ ls) = record { token = token.Word w; span = s k } ∷ marked s (suc k) ls
marked s k (name text n ∷ ls) = record { token = numbered n; span = s k } ∷ marked s (suc k) ls
marked s k (int text n ∷ ls) = record { token = token.Int n; span = s k } ∷ marked s (suc k) ls
marked s k (quote inside meant ∷ ls) = record { token = token.Text meant; span = s k } ∷ marked s (suc k) ls

-- the names, ints and strings among them are such tokens, whatever follows
pub record IsQuote (inside meant : List ℕ) : Type 0 where
  pub quoted : IsQuoted inside meant
  pub longest : (rest : List ℕ) → IsLongest (34 ∷ inside ++ 34 ∷ []) rest

abbrev pub AreLexemes : List (List ℕ) → List Lexeme → Type 0
AreLexemes names [] = Unit {0}
AreLexemes names (name text n ∷ ls) = Spells names text (numbered n) × AreLexemes names ls
AreLexemes names (int text n ∷ ls) = Spells names text (token.Int n) × AreLexemes names ls
AreLexemes names (quote inside meant ∷ ls) = IsQuote inside meant × AreLexemes names ls
AreLexemes names (_ ∷ ls) = AreLexemes names ls

-- a gap is blank, and no other goes on in the text that follows
abbrev pub stops : Lexeme → List ℕ → Bool
stops (gap b) rest = is_white_space b
stops (mark s) rest = not (begins goes_on rest)
stops (word w) rest = not (begins is_name_byte rest)
stops (name text n) rest = not (begins is_name_byte rest)
stops (int text n) rest = not (begins is_digit rest)
stops (quote inside meant) rest = true

abbrev pub all_stop : List Lexeme → List ℕ → Bool
all_stop [] rest = true
all_stop (l ∷ ls) rest = stops l (spelled ls ++ rest) && all_stop ls rest

-- fits what follows
pub record Fit (names : List (List ℕ)) (ls : List Lexeme) (rest : List ℕ) : Type 0 where
  pub are : AreLexemes names ls
  pub stop : all_stop ls rest ≡ true

digits_begin : (text rest : List ℕ) → IsNumeral 10 text → begins is_digit (text ++ rest) ≡ true
digits_begin [] rest h = none_is_numeral h
digits_begin (b ∷ text) rest h = is_digit_from b h.1.0

name_begins : (text rest : List ℕ) → IsName text → begins is_letter (text ++ rest) ≡ true
name_begins [] rest h = absurd h
name_begins (b ∷ text) rest h = h.0

-- such a text is such tokens
pub lexes : (names : List (List ℕ)) (at : ℕ) (ls : List Lexeme) (rest : List ℕ) (ts : List Spanned) →
    AreLexemes names ls → all_stop ls rest ≡ true → Lexes names (past at ls) rest ts →
    Lexes names at (spelled ls ++ rest) (tokens_at at ls ++ ts)
lexes names at [] rest ts a s l = l
lexes names at (gap b ∷ ls) rest ts a s l =
    let h = and_parts (is_white_space b) (all_stop ls rest) s in
    Lexes.blank b h.0 (lexes names (at + 1) ls rest ts a h.1 l)
lexes names at (mark m ∷ ls) rest ts a s l =
    let h = and_parts (not (begins goes_on (spelled ls ++ rest))) (all_stop ls rest) s in
    let stop = not-true (begins goes_on (spelled ls ++ rest)) h.0 in
    let more = lexes names (at + length (sign_text m)) ls rest ts a h.1 l in
    rw append_assoc (Lexes.token (sign_text m) (token.Sign m) refl (sign_longest m (spelled ls ++ rest) stop)
    (sign_no_comment m (spelled ls ++ rest) stop) more)
lexes names at (word w ∷ ls) rest ts a s l =
    let h = and_parts (not (begins is_name_byte (spelled ls ++ rest))) (all_stop ls rest) s in
    let stop = not-true (begins is_name_byte (spelled ls ++ rest)) h.0 in
    let more = lexes names (at + length (word_text w)) ls rest ts a h.1 l in
    let is = word_is_name w in
    rw append_assoc (Lexes.token (word_text w) (token.Word w) refl (name_longest (word_text w) (spelled ls ++ rest) is stop)
    (no_slash is_letter (word_text w ++ (spelled ls ++ rest)) refl (name_begins (word_text w) (spelled ls ++ rest) is)) more)
lexes names at (name text n ∷ ls) rest ts a s l =
    let h = and_parts (not (begins is_name_byte (spelled ls ++ rest))) (all_stop ls rest) s in
    let stop = not-true (begins is_name_byte (spelled ls ++ rest)) h.0 in
    let more = lexes names (at + length text) ls rest ts a.1 h.1 l in
    rw append_assoc (Lexes.token text (numbered n) a.0 (name_longest text (spelled ls ++ rest) a.0.0 stop)
    (no_slash is_letter (text ++ (spelled ls ++ rest)) refl (name_begins text (spelled ls ++ rest) a.0.0)) more)
lexes names at (int text n ∷ ls) rest ts a s l =
    let h = and_parts (not (begins is_digit (spelled ls ++ rest))) (all_stop ls rest) s in
    let stop = not-true (begins is_digit (spelled ls ++ rest)) h.0 in
    let more = lexes names (at + length text) ls rest ts a.1 h.1 l in
    rw append_assoc (Lexes.token text (token.Int n) a.0 (digits_longest text (spelled ls ++ rest) a.0.0 stop)
    (no_slash is_digit (text ++ (spelled ls ++ rest)) refl (digits_begin text (spelled ls ++ rest) a.0.0)) more)
lexes names at (quote inside meant ∷ ls) rest ts a s l =
    let bytes = 34 ∷ inside ++ 34 ∷ [] in
    let more = lexes names (at + length bytes) ls rest ts a.1 s l in
    rw append_assoc (Lexes.token bytes (token.Text meant) (inside, refl, a.0.quoted) (a.0.longest (spelled ls ++ rest))
    (no_slash (λ b. b == 34) (bytes ++ (spelled ls ++ rest)) refl refl) more)

-- the texts of the names among them
abbrev pub names_in : List Lexeme → List (List ℕ)
names_in [] = []
names_in (name text n ∷ ls) = text ∷ names_in ls
names_in (_ ∷ ls) = names_in ls

-- lists of them, one after the other
pub spelled-append : (a b : List Lexeme) → spelled (a ++ b) ≡ spelled a ++ spelled b
spelled-append [] b = refl
spelled-append (l ∷ a) b = ap (λ t. spelling l ++ t) (spelled-append a b) ∙ sym (append_assoc (spelling l) (spelled a) (spelled b))

pub past-append : (at : ℕ) (a b : List Lexeme) → past at (a ++ b) ≡ past (past at a) b
past-append at [] b = refl
past-append at (l ∷ a) b = past-append (at + length (spelling l)) a b

pub tokens-append : (at : ℕ) (a b : List Lexeme) → tokens_at at (a ++ b) ≡ tokens_at at a ++ tokens_at (past at a) b
tokens-append at [] b = refl
tokens-append at (gap x ∷ a) b = tokens-append (at + 1) a b
tokens-append at (mark s ∷ a) b =
    let to = at + length (sign_text s) in ap (λ ts. spanned (token.Sign s) at to ∷ ts) (tokens-append to a b)
tokens-append at (word w ∷ a) b =
    let to = at + length (word_text w) in ap (λ ts. spanned (token.Word w) at to ∷ ts) (tokens-append to a b)
tokens-append at (name text n ∷ a) b = let to = at + length text in ap (λ ts. spanned (numbered n) at to ∷ ts) (tokens-append to a b)
tokens-append at (int text n ∷ a) b = let to = at + length text in ap (λ ts. spanned (token.Int n) at to ∷ ts) (tokens-append to a b)
tokens-append at (quote inside meant ∷ a) b =
    let to = at + length (34 ∷ inside ++ 34 ∷ []) in ap (λ ts. spanned (token.Text meant) at to ∷ ts) (tokens-append to a b)

pub names-append : (a b : List Lexeme) → names_in (a ++ b) ≡ names_in a ++ names_in b
names-append [] b = refl
names-append (name text n ∷ a) b = ap (λ ts. text ∷ ts) (names-append a b)
names-append (gap x ∷ a) b = names-append a b
names-append (mark s ∷ a) b = names-append a b
names-append (word w ∷ a) b = names-append a b
names-append (int text n ∷ a) b = names-append a b
names-append (quote inside meant ∷ a) b = names-append a b

AreLexemes-append : (names : List (List ℕ)) (a b : List Lexeme) → AreLexemes names a → AreLexemes names b → AreLexemes names (a ++ b)
AreLexemes-append names [] b h k = k
AreLexemes-append names (name text n ∷ a) b h k = (h.0, AreLexemes-append names a b h.1 k)
AreLexemes-append names (int text n ∷ a) b h k = (h.0, AreLexemes-append names a b h.1 k)
AreLexemes-append names (quote inside meant ∷ a) b h k = (h.0, AreLexemes-append names a b h.1 k)
AreLexemes-append names (gap x ∷ a) b h k = AreLexemes-append names a b h k
AreLexemes-append names (mark s ∷ a) b h k = AreLexemes-append names a b h k
AreLexemes-append names (word w ∷ a) b h k = AreLexemes-append names a b h k

all_stop-append : (a b : List Lexeme) (rest : List ℕ) → all_stop a (spelled b ++ rest) ≡ true → all_stop b rest ≡ true → all_stop (a ++ b) rest ≡ true
all_stop-append [] b rest h k = k
all_stop-append (l ∷ a) b rest h k =
    let x = and_parts (stops l (spelled a ++ (spelled b ++ rest))) (all_stop a (spelled b ++ rest)) h in
    let same : spelled a ++ (spelled b ++ rest) ≡ spelled (a ++ b) ++ rest = sym (append_assoc (spelled a) (spelled b) rest)
    ∙ ap (λ t. t ++ rest) (sym (spelled-append a b)) in
    and_from (stops l (spelled (a ++ b) ++ rest)) (all_stop (a ++ b) rest) (ap (stops l) (sym same) ∙ x.0) (all_stop-append a b rest x.1 k)

pub Fit-append : (names : List (List ℕ)) (a b : List Lexeme) (rest : List ℕ) → ((more : List ℕ) → Fit names a more) → Fit names b rest →
    Fit names (a ++ b) rest
Fit-append names a b rest h k = record {
  are = AreLexemes-append names a b (h []).are k.are;
  stop = all_stop-append a b rest (h (spelled b ++ rest)).stop k.stop;
}

-- the names of a text of lexemes
piece : (text before bytes more : List ℕ) (at : ℕ) → text ≡ before ++ (bytes ++ more) → at ≡ length before →
    take (at + length bytes - at) (drop at text) ≡ bytes
piece text before bytes more at e h =
    let n : at + length bytes - at ≡ length bytes = omega arith in
    ap (λ m. take m (drop at text)) n ∙ ap (λ t. take (length bytes) (drop at t)) e
    ∙ ap (λ m. take (length bytes) (drop m (before ++ (bytes ++ more)))) h
    ∙ ap (take (length bytes)) (drop-append_seam before (bytes ++ more)) ∙ take-append_seam bytes more

-- a piece more stands before
grown : (text before bytes more rest : List ℕ) → text ≡ before ++ ((bytes ++ more) ++ rest) → text ≡ (before ++ bytes) ++ (more ++ rest)
grown text before bytes more rest e =
    e ∙ ap (λ t. before ++ t) (append_assoc bytes more rest) ∙ sym (append_assoc before bytes (more ++ rest))

further : (before bytes : List ℕ) (at : ℕ) → at ≡ length before → at + length bytes ≡ length (before ++ bytes)
further before bytes at h = omega (arith, length-append before bytes)

pub idents_are : (text before : List ℕ) (at : ℕ) (ls : List Lexeme) (rest : List ℕ) (ts : List Spanned) → text ≡ before ++ (spelled ls ++ rest) →
    at ≡ length before → idents text (tokens_at at ls ++ ts) ≡ names_in ls ++ idents text ts
idents_are text before at [] rest ts e h = refl
idents_are text before at (gap b ∷ ls) rest ts e h =
    let x = b ∷ [] in
    idents_are text (before ++ x) (at + 1) ls rest ts (grown text before x (spelled ls) rest e) (further before x at h)
idents_are text before at (mark s ∷ ls) rest ts e h =
    let x = sign_text s in
    idents_are text (before ++ x) (at + length x) ls rest ts (grown text before x (spelled ls) rest e) (further before x at h)
idents_are text before at (word w ∷ ls) rest ts e h =
    let x = word_text w in
    idents_are text (before ++ x) (at + length x) ls rest ts (grown text before x (spelled ls) rest e) (further before x at h)
idents_are text before at (name x n ∷ ls) rest ts e h =
    let more = idents_are text (before ++ x) (at + length x) ls rest ts (grown text before x (spelled ls) rest e) (further before x at h) in
    let first = piece text before x (spelled ls ++ rest) at (e ∙ ap (λ t. before ++ t) (append_assoc x (spelled ls) rest)) h in
    ap (λ t. t ∷ idents text (tokens_at (at + length x) ls ++ ts)) first ∙ ap (λ ts. x ∷ ts) more
idents_are text before at (int x n ∷ ls) rest ts e h =
    idents_are text (before ++ x) (at + length x) ls rest ts (grown text before x (spelled ls) rest e) (further before x at h)
idents_are text before at (quote inside meant ∷ ls) rest ts e h =
    let x = 34 ∷ inside ++ 34 ∷ [] in
    idents_are text (before ++ x) (at + length x) ls rest ts (grown text before x (spelled ls) rest e) (further before x at h)
