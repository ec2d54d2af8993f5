-- The names of generated programs, and that their lexemes are tokens by these names.
use Rattle.std.proofs.Common.{ℕ, zero, suc, ◌+◌, ◌≡◌, ◌≤◌, ◌<◌, ◌^◌, ◌⊎◌, inl, inr, List, [], ◌∷◌, ◌++◌, length, true, false, cond, Some, refl}
use Rattle.std.proofs.Common.{sym, ap}
use Rattle.std.proofs.Common.{subst, ◌∙◌, arith, drop}
use Rattle.std.specs.Prelude.{codes, slice_get, ◌||◌, ◌==◌}
use Rattle.std.specs.Fmt.{decimal, digits}
use Rattle.std.specs.Str.{bytes_eq}
use Rattle.std.specs.Str.Parse.{IsNumeral}
use Rattle.std.proofs.lemmas.Bool.{false_from_ne_true, or_from, or_right}
use Rattle.std.proofs.lemmas.Fmt.{decimal_is_IsNumeral, decimal_injective}
use Rattle.std.proofs.lemmas.List.{length-append}
use Rattle.std.proofs.lemmas.List.Folds.{list_any-append}
use Rattle.std.proofs.lemmas.List.Sums.{fold-append}
use Rattle.std.proofs.lemmas.Slice.Eq.{bytes_eq-Decides}
use Rattle.tg_base.specs.Interned.{is_among}
use Rattle.tg_syntax.specs.declared.tokens.Token.TheVariants as token
use Rattle.tg_syntax.specs.Spellings.{Spells, AllAre, is_name_byte, is_digit, is_letter, nothing, plain, escaped}
use Rattle.tg_syntax.specs.Spellings.{Escape}
use Rattle.tg_syntax.proofs.Longest.{begins}
use Rattle.tg_syntax.proofs.Numerals.{bytes_of_digits, digits_of_bytes, none_is_numeral}
use Rattle.tg_lexer.specs.Numbering.{with_name, all_named}
use Rattle.tg_lexer.proofs.Interning.{slice_get-more}
use Rattle.tg_program_generator_laws.proofs.Signs.{name_is, is_name, no_word, is_word, numbered_no_word}
use Rattle.tg_program_generator_laws.proofs.Strings.{zero_longest, newline_longest}
use Rattle.tg_program_generator_laws.proofs.Lexemes.{Lexeme, gap, mark, word, name, int, quote, numbered, IsQuote, AreLexemes, all_stop, Fit, Fit-append}
use Rattle.tg_program_generator_laws.proofs.Lexemes.{names_in, names-append}
use Rattle.tg_program_generator_laws.proofs.Lines.{function_text, place, head, first, later, last, line, lines, program}

-- the names of a program of so many functions, in the order in which they first come
abbrev pub fresh : ℕ → List (List ℕ)
fresh zero = function_text zero ∷ codes "a" ∷ []
fresh (suc zero) = function_text (suc zero) ∷ codes "b" ∷ codes "g" ∷ codes "c" ∷ []
fresh (suc (suc k)) = function_text (suc (suc k)) ∷ []

abbrev pub head_names : List (List ℕ)
head_names = codes "s" ∷ codes "d" ∷ codes "i" ∷ codes "int" ∷ codes "print" ∷ codes "chr" ∷ codes "ord" ∷ codes "p" ∷ []

abbrev pub names_of : ℕ → List (List ℕ)
names_of zero = head_names
names_of (suc n) = names_of n ++ fresh n

-- each keeps its number
pub at_most : (m n : ℕ) → m ≤ suc n → (m ≤ n) ⊎ (m ≡ suc n)
at_most zero n h = inl (omega arith)
at_most (suc m) zero h = inr (omega arith)
at_most (suc m) (suc n) h = by (at_most m n (omega arith))
  where
    by : (m ≤ n) ⊎ (m ≡ suc n) → (suc m ≤ suc n) ⊎ (suc m ≡ suc (suc n))
    by (inl l) = inl (omega arith)
    by (inr e) = inr (ap suc e)

pub kept : (m n j : ℕ) (text : List ℕ) → m ≤ n → slice_get (names_of m) j ≡ Some text → slice_get (names_of n) j ≡ Some text
kept m zero j text h e = let z : m ≡ zero = omega arith in subst (λ x. slice_get (names_of x) j ≡ Some text) z e
kept m (suc n) j text h e = by (λ l. kept m n j text l e) (at_most m n h)
  where
    by : (m ≤ n → slice_get (names_of n) j ≡ Some text) → (m ≤ n) ⊎ (m ≡ suc n) → slice_get (names_of (suc n)) j ≡ Some text
    by before (inl l) = slice_get-more (names_of n) (fresh n) j text (before l)
    by before (inr s) = subst (λ x. slice_get (names_of x) j ≡ Some text) s e

count_names : (k : ℕ) → length (names_of (suc (suc k))) ≡ 14 + k
count_names zero = refl
count_names (suc k) = omega (arith, count_names k, length-append (names_of (suc (suc k))) (fresh (suc (suc k))))

slice_get-end : (xs : List (List ℕ)) (x : List ℕ) → slice_get (xs ++ x ∷ []) (length xs) ≡ Some x
slice_get-end [] x = refl
slice_get-end (y ∷ xs) x = slice_get-end xs x

placed : (k : ℕ) → slice_get (names_of (suc k)) (place k) ≡ Some (function_text k)
placed zero = refl
placed (suc zero) = refl
placed (suc (suc k)) =
    ap (slice_get (names_of (suc (suc (suc k))))) (sym (count_names k)) ∙ slice_get-end (names_of (suc (suc k))) (function_text (suc (suc k)))

-- the names, strings and ints, as lexemes of a program of n functions
a_name : (m n j : ℕ) (text : List ℕ) → m ≤ n → is_name text ≡ true → is_word text ≡ false → slice_get (names_of m) j ≡ Some text →
    Spells (names_of n) text (numbered j)
a_name m n j text h is free e = (name_is text is, no_word text free, kept m n j text h e)

s_is : (n : ℕ) → 1 ≤ n → Spells (names_of n) (codes "s") (numbered 0)
s_is n h = a_name 1 n 0 (codes "s") h refl refl refl

d_is : (n : ℕ) → 1 ≤ n → Spells (names_of n) (codes "d") (numbered 1)
d_is n h = a_name 1 n 1 (codes "d") h refl refl refl

i_is : (n : ℕ) → 1 ≤ n → Spells (names_of n) (codes "i") (numbered 2)
i_is n h = a_name 1 n 2 (codes "i") h refl refl refl

int_is : (n : ℕ) → 1 ≤ n → Spells (names_of n) (codes "int") (numbered 3)
int_is n h = a_name 1 n 3 (codes "int") h refl refl refl

print_is : (n : ℕ) → 1 ≤ n → Spells (names_of n) (codes "print") (numbered 4)
print_is n h = a_name 1 n 4 (codes "print") h refl refl refl

chr_is : (n : ℕ) → 1 ≤ n → Spells (names_of n) (codes "chr") (numbered 5)
chr_is n h = a_name 1 n 5 (codes "chr") h refl refl refl

ord_is : (n : ℕ) → 1 ≤ n → Spells (names_of n) (codes "ord") (numbered 6)
ord_is n h = a_name 1 n 6 (codes "ord") h refl refl refl

p_is : (n : ℕ) → 1 ≤ n → Spells (names_of n) (codes "p") (numbered 7)
p_is n h = a_name 1 n 7 (codes "p") h refl refl refl

a_is : (n : ℕ) → 1 ≤ n → Spells (names_of n) (codes "a") (numbered 9)
a_is n h = a_name 1 n 9 (codes "a") h refl refl refl

b_is : (n : ℕ) → 2 ≤ n → Spells (names_of n) (codes "b") (numbered 11)
b_is n h = a_name 2 n 11 (codes "b") h refl refl refl

g_is : (n : ℕ) → 2 ≤ n → Spells (names_of n) (codes "g") (numbered 12)
g_is n h = a_name 2 n 12 (codes "g") h refl refl refl

c_is : (n : ℕ) → 2 ≤ n → Spells (names_of n) (codes "c") (numbered 13)
c_is n h = a_name 2 n 13 (codes "c") h refl refl refl

digit_name : (b : ℕ) → is_digit b ≡ true → is_name_byte b ≡ true
digit_name b h = or_right (is_letter b) (is_digit b || b == 95) (ap (λ x. x || b == 95) h)

digits_names : (bytes : List ℕ) → AllAre is_digit bytes → AllAre is_name_byte bytes
digits_names [] h = tt
digits_names (b ∷ bytes) h = (digit_name b h.0, digits_names bytes h.1)

first_digit : (bytes : List ℕ) → IsNumeral 10 bytes → begins is_digit bytes ≡ true
first_digit [] h = none_is_numeral h
first_digit (b ∷ bytes) h = (bytes_of_digits (b ∷ bytes) h.1).0

pub function_is : (k n : ℕ) → k < n → n ≤ 1000 → Spells (names_of n) (function_text k) (numbered (place k))
function_is k n h small =
    let d = (decimal_is_IsNumeral (suc k) (omega arith)).0 in (
      (refl, digits_names (decimal (suc k)) (bytes_of_digits (decimal (suc k)) d.1)),
      numbered_no_word (function_text k) (first_digit (decimal (suc k)) d),
      kept (suc k) n (place k) (function_text k) (omega arith) (placed k),
    )

number_is : (i n : ℕ) → i ≤ 1001 → Spells (names_of n) (decimal i) (token.Int i)
number_is i n h = let d = decimal_is_IsNumeral i (omega arith) in (d.0, sym d.1, omega arith)

int_0 : (n : ℕ) → Spells (names_of n) (codes "0") (token.Int 0)
int_0 n = ((omega arith, digits_of_bytes (codes "0") (refl, tt)), refl, omega arith)

int_9 : (n : ℕ) → Spells (names_of n) (codes "9") (token.Int 9)
int_9 n = ((omega arith, digits_of_bytes (codes "9") (refl, tt)), refl, omega arith)

int_10 : (n : ℕ) → Spells (names_of n) (codes "10") (token.Int 10)
int_10 n = ((omega arith, digits_of_bytes (codes "10") (refl, (refl, tt))), refl, omega arith)

zero_text_is : IsQuote (codes "0") (codes "0")
zero_text_is = record { quoted = plain 48 refl nothing; longest = zero_longest }

newline_text_is : IsQuote (codes "\\n") (10 ∷ [])
newline_text_is = record { quoted = escaped {escape = codes "n"} {bytes = []} Escape.newline nothing; longest = newline_longest }

-- the lines
infixr 10 ◌&◌
abbrev ◌&◌ : {P Q : Type 0} → P → Q → P × Q
◌&◌ p q = (p, q)

head_are : (n : ℕ) → 1 ≤ n → AreLexemes (names_of n) head
head_are n one =
    s_is n one & int_0 n & d_is n one & i_is n one & int_is n one & print_is n one & chr_is n one & i_is n one & ord_is n one & zero_text_is &
    p_is n one & i_is n one & int_is n one & i_is n one & int_9 n & p_is n one & i_is n one & int_10 n & d_is n one & i_is n one & i_is n one &
    int_10 n & int_10 n & d_is n one & i_is n one & tt

first_are : (n : ℕ) → 1 ≤ n → n ≤ 1000 → AreLexemes (names_of n) first
first_are n one small =
    let p : zero < n = omega arith in
    function_is zero n p small & a_is n one & int_is n one & int_is n one & a_is n one & tt

pub later_are : (k n : ℕ) → suc k < n → n ≤ 1000 → AreLexemes (names_of n) (later k)
later_are k n f small =
    let p : k < n = omega arith in
    let i : suc (suc k) ≤ 1001 = omega arith in
    let one : 1 ≤ n = omega arith in
    let two : 2 ≤ n = omega arith in
    function_is (suc k) n f small & a_is n one & int_is n one & int_is n one & b_is n two & a_is n one & number_is (suc (suc k)) n i & g_is n two &
    c_is n two & int_is n one & int_is n one & s_is n one & s_is n one & c_is n two & b_is n two & c_is n two & g_is n two & function_is k n p small &
    b_is n two & a_is n one & tt

last_are : (k n : ℕ) → k < n → n ≤ 1000 → AreLexemes (names_of n) (last k)
last_are k n p small =
    let one : 1 ≤ n = omega arith in
    p_is n one & function_is k n p small & int_0 n & print_is n one & newline_text_is & p_is n one & s_is n one & print_is n one &
    newline_text_is & tt

line_are : (k n : ℕ) → k < n → n ≤ 1000 → AreLexemes (names_of n) (line k)
line_are zero n h small = first_are n h small
line_are (suc k) n h small = later_are k n h small

line_stops : (k : ℕ) (rest : List ℕ) → all_stop (line k) rest ≡ true
line_stops zero rest = refl
line_stops (suc k) rest = refl

lines_fit : (m n : ℕ) → m ≤ n → n ≤ 1000 → (rest : List ℕ) → Fit (names_of n) (lines m) rest
lines_fit zero n h small rest = record { are = tt; stop = refl }
lines_fit (suc m) n h small rest =
    let line_fit : Fit (names_of n) (line m) rest = record { are = line_are m n h small; stop = line_stops m rest } in
    Fit-append (names_of n) (lines m) (line m) rest (λ more. lines_fit m n (omega arith) small more) line_fit

pub program_fit : (k : ℕ) → suc k ≤ 1000 → Fit (names_of (suc k)) (program k) []
program_fit k small =
    let n = suc k in
    let end : Fit (names_of n) (last k) [] = record { are = last_are k n (omega arith) small; stop = refl } in
    Fit-append (names_of n) head (lines n ++ last k) [] (λ more. record { are = head_are n (omega arith); stop = refl })
    (Fit-append (names_of n) (lines n) (last k) [] (λ more. lines_fit n n (omega arith) small more) end)

-- no name is added by one that is there
same_bytes : (text : List ℕ) → bytes_eq text text ≡ true
same_bytes text = (bytes_eq-Decides text text).1 refl

among : (names : List (List ℕ)) (j : ℕ) (text : List ℕ) → slice_get names j ≡ Some text → is_among text names ≡ true
among [] j text e = cc
among (x ∷ names) zero text e = let same : x ≡ text = cc in
    ap (λ t. bytes_eq text t || is_among text names) same ∙ ap (λ b. b || is_among text names) (same_bytes text)
among (x ∷ names) (suc j) text e = or_right (bytes_eq text x) (is_among text names) (among names j text e)

there : (names : List (List ℕ)) (text : List ℕ) → is_among text names ≡ true → with_name names text ≡ names
there names text h = ap (λ b. cond b names (names ++ text ∷ [])) h

pub no_more : (names : List (List ℕ)) (ls : List Lexeme) → AreLexemes names ls → all_named names (names_in ls) ≡ names
no_more names [] h = refl
no_more names (name text n ∷ ls) h =
    ap (λ x. all_named x (names_in ls)) (there names text (among names n text h.0.2)) ∙ no_more names ls h.1
no_more names (gap b ∷ ls) h = no_more names ls h
no_more names (mark s ∷ ls) h = no_more names ls h
no_more names (word w ∷ ls) h = no_more names ls h
no_more names (int text n ∷ ls) h = no_more names ls h.1
no_more names (quote inside meant ∷ ls) h = no_more names ls h.1

-- a function's name is new
digits_differ : (i j : ℕ) → i < 2 ^ 64 → j < i → bytes_eq (decimal i) (decimal j) ≡ false
digits_differ i j small h =
    false_from_ne_true (bytes_eq (decimal i) (decimal j)) (λ e.
    let same : i ≡ j = decimal_injective i j small (omega arith) ((bytes_eq-Decides (decimal i) (decimal j)).0 e) in omega arith)

unlike_fresh : (i m : ℕ) → i < 2 ^ 64 → suc m < i → is_among (102 ∷ decimal i) (fresh m) ≡ false
unlike_fresh i zero small h = ap (λ b. b || false) (digits_differ i 1 small h)
unlike_fresh i (suc zero) small h = ap (λ b. b || false) (digits_differ i 2 small h)
unlike_fresh i (suc (suc m)) small h = ap (λ b. b || false) (digits_differ i (suc (suc (suc m))) small h)

unlike : (i m : ℕ) → i < 2 ^ 64 → m < i → is_among (102 ∷ decimal i) (names_of m) ≡ false
unlike i zero small h = refl
unlike i (suc m) small h =
    list_any-append (bytes_eq (102 ∷ decimal i)) (names_of m) (fresh m)
    ∙ or_from (is_among (102 ∷ decimal i) (names_of m)) (is_among (102 ∷ decimal i) (fresh m)) (unlike i m small (omega arith))
    (unlike_fresh i m small h)

new : (names : List (List ℕ)) (text : List ℕ) → is_among text names ≡ false → with_name names text ≡ names ++ text ∷ []
new names text h = ap (λ b. cond b names (names ++ text ∷ [])) h

-- the names of the lines
head_named : all_named [] (names_in head) ≡ names_of zero
head_named = refl

later_named : (k : ℕ) → suc (suc (suc k)) ≤ 1000 → all_named (names_of (suc (suc k))) (names_in (later (suc k))) ≡ names_of (suc (suc (suc k)))
later_named k small =
    let n = suc (suc (suc k)) in
    let behind = drop 3 (later (suc k)) in
    ap (λ x. all_named x (names_in behind)) (new (names_of (suc (suc k))) (function_text (suc (suc k))) (unlike n (suc (suc k)) (omega arith) (omega arith)))
    ∙ no_more (names_of n) behind (later_are (suc k) n (omega arith) small).1

line_named : (n : ℕ) → suc n ≤ 1000 → all_named (names_of n) (names_in (line n)) ≡ names_of (suc n)
unfolding digits
line_named zero small = refl
line_named (suc zero) small = refl
line_named (suc (suc k)) small = later_named k small

lines_named : (n : ℕ) → n ≤ 1000 → all_named (names_of zero) (names_in (lines n)) ≡ names_of n
lines_named zero small = refl
lines_named (suc n) small =
    ap (all_named (names_of zero)) (names-append (lines n) (line n)) ∙ fold-append with_name (names_of zero) (names_in (lines n)) (names_in (line n))
    ∙ ap (λ x. all_named x (names_in (line n))) (lines_named n (omega arith)) ∙ line_named n small

pub program_named : (k : ℕ) → suc k ≤ 1000 → all_named [] (names_in (program k)) ≡ names_of (suc k)
program_named k small =
    let n = suc k in
    ap (all_named []) (names-append head (lines n ++ last k))
    ∙ fold-append with_name [] (names_in head) (names_in (lines n ++ last k))
    ∙ ap (λ x. all_named x (names_in (lines n ++ last k))) head_named
    ∙ ap (all_named (names_of zero)) (names-append (lines n) (last k))
    ∙ fold-append with_name (names_of zero) (names_in (lines n)) (names_in (last k))
    ∙ ap (λ x. all_named x (names_in (last k))) (lines_named n small)
    ∙ no_more (names_of n) (last k) (last_are k n (omega arith) small)
