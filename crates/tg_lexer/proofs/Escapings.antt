-- Escapes: one prefix of a text alone is one, and means one thing.
use Rattle.std.proofs.Common.{ℕ, ◌≡◌, ◌⊎◌, inl, inr, ◌%◌, List, [], ◌∷◌, ◌++◌, Bool, true, false, cond, refl, sym, ap, subst, ◌∙◌, arith}
use Rattle.std.proofs.Common.{append_assoc, append-nil}
use Rattle.std.specs.Prelude.{◌==◌, IsTrue}
use Rattle.std.proofs.lemmas.Bool.Decides.{nat_tests}
use Rattle.std.proofs.lemmas.List.{append_cancel_right}
use Rattle.std.specs.Str.Parse.{digits_value}
use Rattle.tg_syntax.proofs.Numerals.{is_digit_from}
use Rattle.tg_syntax.specs.Spellings.{Escape, newline, tab, quote, backslash, control, decimal, blanks, AllAre, is_digit, is_white_space}
use Rattle.tg_syntax.specs.LexicalFaults.{IsBegun, Misfits}
use Rattle.tg_lexer.proofs.Basics.{head_is, tail_is, not_cons, clash, GoesOn, two_fronts}

-- what follows an escape, and what the escape means
abbrev rest_of_control : List ℕ → List ℕ × List ℕ
rest_of_control [] = ([], [])
rest_of_control (b ∷ text) = (text, b % 32 ∷ [])

abbrev rest_of_decimal : ℕ → List ℕ → List ℕ × List ℕ
rest_of_decimal a (b ∷ c ∷ text) = (text, digits_value 10 (a ∷ b ∷ c ∷ []) ∷ [])
rest_of_decimal a _ = ([], [])

abbrev rest_of_blanks : List ℕ → List ℕ × List ℕ
rest_of_blanks [] = ([], [])
rest_of_blanks (b ∷ text) = cond (b == 92) (text, []) (rest_of_blanks text)

abbrev rest_of : List ℕ → List ℕ × List ℕ
rest_of [] = ([], [])
rest_of (b ∷ text) = cond (b == 110) (text, 10 ∷ [])
    (cond (b == 116) (text, 9 ∷ [])
    (cond (b == 34) (text, 34 ∷ [])
    (cond (b == 92) (text, 92 ∷ []) (cond (b == 94) (rest_of_control text) (cond (is_digit b) (rest_of_decimal b text) (rest_of_blanks text))))))

record Plain (b : ℕ) : Type 0 where
  n : (b == 110) ≡ false
  t : (b == 116) ≡ false
  q : (b == 34) ≡ false
  s : (b == 92) ≡ false
  c : (b == 94) ≡ false

digit_plain : (b : ℕ) → is_digit b ≡ true → Plain b
digit_plain b h = record {
  n = grind (arith, nat_tests);
  t = grind (arith, nat_tests);
  q = grind (arith, nat_tests);
  s = grind (arith, nat_tests);
  c = grind (arith, nat_tests);
}

blank_plain : (b : ℕ) → is_white_space b ≡ true → Plain b
blank_plain b h = record {
  n = grind (arith, nat_tests);
  t = grind (arith, nat_tests);
  q = grind (arith, nat_tests);
  s = grind (arith, nat_tests);
  c = grind (arith, nat_tests);
}

blank_digit : (b : ℕ) → is_white_space b ≡ true → is_digit b ≡ false
blank_digit b h = grind (arith, nat_tests)

rest_of-blanks : (more rest : List ℕ) → AllAre is_white_space more → rest_of_blanks (more ++ 92 ∷ rest) ≡ (rest, [])
rest_of-blanks [] rest a = refl
rest_of-blanks (b ∷ more) rest a = ap (λ x. cond x (more ++ 92 ∷ rest, []) (rest_of_blanks (more ++ 92 ∷ rest))) (blank_plain b a.0).s
    ∙ rest_of-blanks more rest a.1

abbrev choose : Bool → Bool → Bool → Bool → Bool → Bool → ℕ → List ℕ → List ℕ × List ℕ
choose n t q s c d b text = cond n (text, 10 ∷ [])
    (cond t (text, 9 ∷ [])
    (cond q (text, 34 ∷ []) (cond s (text, 92 ∷ []) (cond c (rest_of_control text) (cond d (rest_of_decimal b text) (rest_of_blanks text))))))

chosen : (n t q s c d d' : Bool) (b : ℕ) (text : List ℕ) → n ≡ false → t ≡ false → q ≡ false → s ≡ false → c ≡ false →
    d ≡ d' → choose n t q s c d b text ≡ cond d' (rest_of_decimal b text) (rest_of_blanks text)
chosen n t q s c d d' b text en et eq es ec ed = simp (en, et, eq, es, ec, ed)

plain_rest : (b : ℕ) (text : List ℕ) (d : Bool) → Plain b → is_digit b ≡ d → rest_of (b ∷ text) ≡ cond d (rest_of_decimal b text) (rest_of_blanks text)
plain_rest b text d p e = chosen (b == 110) (b == 116) (b == 34) (b == 92) (b == 94) (is_digit b) d b text p.n p.t p.q p.s p.c e

pub rest_of-escape : {escape meant : List ℕ} → Escape escape meant → (rest : List ℕ) → rest_of (escape ++ rest) ≡ (rest, meant)
rest_of-escape newline rest = refl
rest_of-escape tab rest = refl
rest_of-escape quote rest = refl
rest_of-escape backslash rest = refl
rest_of-escape (control b h) rest = refl
rest_of-escape (decimal a b c h le) rest = let d = is_digit_from a h.0 in plain_rest a (b ∷ c ∷ rest) true (digit_plain a d) d
rest_of-escape (blanks b more h) rest =
    ap (λ l. rest_of (b ∷ l)) (append_assoc more (92 ∷ []) rest) ∙ plain_rest b (more ++ 92 ∷ rest) false (blank_plain b h.0) (blank_digit b h.0)
    ∙ rest_of-blanks more rest h.1

pub record SameEscape (escape other meant meaning rest after : List ℕ) : Type 0 where
  pub escape_is : escape ≡ other
  pub meant_is : meant ≡ meaning
  pub rest_is : rest ≡ after

pub escape_once : {escape meant other meaning : List ℕ} → Escape escape meant → Escape other meaning → (rest after : List ℕ) →
    escape ++ rest ≡ other ++ after → SameEscape escape other meant meaning rest after
escape_once {escape = escape} {meant = meant} {other = other} {meaning = meaning} h k rest after e =
    let p = sym (rest_of-escape h rest) ∙ ap rest_of e ∙ rest_of-escape k after in
    let r : rest ≡ after = ap (λ x. x.0) p in
    record {
      escape_is = append_cancel_right escape other after (ap (λ l. escape ++ l) (sym r) ∙ e);
      meant_is = ap (λ x. x.1) p;
      rest_is = r;
    }

-- what was begun holds no escape
abbrev null : List ℕ → Bool
null [] = true
null (b ∷ bytes) = false

abbrev is_short : List ℕ → Bool
is_short (a ∷ b ∷ bytes) = false
is_short _ = true

abbrev has_no_backslash : List ℕ → Bool
has_no_backslash [] = true
has_no_backslash (b ∷ bytes) = cond (b == 92) false (has_no_backslash bytes)

abbrev goes_on : List ℕ → Bool
goes_on [] = true
goes_on (b ∷ bytes) = cond (b == 94) (null bytes) (cond (is_digit b) (is_short bytes) (cond (is_white_space b) (has_no_backslash bytes) false))

abbrev going : Bool → Bool → Bool → List ℕ → Bool
going c d b bytes = cond c (null bytes) (cond d (is_short bytes) (cond b (has_no_backslash bytes) false))

going_is : (c d b c' d' b' : Bool) (bytes : List ℕ) → c ≡ c' → d ≡ d' → b ≡ b' → going c d b bytes ≡ going c' d' b' bytes
going_is c d b c' d' b' bytes e f g = simp (e, f, g)

blanks_none : (more : List ℕ) → AllAre is_white_space more → has_no_backslash more ≡ true
blanks_none [] a = refl
blanks_none (b ∷ more) a = ap (λ x. cond x false (has_no_backslash more)) (blank_plain b a.0).s ∙ blanks_none more a.1

blanks_end : (more rest : List ℕ) → AllAre is_white_space more → has_no_backslash ((more ++ 92 ∷ []) ++ rest) ≡ false
blanks_end [] rest a = refl
blanks_end (b ∷ more) rest a = ap (λ x. cond x false (has_no_backslash ((more ++ 92 ∷ []) ++ rest))) (blank_plain b a.0).s ∙ blanks_end more rest a.1

begun_goes_on : {begun : List ℕ} → IsBegun begun → goes_on begun ≡ true
begun_goes_on IsBegun.backslash = refl
begun_goes_on IsBegun.caret = refl
begun_goes_on (IsBegun.digit a h) = going_is (a == 94) (is_digit a) (is_white_space a) false true (is_white_space a) [] (digit_plain a h).c h refl
begun_goes_on (IsBegun.digits a b h k) = going_is (a == 94) (is_digit a) (is_white_space a) false true (is_white_space a) (b ∷ []) (digit_plain a h).c h refl
begun_goes_on (IsBegun.blanks b more h) = going_is (b == 94) (is_digit b) (is_white_space b) false false true more
    (blank_plain b h.0).c (blank_digit b h.0) h.0 ∙ blanks_none more h.1

escape_ends : {escape meant : List ℕ} → Escape escape meant → (rest : List ℕ) → goes_on (escape ++ rest) ≡ false
escape_ends newline rest = refl
escape_ends tab rest = refl
escape_ends quote rest = refl
escape_ends backslash rest = refl
escape_ends (control b h) rest = refl
escape_ends (decimal a b c h le) rest =
    let d = is_digit_from a h.0 in
    going_is (a == 94) (is_digit a) (is_white_space a) false true (is_white_space a) (b ∷ c ∷ rest) (digit_plain a d).c d refl
escape_ends (blanks b more h) rest = going_is (b == 94) (is_digit b) (is_white_space b) false false true ((more ++ 92 ∷ []) ++ rest)
    (blank_plain b h.0).c (blank_digit b h.0) h.0 ∙ blanks_end more rest h.1

pub begun_no_escape : {begun escape meant : List ℕ} → IsBegun begun → Escape escape meant → (rest : List ℕ) → begun ≡ escape ++ rest → ⊥
begun_no_escape b h rest e = clash (escape_ends h rest) (sym (ap goes_on e) ∙ begun_goes_on b)

-- a prefix of an escape was begun
blanks_front : (b : ℕ) (more p : List ℕ) (d : ℕ) (q : List ℕ) → AllAre is_white_space (b ∷ more) → more ++ 92 ∷ [] ≡ p ++ d ∷ q → IsBegun (b ∷ p)
blanks_front b more p d q h e = IsBegun.blanks b p (h.0, front more p h.1 e)
  where
    front : (more p : List ℕ) → AllAre is_white_space more → more ++ 92 ∷ [] ≡ p ++ d ∷ q → AllAre is_white_space p
    front more [] a e = tt
    front [] (x ∷ p) a e = absurd (none p (tail_is e))
      where
        none : (p : List ℕ) → [] ≡ p ++ d ∷ q → ⊥
        none [] e = not_cons e
        none (x ∷ p) e = not_cons e
    front (y ∷ more) (x ∷ p) a e = (subst (λ z. IsTrue (is_white_space z)) (head_is e) a.0, front more p a.1 (tail_is e))

none : (p : List ℕ) (d : ℕ) (q : List ℕ) → [] ≡ p ++ d ∷ q → ⊥
none [] d q e = not_cons e
none (x ∷ p) d q e = not_cons e

two_same : {a b x y : ℕ} {xs ys : List ℕ} → a ∷ b ∷ xs ≡ x ∷ y ∷ ys → a ∷ b ∷ [] ≡ x ∷ y ∷ []
two_same e = cc

one_front : (a : ℕ) (p : List ℕ) (d : ℕ) (q : List ℕ) → a ∷ [] ≡ p ++ d ∷ q → IsBegun p
one_front a [] d q e = IsBegun.backslash
one_front a (x ∷ p) d q e = absurd (none p d q (tail_is e))

pub front_begun : {escape meant : List ℕ} → Escape escape meant → (p : List ℕ) (d : ℕ) (q : List ℕ) → escape ≡ p ++ d ∷ q → IsBegun p
front_begun newline p d q e = one_front 110 p d q e
front_begun tab p d q e = one_front 116 p d q e
front_begun quote p d q e = one_front 34 p d q e
front_begun backslash p d q e = one_front 92 p d q e
front_begun (control b h) [] d q e = IsBegun.backslash
front_begun (control b h) (x ∷ []) d q e = let same : 94 ≡ x = head_is e in subst (λ z. IsBegun (z ∷ [])) same IsBegun.caret
front_begun (control b h) (x ∷ y ∷ p) d q e = absurd (none p d q (tail_is (tail_is e)))
front_begun (decimal a b c h le) [] d q e = IsBegun.backslash
front_begun (decimal a b c h le) (x ∷ []) d q e = let same : a ≡ x = head_is e in subst (λ z. IsBegun (z ∷ [])) same (IsBegun.digit a (is_digit_from a h.0))
front_begun (decimal a b c h le) (x ∷ y ∷ []) d q e = let same : a ∷ b ∷ [] ≡ x ∷ y ∷ [] = two_same e in subst IsBegun
    same (IsBegun.digits a b (is_digit_from a h.0) (is_digit_from b h.1.0))
front_begun (decimal a b c h le) (x ∷ y ∷ z ∷ p) d q e = absurd (none p d q (tail_is (tail_is (tail_is e))))
front_begun (blanks b more h) [] d q e = IsBegun.backslash
front_begun (blanks b more h) (x ∷ p) d q e = subst (λ z. IsBegun (z ∷ p)) (head_is e) (blanks_front b more p d q h (tail_is e))

-- a byte that doesn't fit leaves no escape
pub misfit_no_escape : {begun escape meant : List ℕ} (b : ℕ) → Misfits begun b → Escape escape meant → (rest after : List ℕ) →
    begun ++ b ∷ rest ≡ escape ++ after → ⊥
misfit_no_escape {begun = begun} {escape = escape} {meant = meant} b m h rest after e = by (two_fronts begun (b ∷ rest) escape after e)
  where
    longer : (more : List ℕ) → escape ≡ begun ++ more → b ∷ rest ≡ more ++ after → ⊥
    longer [] e f = begun_no_escape m.is_begun h [] (sym (append-nil begun) ∙ sym e ∙ sym (append-nil escape))
    longer (c ∷ []) e f = let same : c ≡ b = sym (head_is f) in m.ends meant (subst (λ l. Escape l meant) (e ∙ ap (λ z. begun ++ z ∷ []) same) h)
    longer (c ∷ d ∷ more) e f =
        let same : c ≡ b = sym (head_is f) in
        m.goes_on (subst (λ z. IsBegun (begun ++ z ∷ [])) same (front_begun h (begun ++ c ∷ []) d more (e ∙ sym (append_assoc begun (c ∷ []) (d ∷ more)))))

    by : GoesOn begun escape (b ∷ rest) after ⊎ GoesOn escape begun after (b ∷ rest) → ⊥
    by (inl g) = longer g.more g.long_is g.rest_is
    by (inr g) = begun_no_escape m.is_begun h g.more g.long_is
