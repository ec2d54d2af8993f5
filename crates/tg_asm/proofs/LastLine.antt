-- The last line is counted by newlines with a byte after them.
use Rattle.std.proofs.Common.{◌≡◌, ◌+◌, ◌==◌, ℕ, Bool, true, false, cond, List, [], ◌∷◌, ◌++◌, count_by, refl, sym, ap, ◌∙◌, arith}
use Rattle.std.proofs.lemmas.List.Sums.{sum_by-cons}
use Rattle.tg_asm_text.specs.Assembly.{last_line_number, count_line}

abbrev is_newline : ℕ → Bool
is_newline c = c == 10

counted : (c : ℕ) (text : List ℕ) (x n : ℕ) → count_line c (text ++ x ∷ []) n ≡ cond (c == 10) 1 0 + n
counted c [] x n = by (c == 10)
  where
    by : (b : Bool) → cond b (n + 1) n ≡ cond b 1 0 + n
    by true = omega arith
    by false = omega arith
counted c (d ∷ text) x n = by (c == 10)
  where
    by : (b : Bool) → cond b (n + 1) n ≡ cond b 1 0 + n
    by true = omega arith
    by false = omega arith

lines_counted : (front : List ℕ) (x : ℕ) → last_line_number (front ++ x ∷ []) ≡ count_by is_newline front + 1
lines_counted [] x = refl
lines_counted (c ∷ front) x =
    let e = lines_counted front x in
    let k = counted c front x (last_line_number (front ++ x ∷ [])) in
    let s = sum_by-cons (λ b. cond (is_newline b) 1 0) c front in
    k ∙ omega (arith, e, s)

pub last_counted : (text front : List ℕ) (x n : ℕ) → text ≡ front ++ x ∷ [] → n ≡ count_by is_newline front → n + 1 ≡ last_line_number text
last_counted text front x n e k = ap (λ j. j + 1) k ∙ sym (ap last_line_number e ∙ lines_counted front x)

pub no_line : (text : List ℕ) → text ≡ [] → 1 ≡ last_line_number text
no_line text e = rw e refl
