-- The line and the column after one byte more.
use Rattle.std.proofs.Common.{◌≡◌, ◌≢◌, ◌≤◌, ◌<◌, ◌+◌, ◌-◌, ℕ, List, length, take, arith, get_or, Bool, true, false, ap, ◌∙◌}
use Rattle.std.proofs.lemmas.Grind.{common_steps}
use Rattle.std.proofs.lemmas.List.{length-take-le}
use Rattle.std.proofs.lemmas.List.Sums.{count_by-le-length, suffix_len-le-length, count_by_more_no, count_by_more_yes, suffix_len-take_no, suffix_len-take_yes}
use Rattle.std.specs.Prelude.{count_by, not}
use Rattle.std.specs.List.{suffix_len}
use Rattle.tg_base.specs.Lines.{is_line_end}

abbrev stays : ℕ → Bool
stays b = not (is_line_end b)

is_end : (b : ℕ) → b ≡ 10 → is_line_end b ≡ true
is_end b e = grind (arith, common_steps)

is_no_end : (b : ℕ) → (b ≢ 10) → is_line_end b ≡ false
is_no_end b e = grind (arith, common_steps)

pub line_fits : (xs : List ℕ) (i : ℕ) → i ≤ length xs → count_by is_line_end (take i xs) ≤ i
line_fits xs i le = omega (arith, count_by-le-length is_line_end (take i xs), length-take-le i xs le)

pub column_fits : (xs : List ℕ) (i : ℕ) → i ≤ length xs → suffix_len stays (take i xs) ≤ i
column_fits xs i le = omega (arith, suffix_len-le-length stays (take i xs), length-take-le i xs le)

pub line_more_yes : (xs : List ℕ) (i : ℕ) → i < length xs → get_or xs i 0 ≡ 10 → count_by is_line_end (take (i + 1) xs) ≡ count_by is_line_end (take i xs) + 1
line_more_yes xs i lt e = count_by_more_yes is_line_end xs i 0 lt (is_end _ e)

pub line_more_no : (xs : List ℕ) (i : ℕ) → i < length xs → (get_or xs i 0 ≢ 10) → count_by is_line_end (take (i + 1) xs) ≡ count_by is_line_end (take i xs)
line_more_no xs i lt e = count_by_more_no is_line_end xs i 0 lt (is_no_end _ e)

one_back : (i : ℕ) → i + 1 - 1 ≡ i
one_back i = omega arith

pub column_more_yes : (xs : List ℕ) (i : ℕ) → i < length xs → get_or xs i 0 ≡ 10 → suffix_len stays (take (i + 1) xs) ≡ 0
column_more_yes xs i lt e =
    suffix_len-take_no stays xs (i + 1) 0 (omega arith) (omega arith) (rw (one_back i) (ap not (is_end _ e)))

pub column_more_no : (xs : List ℕ) (i : ℕ) → i < length xs → (get_or xs i 0 ≢ 10) → suffix_len stays (take (i + 1) xs) ≡ suffix_len stays (take i xs) + 1
column_more_no xs i lt e =
    suffix_len-take_yes stays xs (i + 1) 0 (omega arith) (omega arith) (rw (one_back i) (ap not (is_no_end _ e))) ∙ rw (one_back i) (omega arith)
