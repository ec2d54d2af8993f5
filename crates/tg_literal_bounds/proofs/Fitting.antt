-- What the strings of a text take of it.
use Rattle.std.proofs.Common.{ℕ, ◌+◌, ◌*◌, ◌≡◌, ◌≤◌, List, [], ◌∷◌, length, arith}
use Rattle.std.specs.List.{sum_by}
use Rattle.std.proofs.Math.Nat.{mul-zero, mul-suc}
use Rattle.std.proofs.lemmas.List.Sums.{sum_by-cons}
use Rattle.tg_translate_laws.specs.Strings.{strings}
use Rattle.tg_literal_bounds.specs.TokenStrings.{spaced_length}
use Rattle.tg_literal_bounds.specs.laws.Laws.{StringsFitText, StringsAreShort}
use Rattle.tg_literal_bounds.proofs.Reading.{program_has}
use Rattle.tg_literal_bounds.proofs.Spelling.{tokens_fit}

pub strings_fit : StringsFitText
strings_fit names text body t =
    let h = tokens_fit t.lexed in
    let p = program_has t.parsed in
    omega (arith, h, p.fit)

-- what is added to each length
pub each_more : (k : ℕ) (xs : List (List ℕ)) → sum_by (λ bytes. k + length bytes) xs ≡ k * length xs + sum_by length xs
each_more k [] = omega (arith, mul-zero k)
each_more k (x ∷ xs) =
    let h = each_more k xs in
    omega (arith, h, sum_by-cons (λ bytes. k + length bytes) x xs, sum_by-cons length x xs, mul-suc k (length xs))

short : (xs : List (List ℕ)) (n : ℕ) → sum_by spaced_length xs ≤ n + 1 → sum_by length xs ≤ n
short [] n h = omega arith
short (x ∷ xs) n h = let e = each_more 3 (x ∷ xs) in omega (arith, h, e)

pub strings_are_short : StringsAreShort
strings_are_short names text body t = short (strings body) (length text) (strings_fit names text body t)
