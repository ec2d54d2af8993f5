-- Sums of lists in which numbers are moved.
use Rattle.std.proofs.Common.{◌≡◌, ℕ, ◌+◌, ◌<◌, ◌≤◌, List, length, get_or, set, refl, arith}
use Rattle.std.specs.Prelude.{sum, sum_by}
use Rattle.std.proofs.lemmas.List.{length-set}
use Rattle.std.proofs.lemmas.List.Sums.{sum_by-set, get_or-le-sum_by}

sum_is : (xs : List ℕ) → sum_by (λ x. x) xs ≡ sum xs
sum_is xs = refl

-- a number and another, which is taken as 0 first, are within the sum
pub both_within : (xs : List ℕ) (i j : ℕ) → i < length xs → j < length xs →
    get_or (set xs j 0) i 0 + get_or xs j 0 ≤ sum xs
both_within xs i j l k =
    let zeroed : sum_by (λ x. x) (set xs j 0) + get_or xs j 0 ≡ sum_by (λ x. x) xs + 0 =
    sum_by-set (λ x. x) xs j 0 0 k in
    let within : get_or (set xs j 0) i 0 ≤ sum_by (λ x. x) (set xs j 0) =
    get_or-le-sum_by (λ x. x) (set xs j 0) i 0 (omega (arith, length-set xs j 0, l)) in
    omega (arith, zeroed, within, sum_is xs)
