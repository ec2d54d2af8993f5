-- Counts up to a limit.
use Rattle.std.proofs.Common.{◌≡◌, ℕ, ◌+◌, ◌<◌, ◌≤◌, min, Bool, true, cond, List, length, get_or, take, sym, arith}
use Rattle.std.specs.Prelude.{count_by}
use Rattle.std.proofs.Math.Nat.{min-eq_right}
use Rattle.std.proofs.lemmas.List.Sums.{count_by_more_yes, sum_by-take-le}

-- one more that is counted reaches the limit
pub reached : (p : ℕ → Bool) (xs : List ℕ) (i count limit : ℕ) → i < length xs → p (get_or xs i 0) ≡ true →
    count ≡ count_by p (take i xs) → count + 1 ≡ limit → limit ≡ min (count_by p xs) limit
reached p xs i count limit l h c r =
    let more = count_by_more_yes p xs i 0 l h in
    let part : count_by p (take (i + 1) xs) ≤ count_by p xs = sum_by-take-le (λ y. cond (p y) 1 0) xs (i + 1) in
    sym (min-eq_right (omega (arith, more, part, c, r)))
