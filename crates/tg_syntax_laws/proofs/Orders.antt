-- Lists of numbers that fall, and pairs of elements.
use Rattle.std.proofs.Common.{◌≡◌, ◌≢◌, ℕ, zero, suc, ◌<◌, ◌≤◌, List, [], ◌∷◌, length, arith}
use Rattle.std.specs.Prelude.{slice_index_or}
use Rattle.std.specs.List.{AllPairs}

-- each below the one before it, the first below this
abbrev pub Falls : (below : ℕ) → List ℕ → Type 0
Falls n [] = Unit {0}
Falls n (x ∷ xs) = (x < n) × Falls x xs

pub falls_below : (xs : List ℕ) (m n : ℕ) → m ≤ n → Falls m xs → Falls n xs
falls_below [] m n h f = tt
falls_below (x ∷ xs) m n h f = (omega arith, f.1)

below_at : (xs : List ℕ) (n j d : ℕ) → j < length xs → Falls n xs → slice_index_or xs j d < n
below_at [] n j d h f = absurd (omega arith)
below_at (x ∷ xs) n zero d h f = f.0
below_at (x ∷ xs) n (suc j) d h f =
    let k : slice_index_or xs j d < x = below_at xs x j d (omega arith) f.1 in
    let l : x < n = f.0 in
    omega arith

pub falling : (xs : List ℕ) (n : ℕ) → Falls n xs → AllPairs (λ a b. b < a) xs
falling [] n f i j d lt within = absurd (omega arith)
falling (x ∷ xs) n f i zero d lt within = absurd (omega arith)
falling (x ∷ xs) n f zero (suc j) d lt within = below_at xs x j d (omega arith) f.1
falling (x ∷ xs) n f (suc i) (suc j) d lt within = falling xs x f.1 i j d (omega arith) (omega arith)

pub apart : (xs : List ℕ) → AllPairs (λ a b. b < a) xs → AllPairs (λ a b. a ≢ b) xs
apart xs h i j d lt within e =
    let k : slice_index_or xs j d < slice_index_or xs i d = h i j d lt within in
    let l : slice_index_or xs i d ≡ slice_index_or xs j d = e in
    omega arith
