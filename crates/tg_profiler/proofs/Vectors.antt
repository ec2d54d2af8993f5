-- A vector that was written through its slice.
use Rattle.std.proofs.Common.{◌≡◌, ◌≤◌, ◌++◌, ℕ, List, length, take, arith, ap, ◌∙◌}
use Rattle.std.proofs.lemmas.List.{take-append-le}
use Rattle.std.proofs.Math.Seq.{take-length}

pub whole : {A : Type 0} (n : ℕ) (xs ys : List A) → n ≡ length xs → take n (xs ++ ys) ≡ xs
whole n xs ys size =
    let le : n ≤ length xs = omega (arith, size) in
    take-append-le n xs ys le ∙ ap (λ m. take m xs) size ∙ take-length xs
