-- One level more at the end of an indentation.
use Rattle.std.proofs.Common.{ℕ, zero, suc, ◌+◌, ◌≡◌, List, [], ◌∷◌, ◌++◌, refl, ap, add-one, append_assoc}
use Rattle.tg_show.specs.Layout.{blanks}

blanks_suc : (d : ℕ) → blanks d ++ 32 ∷ 32 ∷ [] ≡ blanks (suc d)
blanks_suc zero = refl
blanks_suc (suc d) = ap (λ t. 32 ∷ 32 ∷ t) (blanks_suc d)

pub blanks_more : (t : List ℕ) (d : ℕ) → (t ++ blanks d) ++ 32 ∷ 32 ∷ [] ≡ t ++ blanks (d + 1)
blanks_more t d = rw (append_assoc, add-one) (ap (λ b. t ++ b) (blanks_suc d))
