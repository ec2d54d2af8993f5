-- A name at a place of a list of names.
use Rattle.std.proofs.Common.{ℕ, zero, suc, ◌<◌, ◌≤◌, ◌≡◌, List, [], ◌∷◌, ◌++◌, length, refl, ap, arith}
use Rattle.std.proofs.Math.ListN.{set}
use Rattle.tg_show.specs.Names.{name_at}

pub name_behind : (place : ℕ) (name : List ℕ) (names : List (List ℕ)) → length names ≤ place →
    name_at place name (names ++ [] ∷ []) ≡ name_at place name names
name_behind zero name [] h = refl
name_behind zero name (x ∷ names) h = absurd (omega arith)
name_behind (suc place) name [] h = refl
name_behind (suc place) name (x ∷ names) h = ap (λ r. x ∷ r) (name_behind place name names (omega arith))

pub name_within : (place : ℕ) (name : List ℕ) (names : List (List ℕ)) → place < length names →
    name_at place name names ≡ set names place name
name_within zero name [] h = absurd (omega arith)
name_within zero name (x ∷ names) h = refl
name_within (suc place) name [] h = absurd (omega arith)
name_within (suc place) name (x ∷ names) h = ap (λ r. x ∷ r) (name_within place name names (omega arith))
