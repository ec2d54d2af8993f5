-- How many edits lie between two texts (Levenshtein 1965).
use Rattle.std.specs.Prelude.{ℕ, suc, ◌≤◌, List, [], ◌∷◌}

-- so many edits turn one text into the other: a byte is left out, put in or replaced
pub data Edits : ℕ → List ℕ → List ℕ → Type 0 where
  done : Edits 0 [] []
  kept : {n : ℕ} {one other : List ℕ} (b : ℕ) → Edits n one other → Edits n (b ∷ one) (b ∷ other)
  left_out :
      {n : ℕ} {one other : List ℕ} (b : ℕ) → Edits n one other → Edits (suc n) (b ∷ one) other
  put_in : {n : ℕ} {one other : List ℕ} (b : ℕ) → Edits n one other → Edits (suc n) one (b ∷ other)
  replaced :
      {n : ℕ} {one other : List ℕ} (a b : ℕ) → Edits n one other →
      Edits (suc n) (a ∷ one) (b ∷ other)

-- so many at most
pub record AreWithin (most : ℕ) (one other : List ℕ) : Type 0 where
  pub count : ℕ
  pub few : count ≤ most
  pub edits : Edits count one other
