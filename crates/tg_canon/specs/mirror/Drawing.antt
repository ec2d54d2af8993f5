-- Temporaries are drawn one after another: the next number goes from each step to the one after it.
use Rattle.std.specs.Prelude.{ℕ, ◌≡◌, ◌+◌}

pub record Drawn (A : Type 0) : Type 0 where
  pub it : A
  pub next : ℕ

abbrev pub Draws : Type 0 → Type 0
Draws A = ℕ → Drawn A

abbrev pub give : {A : Type 0} → A → Draws A
give a k = record { it = a; next = k }

abbrev pub onward : {A B : Type 0} → Drawn A → (A → Draws B) → Drawn B
onward d f = f d.it d.next

infixl 10 ◌>>=◌
abbrev pub ◌>>=◌ : {A B : Type 0} → Draws A → (A → Draws B) → Draws B
◌>>=◌ m f k = onward (m k) f

-- a temporary that nothing else uses
abbrev pub fresh : Draws ℕ
fresh k = record { it = k; next = k + 1 }

-- from a number on this is drawn, and that is the next number after it
pub record DrawsFrom {A : Type 0} (m : Draws A) (before : ℕ) (drawn : A) (after : ℕ) : Type 0 where
  pub is : m before ≡ record { it = drawn; next = after }
