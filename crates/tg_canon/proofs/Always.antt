-- What holds of what is drawn, whatever the next number is.
use Rattle.std.proofs.Common.{ℕ, Bool, true, false, if◌then◌else◌}
use Rattle.tg_canon.specs.mirror.Drawing.{Draws, give, ◌>>=◌}

-- a choice of two of a kind
pub one_of_two : {A : Type 0} (P : A → Type 0) (b : Bool) {x y : A} → P x → P y → P (if b then x else y)
one_of_two P true p q = p
one_of_two P false p q = q

pub record Always {A : Type 0} (P : A → Type 0) (m : Draws A) : Type 0 where
  pub at : (k : ℕ) → P (m k).it

pub give_is : {A : Type 0} {P : A → Type 0} {a : A} → P a → Always P (give a)
give_is h = record { at = λ k. h }

pub next : {A B : Type 0} {P : A → Type 0} {Q : B → Type 0} (m : Draws A) (f : A → Draws B) → Always P m → ((a : A) → P a → Always Q (f a)) → Always Q (m >>= f)
next m f h g = record { at = λ k. (g (m k).it (h.at k)).at (m k).next }

-- with what is made of it
pub made : {A B : Type 0} {P : A → Type 0} {Q : B → Type 0} (m : Draws A) (f : A → B) → Always P m → ((a : A) → P a → Q (f a)) →
    Always Q (m >>= (λ a. give (f a)))
made m f h g = record { at = λ k. g (m k).it (h.at k) }
