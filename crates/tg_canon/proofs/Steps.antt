-- Steps that draw, one after another.
use Rattle.std.proofs.Common.{◌≡◌, ℕ, refl, sym, ap, ◌∙◌}
use Rattle.tg_canon.specs.mirror.Drawing.{Draws, give, onward, ◌>>=◌, DrawsFrom}

pub given : {A : Type 0} (a : A) (k : ℕ) → DrawsFrom (give a) k a k
given a k = record { is = refl }

pub on : {A B : Type 0} {m : Draws A} (f : A → Draws B) {k l n : ℕ} {a : A} {b : B} → DrawsFrom m k a l → DrawsFrom (f a) l b n → DrawsFrom (m >>= f) k b n
on f g h = record { is = ap (λ d. onward d f) g.is ∙ h.is }

-- with what is made of it
pub ends : {A B : Type 0} {m : Draws A} (f : A → B) {k l : ℕ} {a : A} {b : B} → DrawsFrom m k a l → b ≡ f a → DrawsFrom (m >>= (λ x. give (f x))) k b l
ends f {l = l} g e = on (λ x. give (f x)) g (record { is = ap (λ v. record { it = v; next = l }) (sym e) })

pub same : {A : Type 0} {m : Draws A} {k l : ℕ} {a b : A} → DrawsFrom m k a l → b ≡ a → DrawsFrom m k b l
same {l = l} g e = record { is = g.is ∙ ap (λ v. record { it = v; next = l }) (sym e) }
