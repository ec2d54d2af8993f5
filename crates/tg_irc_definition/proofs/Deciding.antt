-- What tests on numbers tell.
use Rattle.std.proofs.Common.{◌≡◌, ℕ, ◌<◌, Bool, true, false, not, ◌&&◌, ◌||◌, ◌⊎◌, inl, inr, ⊎_elim, refl}
use Rattle.std.specs.Prelude.{nat_lt, ◌==◌, IsTrue, IsFalse, Decides}
use Rattle.std.proofs.lemmas.Bool.{ltb-true}
use Rattle.std.proofs.lemmas.Bool.Decides.{eqb_tells, Decides-below_or, Decides-below_and}
use Rattle.tg_irc_definition.specs.Graphs.{Set, some, every}

pub clash : {b : Bool} → b ≡ true → b ≡ false → ⊥
clash {b = true} e f = cc
clash {b = false} e f = cc

pub both : (p q : Bool) → (p && q) ≡ true → (p ≡ true) × (q ≡ true)
both true q e = (refl, e)
both false q e = cc

pub and_true : {p q : Bool} → p ≡ true → q ≡ true → (p && q) ≡ true
and_true {p = true} e f = f
and_true {p = false} e f = cc

pub either : (p q : Bool) → (p || q) ≡ true → (p ≡ true) ⊎ (q ≡ true)
either true q e = inl refl
either false q e = inr e

pub or_left : (p q : Bool) → p ≡ true → (p || q) ≡ true
or_left true q e = refl
or_left false q e = cc

pub or_right : (p q : Bool) → q ≡ true → (p || q) ≡ true
or_right true q e = refl
or_right false q e = e

pub or_swap : (p q : Bool) → (p || q) ≡ true → (q || p) ≡ true
or_swap p true e = refl
or_swap true false e = refl
or_swap false false e = e

pub neither : (p q : Bool) → (p || q) ≡ false → (p ≡ false) × (q ≡ false)
neither true q e = cc
neither false q e = (refl, e)

pub tells : (b : Bool) → (b ≡ true) ⊎ (b ≡ false)
tells true = inl refl
tells false = inr refl

pub not_true : {b : Bool} → not b ≡ true → b ≡ false
not_true {b = true} e = cc
not_true {b = false} e = refl

pub from_false : {b : Bool} → b ≡ false → not b ≡ true
from_false {b = true} e = cc
from_false {b = false} e = refl

pub not_false : {b : Bool} → not b ≡ false → b ≡ true
not_false {b = true} e = refl
not_false {b = false} e = cc

pub from_true : {b : Bool} → b ≡ true → not b ≡ false
from_true {b = true} e = refl
from_true {b = false} e = cc

pub or_false : {p q : Bool} → p ≡ false → q ≡ false → (p || q) ≡ false
or_false {p = true} e f = cc
or_false {p = false} e f = f

-- a test that never holds
pub never : {b : Bool} → (b ≡ true → ⊥) → b ≡ false
never {b = true} h = absurd (h refl)
never {b = false} h = refl

pub and_false : (p q : Bool) → (p && q) ≡ false → p ≡ true → q ≡ false
and_false true q e t = e
and_false false q e t = cc

pub same_node : (x y : ℕ) → (x == y) ≡ true → x ≡ y
same_node x y e = ⊎_elim (λ h. h.1) (λ h. absurd (clash e h.0)) (eqb_tells x y)

pub same_test : (x y : ℕ) → x ≡ y → (x == y) ≡ true
same_test x y e = ⊎_elim (λ h. h.0) (λ h. absurd (h.1 e)) (eqb_tells x y)

pub some_is : (S : Set) (n : ℕ) → Decides (some S n) ((x : ℕ) × (x < n) × IsTrue (S x))
some_is S n = Decides-below_or S (λ x. IsTrue (S x)) (some S) (λ x. (λ e. e, λ e. e)) refl (λ n. refl) n

pub every_is : (S : Set) (n : ℕ) → Decides (every S n) ((x : ℕ) → x < n → IsTrue (S x))
every_is S n = Decides-below_and S (λ x. IsTrue (S x)) (every S) (λ x. (λ e. e, λ e. e)) refl (λ n. refl) n

-- nothing in a set whose numbers are all below n
pub none : (S : Set) (n : ℕ) → some S n ≡ false → ((x : ℕ) → S x ≡ true → nat_lt x n ≡ true) → (x : ℕ) → IsFalse (S x)
none S n e inside x = never (λ h. clash ((some_is S n).1 (x, ltb-true x n (inside x h), h)) e)
