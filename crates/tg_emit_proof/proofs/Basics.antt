-- Tests and options, taken apart.
use Rattle.std.proofs.Common.{ℕ, ◌≡◌, ◌==◌, arith, true, false, Some}
use Rattle.std.proofs.lemmas.Bool.Decides.{nat_tests}

pub no_true : false ≡ true → ⊥
no_true h = cc

pub same_number : (n : ℕ) → (n == n) ≡ true
same_number n = grind (arith, nat_tests)

pub some_is : {A : Type 0} (u v : A) → Some u ≡ Some v → u ≡ v
some_is u v h = cc
