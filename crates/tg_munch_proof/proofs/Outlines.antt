-- What is told of the stack at an entry goes on to hold within the frame, and at a return without it.
use Rattle.std.proofs.Common.{◌≡◌, ◌≢◌, ◌≤◌, ◌<◌, inl, inr, ℕ, zero, suc, ◌-◌, ◌*◌, ◌/◌, Bool, true, false, refl, ap}
use Rattle.std.proofs.Common.{◌∙◌, arith}
use Rattle.std.proofs.lemmas.Bool.Decides.{nat_tests}
use Rattle.std.proofs.lemmas.Bool.{cases_lt}
use Rattle.std.specs.Prelude.{◌==◌, not, if◌then◌else◌}
use Rattle.tg_tree.specs.Memory.{Memory, Cell, Closed, slot, lay}
use Rattle.tg_munch_proof.specs.glue.Relating.{is_slot}
use Rattle.tg_munch_proof.proofs.Frames.{lay_other}

put_there : (b : Bool) (c d : Cell) → (b ≡ false → d ≡ c) → (if b then c else d) ≡ c
put_there true c d h = refl
put_there false c d h = h refl

pub lay_there : (base n k : ℕ) (c : Cell) (m : Memory) → k < n → (lay base n c m).stack (slot base k) ≡ c
lay_there base zero k c m lt = absurd (omega arith)
lay_there base (suc n) k c m lt =
    put_there (slot base k == slot base n) c ((lay base n c m).stack (slot base k))
    (λ e. lay_there base n k c m (let d : k ≢ n = λ s. same_not (slot base k) (slot base n) e (ap (slot base) s) in
    omega (arith, d)))
  where
    same_not : (a b : ℕ) → (a == b) ≡ false → a ≢ b
    same_not a b h = grind (arith, nat_tests)

-- slots are found by their test
slot_is : (base n k : ℕ) → 4 * n ≤ base → k < n → is_slot base n (slot base k) ≡ true
slot_is base n k le lt = grind (arith, nat_tests)

which_slot : (base n a : ℕ) → 4 * n ≤ base → is_slot base n a ≡ true → (k : ℕ) × (k < n) × (a ≡ slot base k)
which_slot base n a le e = ((base - a) / 4 - 1, grind (arith, nat_tests), grind (arith, nat_tests))

not_so : (b : Bool) → b ≡ true → not b ≡ true → ⊥
not_so true e h = cc
not_so false e h = cc

no_slot : (base n a : ℕ) → 4 * n ≤ base → not (is_slot base n a) ≡ true → (k : ℕ) → k < n → a ≢ slot base k
no_slot base n a le h k lt e = not_so (is_slot base n a) (ap (is_slot base n) e ∙ slot_is base n k le lt) h

-- what is shut stays so at an entry
pub shut_within : (base n : ℕ) (c : Cell) (m : Memory) (a : ℕ) → 4 * n ≤ base → not (is_slot base n a) ≡ true →
    m.stack a ≡ Closed →
    (lay base n c m).stack a ≡ Closed
shut_within base n c m a le h e = lay_other base n c m a (no_slot base n a le h) ∙ e

by_test : (b : Bool) (P : Type 0) → (b ≡ true → P) → (not b ≡ true → P) → P
by_test true P h k = h refl
by_test false P h k = k refl

-- and at a return nothing is open below the frame address
pub closed_behind : (base size n : ℕ) (m : Memory) (a : ℕ) → 4 * n ≤ size → size ≤ base → a < base →
    ((b : ℕ) → b < base - size → m.stack b ≡ Closed) →
    ((b : ℕ) → base - size ≤ b → b < base → not (is_slot base n b) ≡ true → m.stack b ≡ Closed) →
    (lay base n Closed m).stack a ≡ Closed
closed_behind base size n m a fits le lt below shut =
    by_test (is_slot base n a) ((lay base n Closed m).stack a ≡ Closed)
    (λ e. let s = which_slot base n a (omega arith) e in ap ((lay base n Closed m).stack) s.2 ∙ lay_there base n s.0
    Closed m s.1)
    (λ e. lay_other base n Closed m a (no_slot base n a (omega arith) e) ∙
    elim (cases_lt a (base - size)) [ inl l ↦ below a l | inr g ↦ shut a g lt e ])
