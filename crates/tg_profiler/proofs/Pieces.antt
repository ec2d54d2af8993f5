-- A line that is written piece by piece.
use Rattle.std.specs.Prelude.{IsTrue, Result, Ok, Err, IsErr}
use Rattle.std.proofs.Common.{ℕ, ◌≤◌, List, ◌++◌, Option, false, append_assoc, sym, ap, ◌∙◌, arith}
use Rattle.std.specs.Io.KnownBytes.{Appends}
use Rattle.tg_base.specs.Causes.{Rose, HasCause}
use Rattle.tg_base.specs.Writes.{TakesPrefix, TakesAll}
use Rattle.tg_base.proofs.KnownLemmas.{appends_then}

-- a prefix of a piece is one of a longer piece
pub front_longer : (x y : Option (List ℕ)) (a b : List ℕ) → TakesPrefix x y a → TakesPrefix x y (a ++ b)
front_longer x y a b (front, rest, is, kept) = (front, rest ++ b, ap (λ z. z ++ b) is ∙ append_assoc front rest b, kept)

-- a whole piece, and a prefix of the next
pub front_later : (x y z : Option (List ℕ)) (a b : List ℕ) → Appends x y a → TakesPrefix y z b → TakesPrefix x z (a ++ b)
front_later x y z a b whole (front, rest, is, kept) = (
  a ++ front,
  rest,
  ap (λ w. a ++ w) is
      ∙ sym (append_assoc a front rest),
  appends_then x y z a front whole kept,
)

-- a whole piece, and what comes of the next
pub all_later : {T E : Type 0} (x y z : Option (List ℕ)) (a b : List ℕ) (r : Result T E) → Appends x y a → TakesAll y z r b → TakesAll x z r (a ++ b)
all_later x y z a b (Ok t) whole next = appends_then x y z a b whole next
all_later x y z a b (Err e) whole next = front_later x y z a b whole next

no_truth : IsTrue false → ⊥
no_truth h = cc

-- where a piece fails
pub all_failed : {T E : Type 0} (x y : Option (List ℕ)) (a : List ℕ) (r : Result T E) → IsErr r → TakesPrefix x y a → TakesAll x y r a
all_failed x y a (Ok t) h f = absurd (no_truth h)
all_failed x y a (Err e) h f = f

-- counts over two calls
rose_later : (a b c : ℕ) → a ≤ b → Rose b c → Rose a c
rose_later a b c h r = omega (arith, h, r)

pub cause_later : {T E : Type 0} (a b c : ℕ) (r : Result T E) → a ≤ b → HasCause b c r → HasCause a c r
cause_later a b c (Ok t) h k = let l = k.later in record { later = omega (arith, h, l); failed = k.failed }
cause_later a b c (Err e) h k = let l = k.later in record { later = omega (arith, h, l); failed = rose_later a b c h k.failed }

pub cause_failed : {T U E F : Type 0} (a b : ℕ) (q : Result T E) (r : Result U F) → IsErr q → HasCause a b q → HasCause a b r
cause_failed a b (Ok t) r h k = absurd (no_truth h)
cause_failed a b (Err e) (Ok u) h k = record { later = k.later; failed = tt }
cause_failed a b (Err e) (Err f) h k = record { later = k.later; failed = k.failed }
