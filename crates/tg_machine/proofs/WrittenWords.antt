-- A word that is written over the four bytes of a slice from a place on.
use Rattle.std.proofs.Common.{◌≡◌, ◌≤◌, ◌<◌, ◌/◌, ◌%◌, ℕ, zero, suc, ◌+◌, ◌-◌, List, [], ◌∷◌, ◌++◌, length, drop, slice_set, ap, ◌∙◌, arith}
use Rattle.std.proofs.Math.Nat.{mod-eq_of_lt}
use Rattle.std.proofs.lemmas.List.{take-append-drop}
use Rattle.std.specs.Int.{bytes_low_first}
use Rattle.tg_machine_state.specs.State as state
use borrow.Rule.Slice.PartMut.{put_mid, mid_of}

over : (xs : List ℕ) (i n a b c d : ℕ) → i + 4 ≤ length xs →
    put_mid i (suc (suc (suc (suc n)))) xs
    (a ∷ b ∷ c ∷ d ∷ drop 4 (mid_of i (suc (suc (suc (suc n)))) xs)) ≡
    slice_set (slice_set (slice_set (slice_set xs i a) (suc i) b) (suc (suc i)) c) (suc (suc (suc i))) d
over (p ∷ q ∷ r ∷ s ∷ xs) zero n a b c d h = ap (λ ys. a ∷ b ∷ c ∷ d ∷ ys) (take-append-drop n xs)
over (x ∷ xs) (suc i) n a b c d h = ap (λ ys. x ∷ ys) (over xs i n a b c d (omega (arith, h)))
over [] i n a b c d h = absurd (omega (arith, h))
over (p ∷ []) zero n a b c d h = absurd (omega (arith, h))
over (p ∷ q ∷ []) zero n a b c d h = absurd (omega (arith, h))
over (p ∷ q ∷ r ∷ []) zero n a b c d h = absurd (omega (arith, h))

bytes_of : (v : ℕ) → v < 4294967296 →
    bytes_low_first 0 4 v ≡ v % 256 ∷ v / 256 % 256 ∷ v / 65536 % 256 ∷ v / 16777216 ∷ []
bytes_of v below =
    let highest : v / 16777216 % 256 ≡ v / 16777216 = mod-eq_of_lt (omega (arith, below)) in
    ap (λ (x : ℕ). v % 256 ∷ v / 256 % 256 ∷ v / 65536 % 256 ∷ x ∷ []) highest

in_place : (xs : List ℕ) (i a b c d : ℕ) → i + 4 ≤ length xs →
    put_mid i (length xs - i) xs (a ∷ b ∷ c ∷ d ∷ drop 4 (mid_of i (length xs - i) xs)) ≡
    slice_set (slice_set (slice_set (slice_set xs i a) (i + 1) b) (i + 2) c) (i + 3) d
in_place xs i a b c d h =
    let long : length xs - i ≡ suc (suc (suc (suc (length xs - i - 4)))) = omega (arith, h) in
    let second : i + 1 ≡ suc i = omega arith in
    let third : i + 2 ≡ suc (suc i) = omega arith in
    let fourth : i + 3 ≡ suc (suc (suc i)) = omega arith in
    rw (long, second, third, fourth) (over xs i (length xs - i - 4) a b c d h)

pub word_written : (xs : List ℕ) (i v : ℕ) → i + 4 ≤ length xs → v < 4294967296 →
    put_mid i (length xs - i) xs (bytes_low_first 0 4 v ++ drop 4 (mid_of i (length xs - i) xs)) ≡
    state.set_word xs i v
word_written xs i v h below =
    ap (λ (w : List ℕ). put_mid i (length xs - i) xs (w ++ drop 4 (mid_of i (length xs - i) xs))) (bytes_of v below)
    ∙ in_place xs i (v % 256) (v / 256 % 256) (v / 65536 % 256) (v / 16777216) h
