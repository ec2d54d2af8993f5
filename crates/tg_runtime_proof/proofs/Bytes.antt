-- Words in lists of bytes: what is read after a write, by places and by splitting the list.
use Rattle.std.proofs.Common.{◌≡◌, ◌≢◌, ℕ, suc, ◌+◌, ◌-◌, ◌*◌, ◌/◌, ◌%◌, ◌^◌, ◌<◌, ◌≤◌, List, [], ◌∷◌, ◌++◌, length}
use Rattle.std.proofs.Common.{refl, sym, ap, ◌∙◌, arith}
use Rattle.std.specs.Prelude.{slice_index, slice_set}
use Rattle.std.specs.Int.{to_le_bytes, w32}
use Rattle.std.proofs.lemmas.List.{get_or-set_same, get_or-set_other, length-set, get_or_append_left}
use Rattle.std.proofs.lemmas.List.{get_or-append_right}
use Rattle.tg_machine_state.specs.State.{word_at, set_word}

-- the word of four bytes, the lowest first, and the four bytes of a word
abbrev pub joined : ℕ → ℕ → ℕ → ℕ → ℕ
joined a b c d = a + 256 * b + 65536 * c + 16777216 * d

abbrev pub word_bytes : ℕ → List ℕ
word_bytes v = v % 256 ∷ v / 256 % 256 ∷ v / 65536 % 256 ∷ v / 16777216 ∷ []

pub joined_is : (v : ℕ) → joined (v % 256) (v / 256 % 256) (v / 65536 % 256) (v / 16777216) ≡ v
joined_is v = omega arith

pub word_bytes_are : (v : ℕ) → v < 2 ^ 32 → to_le_bytes w32 v ≡ word_bytes v
word_bytes_are v below =
    let highest : v / 16777216 % 256 ≡ v / 16777216 = omega (arith, below) in
    ap (λ (x : ℕ). v % 256 ∷ v / 256 % 256 ∷ v / 65536 % 256 ∷ x ∷ []) highest

-- By splitting.

sets : (p rest : List ℕ) (a b c d e f g h : ℕ) →
    slice_set (slice_set (slice_set (slice_set (p ++ a ∷ b ∷ c ∷ d ∷ rest) (length p) e) (suc (length p)) f)
    (suc (suc (length p))) g) (suc (suc (suc (length p)))) h ≡
    p ++ e ∷ f ∷ g ∷ h ∷ rest
sets [] rest a b c d e f g h = refl
sets (x ∷ p) rest a b c d e f g h = ap (λ (l : List ℕ). x ∷ l) (sets p rest a b c d e f g h)

pub set_word_behind : (p rest : List ℕ) (a b c d v i : ℕ) → length p ≡ i →
    set_word (p ++ a ∷ b ∷ c ∷ d ∷ rest) i v ≡ p ++ (word_bytes v ++ rest)
set_word_behind p rest a b c d v i is =
    let e1 : i + 1 ≡ suc (length p) = omega (arith, is) in
    let e2 : i + 2 ≡ suc (suc (length p)) = omega (arith, is) in
    let e3 : i + 3 ≡ suc (suc (suc (length p))) = omega (arith, is) in
    rw (e1, e2, e3, sym is) (sets p rest a b c d (v % 256) (v / 256 % 256) (v / 65536 % 256) (v / 16777216))

gets : (p rest : List ℕ) (a b c d : ℕ) →
    slice_index (p ++ a ∷ b ∷ c ∷ d ∷ rest) (length p) + 256 * slice_index (p ++ a ∷ b ∷ c ∷ d ∷ rest) (suc (length p))
    + 65536 * slice_index (p ++ a ∷ b ∷ c ∷ d ∷ rest) (suc (suc (length p))) + 16777216 * slice_index
    (p ++ a ∷ b ∷ c ∷ d ∷ rest) (suc (suc (suc (length p)))) ≡ joined a b c d
gets [] rest a b c d = refl
gets (x ∷ p) rest a b c d = gets p rest a b c d

pub word_behind : (p rest : List ℕ) (a b c d i : ℕ) → length p ≡ i →
    word_at (p ++ a ∷ b ∷ c ∷ d ∷ rest) i ≡ joined a b c d
word_behind p rest a b c d i is =
    let e1 : i + 1 ≡ suc (length p) = omega (arith, is) in
    let e2 : i + 2 ≡ suc (suc (length p)) = omega (arith, is) in
    let e3 : i + 3 ≡ suc (suc (suc (length p))) = omega (arith, is) in
    rw (e1, e2, e3, sym is) (gets p rest a b c d)

-- By places.

pub set_word_length : (xs : List ℕ) (i v : ℕ) → length (set_word xs i v) ≡ length xs
set_word_length xs i v =
    length-set _ (i + 3) (v / 16777216) ∙ (length-set _ (i + 2) (v / 65536 % 256) ∙
    (length-set _ (i + 1) (v / 256 % 256) ∙ length-set xs i (v % 256)))

pub byte_apart : (xs : List ℕ) (i v k : ℕ) → k ≢ i → k ≢ i + 1 → k ≢ i + 2 → k ≢ i + 3 →
    slice_index (set_word xs i v) k ≡ slice_index xs k
byte_apart xs i v k n0 n1 n2 n3 =
    get_or-set_other _ (i + 3) k (v / 16777216) 0 n3 ∙ (get_or-set_other _ (i + 2) k (v / 65536 % 256) 0 n2 ∙
    (get_or-set_other _ (i + 1) k (v / 256 % 256) 0 n1 ∙ get_or-set_other xs i k (v % 256) 0 n0))

pub word_of_bytes : (xs ys : List ℕ) (i j : ℕ) →
    slice_index xs i ≡ slice_index ys j → slice_index xs (i + 1) ≡ slice_index ys (j + 1) →
    slice_index xs (i + 2) ≡ slice_index ys (j + 2) → slice_index xs (i + 3) ≡ slice_index ys (j + 3) →
    word_at xs i ≡ word_at ys j
word_of_bytes xs ys i j e0 e1 e2 e3 = omega (arith, e0, e1, e2, e3)

-- at another word
pub word_apart : (xs : List ℕ) (i v j : ℕ) → i % 4 ≡ 0 → j % 4 ≡ 0 → j ≢ i → word_at (set_word xs i v) j ≡ word_at xs j
word_apart xs i v j mi mj ne =
    word_of_bytes (set_word xs i v) xs j j
    (byte_apart xs i v j (omega (arith, mi, mj, ne)) (omega (arith, mi, mj, ne)) (omega (arith, mi, mj, ne))
    (omega (arith, mi, mj, ne)))
    (byte_apart xs i v (j + 1) (omega (arith, mi, mj, ne)) (omega (arith, mi, mj, ne)) (omega (arith, mi, mj, ne))
    (omega (arith, mi, mj, ne)))
    (byte_apart xs i v (j + 2) (omega (arith, mi, mj, ne)) (omega (arith, mi, mj, ne)) (omega (arith, mi, mj, ne))
    (omega (arith, mi, mj, ne)))
    (byte_apart xs i v (j + 3) (omega (arith, mi, mj, ne)) (omega (arith, mi, mj, ne)) (omega (arith, mi, mj, ne))
    (omega (arith, mi, mj, ne)))

-- at the same
pub word_there : (xs : List ℕ) (i v : ℕ) → i + 4 ≤ length xs → word_at (set_word xs i v) i ≡ v
word_there xs i v le =
    let x0 = slice_set xs i (v % 256) in
    let x1 = slice_set x0 (i + 1) (v / 256 % 256) in
    let x2 = slice_set x1 (i + 2) (v / 65536 % 256) in
    let x3 = slice_set x2 (i + 3) (v / 16777216) in
    let l0 : length x0 ≡ length xs = length-set xs i (v % 256) in
    let l1 : length x1 ≡ length x0 = length-set x0 (i + 1) (v / 256 % 256) in
    let l2 : length x2 ≡ length x1 = length-set x1 (i + 2) (v / 65536 % 256) in
    let e0 : slice_index x3 i ≡ v % 256 =
    get_or-set_other x2 (i + 3) i _ 0 (omega arith) ∙ (get_or-set_other x1 (i + 2) i _ 0 (omega arith) ∙
    (get_or-set_other x0 (i + 1) i _ 0 (omega arith) ∙ get_or-set_same xs i _ 0 (omega (arith, le)))) in
    let e1 : slice_index x3 (i + 1) ≡ v / 256 % 256 =
    get_or-set_other x2 (i + 3) (i + 1) _ 0 (omega arith) ∙ (get_or-set_other x1 (i + 2) (i + 1) _ 0 (omega arith) ∙
    get_or-set_same x0 (i + 1) _ 0 (omega (arith, le, l0))) in
    let e2 : slice_index x3 (i + 2) ≡ v / 65536 % 256 =
    get_or-set_other x2 (i + 3) (i + 2) _ 0 (omega arith) ∙
    get_or-set_same x1 (i + 2) _ 0 (omega (arith, le, l0, l1)) in
    let e3 : slice_index x3 (i + 3) ≡ v / 16777216 = get_or-set_same x2 (i + 3) _ 0 (omega (arith, le, l0, l1, l2)) in
    omega (arith, e0, e1, e2, e3)

-- before and after the seam of two lists
pub word_in_front : (xs ys : List ℕ) (i : ℕ) → i + 4 ≤ length xs → word_at (xs ++ ys) i ≡ word_at xs i
word_in_front xs ys i le =
    word_of_bytes (xs ++ ys) xs i i (get_or_append_left xs ys 0 i (omega (arith, le)))
    (get_or_append_left xs ys 0 (i + 1) (omega (arith, le)))
    (get_or_append_left xs ys 0 (i + 2) (omega (arith, le))) (get_or_append_left xs ys 0 (i + 3) (omega (arith, le)))

byte_past : (xs ys : List ℕ) (n i j : ℕ) → length xs ≡ n → j ≡ n + i → slice_index (xs ++ ys) j ≡ slice_index ys i
byte_past xs ys n i j is at =
    let e : j - n ≡ i = omega (arith, at) in
    get_or-append_right xs ys n j 0 is (omega (arith, at)) ∙ ap (λ k. slice_index ys k) e

pub word_past : (xs ys : List ℕ) (n i : ℕ) → length xs ≡ n → word_at (xs ++ ys) (n + i) ≡ word_at ys i
word_past xs ys n i is =
    word_of_bytes (xs ++ ys) ys (n + i) i (byte_past xs ys n i (n + i) is (omega arith))
    (byte_past xs ys n (i + 1) (n + i + 1) is (omega arith))
    (byte_past xs ys n (i + 2) (n + i + 2) is (omega arith)) (byte_past xs ys n (i + 3) (n + i + 3) is (omega arith))
