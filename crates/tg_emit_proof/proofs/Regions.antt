-- Bytes and words of the regions, and where an address falls.
use Rattle.std.proofs.Common.{ℕ, zero, suc, ◌≡◌, ◌≢◌, ◌<◌, ◌≤◌, ◌+◌, ◌-◌, ◌/◌, ◌%◌, ◌^◌, ◌&&◌, List, length, refl, ap}
use Rattle.std.proofs.Common.{◌∙◌, arith, Bool, true, false, Some, None}
use Rattle.std.proofs.lemmas.Bool.Decides.{nat_tests}
use Rattle.std.proofs.lemmas.Grind.{common_steps}
use Rattle.std.proofs.lemmas.List.{get_or-set_same, get_or-set_other}
use Rattle.std.proofs.lemmas.List.Elements.{All-set}
use Rattle.std.specs.Prelude.{All, if◌then◌else◌, slice_index, slice_set, nat_lt, nat_le}
use Rattle.tg_machine_state.specs.State.{offset, word_at, set_word}
use Rattle.tg_tree.specs.Memory.{byte_of, with_byte}
use Rattle.tg_simulation.specs.Bytes.{AreBytes}

-- an offset
pub record IsOffset (a base size i : ℕ) : Type 0 where
  pub from : base ≤ a
  pub to : a < base + size
  pub it : i ≡ a - base

pub offset_is : (a base size i : ℕ) → offset a base size ≡ Some i → IsOffset a base size i
offset_is a base size i h = by (nat_le base a) refl (nat_lt a (base + size)) refl h
  where
    same : (x y : ℕ) → Some x ≡ Some y → y ≡ x
    same x y e = cc

    by : (b : Bool) → nat_le base a ≡ b → (c : Bool) → nat_lt a (base + size) ≡ c →
        (if b && c then Some (a - base) else None) ≡ Some i →
        IsOffset a base size i
    by true e true f k =
        let l : base ≤ a = grind (arith, nat_tests, e) in
        let u : a < base + size = grind (arith, nat_tests, f) in
        record { from = l; to = u; it = same (a - base) i k }
    by true e false f k = cc
    by false e c f k = cc

pub offset_in : (a base size : ℕ) → base ≤ a → a < base + size → offset a base size ≡ Some (a - base)
offset_in a base size h k =
    let l : nat_le base a ≡ true = grind (arith, nat_tests, h) in
    let u : nat_lt a (base + size) ≡ true = grind (arith, nat_tests, k) in
    rw (l, u) refl

pub offset_below : (a base size : ℕ) → a < base → offset a base size ≡ None
offset_below a base size h =
    let l : nat_le base a ≡ false = grind (arith, nat_tests, h) in
    rw l refl

pub byte_fits : (bytes : List ℕ) (i : ℕ) → AreBytes bytes → slice_index bytes i < 256
byte_fits bytes i h = by (nat_lt i (length bytes)) refl
  where
    by : (b : Bool) → nat_lt i (length bytes) ≡ b → slice_index bytes i < 256
    by true e = let l : i < length bytes = grind (arith, nat_tests, e) in grind (arith, common_steps, h, l)
    by false e =
        let l : length bytes ≤ i = grind (arith, nat_tests, e) in
        let z : slice_index bytes i ≡ 0 = grind (arith, common_steps, l) in
        omega (arith, z)

pub word_fits : (bytes : List ℕ) (i : ℕ) → AreBytes bytes → word_at bytes i < 2 ^ 32
word_fits bytes i h =
    let a = byte_fits bytes i h in
    let b = byte_fits bytes (i + 1) h in
    let c = byte_fits bytes (i + 2) h in
    let d = byte_fits bytes (i + 3) h in
    omega (arith, a, b, c, d)

-- a byte of a word
pub byte_in_word : (bytes : List ℕ) (i k : ℕ) → AreBytes bytes → k < 4 → byte_of (word_at bytes i) k
    ≡ slice_index bytes (i + k)
byte_in_word bytes i k h l = by k l
  where
    none : i + 0 ≡ i
    none = omega arith

    a : slice_index bytes i < 256
    a = byte_fits bytes i h

    b : slice_index bytes (i + 1) < 256
    b = byte_fits bytes (i + 1) h

    c : slice_index bytes (i + 2) < 256
    c = byte_fits bytes (i + 2) h

    d : slice_index bytes (i + 3) < 256
    d = byte_fits bytes (i + 3) h

    by : (k : ℕ) → k < 4 → byte_of (word_at bytes i) k ≡ slice_index bytes (i + k)
    by zero l = rw none (let x = a in let y = b in let z = c in let w = d in omega (arith, x, y, z, w))
    by (suc zero) l = let x = a in let y = b in let z = c in let w = d in omega (arith, x, y, z, w)
    by (suc (suc zero)) l = let x = a in let y = b in let z = c in let w = d in omega (arith, x, y, z, w)
    by (suc (suc (suc zero))) l = let x = a in let y = b in let z = c in let w = d in omega (arith, x, y, z, w)
    by (suc (suc (suc (suc k)))) l = absurd (omega (arith, l))

-- set bytes
pub set_length : (bytes : List ℕ) (i v : ℕ) → length (slice_set bytes i v) ≡ length bytes
set_length bytes i v = grind (arith, common_steps)

pub set_bytes : (bytes : List ℕ) (i v : ℕ) → v < 256 → AreBytes bytes →
    All (λ b. b < 256) (slice_set bytes i v)
set_bytes bytes i v f h = All-set (λ b. b < 256) bytes i v f h

pub set_word_length : (bytes : List ℕ) (i v : ℕ) → length (set_word bytes i v) ≡ length bytes
set_word_length bytes i v =
    set_length (slice_set (slice_set (slice_set bytes i (v % 256)) (i + 1) (v / 256 % 256)) (i + 2) (v / 65536 % 256))
    (i + 3) (v / 16777216)
    ∙ (set_length (slice_set (slice_set bytes i (v % 256)) (i + 1) (v / 256 % 256)) (i + 2) (v / 65536 % 256)
    ∙ (set_length (slice_set bytes i (v % 256)) (i + 1) (v / 256 % 256) ∙ set_length bytes i (v % 256)))

pub set_word_bytes : (bytes : List ℕ) (i v : ℕ) → v < 2 ^ 32 → AreBytes bytes →
    All (λ b. b < 256) (set_word bytes i v)
set_word_bytes bytes i v f h =
    set_bytes _ (i + 3) (v / 16777216) (omega (arith, f))
    (set_bytes _ (i + 2) (v / 65536 % 256) (omega arith)
    (set_bytes _ (i + 1) (v / 256 % 256) (omega arith)
    (set_bytes bytes i (v % 256) (omega arith) h)))

-- a byte of a region with a new word
module _ (bytes : List ℕ) (i v : ℕ) where
  abbrev one : List ℕ
  one = slice_set bytes i (v % 256)

  abbrev two : List ℕ
  two = slice_set one (i + 1) (v / 256 % 256)

  abbrev three : List ℕ
  three = slice_set two (i + 2) (v / 65536 % 256)

  pub set_apart : (j : ℕ) → (i ≤ j → j < i + 4 → ⊥) → slice_index (set_word bytes i v) j ≡ slice_index bytes j
  set_apart j h =
      get_or-set_other three (i + 3) j (v / 16777216) 0 (λ e. h (omega (arith, e)) (omega (arith, e)))
      ∙ (get_or-set_other two (i + 2) j (v / 65536 % 256) 0 (λ e. h (omega (arith, e)) (omega (arith, e)))
      ∙ (get_or-set_other one (i + 1) j (v / 256 % 256) 0 (λ e. h (omega (arith, e)) (omega (arith, e)))
      ∙ get_or-set_other bytes i j (v % 256) 0 (λ e. h (omega (arith, e)) (omega (arith, e)))))

  pub set_first : i < length bytes → slice_index (set_word bytes i v) i ≡ v % 256
  set_first l =
      get_or-set_other three (i + 3) i (v / 16777216) 0 (λ e. omega (arith, e))
      ∙ (get_or-set_other two (i + 2) i (v / 65536 % 256) 0 (λ e. omega (arith, e))
      ∙ (get_or-set_other one (i + 1) i (v / 256 % 256) 0 (λ e. omega (arith, e))
      ∙ get_or-set_same bytes i (v % 256) 0 l))

  pub set_second : i + 1 < length bytes → slice_index (set_word bytes i v) (i + 1) ≡ v / 256 % 256
  set_second l =
      let n = set_length bytes i (v % 256) in
      get_or-set_other three (i + 3) (i + 1) (v / 16777216) 0 (λ e. omega (arith, e))
      ∙ (get_or-set_other two (i + 2) (i + 1) (v / 65536 % 256) 0 (λ e. omega (arith, e))
      ∙ get_or-set_same one (i + 1) (v / 256 % 256) 0 (omega (arith, l, n)))

  pub set_third : i + 2 < length bytes → slice_index (set_word bytes i v) (i + 2) ≡ v / 65536 % 256
  set_third l =
      let n = set_length bytes i (v % 256) in
      let m = set_length one (i + 1) (v / 256 % 256) in
      get_or-set_other three (i + 3) (i + 2) (v / 16777216) 0 (λ e. omega (arith, e))
      ∙ get_or-set_same two (i + 2) (v / 65536 % 256) 0 (omega (arith, l, n, m))

  pub set_fourth : i + 3 < length bytes → slice_index (set_word bytes i v) (i + 3) ≡ v / 16777216
  set_fourth l =
      let n = set_length bytes i (v % 256) in
      let m = set_length one (i + 1) (v / 256 % 256) in
      let o = set_length two (i + 2) (v / 65536 % 256) in
      get_or-set_same three (i + 3) (v / 16777216) 0 (omega (arith, l, n, m, o))

  -- the word that was set, and those apart from it
  pub word_set : i + 4 ≤ length bytes → v < 2 ^ 32 → word_at (set_word bytes i v) i ≡ v
  word_set l f =
      let a = set_first (omega (arith, l)) in
      let b = set_second (omega (arith, l)) in
      let c = set_third (omega (arith, l)) in
      let d = set_fourth (omega (arith, l)) in
      omega (arith, a, b, c, d, f)

  pub word_apart : (j : ℕ) → (i < j + 4 → j < i + 4 → ⊥) → word_at (set_word bytes i v) j ≡ word_at bytes j
  word_apart j h =
      let a = set_apart j (λ x y. h (omega (arith, x)) y) in
      let b = set_apart (j + 1) (λ x y. h (omega (arith, x)) (omega (arith, y))) in
      let c = set_apart (j + 2) (λ x y. h (omega (arith, x)) (omega (arith, y))) in
      let d = set_apart (j + 3) (λ x y. h (omega (arith, x)) (omega (arith, y))) in
      omega (arith, a, b, c, d)

-- a byte that is set in a word, and the words apart from it
pub byte_apart : (bytes : List ℕ) (i v j : ℕ) → (j ≤ i → i < j + 4 → ⊥) → word_at (slice_set bytes i v) j
    ≡ word_at bytes j
byte_apart bytes i v j h =
    let a = get_or-set_other bytes i j v 0 (λ e. h (omega (arith, e)) (omega (arith, e))) in
    let b = get_or-set_other bytes i (j + 1) v 0 (λ e. h (omega (arith, e)) (omega (arith, e))) in
    let c = get_or-set_other bytes i (j + 2) v 0 (λ e. h (omega (arith, e)) (omega (arith, e))) in
    let d = get_or-set_other bytes i (j + 3) v 0 (λ e. h (omega (arith, e)) (omega (arith, e))) in
    omega (arith, a, b, c, d)

pub byte_set : (bytes : List ℕ) (i k v : ℕ) → AreBytes bytes → k < 4 → i + k < length bytes →
    word_at (slice_set bytes (i + k) (v % 256)) i ≡ with_byte (word_at bytes i) k v
byte_set bytes i k v h l n = by k l n (byte_in_word bytes i k h l)
  where
    none : i + 0 ≡ i
    none = omega arith

    at : (k j : ℕ) → i + j ≢ i + k → slice_index (slice_set bytes (i + k) (v % 256)) (i + j)
        ≡ slice_index bytes (i + j)
    at k j d = get_or-set_other bytes (i + k) (i + j) (v % 256) 0 d

    here : (k : ℕ) → i + k < length bytes → slice_index (slice_set bytes (i + k) (v % 256)) (i + k) ≡ v % 256
    here k l = get_or-set_same bytes (i + k) (v % 256) 0 l

    first : (k : ℕ) → 0 < k → slice_index (slice_set bytes (i + k) (v % 256)) i ≡ slice_index bytes i
    first k z = get_or-set_other bytes (i + k) i (v % 256) 0 (λ e. omega (arith, e, z))

    zeroth : i + 0 < length bytes → slice_index bytes (i + 0) ≡ slice_index bytes i →
        word_at (slice_set bytes i (v % 256)) i ≡ with_byte (word_at bytes i) 0 v
    zeroth n e =
        let f = byte_in_word bytes i 0 h (omega arith) in
        let a = get_or-set_same bytes i (v % 256) 0 (omega (arith, n)) in
        let b = get_or-set_other bytes i (i + 1) (v % 256) 0 (λ x. omega (arith, x)) in
        let c = get_or-set_other bytes i (i + 2) (v % 256) 0 (λ x. omega (arith, x)) in
        let d = get_or-set_other bytes i (i + 3) (v % 256) 0 (λ x. omega (arith, x)) in
        omega (arith, a, b, c, d, e, f)

    by : (k : ℕ) → k < 4 → i + k < length bytes → byte_of (word_at bytes i) k ≡ slice_index bytes (i + k) →
        word_at (slice_set bytes (i + k) (v % 256)) i ≡ with_byte (word_at bytes i) k v
    by zero l n e = rw none (zeroth n (ap (λ j. slice_index bytes j) none))
    by (suc zero) l n e =
        let a = first 1 (omega arith) in let b = here 1 n in let c = at 1 2 (λ x. omega (arith, x)) in let d =
        at 1 3 (λ x. omega (arith, x)) in
        omega (arith, a, b, c, d, e)
    by (suc (suc zero)) l n e =
        let a = first 2 (omega arith) in let b = at 2 1 (λ x. omega (arith, x)) in let c = here 2 n in let d =
        at 2 3 (λ x. omega (arith, x)) in
        omega (arith, a, b, c, d, e)
    by (suc (suc (suc zero))) l n e =
        let a = first 3 (omega arith) in let b = at 3 1 (λ x. omega (arith, x)) in let c =
        at 3 2 (λ x. omega (arith, x)) in let d = here 3 n in
        omega (arith, a, b, c, d, e)
    by (suc (suc (suc (suc k)))) l n e = absurd (omega (arith, l))
