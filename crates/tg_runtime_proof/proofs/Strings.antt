-- Bytes of words, and strings in memory.
use Rattle.std.proofs.Common.{◌≡◌, ℕ, zero, suc, ◌+◌, ◌-◌, ◌*◌, ◌/◌, ◌%◌, ◌^◌, ◌<◌, ◌≤◌, List, ◌++◌, length, Some, []}
use Rattle.std.proofs.Common.{◌∷◌, refl, sym, ap, ◌∙◌, arith, subst, inl, inr}
use Rattle.std.proofs.lemmas.Bool.{cases_lt}
use Rattle.std.specs.Prelude.{slice_index, All, replicate, take}
use Rattle.std.specs.Int.{to_le_bytes, w32}
use Rattle.std.proofs.lemmas.List.{length-append, get_or_append_left, get_or-append_right, get_or_past}
use Rattle.std.proofs.lemmas.List.{length-replicate}
use Rattle.std.proofs.lemmas.List.Elements.{All-append, All-replicate}
use Rattle.tg_machine_state.specs.State.{word_at, heap_base, most_room, padded}
use Rattle.tg_tree.specs.Memory.{Memory, Cell, Closed, Unset, Kept, Has, Spot, in_statics, in_heap, elsewhere, spot, string_block}
use Rattle.tg_tree.specs.Memory.{load, load_byte, byte_in, cell_word, cell_byte, byte_of}
use Rattle.tg_runtime_proof.specs.Memories.{IsWhole, IsStringAt}
use Rattle.tg_runtime_proof.proofs.Bytes.{joined, joined_is, word_bytes, word_bytes_are}
use Rattle.tg_runtime_proof.proofs.Memories.{on_static, on_heap, outside, falls, spot_static, spot_heap, load_by}
use Rattle.tg_runtime_proof.proofs.Memories.{loads_even, blocked, block_there, block_apart}

pub small_byte : (xs : List ℕ) (i : ℕ) → All (λ b. b < 256) xs → slice_index xs i < 256
small_byte xs i all =
    elim (cases_lt i (length xs)) [
      | inl lt ↦ all i 0 lt
      | inr le ↦ let e = get_or_past xs i 0 le in omega (arith, e)
    ]

-- the bytes of a word in a list are those of the list
pub byte_of_word : (xs : List ℕ) (i k : ℕ) → All (λ b. b < 256) xs → k < 4 →
    byte_of (word_at xs i) k ≡ slice_index xs (i + k)
byte_of_word xs i zero all lt =
    let s0 = small_byte xs i all in
    let e : i + 0 ≡ i = omega arith in
    let b : word_at xs i / 1 % 256 ≡ slice_index xs i = omega (arith, s0) in
    b ∙ ap (λ j. slice_index xs j) (sym e)
byte_of_word xs i (suc zero) all lt =
    let s0 = small_byte xs i all in
    let s1 = small_byte xs (i + 1) all in
    let b : word_at xs i / 256 % 256 ≡ slice_index xs (i + 1) = omega (arith, s0, s1) in
    b
byte_of_word xs i (suc (suc zero)) all lt =
    let s0 = small_byte xs i all in
    let s1 = small_byte xs (i + 1) all in
    let s2 = small_byte xs (i + 2) all in
    let b : word_at xs i / 65536 % 256 ≡ slice_index xs (i + 2) = omega (arith, s0, s1, s2) in
    b
byte_of_word xs i (suc (suc (suc zero))) all lt =
    let s0 = small_byte xs i all in
    let s1 = small_byte xs (i + 1) all in
    let s2 = small_byte xs (i + 2) all in
    let s3 = small_byte xs (i + 3) all in
    let b : word_at xs i / 16777216 % 256 ≡ slice_index xs (i + 3) = omega (arith, s0, s1, s2, s3) in
    b
byte_of_word xs i (suc (suc (suc (suc k)))) all lt = absurd (omega (arith, lt))

some_is : (u v : ℕ) → Some u ≡ Some v → u ≡ v
some_is u v e = cc

cell_has : (c : Cell) (v : ℕ) → cell_word c ≡ Some v → c ≡ Has v
cell_has Closed v e = cc
cell_has Unset v e = cc
cell_has (Has u) v e = ap Has (some_is u v e)
cell_has (Kept r) v e = cc

pub byte_by : (m : Memory) (a : ℕ) (s : Spot) → spot m a ≡ s → load_byte m a ≡ byte_in m a s
byte_by m a s is = ap (byte_in m a) is

-- a byte of a word that is there
pub load_byte_of_word : (m : Memory) (a w k : ℕ) → IsWhole m → load m a ≡ Some w → k < 4 →
    load_byte m (a + k) ≡ Some (byte_of w k)
load_byte_of_word m a w k whole there lt =
    let even = loads_even m a w there in
    let sw = whole.static_words in
    let hw = whole.heap_words in
    elim (falls m a whole.statics) [
      | on_static i is l at ↦
          let e : word_at m.statics i ≡ w = some_is (word_at m.statics i) w (sym (load_by m a (in_statics i) even at) ∙
          there) in
          byte_by m (a + k) (in_statics (i + k)) (spot_static m (i + k) (a + k) (omega (arith, is))
          (omega (arith, l, lt, is, even, sw))) ∙
          ap Some (sym (byte_of_word m.statics i k whole.static_bytes lt) ∙ ap (λ v. byte_of v k) e)
      | on_heap i is l at ↦
          let e : word_at m.heap i ≡ w = some_is (word_at m.heap i) w (sym (load_by m a (in_heap i) even at) ∙ there) in
          byte_by m (a + k) (in_heap (i + k)) (spot_heap m (i + k) (a + k) whole.statics (omega (arith, is))
          (omega (arith, l, lt, is, even, hw))) ∙
          ap Some (sym (byte_of_word m.heap i k whole.heap_bytes lt) ∙ ap (λ v. byte_of v k) e)
      | outside at ns none ↦
          let e : m.stack a ≡ Has w = cell_has (m.stack a) w (sym (load_by m a elsewhere even at) ∙ there) in
          let r : (a + k) % 4 ≡ k = omega (arith, even, lt) in
          let q : (a + k) - (a + k) % 4 ≡ a = omega (arith, even, lt) in
          elim (falls m (a + k) whole.statics) [
            | on_static j is l at2 ↦ absurd (ns (j - k) (omega (arith, is, l, lt, even)) (omega (arith, l)))
            | on_heap j is l at2 ↦ absurd (none (j - k) (omega (arith, is, l, lt, even)) (omega (arith, l)))
            | outside at2 ns2 none2 ↦ byte_by m (a + k) elsewhere at2 ∙
                (ap (λ b. cell_byte (m.stack b) ((a + k) % 4)) q ∙
                (ap (λ c. cell_byte c ((a + k) % 4)) e ∙ ap (λ j. Some (byte_of w j)) r))
          ]
    ]

-- Four bytes more of a list are the bytes of its word.

fours : (xs : List ℕ) (k : ℕ) → suc (suc (suc (suc k))) ≤ length xs → take (suc (suc (suc (suc k)))) xs ≡
    take k xs ++ slice_index xs k ∷ slice_index xs (suc k) ∷ slice_index xs (suc (suc k)) ∷ slice_index xs
    (suc (suc (suc k))) ∷ []
fours (p ∷ q ∷ r ∷ s ∷ xs) zero h = refl
fours (x ∷ xs) (suc k) h = ap (λ (l : List ℕ). x ∷ l) (fours xs k (omega (arith, h)))
fours [] k h = absurd (omega (arith, h))
fours (p ∷ []) zero h = absurd (omega (arith, h))
fours (p ∷ q ∷ []) zero h = absurd (omega (arith, h))
fours (p ∷ q ∷ r ∷ []) zero h = absurd (omega (arith, h))

pub bytes_of_joined : (a b c d : ℕ) → a < 256 → b < 256 → c < 256 → d < 256 →
    word_bytes (joined a b c d) ≡ a ∷ b ∷ c ∷ d ∷ []
bytes_of_joined a b c d la lb lc ld =
    let v = joined a b c d in
    let e0 : v % 256 ≡ a = omega (arith, la) in
    let e1 : v / 256 % 256 ≡ b = omega (arith, la, lb) in
    let e2 : v / 65536 % 256 ≡ c = omega (arith, la, lb, lc) in
    let e3 : v / 16777216 ≡ d = omega (arith, la, lb, lc, ld) in
    ap (λ p. p ∷ v / 256 % 256 ∷ v / 65536 % 256 ∷ v / 16777216 ∷ []) e0 ∙
    (ap (λ p. a ∷ p ∷ v / 65536 % 256 ∷ v / 16777216 ∷ []) e1 ∙
    (ap (λ p. a ∷ b ∷ p ∷ v / 16777216 ∷ []) e2 ∙ ap (λ (p : ℕ). a ∷ b ∷ c ∷ p ∷ []) e3))

pub take_word : (xs : List ℕ) (k : ℕ) → All (λ b. b < 256) xs → k + 4 ≤ length xs →
    take (k + 4) xs ≡ take k xs ++ word_bytes (word_at xs k)
take_word xs k small h =
    let e1 : k + 1 ≡ suc k = omega arith in
    let e2 : k + 2 ≡ suc (suc k) = omega arith in
    let e3 : k + 3 ≡ suc (suc (suc k)) = omega arith in
    let e4 : k + 4 ≡ suc (suc (suc (suc k))) = omega arith in
    ap (λ j. take j xs) e4 ∙ (fours xs k (omega (arith, h)) ∙ ap (λ l. take k xs ++ l)
    (sym (bytes_of_joined (slice_index xs k) (slice_index xs (suc k)) (slice_index xs (suc (suc k)))
    (slice_index xs (suc (suc (suc k))))
    (small_byte xs k small) (small_byte xs (suc k) small) (small_byte xs (suc (suc k)) small)
    (small_byte xs (suc (suc (suc k))) small)) ∙
    (ap (λ j. word_bytes (joined (slice_index xs k) (slice_index xs j) (slice_index xs (suc (suc k)))
    (slice_index xs (suc (suc (suc k)))))) (sym e1) ∙
    (ap (λ j. word_bytes (joined (slice_index xs k) (slice_index xs (k + 1)) (slice_index xs j)
    (slice_index xs (suc (suc (suc k)))))) (sym e2) ∙
    ap (λ j. word_bytes (joined (slice_index xs k) (slice_index xs (k + 1)) (slice_index xs (k + 2))
    (slice_index xs j))) (sym e3)))))

-- The block of a string.

pub word_bytes_small : (v : ℕ) → v < 2 ^ 32 → All (λ b. b < 256) (word_bytes v)
word_bytes_small v below zero d lt = omega arith
word_bytes_small v below (suc zero) d lt = omega arith
word_bytes_small v below (suc (suc zero)) d lt = omega arith
word_bytes_small v below (suc (suc (suc zero))) d lt = omega (arith, below)
word_bytes_small v below (suc (suc (suc (suc k)))) d lt = absurd (omega (arith, lt))

pub block_is : (x : List ℕ) → length x < 2 ^ 32 →
    string_block x ≡ (word_bytes (length x) ++ x) ++ replicate ((4 - (4 + length x) % 4) % 4) 0
block_is x below =
    let e : length (word_bytes (length x) ++ x) ≡ 4 + length x = omega arith in
    ap (λ l. padded (l ++ x)) (word_bytes_are (length x) below) ∙
    ap (λ n. (word_bytes (length x) ++ x) ++ replicate ((4 - n % 4) % 4) 0) e

pub block_length : (x : List ℕ) → length (string_block x) ≡ 4 + (length x + 3) / 4 * 4
block_length x =
    let n = length x in
    let e1 : length (to_le_bytes w32 n ++ x) ≡ 4 + n = length-append (to_le_bytes w32 n) x in
    let e2 = length-append (to_le_bytes w32 n ++ x) (replicate ((4 - length (to_le_bytes w32 n ++ x) % 4) % 4) 0) in
    let e3 = length-replicate {A = ℕ} ((4 - length (to_le_bytes w32 n ++ x) % 4) % 4) 0 in
    omega (arith, e1, e2, e3)

pub block_small : (x : List ℕ) → length x < 2 ^ 32 → All (λ b. b < 256) x → All (λ b. b < 256) (string_block x)
block_small x below all =
    let zeros : All (λ b. b < 256) (replicate ((4 - (4 + length x) % 4) % 4) 0) =
    All-replicate (λ b. b < 256) _ 0 (omega arith) in
    subst (λ l. All (λ b. b < 256) l) (sym (block_is x below))
    (All-append (λ b. b < 256) (word_bytes (length x) ++ x) _
    (All-append (λ b. b < 256) (word_bytes (length x)) x (word_bytes_small (length x) below) all) zeros)

pub block_word : (x : List ℕ) → length x < 2 ^ 32 → word_at (string_block x) 0 ≡ length x
block_word x below =
    ap (λ l. word_at l 0) (block_is x below) ∙ joined_is (length x)

pub block_byte : (x : List ℕ) (k : ℕ) → k < length x → slice_index (string_block x) (4 + k) ≡ slice_index x k
block_byte x k lt =
    let n = length x in
    let e : length (to_le_bytes w32 n) ≡ 4 = refl in
    let i : 4 + k - 4 ≡ k = omega arith in
    let l : length (to_le_bytes w32 n ++ x) ≡ 4 + n = length-append (to_le_bytes w32 n) x in
    get_or_append_left (to_le_bytes w32 n ++ x) _ 0 (4 + k) (omega (arith, lt, l)) ∙
    (get_or-append_right (to_le_bytes w32 n) x 4 (4 + k) 0 e (omega arith) ∙ ap (λ j. slice_index x j) i)

-- A string that stands somewhere: its length, and its bytes.

pub string_ends : (m : Memory) (a : ℕ) (x : List ℕ) → IsWhole m → IsStringAt m a x →
    a + 4 + length x ≤ heap_base + most_room
string_ends m a x whole s =
    let b = block_length x in
    let low = s.below in
    let most = whole.heap in
    omega (arith, b, low, most)

pub string_length : (m : Memory) (a : ℕ) (x : List ℕ) → IsWhole m → IsStringAt m a x → load m a ≡ Some (length x)
string_length m a x whole s =
    let b = block_length x in
    let low = string_ends m a x whole s in
    let e : a + 4 * 0 ≡ a = omega arith in
    ap (load m) (sym e) ∙ (s.words 0 (omega (arith, b)) ∙ ap Some (block_word x (omega (arith, b, low))))

pub string_byte : (m : Memory) (a k : ℕ) (x : List ℕ) → IsWhole m → IsStringAt m a x → k < length x →
    load_byte m (a + 4 + k) ≡ Some (slice_index x k)
string_byte m a k x whole s lt =
    let b = block_length x in
    let low = string_ends m a x whole s in
    let q = (4 + k) / 4 in
    let r = (4 + k) % 4 in
    let there = s.words q (omega (arith, b, lt)) in
    let split : 4 * q + r ≡ 4 + k = omega arith in
    let at : a + 4 * q + r ≡ a + 4 + k = omega arith in
    ap (load_byte m) (sym at) ∙ (load_byte_of_word m (a + 4 * q) (word_at (string_block x) (4 * q)) r whole there
    (omega arith) ∙
    ap Some (byte_of_word (string_block x) (4 * q) r (block_small x (omega (arith, b, low)) s.each) (omega arith) ∙
    (ap (λ j. slice_index (string_block x) j) split ∙ block_byte x k lt)))

-- a new one, after the taken heap
pub string_made : (m : Memory) (x : List ℕ) → IsWhole m → All (λ b. b < 256) x →
    length m.heap + length (string_block x) ≤ most_room →
    IsStringAt (blocked (string_block x) m) (heap_base + length m.heap) x
string_made m x whole each fits =
    let hw = whole.heap_words in
    let long = length-append m.heap (string_block x) in
    record {
      aligned = omega (arith, hw);
      below = omega (arith, long);
      each = each;
      words = λ k lt. block_there m (string_block x) (4 * k) whole lt (omega arith);
    }

-- a memory with the same words there has the string too
pub string_kept : (m m1 : Memory) (a : ℕ) (x : List ℕ) → length m.heap ≤ length m1.heap →
    ((k : ℕ) → 4 * k < length (string_block x) → load m1 (a + 4 * k) ≡ load m (a + 4 * k)) → IsStringAt m a x →
    IsStringAt m1 a x
string_kept m m1 a x le same s =
    let low = s.below in
    record {
      aligned = s.aligned;
      below = omega (arith, low, le);
      each = s.each;
      words =
          λ k lt. same k lt ∙ s.words k lt;
    }

-- a block after the taken heap leaves it
pub string_stays : (m : Memory) (block : List ℕ) (a : ℕ) (x : List ℕ) → IsWhole m → IsStringAt m a x →
    IsStringAt (blocked block m) a x
string_stays m block a x whole s =
    let low = s.below in
    let long = length-append m.heap block in
    string_kept m (blocked block m) a x (omega (arith, long))
    (λ k lt. block_apart m block (a + 4 * k) whole (λ high. omega (arith, high, low, lt))) s

-- from words that are known, each below the end of the heap
pub string_known : (m : Memory) (a : ℕ) (x : List ℕ) → length m.heap % 4 ≡ 0 → a % 4 ≡ 0 → All (λ b. b < 256) x →
    ((k : ℕ) → 4 * k < length (string_block x) →
    (load m (a + 4 * k) ≡ Some (word_at (string_block x) (4 * k))) × (a + 4 * k < heap_base + length m.heap)) →
    IsStringAt m a x
string_known m a x even aligned each known =
    let b = block_length x in
    let last = (known ((length x + 3) / 4) (omega (arith, b))).1 in
    record {
      aligned = aligned;
      below = omega (arith, b, last, even, aligned);
      each = each;
      words =
          λ k lt. (known k lt).0;
    }
