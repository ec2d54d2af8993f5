-- What flat code reads is words: bytes of regions and words of the stack.
use Rattle.std.proofs.Common.{◌≡◌, ◌≤◌, ◌<◌, ℕ, ◌+◌, ◌/◌, ◌%◌, ◌^◌, List}
use Rattle.std.proofs.Common.{[], ◌∷◌, ◌++◌, length, Bool, nat_lt, refl, sym, subst, arith}
use Rattle.std.proofs.lemmas.Bool.Decides.{nat_tests}
use Rattle.std.proofs.lemmas.List.Elements.{All-set}
use Rattle.std.proofs.Math.ListN.{get_or-eq_default}
use Rattle.std.proofs.lemmas.List.{length-append}
use Rattle.std.specs.Prelude.{◌==◌, ◌-◌, false, true, Some, None, slice_index, if◌then◌else◌}
use Rattle.tg_machine_state.specs.State.{word_at, set_word, statics_base, padded}
use Rattle.tg_tree.specs.Tree.{Literal}
use Rattle.tg_tree.specs.Memory.{Memory, Cell, Closed, Unset, Has, Kept, Spot, in_statics, in_heap, elsewhere, spot}
use Rattle.tg_tree.specs.Memory.{load, load_byte, word_in, byte_in, cell_word, cell_byte, byte_of, statics_of}
use Rattle.tg_tree.specs.Memory.{literal_from, literal_address}
use Rattle.tg_simulation.specs.Bytes.{AreBytes}
use Rattle.tg_munch_proof.specs.Words.{IsWord, AreWords}

none_is : {A : Type 0} (a : A) → None ≡ Some a → ⊥
none_is a e = cc

some_is : {A : Type 0} (a b : A) → Some a ≡ Some b → a ≡ b
some_is a b e = cc

-- bytes, and words of four
pub byte_there : (bytes : List ℕ) (i : ℕ) → AreBytes bytes → slice_index bytes i < 256
byte_there bytes i h = by (nat_lt i (length bytes)) refl
  where
    is_below : nat_lt i (length bytes) ≡ true → i < length bytes
    is_below e = grind (arith, nat_tests)

    is_past : nat_lt i (length bytes) ≡ false → length bytes ≤ i
    is_past e = grind (arith, nat_tests)

    by : (b : Bool) → nat_lt i (length bytes) ≡ b → slice_index bytes i < 256
    by true e = h i 0 (is_below e)
    by false e = subst (λ n. n < 256) (sym (get_or-eq_default bytes 0 {n = i} (is_past e))) (omega arith)

pub word_there : (bytes : List ℕ) (i : ℕ) → AreBytes bytes → IsWord (word_at bytes i)
word_there bytes i h =
    let a = byte_there bytes i h in
    let b = byte_there bytes (i + 1) h in
    let c = byte_there bytes (i + 2) h in
    let d = byte_there bytes (i + 3) h in
    omega (arith, a, b, c, d)

pub word_set : (bytes : List ℕ) (i v : ℕ) → IsWord v → AreBytes bytes → AreBytes (set_word bytes i v)
word_set bytes i v small h =
    All-set (λ b. b < 256) _ (i + 3) (v / 16777216) (omega (arith, small))
    (All-set (λ b. b < 256) _ (i + 2) (v / 65536 % 256) (omega arith)
    (All-set (λ b. b < 256) _ (i + 1) (v / 256 % 256) (omega arith)
    (All-set (λ b. b < 256) bytes i (v % 256) (omega arith) h)))

-- a load gives a word
cell_is_word : (c : Cell) (v : ℕ) → ((u : ℕ) → c ≡ Has u → IsWord u) → cell_word c ≡ Some v → IsWord v
cell_is_word (Has u) v h e = subst IsWord (some_is u v e) (h u refl)
cell_is_word Closed v h e = absurd (none_is v e)
cell_is_word Unset v h e = absurd (none_is v e)
cell_is_word (Kept r) v h e = absurd (none_is v e)

pub load_is_word : (m : Memory) (a v : ℕ) → AreWords m → load m a ≡ Some v → IsWord v
load_is_word m a v h e = by (a % 4 == 0) (spot m a) e
  where
    by : (b : Bool) (z : Spot) → (if b then word_in m a z else None) ≡ Some v → IsWord v
    by true (in_statics i) q = subst IsWord (some_is (word_at m.statics i) v q) (word_there m.statics i h.statics)
    by true (in_heap i) q = subst IsWord (some_is (word_at m.heap i) v q) (word_there m.heap i h.heap)
    by true elsewhere q = cell_is_word (m.stack a) v (h.stack a) q
    by false z q = absurd (none_is v q)

small_byte : (b : ℕ) → b < 256 → IsWord b
small_byte b h = omega (arith, h)

cell_byte_is_word : (c : Cell) (k v : ℕ) → cell_byte c k ≡ Some v → IsWord v
cell_byte_is_word (Has u) k v e = subst IsWord (some_is (byte_of u k) v e) (small_byte (byte_of u k) (omega arith))
cell_byte_is_word Closed k v e = absurd (none_is v e)
cell_byte_is_word Unset k v e = absurd (none_is v e)
cell_byte_is_word (Kept r) k v e = absurd (none_is v e)

pub byte_is_word : (m : Memory) (a v : ℕ) → AreWords m → load_byte m a ≡ Some v → IsWord v
byte_is_word m a v h e = by (spot m a) e
  where
    by : (z : Spot) → byte_in m a z ≡ Some v → IsWord v
    by (in_statics i) q =
        subst IsWord (some_is (slice_index m.statics i) v q)
        (small_byte (slice_index m.statics i) (byte_there m.statics i h.statics))
    by (in_heap i) q =
        subst IsWord (some_is (slice_index m.heap i) v q)
        (small_byte (slice_index m.heap i) (byte_there m.heap i h.heap))
    by elsewhere q = cell_byte_is_word (m.stack (a - a % 4)) (a % 4) v q

-- a literal stands in the statics
literal_within : (label at v : ℕ) (ls : List Literal) → literal_from at label ls ≡ Some v →
    v ≤ at + length (statics_of ls)
literal_within label at v [] e = absurd (none_is v e)
literal_within label at v (l ∷ ls) e =
    by (l.label == label) e (λ q. literal_within label (at + length (padded l.text)) v ls q)
  where
    more : length (padded l.text ++ statics_of ls) ≡ length (padded l.text) + length (statics_of ls)
    more = length-append (padded l.text) (statics_of ls)

    by : (b : Bool) → (if b then Some at else literal_from (at + length (padded l.text)) label ls) ≡ Some v →
        (literal_from (at + length (padded l.text)) label ls ≡ Some v →
        v ≤ at + length (padded l.text) + length (statics_of ls)) →
        v ≤ at + length (padded l.text ++ statics_of ls)
    by true q h = let same = some_is at v q in omega (arith, same)
    by false q h = let le = h q in omega (arith, le, more)

pub literal_is_word : (ls : List Literal) (label v : ℕ) → statics_base + length (statics_of ls) < 2 ^ 32 →
    literal_address ls label ≡ Some v → IsWord v
literal_is_word ls label v fits e =
    let le = literal_within label statics_base v ls e in
    omega (arith, le, fits)
