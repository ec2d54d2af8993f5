-- Loads after stores: statics and heap as lists of bytes, and the stack by addresses.
use Rattle.std.proofs.Common.{◌≡◌, ◌≢◌, ℕ, ◌+◌, ◌-◌, ◌%◌, ◌<◌, ◌≤◌, List, ◌∷◌, ◌++◌, length, Some, None, refl, sym}
use Rattle.std.proofs.Common.{ap, ◌∙◌, arith, eq-eqb, ne_eqb, inl, inr}
use Rattle.std.proofs.lemmas.Bool.{cases_lt, cases_eq}
use Rattle.std.specs.Prelude.{slice_set, All, if◌then◌else◌}
use Rattle.std.proofs.lemmas.List.{length-append, get_or_append_left, append_assoc, set_at}
use Rattle.std.proofs.lemmas.List.Elements.{All-append}
use Rattle.tg_machine_state.specs.State.{word_at, set_word, offset, statics_base, heap_base, most_bytes, most_room}
use Rattle.tg_tree.specs.Memory.{Memory, Cell, Closed, Unset, Kept, Has, Spot, in_statics, in_heap, elsewhere}
use Rattle.tg_tree.specs.Memory.{or_heap, spot, load, load_byte, store, store_byte, word_in, byte_in, store_in}
use Rattle.tg_tree.specs.Memory.{store_byte_in, put, put_open, cell_word}
use Rattle.tg_runtime_proof.specs.Memories.{IsWhole}
use Rattle.tg_runtime_proof.proofs.Bytes.{word_there, word_apart, word_in_front, word_past, set_word_length}
use Rattle.tg_runtime_proof.proofs.Bytes.{word_bytes, set_word_behind}

-- Where an address falls.

pub offset_at : (base size i a : ℕ) → a ≡ base + i → i < size → offset a base size ≡ Some i
offset_at base size i a is lt = grind arith

pub offset_below : (base size a : ℕ) → a < base → offset a base size ≡ None
offset_below base size a lt = grind arith

pub offset_above : (base size a : ℕ) → base + size ≤ a → offset a base size ≡ None
offset_above base size a le = grind arith

pub data Falls (m : Memory) (a : ℕ) : Type 0 where
  on_static : (i : ℕ) → a ≡ statics_base + i → i < length m.statics → spot m a ≡ in_statics i → Falls m a
  on_heap : (i : ℕ) → a ≡ heap_base + i → i < length m.heap → spot m a ≡ in_heap i → Falls m a
  outside : spot m a ≡ elsewhere →
      ((i : ℕ) → a ≡ statics_base + i → i < length m.statics → ⊥) →
      ((i : ℕ) → a ≡ heap_base + i → i < length m.heap → ⊥) → Falls m a

pub spot_static : (m : Memory) (i a : ℕ) → a ≡ statics_base + i → i < length m.statics → spot m a ≡ in_statics i
spot_static m i a is lt = ap (λ o. or_heap o (offset a heap_base (length m.heap)))
    (offset_at statics_base (length m.statics) i a is lt)

pub spot_heap : (m : Memory) (i a : ℕ) → length m.statics ≤ most_bytes → a ≡ heap_base + i → i < length m.heap →
    spot m a ≡ in_heap i
spot_heap m i a few is lt =
    ap (λ o. or_heap o (offset a heap_base (length m.heap)))
    (offset_above statics_base (length m.statics) a (omega (arith, few, is))) ∙
    ap (λ o. or_heap None o) (offset_at heap_base (length m.heap) i a is lt)

pub spot_else : (m : Memory) (a : ℕ) → offset a statics_base (length m.statics) ≡ None →
    offset a heap_base (length m.heap) ≡ None → spot m a ≡ elsewhere
spot_else m a e f = ap (λ o. or_heap o (offset a heap_base (length m.heap))) e ∙ ap (λ o. or_heap None o) f

-- the stack is above the heap
pub spot_above : (m : Memory) (a : ℕ) → length m.statics ≤ most_bytes → heap_base + length m.heap ≤ a →
    spot m a ≡ elsewhere
spot_above m a few le =
    spot_else m a (offset_above statics_base (length m.statics) a (omega (arith, few, le)))
    (offset_above heap_base (length m.heap) a le)

pub falls : (m : Memory) (a : ℕ) → length m.statics ≤ most_bytes → Falls m a
falls m a few =
    elim (cases_lt a statics_base) [
      | inl lt ↦ outside (spot_else m a (offset_below statics_base (length m.statics) a lt)
          (offset_below heap_base (length m.heap) a (omega (arith, lt))))
          (λ i is l. omega (arith, is, lt)) (λ i is l. omega (arith, is, lt))
      | inr from ↦
          elim (cases_lt a (statics_base + length m.statics)) [
            | inl lt ↦ on_static (a - statics_base) (omega (arith, from)) (omega (arith, from, lt))
                (spot_static m (a - statics_base) a (omega (arith, from)) (omega (arith, from, lt)))
            | inr past ↦
                elim (cases_lt a heap_base) [
                  | inl lt ↦ outside (spot_else m a (offset_above statics_base (length m.statics) a past)
                      (offset_below heap_base (length m.heap) a lt))
                      (λ i is l. omega (arith, is, l, past)) (λ i is l. omega (arith, is, lt))
                  | inr high ↦
                      elim (cases_lt a (heap_base + length m.heap)) [
                        | inl lt ↦ on_heap (a - heap_base) (omega (arith, high)) (omega (arith, high, lt))
                            (spot_heap m (a - heap_base) a few (omega (arith, high)) (omega (arith, high, lt)))
                        | inr top ↦ outside (spot_above m a few top) (λ i is l. omega (arith, is, l, past))
                            (λ i is l. omega (arith, is, l, top))
                      ]
                ]
          ]
    ]

-- Loads by spots.

pub load_by : (m : Memory) (a : ℕ) (s : Spot) → a % 4 ≡ 0 → spot m a ≡ s → load m a ≡ word_in m a s
load_by m a s even is = ap (λ b. if b then word_in m a (spot m a) else None) (eq-eqb (a % 4) 0 even) ∙
    ap (word_in m a) is

pub load_odd : (m : Memory) (a : ℕ) → a % 4 ≢ 0 → load m a ≡ None
load_odd m a odd = ap (λ b. if b then word_in m a (spot m a) else None) (ne_eqb (a % 4) 0 odd)

-- a load that finds a word is aligned
pub loads_even : (m : Memory) (a v : ℕ) → load m a ≡ Some v → a % 4 ≡ 0
loads_even m a v is = elim (cases_eq (a % 4) 0) [ inl e ↦ e | inr ne ↦ let none = sym (load_odd m a ne) ∙ is in cc ]

pub load_alike : (m m1 : Memory) (a : ℕ) → spot m1 a ≡ spot m a →
    (a % 4 ≡ 0 → word_in m1 a (spot m a) ≡ word_in m a (spot m a)) → load m1 a ≡ load m a
load_alike m m1 a same words =
    elim (cases_eq (a % 4) 0) [
      | inl e ↦ load_by m1 a (spot m a) e same ∙ (words e ∙ sym (load_by m a (spot m a) e refl))
      | inr ne ↦ load_odd m1 a ne ∙ sym (load_odd m a ne)
    ]

pub store_by : (m : Memory) (a v : ℕ) (s : Spot) → a % 4 ≡ 0 → spot m a ≡ s → store m a v ≡ store_in m a s v
store_by m a v s even is = ap (λ b. if b then store_in m a (spot m a) v else None) (eq-eqb (a % 4) 0 even) ∙
    ap (λ p. store_in m a p v) is

-- The heap.

abbrev pub heap_set : Memory → (i v : ℕ) → Memory
heap_set m i v = record m { heap = set_word m.heap i v }

spot_heap_set : (m : Memory) (h : List ℕ) (a : ℕ) → length h ≡ length m.heap → spot (record m { heap = h }) a ≡ spot m a
spot_heap_set m h a e = ap (λ n. or_heap (offset a statics_base (length m.statics)) (offset a heap_base n)) e

pub store_heap : (m : Memory) (i v a : ℕ) → IsWhole m → a ≡ heap_base + i → i < length m.heap → i % 4 ≡ 0 →
    store m a v ≡ Some (heap_set m i v)
store_heap m i v a w is lt even = store_by m a v (in_heap i) (omega (arith, is, even)) (spot_heap m i a w.statics is lt)

pub load_heap : (m : Memory) (i a : ℕ) → IsWhole m → a ≡ heap_base + i → i < length m.heap → i % 4 ≡ 0 →
    load m a ≡ Some (word_at m.heap i)
load_heap m i a w is lt even = load_by m a (in_heap i) (omega (arith, is, even)) (spot_heap m i a w.statics is lt)

whole_set : (m : Memory) (h : List ℕ) → IsWhole m → length h ≡ length m.heap → All (λ b. b < 256) h →
    IsWhole (record m { heap = h })
whole_set m h w e bytes = record {
  statics = w.statics;
  static_words = w.static_words;
  static_bytes = w.static_bytes;
  heap = omega (arith, e, w.heap);
  heap_words = ap (λ n. n % 4) e ∙ w.heap_words;
  heap_bytes = bytes;
}

-- a word after its store, and any other
pub stored_there : (m : Memory) (i v : ℕ) → IsWhole m → i < length m.heap → i % 4 ≡ 0 →
    load (heap_set m i v) (heap_base + i) ≡ Some v
stored_there m i v w lt even =
    let hw = w.heap_words in
    load_by (heap_set m i v) (heap_base + i) (in_heap i) (omega (arith, even))
    (spot_heap_set m (set_word m.heap i v) (heap_base + i) (set_word_length m.heap i v) ∙
    spot_heap m i (heap_base + i) w.statics refl lt) ∙
    ap Some (word_there m.heap i v (omega (arith, lt, even, hw)))

pub stored_apart : (m : Memory) (i v b : ℕ) → length m.statics ≤ most_bytes → i % 4 ≡ 0 → b ≢ heap_base + i →
    load (heap_set m i v) b ≡ load m b
stored_apart m i v b few even ne =
    load_alike m (heap_set m i v) b (spot_heap_set m (set_word m.heap i v) b (set_word_length m.heap i v)) (λ e.
    elim (falls m b few) [
      | on_static j is lt at ↦ ap (word_in (heap_set m i v) b) at ∙ sym (ap (word_in m b) at)
      | on_heap j is lt at ↦ ap (word_in (heap_set m i v) b) at ∙
          (ap Some (word_apart m.heap i v j even (omega (arith, e, is)) (omega (arith, is, ne))) ∙
          sym (ap (word_in m b) at))
      | outside at ns none ↦ ap (word_in (heap_set m i v) b) at ∙ sym (ap (word_in m b) at)
    ])

-- The stack. A cell outside statics and heap.

pub put_apart : (m : Memory) (a : ℕ) (c : Cell) (b : ℕ) → b ≢ a → load (put a c m) b ≡ load m b
put_apart m a c b ne =
    load_alike m (put a c m) b refl (λ e. elim (spot m b) as (λ s. word_in (put a c m) b s ≡ word_in m b s) [
      | in_statics j ↦ refl
      | in_heap j ↦ refl
      | elsewhere ↦ ap cell_word (ap (λ t. if t then c else m.stack b) (ne_eqb b a ne))
    ])

pub put_there : (m : Memory) (a v : ℕ) → a % 4 ≡ 0 → spot m a ≡ elsewhere → load (put a (Has v) m) a ≡ Some v
put_there m a v even at =
    load_by (put a (Has v) m) a elsewhere even at ∙
    ap cell_word (ap (λ t. if t then Has v else m.stack a) (eq-eqb a a refl))

-- statics and heap know nothing of the stack
pub put_low : (m : Memory) (a : ℕ) (c : Cell) (b : ℕ) → spot m b ≢ elsewhere → load (put a c m) b ≡ load m b
put_low m a c b low =
    load_alike m (put a c m) b refl (λ e. elim (spot m b) as (λ s. s ≢ elsewhere →
    word_in (put a c m) b s ≡ word_in m b s) [
      | in_statics j ↦ λ ne. refl
      | in_heap j ↦ λ ne. refl
      | elsewhere ↦ λ ne. absurd (ne refl)
    ] low)

pub store_cell : (m : Memory) (a v : ℕ) → a % 4 ≡ 0 → spot m a ≡ elsewhere → m.stack a ≢ Closed →
    store m a v ≡ Some (put a (Has v) m)
store_cell m a v even at laid =
    store_by m a v elsewhere even at ∙ (elim (m.stack a) as (λ c. c ≢ Closed →
    put_open c a v m ≡ Some (put a (Has v) m)) [
      | Closed ↦ λ ne. absurd (ne refl)
      | Unset ↦ λ ne. refl
      | Has u ↦ λ ne. refl
      | Kept r ↦ λ ne. refl
    ] laid)

-- Service 9: a block after the taken heap. What lies below it, and what above, is as it was.

abbrev pub blocked : List ℕ → Memory → Memory
blocked block m = record m { heap = m.heap ++ block }

spot_blocked : (m : Memory) (block : List ℕ) (b : ℕ) → length m.statics ≤ most_bytes →
    (heap_base + length m.heap ≤ b → heap_base + length m.heap + length block ≤ b) →
    spot (blocked block m) b ≡ spot m b
spot_blocked m block b few away =
    let long = length-append m.heap block in
    elim (falls m b few) [
      | on_static j is lt at ↦ spot_static (blocked block m) j b is lt ∙ sym at
      | on_heap j is lt at ↦ spot_heap (blocked block m) j b few is (omega (arith, lt, long)) ∙ sym at
      | outside at ns none ↦
          elim (cases_lt b heap_base) [
            | inl low ↦
                ap (λ o. or_heap (offset b statics_base (length m.statics)) o)
                (offset_below heap_base (length (m.heap ++ block)) b low ∙
                sym (offset_below heap_base (length m.heap) b low))
            | inr high ↦
                elim (cases_lt b (heap_base + length m.heap)) [
                  | inl lt ↦ absurd (none (b - heap_base) (omega (arith, high)) (omega (arith, high, lt)))
                  | inr le ↦ let far = away le in spot_above (blocked block m) b few (omega (arith, far, long)) ∙ sym at
                ]
          ]
    ]

pub block_apart : (m : Memory) (block : List ℕ) (b : ℕ) → IsWhole m →
    (heap_base + length m.heap ≤ b → heap_base + length m.heap + length block ≤ b) →
    load (blocked block m) b ≡ load m b
block_apart m block b w away =
    let hw = w.heap_words in
    load_alike m (blocked block m) b (spot_blocked m block b w.statics away) (λ e.
    elim (falls m b w.statics) [
      | on_static j is lt at ↦ ap (word_in (blocked block m) b) at ∙ sym (ap (word_in m b) at)
      | on_heap j is lt at ↦ ap (word_in (blocked block m) b) at ∙
          (ap Some (word_in_front m.heap block j (omega (arith, lt, e, is, hw))) ∙ sym (ap (word_in m b) at))
      | outside at ns none ↦ ap (word_in (blocked block m) b) at ∙ sym (ap (word_in m b) at)
    ])

pub block_there : (m : Memory) (block : List ℕ) (i : ℕ) → IsWhole m → i < length block → i % 4 ≡ 0 →
    load (blocked block m) (heap_base + length m.heap + i) ≡ Some (word_at block i)
block_there m block i w lt even =
    let hw = w.heap_words in
    let long = length-append m.heap block in
    load_by (blocked block m) (heap_base + length m.heap + i) (in_heap (length m.heap + i)) (omega (arith, hw, even))
    (spot_heap (blocked block m) (length m.heap + i) (heap_base + length m.heap + i) w.statics (omega arith)
    (omega (arith, lt, long))) ∙
    ap Some (word_past m.heap block (length m.heap) i refl)

-- Stores inside a block that was taken last.

pub store_in_block : (m : Memory) (p rest : List ℕ) (b0 b1 b2 b3 v i a : ℕ) → length m.statics ≤ most_bytes →
    length m.heap % 4 ≡ 0 →
    length p ≡ i → i % 4 ≡ 0 → a ≡ heap_base + length m.heap + i →
    store (blocked (p ++ b0 ∷ b1 ∷ b2 ∷ b3 ∷ rest) m) a v ≡ Some (blocked (p ++ (word_bytes v ++ rest)) m)
store_in_block m p rest b0 b1 b2 b3 v i a few words is even at =
    let block = p ++ b0 ∷ b1 ∷ b2 ∷ b3 ∷ rest in
    let long = length-append m.heap block in
    let inside = length-append p (b0 ∷ b1 ∷ b2 ∷ b3 ∷ rest) in
    let front = length-append m.heap p in
    store_by (blocked block m) a v (in_heap (length m.heap + i)) (omega (arith, words, even, at))
    (spot_heap (blocked block m) (length m.heap + i) a few (omega (arith, at)) (omega (arith, long, inside, is))) ∙
    ap (λ h. Some (record m { heap = h }))
    (ap (λ h. set_word h (length m.heap + i) v) (sym (append_assoc m.heap p (b0 ∷ b1 ∷ b2 ∷ b3 ∷ rest))) ∙
    (set_word_behind (m.heap ++ p) rest b0 b1 b2 b3 v (length m.heap + i) (omega (arith, front, is)) ∙
    append_assoc m.heap p (word_bytes v ++ rest)))

pub store_byte_in_block : (m : Memory) (p rest : List ℕ) (b v i a : ℕ) → length m.statics ≤ most_bytes →
    length p ≡ i → a ≡ heap_base + length m.heap + i →
    store_byte (blocked (p ++ b ∷ rest) m) a v ≡ Some (blocked (p ++ v % 256 ∷ rest) m)
store_byte_in_block m p rest b v i a few is at =
    let long = length-append m.heap (p ++ b ∷ rest) in
    let inside = length-append p (b ∷ rest) in
    let front = length-append m.heap p in
    ap (λ s. store_byte_in (blocked (p ++ b ∷ rest) m) a s v)
    (spot_heap (blocked (p ++ b ∷ rest) m) (length m.heap + i) a few (omega (arith, at))
    (omega (arith, long, inside, is))) ∙
    ap (λ h. Some (record m { heap = h }))
    (ap (λ h. slice_set h (length m.heap + i) (v % 256)) (sym (append_assoc m.heap p (b ∷ rest))) ∙
    (set_at (m.heap ++ p) b rest (v % 256) (length m.heap + i) (omega (arith, front, is)) ∙
    append_assoc m.heap p (v % 256 ∷ rest)))

-- memory with a block is whole again
pub blocked_whole : (m : Memory) (block : List ℕ) → IsWhole m → length block % 4 ≡ 0 →
    length m.heap + length block ≤ most_room → All (λ b. b < 256) block → IsWhole (blocked block m)
blocked_whole m block w even fits bytes =
    let long = length-append m.heap block in
    let hw = w.heap_words in
    record {
      statics = w.statics;
      static_words = w.static_words;
      static_bytes = w.static_bytes;
      heap = omega (arith, long, fits);
      heap_words = omega (arith, long, hw, even);
      heap_bytes = All-append (λ b. b < 256) m.heap block w.heap_bytes bytes;
    }

-- bytes below a block
pub block_byte_apart : (m : Memory) (block : List ℕ) (b : ℕ) → length m.statics ≤ most_bytes →
    (heap_base + length m.heap ≤ b → heap_base + length m.heap + length block ≤ b) →
    load_byte (blocked block m) b ≡ load_byte m b
block_byte_apart m block b few away =
    ap (byte_in (blocked block m) b) (spot_blocked m block b few away) ∙
    elim (falls m b few) [
      | on_static j is lt at ↦ ap (byte_in (blocked block m) b) at ∙ sym (ap (byte_in m b) at)
      | on_heap j is lt at ↦ ap (byte_in (blocked block m) b) at ∙
          (ap Some (get_or_append_left m.heap block 0 j lt) ∙ sym (ap (byte_in m b) at))
      | outside at ns none ↦ ap (byte_in (blocked block m) b) at ∙ sym (ap (byte_in m b) at)
    ]
