-- What stands in the block of a new array and of a new record, word by word.
use Rattle.std.proofs.Common.{◌≡◌, ℕ, zero, suc, ◌+◌, ◌*◌, ◌^◌, ◌<◌, List, ◌++◌, length, Some, refl, ap, ◌∙◌, arith}
use Rattle.std.proofs.Common.{inl, inr}
use Rattle.std.specs.Prelude.{replicate, slice_index}
use Rattle.std.specs.Int.{to_le_bytes, w32}
use Rattle.std.proofs.lemmas.Bool.{cases_lt}
use Rattle.std.proofs.lemmas.List.{get_or-replicate, get_or_past, length-replicate}
use Rattle.tg_machine_state.specs.State.{word_at, heap_base}
use Rattle.tg_tree.specs.Memory.{Memory, load}
use Rattle.tg_runtime_proof.specs.Memories.{IsWhole, elements_block, array_block}
use Rattle.tg_runtime_proof.proofs.Bytes.{word_bytes_are, joined_is, word_past}
use Rattle.tg_runtime_proof.proofs.Memories.{blocked, block_there}
use Rattle.tg_runtime_proof.proofs.Arrays.{array_length}

pub first_word : (v : ℕ) (rest : List ℕ) → v < 2 ^ 32 → word_at (to_le_bytes w32 v ++ rest) 0 ≡ v
first_word v rest small = ap (λ l. word_at (l ++ rest) 0) (word_bytes_are v small) ∙ joined_is v

element_word : (n k v : ℕ) → v < 2 ^ 32 → k < n → word_at (elements_block n v) (4 * k) ≡ v
element_word (suc n) zero v small lt = first_word v (elements_block n v) small
element_word (suc n) (suc k) v small lt =
    let next : 4 * suc k ≡ 4 + 4 * k = omega arith in
    ap (λ j. word_at (elements_block (suc n) v) j) next ∙
    (word_past (to_le_bytes w32 v) (elements_block n v) 4 (4 * k) refl ∙ element_word n k v small (omega (arith, lt)))
element_word zero k v small lt = absurd (omega (arith, lt))

-- the length of a new array, and each element
pub array_made : (m : Memory) (n v : ℕ) → IsWhole m → n < 2 ^ 32 → v < 2 ^ 32 →
    (load (blocked (array_block n v) m) (heap_base + length m.heap) ≡ Some n) ×
    ((k : ℕ) → k < n → load (blocked (array_block n v) m) (heap_base + length m.heap + 4 + 4 * k) ≡ Some v)
array_made m n v w n_small v_small =
    let long = array_length n v in
    let z : heap_base + length m.heap ≡ heap_base + length m.heap + 0 = omega arith in (
      ap (load (blocked (array_block n v) m)) z ∙
          (block_there m (array_block n v) 0 w (omega (arith, long)) refl ∙
          ap Some (first_word n (elements_block n v) n_small)),
      λ k lt.
          let y : heap_base + length m.heap + 4 + 4 * k ≡ heap_base + length m.heap + (4 + 4 * k) = omega arith in
          ap (load (blocked (array_block n v) m)) y ∙
          (block_there m (array_block n v) (4 + 4 * k) w (omega (arith, long, lt)) (omega arith) ∙
          ap Some (word_past (to_le_bytes w32 n) (elements_block n v) 4 (4 * k) refl ∙ element_word n k v v_small lt)),
    )

zero_byte : (n i : ℕ) → slice_index (replicate {A = ℕ} n 0) i ≡ 0
zero_byte n i =
    elim (cases_lt i n) [
      | inl lt ↦ get_or-replicate n i 0 0 lt
      | inr le ↦ let l = length-replicate {A = ℕ} n 0 in get_or_past (replicate n 0) i 0 (omega (arith, l, le))
    ]

-- a new record is zeros
pub record_made : (m : Memory) (n k : ℕ) → IsWhole m → 4 * k < n →
    load (blocked (replicate n 0) m) (heap_base + length m.heap + 4 * k) ≡ Some 0
record_made m n k w lt =
    let l = length-replicate {A = ℕ} n 0 in
    let b0 = zero_byte n (4 * k) in
    let b1 = zero_byte n (4 * k + 1) in
    let b2 = zero_byte n (4 * k + 2) in
    let b3 = zero_byte n (4 * k + 3) in
    let z : word_at (replicate n 0) (4 * k) ≡ 0 = omega (arith, b0, b1, b2, b3) in
    block_there m (replicate n 0) (4 * k) w (omega (arith, l, lt)) (omega arith) ∙ ap Some z
