-- What a store of a word does, wherever it falls: for the invariant of a translation, which knows loads and no places.
use Rattle.std.proofs.Common.{◌≤◌, ne_eqb, ◌≡◌, ◌≢◌, ℕ, ◌+◌, ◌%◌, ◌/◌, ◌^◌, ◌<◌, List, length, Some, refl, sym, ap}
use Rattle.std.proofs.Common.{◌∙◌, arith}
use Rattle.std.specs.Prelude.{if◌then◌else◌, All}
use Rattle.std.proofs.lemmas.List.Elements.{All-set}
use Rattle.tg_machine_state.specs.State.{set_word, statics_base, heap_base, offset}
use Rattle.tg_tree.specs.Memory.{Memory, Cell, Closed, Unset, Has, Kept, in_statics, in_heap, elsewhere, spot, load}
use Rattle.tg_tree.specs.Memory.{store, word_in, put, put_open, cell_word, or_heap}
use Rattle.tg_runtime_proof.specs.Memories.{IsWhole}
use Rattle.tg_runtime_proof.proofs.Bytes.{word_there, word_apart, set_word_length}
use Rattle.tg_runtime_proof.proofs.Memories.{falls, on_static, on_heap, outside, load_by, load_alike, loads_even}
use Rattle.tg_runtime_proof.proofs.Memories.{store_by, heap_set, stored_there, stored_apart, put_apart, put_there}
use Rattle.tg_runtime_proof.proofs.Memories.{spot_above, store_cell}

pub record IsStored (m m1 : Memory) (a v : ℕ) : Type 0 where
  pub there : load m1 a ≡ Some v
  pub apart : (b : ℕ) → b ≢ a → load m1 b ≡ load m b
  pub heap : length m1.heap ≡ length m.heap
  pub cells : (b : ℕ) → b ≢ a → m1.stack b ≡ m.stack b
  pub whole : IsWhole m1

pub set_word_small : (xs : List ℕ) (i v : ℕ) → v < 2 ^ 32 → All (λ b. b < 256) xs → All (λ b. b < 256) (set_word xs i v)
set_word_small xs i v small all =
    All-set (λ b. b < 256) _ (i + 3) (v / 16777216) (omega (arith, small))
    (All-set (λ b. b < 256) _ (i + 2) (v / 65536 % 256) (omega arith)
    (All-set (λ b. b < 256) _ (i + 1) (v / 256 % 256) (omega arith)
    (All-set (λ b. b < 256) xs i (v % 256) (omega arith) all)))

abbrev static_set : Memory → (i v : ℕ) → Memory
static_set m i v = record m { statics = set_word m.statics i v }

spot_static_set : (m : Memory) (i v a : ℕ) → spot (static_set m i v) a ≡ spot m a
spot_static_set m i v a =
    ap (λ n. or_heap (offset a statics_base n) (offset a heap_base (length m.heap))) (set_word_length m.statics i v)

-- where a word is, a word can be stored
pub can_store : (m : Memory) (a u v : ℕ) → IsWhole m → v < 2 ^ 32 → load m a ≡ Some u →
    (m1 : Memory) × (store m a v ≡ Some m1) × IsStored m m1 a v
can_store m a u v w small has =
    let even = loads_even m a u has in
    let sw = w.static_words in
    let hw = w.heap_words in
    elim (falls m a w.statics) [
      | on_static i is lt at ↦ (
        static_set m i v,
        store_by m a v (in_statics i) even at,
        record {
          there = load_by (static_set m i v) a (in_statics i) even (spot_static_set m i v a ∙ at) ∙
              ap Some (word_there m.statics i v (omega (arith, lt, is, even, sw)));
          apart = λ b ne. load_alike m (static_set m i v) b (spot_static_set m i v b) (λ e.
              elim (falls m b w.statics) [
                | on_static j is2 lt2 at2 ↦ ap (word_in (static_set m i v) b) at2 ∙
                    (ap Some (word_apart m.statics i v j (omega (arith, is, even)) (omega (arith, is2, e))
                    (λ same. ne (omega (arith, same, is, is2)))) ∙ sym (ap (word_in m b) at2))
                | on_heap j is2 lt2 at2 ↦ ap (word_in (static_set m i v) b) at2 ∙ sym (ap (word_in m b) at2)
                | outside at2 ns none ↦ ap (word_in (static_set m i v) b) at2 ∙ sym (ap (word_in m b) at2)
              ]);
          heap = refl;
          cells = λ b ne. refl;
          whole = record {
            statics = let l = set_word_length m.statics i v in let f = w.statics in omega (arith, l, f);
            static_words = ap (λ n. n % 4) (set_word_length m.statics i v) ∙ w.static_words;
            static_bytes = set_word_small m.statics i v small w.static_bytes;
            heap = w.heap;
            heap_words = w.heap_words;
            heap_bytes = w.heap_bytes;
          };
        },
      )
      | on_heap i is lt at ↦ (
        heap_set m i v,
        store_by m a v (in_heap i) even at,
        record {
          there = ap (λ b. load (heap_set m i v) b) is ∙ stored_there m i v w lt (omega (arith, is, even));
          apart = λ b ne. stored_apart m i v b w.statics (omega (arith, is, even)) (λ same. ne (same ∙ sym is));
          heap = set_word_length m.heap i v;
          cells = λ b ne. refl;
          whole = record {
            statics = w.statics;
            static_words = w.static_words;
            static_bytes = w.static_bytes;
            heap = let l = set_word_length m.heap i v in let f = w.heap in omega (arith, l, f);
            heap_words = ap (λ n. n % 4) (set_word_length m.heap i v) ∙ w.heap_words;
            heap_bytes = set_word_small m.heap i v small w.heap_bytes;
          };
        },
      )
      | outside at ns none ↦
          let cell : cell_word (m.stack a) ≡ Some u = sym (load_by m a elsewhere even at) ∙ has in (
            put a (Has v) m,
            store_by m a v elsewhere even at ∙ opened (m.stack a) cell,
            record {
              there = put_there m a v even at;
              apart = λ b ne. put_apart m a (Has v) b ne;
              heap = refl;
              cells = λ b ne. ap (λ t. if t then Has v else m.stack b) (ne_eqb b a ne);
              whole = record {
                statics = w.statics;
                static_words = w.static_words;
                static_bytes = w.static_bytes;
                heap = w.heap;
                heap_words = w.heap_words;
                heap_bytes = w.heap_bytes;
              };
            },
          )
    ]
  where
    opened : (c : Cell) → cell_word c ≡ Some u → put_open c a v m ≡ Some (put a (Has v) m)
    opened Closed e = cc
    opened Unset e = cc
    opened (Has x) e = refl
    opened (Kept x) e = cc

-- a slot of an open frame that holds nothing yet
pub can_lay : (m : Memory) (a v : ℕ) → IsWhole m → a % 4 ≡ 0 → heap_base + length m.heap ≤ a → m.stack a ≢ Closed →
    (store m a v ≡ Some (put a (Has v) m)) × IsStored m (put a (Has v) m) a v
can_lay m a v w even high laid =
    let at = spot_above m a w.statics high in (
      store_cell m a v even at laid,
      record {
        there = put_there m a v even at;
        apart = λ b ne. put_apart m a (Has v) b ne;
        heap = refl;
        cells = λ b ne. ap (λ t. if t then Has v else m.stack b) (ne_eqb b a ne);
        whole = record {
          statics = w.statics;
          static_words = w.static_words;
          static_bytes = w.static_bytes;
          heap = w.heap;
          heap_words = w.heap_words;
          heap_bytes = w.heap_bytes;
        };
      },
    )
