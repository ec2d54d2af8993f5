-- What `substring` and `concat` share: room for a string of some length, and copies of bytes and words.
use Rattle.std.proofs.Common.{◌≡◌, ℕ, suc, ◌+◌, ◌*◌, ◌/◌, ◌<◌, ◌≤◌, ◌^◌, List, [], ◌∷◌, ◌++◌, length, Some, refl, ap}
use Rattle.std.proofs.Common.{◌∙◌, arith}
use Rattle.std.specs.Prelude.{replicate}
use Rattle.std.proofs.lemmas.Bool.{lt-ltb, le-ltb}
use Rattle.tg_machine_state.specs.declared.ends.RunEnd.TheVariants.{HeapFull}
use Rattle.tg_base.specs.Words.{add}
use Rattle.tg_machine_state.specs.Services.{whole_words}
use Rattle.tg_machine_state.specs.State.{heap_base}
use Rattle.tg_simulation.specs.Runs.{Run}
use Rattle.tg_simulation.specs.Ran.{Ran, Ended}
use Rattle.tg_simulation.specs.laws.Simulating.{Comes}
use Rattle.tg_tree.specs.Tree.{Const, Temp, Load, LoadByte, Ts, Store, StoreByte}
use Rattle.tg_tree.specs.Forms.{stms}
use Rattle.tg_tree.specs.Memory.{Memory, load, load_byte, store, store_byte}
use Rattle.tg_tree.specs.FlatValue.{or_wrong}
use Rattle.tg_tree.specs.Actions.{World, Temps, set_temp, Around, Next, over}
use Rattle.tg_runtime.specs.mirror.Routines.{plus, advance, take_string}
use Rattle.tg_runtime_proof.specs.Memories.{IsMemory}
use Rattle.tg_runtime_proof.specs.Settings.{Setting, does}
use Rattle.tg_runtime_proof.specs.laws.Serving.{with_block}
use Rattle.tg_runtime_proof.proofs.Coming.{store_comes, store_byte_comes, advance_comes, loaded, loaded_byte}
use Rattle.tg_runtime_proof.proofs.Coming.{summed, comes_within}
use Rattle.tg_runtime_proof.proofs.Acting.{after, behind, rest, sequence_of, take_comes, full_comes, grown}
use Rattle.tg_runtime_proof.proofs.Bytes.{word_bytes}
use Rattle.tg_runtime_proof.proofs.Memories.{blocked, store_in_block}

-- bytes that a string of this length takes after the word of its length
abbrev pub space_of : ℕ → ℕ
space_of n = (n + 3) / 4 * 4

-- of length n, which a temporary has
module _ (setting : Setting) (z : Around) (next : Next) (w : World) (memory : IsMemory setting.room w.memory)
    (t : Temps)
    (string long n : ℕ) (has : t long ≡ Some n) (below : n < 2 ^ 31) where
  abbrev at : ℕ
  at = heap_base + length w.memory.heap

  abbrev taking : Ts
  taking = take_string string (plus (Temp long) 4) (Temp long)

  asked : add n 4 ≡ 4 + n
  asked = omega (arith, below)

  pub room_comes : (k : ℕ) (e : Run Ran) → length w.memory.heap + (4 + space_of n) ≤ setting.room →
      set_temp string at t string ≡ Some at → set_temp string at t long ≡ Some n →
      Comes k (next (with_block (word_bytes n ++ replicate (space_of n) 0) w) (set_temp string at t)) e →
      Comes (13 + k) (does setting taking z next w t) e
  room_comes k e fits there still c =
      let few = memory.whole.statics in
      let even = memory.whole.heap_words in
      let w1 = grown (whole_words (4 + n)) w in
      let zeros : whole_words (4 + n) ≡ suc (suc (suc (suc (space_of n)))) = omega arith in
      let taken : whole_words (4 + n) ≡ 4 + space_of n = omega arith in
      let m = blocked (word_bytes n ++ replicate (space_of n) 0) w.memory in
      let put : store w1.memory at n ≡ Some m =
      ap (λ k. store (blocked (replicate k 0) w.memory) at n) zeros ∙
      store_in_block w.memory [] (replicate (space_of n) 0) 0 0 0 0 n 0 at few even refl refl (omega arith) in
      comes_within _ (13 + k) _ e (omega arith)
      (sequence_of setting _ taking z next w t e refl
      (take_comes setting _ string (4 + n) (plus (Temp long) 4) z (rest setting 1 taking z next) w t e (tt, tt)
      (summed setting (Temp long) (Const 4) n 4 (4 + n) z w t (ap or_wrong has) refl asked)
      (le-ltb setting.room (length w.memory.heap + whole_words (4 + n)) (omega (arith, fits, taken)))
      (store_comes setting k at n (Temp string) (Temp long) z next w1 (set_temp string at t) e m tt tt
      (ap or_wrong there) (ap or_wrong still) put c)))

  pub no_room_comes : setting.room < length w.memory.heap + (4 + space_of n) →
      Comes 12 (does setting taking z next w t) (over (Ended HeapFull) w)
  no_room_comes much =
      let e : Run Ran = over (Ended HeapFull) w in
      let taken : whole_words (4 + n) ≡ 4 + space_of n = omega arith in
      sequence_of setting 12 taking z next w t e refl
      (full_comes setting string (4 + n) (plus (Temp long) 4) z (rest setting 1 taking z next) w t (tt, tt)
      (summed setting (Temp long) (Const 4) n 4 (4 + n) z w t (ap or_wrong has) refl asked)
      (lt-ltb setting.room (length w.memory.heap + whole_words (4 + n)) (omega (arith, much, taken))))

-- A turn of a copy: what is at the address p goes to the address q.
module _ (setting : Setting) (from to p q v p1 q1 : ℕ) (m : Memory) (z : Around) (go : Next) (w : World) (t : Temps)
    (k : ℕ) (e : Run Ran) (at : t from ≡ Some p) (other : t to ≡ Some q) where
  abbrev byte_turn : List Ts
  byte_turn = StoreByte (Temp to) (LoadByte (Temp from)) ∷ advance from 1 ∷ advance to 1 ∷ []

  abbrev word_turn : List Ts
  word_turn = Store (Temp to) (Load (Temp from)) ∷ advance from 4 ∷ advance to 4 ∷ []

  pub byte_copied : load_byte w.memory p ≡ Some v → store_byte w.memory q v ≡ Some m →
      add p 1 ≡ p1 → add q 1 ≡ q1 → set_temp from p1 t to ≡ Some q →
      Comes k (go (record w { memory = m }) (set_temp to q1 (set_temp from p1 t))) e →
      Comes (12 + k) (after setting (stms byte_turn) z go w t) e
  byte_copied got put sum sum2 still c =
      let w1 = record w { memory = m } in
      comes_within (1 + (0 + (1 + (5 + (5 + k))))) (12 + k) _ e (omega arith)
      (store_byte_comes setting (5 + (5 + k)) q v (Temp to) (LoadByte (Temp from)) z
      (after setting (behind 1 (stms byte_turn)) z go)
      w t e m tt tt (ap or_wrong other) (loaded_byte setting from p v z w t at got) put
      (advance_comes setting (5 + k) from 1 p p1 z (after setting (behind 2 (stms byte_turn)) z go) w1 t e at sum
      (advance_comes setting k to 1 q q1 z go w1 (set_temp from p1 t) e still sum2 c)))

  pub word_copied : load w.memory p ≡ Some v → store w.memory q v ≡ Some m →
      add p 4 ≡ p1 → add q 4 ≡ q1 → set_temp from p1 t to ≡ Some q →
      Comes k (go (record w { memory = m }) (set_temp to q1 (set_temp from p1 t))) e →
      Comes (12 + k) (after setting (stms word_turn) z go w t) e
  word_copied got put sum sum2 still c =
      let w1 = record w { memory = m } in
      comes_within (1 + (0 + (1 + (5 + (5 + k))))) (12 + k) _ e (omega arith)
      (store_comes setting (5 + (5 + k)) q v (Temp to) (Load (Temp from)) z
      (after setting (behind 1 (stms word_turn)) z go)
      w t e m tt tt (ap or_wrong other) (loaded setting from p v z w t at got) put
      (advance_comes setting (5 + k) from 4 p p1 z (after setting (behind 2 (stms word_turn)) z go) w1 t e at sum
      (advance_comes setting k to 4 q q1 z go w1 (set_temp from p1 t) e still sum2 c)))
