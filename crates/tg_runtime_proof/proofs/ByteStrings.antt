-- Strings of one byte and of none, as `chr` and `getchar` make them.
use Rattle.std.proofs.Common.{◌≡◌, ℕ, ◌+◌, ◌%◌, ◌<◌, ◌≤◌, List, [], ◌∷◌, length, Some, refl, ap, arith, subst}
use Rattle.std.proofs.lemmas.Bool.{lt-ltb, le-ltb}
use Rattle.tg_machine_state.specs.declared.ends.RunEnd.TheVariants.{HeapFull}
use Rattle.tg_base.specs.Words.{add}
use Rattle.tg_machine_state.specs.State.{heap_base}
use Rattle.tg_simulation.specs.Runs.{Run}
use Rattle.tg_simulation.specs.Ran.{Ran, Ended}
use Rattle.tg_simulation.specs.laws.Simulating.{Comes}
use Rattle.tg_tree.specs.Tree.{Const, Temp}
use Rattle.tg_tree.specs.Operators.{word}
use Rattle.tg_tree.specs.FlatValue.{or_wrong}
use Rattle.tg_tree.specs.Actions.{World, Temps, set_temp, Around, Next, over}
use Rattle.tg_runtime.specs.mirror.Routines.{bytes_of, take_string, string_of_byte}
use Rattle.tg_tree.specs.Memory.{string_block}
use Rattle.tg_runtime_proof.specs.Memories.{IsMemory}
use Rattle.tg_runtime_proof.specs.Settings.{Setting, does}
use Rattle.tg_runtime_proof.specs.laws.Serving.{with_block}
use Rattle.tg_runtime_proof.proofs.Coming.{comes_within, store_comes, store_byte_comes}
use Rattle.tg_runtime_proof.proofs.Acting.{rest, sequence_of, take_comes, full_comes}
use Rattle.tg_runtime_proof.proofs.Memories.{blocked, store_in_block, store_byte_in_block}

-- the block of a byte's string
abbrev byte_block : ℕ → List ℕ
byte_block b = 1 ∷ 0 ∷ 0 ∷ 0 ∷ b ∷ 0 ∷ 0 ∷ 0 ∷ []

module _ (setting : Setting) (z : Around) (next : Next) (w : World) (memory : IsMemory setting.room w.memory)
    (t : Temps) where
  abbrev at : ℕ
  at = heap_base + length w.memory.heap

  -- after the string, which is to have its byte
  abbrev with_string : Next
  with_string = rest setting 1 (string_of_byte 1 0) z next

  pub byte_string_comes : (b k : ℕ) (e : Run Ran) → b < 256 → t 0 ≡ Some b → length w.memory.heap + 8 ≤ setting.room →
      Comes k (next (with_block (string_block (b ∷ [])) w) (set_temp 1 at t)) e →
      Comes (18 + k) (does setting (string_of_byte 1 0) z next w t) e
  byte_string_comes b k e lt has fits c =
      let few = memory.whole.statics in
      let even = memory.whole.heap_words in
      let most = memory.most in
      let t1 = set_temp 1 at t in
      let room = rest setting 1 (take_string 1 (Const 8) (Const 1)) z with_string in
      let zeros = with_block (0 ∷ 0 ∷ 0 ∷ 0 ∷ 0 ∷ 0 ∷ 0 ∷ 0 ∷ []) w in
      let same : b ≡ b % 256 = omega (arith, lt) in
      let sum : add at 4 ≡ at + 4 = omega (arith, fits, most) in
      let byte : Comes (1 + (3 + (0 + k))) (with_string (with_block (byte_block 0) w) t1) e =
      store_byte_comes setting k (at + 4) b (bytes_of 1) (Temp 0) z next (with_block (byte_block 0) w) t1 e
      (blocked (byte_block (b % 256)) w.memory) (tt, tt) tt (ap word sum) (ap or_wrong has)
      (store_byte_in_block w.memory (1 ∷ 0 ∷ 0 ∷ 0 ∷ []) (0 ∷ 0 ∷ 0 ∷ []) 0 b 4 (at + 4) few refl refl)
      (subst (λ c1. Comes k (next (with_block (byte_block c1) w) t1) e) same c) in
      let size : Comes (1 + (0 + (2 + (1 + (3 + (0 + k)))))) (room zeros t1) e =
      store_comes setting (1 + (3 + (0 + k))) at 1 (Temp 1) (Const 1) z with_string zeros t1 e
      (blocked (byte_block 0) w.memory) tt tt refl refl
      (store_in_block w.memory [] (0 ∷ 0 ∷ 0 ∷ 0 ∷ []) 0 0 0 0 1 0 at few even refl refl (omega arith)) byte in
      comes_within _ (18 + k) _ e (omega arith)
      (sequence_of setting _ (string_of_byte 1 0) z next w t e refl
      (sequence_of setting _ (take_string 1 (Const 8) (Const 1)) z with_string w t e refl
      (take_comes setting _ 1 8 (Const 8) z room w t e tt refl
      (le-ltb setting.room (length w.memory.heap + 8) (omega (arith, fits))) size)))

  pub byte_string_full : setting.room < length w.memory.heap + 8 →
      Comes 11 (does setting (string_of_byte 1 0) z next w t) (over (Ended HeapFull) w)
  byte_string_full much =
      let e : Run Ran = over (Ended HeapFull) w in
      sequence_of setting 11 (string_of_byte 1 0) z next w t e refl
      (sequence_of setting 11 (take_string 1 (Const 8) (Const 1)) z with_string w t e refl
      (full_comes setting 1 8 (Const 8) z (rest setting 1 (take_string 1 (Const 8) (Const 1)) z with_string) w t tt refl
      (lt-ltb setting.room (length w.memory.heap + 8) (omega (arith, much)))))

  pub no_string_comes : (k : ℕ) (e : Run Ran) → length w.memory.heap + 4 ≤ setting.room →
      Comes k (next (with_block (string_block []) w) (set_temp 1 at t)) e →
      Comes (14 + k) (does setting (take_string 1 (Const 4) (Const 0)) z next w t) e
  no_string_comes k e fits c =
      let few = memory.whole.statics in
      let even = memory.whole.heap_words in
      let zeros = with_block (0 ∷ 0 ∷ 0 ∷ 0 ∷ []) w in
      comes_within _ (14 + k) _ e (omega arith)
      (sequence_of setting _ (take_string 1 (Const 4) (Const 0)) z next w t e refl
      (take_comes setting _ 1 4 (Const 4) z (rest setting 1 (take_string 1 (Const 4) (Const 0)) z next) w t e tt refl
      (le-ltb setting.room (length w.memory.heap + 4) (omega (arith, fits)))
      (store_comes setting k at 0 (Temp 1) (Const 0) z next zeros (set_temp 1 at t) e
      (blocked (string_block []) w.memory) tt tt refl refl
      (store_in_block w.memory [] [] 0 0 0 0 0 0 at few even refl refl (omega arith)) c)))

  pub no_string_full : setting.room < length w.memory.heap + 4 →
      Comes 11 (does setting (take_string 1 (Const 4) (Const 0)) z next w t) (over (Ended HeapFull) w)
  no_string_full much =
      let e : Run Ran = over (Ended HeapFull) w in
      sequence_of setting 11 (take_string 1 (Const 4) (Const 0)) z next w t e refl
      (full_comes setting 1 4 (Const 4) z (rest setting 1 (take_string 1 (Const 4) (Const 0)) z next) w t tt refl
      (lt-ltb setting.room (length w.memory.heap + 4) (omega (arith, much))))
