-- `getchar`.
use Rattle.std.proofs.Common.{ℕ, ◌+◌, ◌<◌, ◌≤◌, List, [], ◌∷◌, length, refl, arith}
use Rattle.std.specs.Prelude.{All, take, drop}
use Rattle.tg_machine_state.specs.declared.ends.RunEnd.TheVariants.{HeapFull}
use Rattle.tg_machine_state.specs.State.{heap_base}
use Rattle.tg_simulation.specs.Runs.{Run}
use Rattle.tg_simulation.specs.Ran.{Ran, Ended}
use Rattle.tg_simulation.specs.laws.Simulating.{Comes}
use Rattle.tg_simulation.proofs.Simulations.{comes_itself}
use Rattle.tg_tree.specs.declared.operators.Rel.TheVariants.{Less}
use Rattle.tg_tree.specs.Tree.{Const, Temp, Ts}
use Rattle.tg_tree.specs.Actions.{World, set_temp, Next, over}
use Rattle.tg_tree.specs.Running.{no_temps}
use Rattle.tg_runtime.specs.declared.routines.Routine.TheVariants as routine
use Rattle.tg_runtime.specs.mirror.Routines.{minus_one, getchar, take_string, string_of_byte}
use Rattle.tg_tree.specs.Memory.{string_block}
use Rattle.tg_runtime_proof.specs.Settings.{does}
use Rattle.tg_runtime_proof.specs.laws.Serving.{Makes, first_of, with_block, with_input}
use Rattle.tg_runtime_proof.proofs.Coming.{return_comes, comes_within}
use Rattle.tg_runtime_proof.proofs.Acting.{rest, sequence_of, chosen_comes, other_comes, read_comes}
use Rattle.tg_runtime_proof.proofs.Signs.{not_negative}
use Rattle.tg_runtime_proof.proofs.ByteStrings.{byte_string_comes, byte_string_full, no_string_comes, no_string_full}
use Rattle.tg_runtime_proof.proofs.Serves.{Situation, Inside, setting_in, Entry, makes, off}

abbrev body : Ts
body = getchar 0 1

abbrev entry : Entry
entry = record {
  one = routine.Getchar;
  homes = [];
  temps = 2;
  body = body;
  words = [];
  begun = no_temps;
  found = refl;
  many = refl;
  same = λ top w. refl;
  there = refl;
}

module _ (call : Situation) where
  abbrev w : World
  w = call.world

  abbrev at : ℕ
  at = heap_base + length w.memory.heap

  abbrev next : Inside call.host → ℕ → Next
  next inside j = rest (setting_in call.host inside) j body inside.around off

  -- after the read
  abbrev behind_read : Inside call.host → (input : List ℕ) → Run Ran
  behind_read inside input = next inside 1 (with_input (drop 1 input) w) (set_temp 0 (first_of input) no_temps)

  made : (input : List ℕ) → All (λ b. b < 256) input →
      length w.memory.heap + length (string_block (take 1 input)) ≤ call.host.room →
      (inside : Inside call.host) →
      Comes 48 (behind_read inside input)
      (inside.around.back at (with_block (string_block (take 1 input)) (with_input (drop 1 input) w)))
  made [] small fits inside =
      let here = setting_in call.host inside in
      let z = inside.around in
      let t = set_temp 0 minus_one no_temps in
      let v = with_input [] w in
      let e = z.back at (with_block (string_block []) v) in
      comes_within _ 48 _ e (omega arith)
      (chosen_comes here _ minus_one 0 Less (Temp 0) (Const 0) (take_string 1 (Const 4) (Const 0))
      (string_of_byte 1 0) z
      (next inside 2) v t e tt tt refl refl refl
      (no_string_comes here z (next inside 2) v call.memory t 16 e (omega (arith, fits))
      (return_comes here 0 at (Temp 1) z (next inside 3) (with_block (string_block []) v) (set_temp 1 at t) e tt refl
      (comes_itself e))))
  made (b ∷ left) small fits inside =
      let here = setting_in call.host inside in
      let z = inside.around in
      let t = set_temp 0 b no_temps in
      let v = with_input left w in
      let e = z.back at (with_block (string_block (b ∷ [])) v) in
      let lt : b < 256 = small 0 0 (omega arith) in
      comes_within _ 48 _ e (omega arith)
      (other_comes here _ b 0 Less (Temp 0) (Const 0) (take_string 1 (Const 4) (Const 0)) (string_of_byte 1 0) z
      (next inside 2) v t e tt tt refl refl (not_negative b (omega (arith, lt)))
      (byte_string_comes here z (next inside 2) v call.memory t b 16 e lt refl (omega (arith, fits))
      (return_comes here 0 at (Temp 1) z (next inside 3) (with_block (string_block (b ∷ [])) v)
      (set_temp 1 at t) e tt refl
      (comes_itself e))))

  full : (input : List ℕ) → All (λ b. b < 256) input →
      call.host.room < length w.memory.heap + length (string_block (take 1 input)) →
      (inside : Inside call.host) →
      Comes 48 (behind_read inside input) (over (Ended HeapFull) (with_input (drop 1 input) w))
  full [] small much inside =
      let here = setting_in call.host inside in
      let t = set_temp 0 minus_one no_temps in
      let v = with_input [] w in
      let e : Run Ran = over (Ended HeapFull) v in
      comes_within _ 48 _ e (omega arith)
      (chosen_comes here _ minus_one 0 Less (Temp 0) (Const 0) (take_string 1 (Const 4) (Const 0)) (string_of_byte 1 0)
      inside.around (next inside 2) v t e tt tt refl refl refl
      (no_string_full here inside.around (next inside 2) v call.memory t (omega (arith, much))))
  full (b ∷ left) small much inside =
      let here = setting_in call.host inside in
      let t = set_temp 0 b no_temps in
      let v = with_input left w in
      let e : Run Ran = over (Ended HeapFull) v in
      let lt : b < 256 = small 0 0 (omega arith) in
      comes_within _ 48 _ e (omega arith)
      (other_comes here _ b 0 Less (Temp 0) (Const 0) (take_string 1 (Const 4) (Const 0)) (string_of_byte 1 0)
      inside.around (next inside 2) v t e tt tt refl refl (not_negative b (omega (arith, lt)))
      (byte_string_full here inside.around (next inside 2) v call.memory t (omega (arith, much))))

  -- a byte is read, and what is after it comes to this
  reads_first : (inside : Inside call.host) (e : Run Ran) → Comes 48 (behind_read inside w.input) e →
      Comes 59 (does (setting_in call.host inside) body inside.around off w no_temps) e
  reads_first inside e c =
      let here = setting_in call.host inside in
      comes_within _ 59 _ e (omega arith)
      (sequence_of here _ body inside.around off w no_temps e refl
      (read_comes here 48 0 0 (Const 0) inside.around (next inside 1) w no_temps e tt refl c))

  pub reads : All (λ b. b < 256) w.input →
      Makes call.host 0 routine.Getchar [] w (with_input (drop 1 w.input) w) (string_block (take 1 w.input))
  reads small =
      let v = with_input (drop 1 w.input) w in
      let block = string_block (take 1 w.input) in
      makes call entry 0 59 59 (length block) v block (omega arith) (omega arith) refl
      (λ much inside. reads_first inside (over (Ended HeapFull) v) (full w.input small much inside))
      (λ fits inside. reads_first inside (inside.around.back at (with_block block v)) (made w.input small fits inside))
