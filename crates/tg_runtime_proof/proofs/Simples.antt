-- The functions without loop: `size`, `flush`, `not`, `exit`, and the creation of a record.
use Rattle.std.proofs.Common.{◌≡◌, ℕ, ◌+◌, ◌≤◌, ◌<◌, List, [], ◌∷◌, length, refl, sym, ap, arith, subst, inl}
use Rattle.std.proofs.Common.{inr, eq-eqb, ne_eqb}
use Rattle.std.specs.Prelude.{if◌then◌else◌, ◌==◌, replicate}
use Rattle.std.proofs.lemmas.Bool.{cases_eq, lt-ltb, le-ltb}
use Rattle.std.proofs.lemmas.List.{length-replicate}
use Rattle.tg_machine_state.specs.declared.ends.RunEnd.TheVariants.{HeapFull, Exit}
use Rattle.tg_base.specs.Words.{signed}
use Rattle.tg_machine_state.specs.Services.{whole_words}
use Rattle.tg_machine_state.specs.State.{heap_base}
use Rattle.tg_simulation.specs.Runs.{Run}
use Rattle.tg_simulation.specs.Ran.{Ran, Ended}
use Rattle.tg_simulation.specs.laws.Simulating.{Comes}
use Rattle.tg_simulation.proofs.Simulations.{comes_itself, comes_working}
use Rattle.tg_semantics.specs.Operators.{record_bytes}
use Rattle.tg_tree.specs.declared.operators.Rel.TheVariants.{Equal}
use Rattle.tg_tree.specs.Tree.{Const, Temp, Load, Return}
use Rattle.tg_tree.specs.Forms.{nothing}
use Rattle.tg_tree.specs.FlatValue.{or_wrong}
use Rattle.tg_tree.specs.Actions.{World, Temps, set_temp, Go, Next, over}
use Rattle.tg_tree.specs.Running.{no_temps}
use Rattle.tg_runtime.specs.declared.routines.Routine.TheVariants as routine
use Rattle.tg_runtime.specs.mirror.Routines as code
use Rattle.tg_runtime_proof.specs.Memories.{IsStringAt}
use Rattle.tg_runtime_proof.specs.laws.Serving.{Serves, Makes, with_block}
use Rattle.tg_runtime_proof.proofs.Coming.{return_comes, comes_within}
use Rattle.tg_runtime_proof.proofs.Acting.{rest, sequence_of, chosen_comes, passed_comes, service_comes}
use Rattle.tg_runtime_proof.proofs.Acting.{taken_comes, heap_full, grown}
use Rattle.tg_runtime_proof.proofs.Strings.{string_length}
use Rattle.tg_runtime_proof.proofs.Serves.{Situation, setting_in, Entry, one_home, BodyComes, serves, makes, off}

-- the only parameter
abbrev begun : ℕ → Temps
begun v = set_temp 0 v no_temps

abbrev size_entry : ℕ → Entry
size_entry a = record {
  one = routine.Size;
  homes = one_home;
  temps = 1;
  body = code.size 0;
  words = a ∷ [];
  begun = begun a;
  found = refl;
  many = refl;
  same = λ top w. refl;
  there = refl;
}

abbrev flush_entry : Entry
flush_entry = record {
  one = routine.Flush;
  homes = [];
  temps = 0;
  body = code.flush;
  words = [];
  begun = no_temps;
  found = refl;
  many = refl;
  same = λ top w. refl;
  there = refl;
}

abbrev not_entry : ℕ → Entry
not_entry i = record {
  one = routine.Not;
  homes = one_home;
  temps = 1;
  body = code.negation 0;
  words = i ∷ [];
  begun = begun i;
  found = refl;
  many = refl;
  same = λ top w. refl;
  there = refl;
}

abbrev exit_entry : ℕ → Entry
exit_entry i = record {
  one = routine.Exit;
  homes = one_home;
  temps = 1;
  body = code.exit 0;
  words = i ∷ [];
  begun = begun i;
  found = refl;
  many = refl;
  same = λ top w. refl;
  there = refl;
}

abbrev record_entry : ℕ → Entry
record_entry n = record {
  one = routine.MakeRecord;
  homes = one_home;
  temps = 1;
  body = code.make_record 0;
  words = record_bytes n ∷ [];
  begun = begun (record_bytes n);
  found = refl;
  many = refl;
  same = λ top w. refl;
  there = refl;
}

module _ (call : Situation) where
  abbrev w : World
  w = call.world

  pub gives_size : (a : ℕ) (x : List ℕ) → IsStringAt w.memory a x →
      Serves call.host 0 routine.Size (a ∷ []) w (λ back. back (length x) w)
  gives_size a x s =
      serves call (size_entry a) 0 17 (λ back. back (length x) w) (omega arith) (λ inside.
      return_comes (setting_in call.host inside) 0 (length x) (Load (Temp 0)) inside.around off w (begun a)
      (inside.around.back (length x) w) tt (ap or_wrong (string_length w.memory a x call.memory.whole s))
      (comes_itself (inside.around.back (length x) w)))

  pub flushes : Serves call.host 0 routine.Flush [] w (λ back. back 0 w)
  flushes =
      serves call flush_entry 0 18 (λ back. back 0 w) (omega arith) (λ inside.
      return_comes (setting_in call.host inside) 0 0 (Const 0) inside.around off w no_temps
      (inside.around.back 0 w) tt refl
      (comes_itself (inside.around.back 0 w)))

  not_body : (i : ℕ) → BodyComes call (not_entry i) 28 (λ back. back (if i == 0 then 1 else 0) w)
  not_body i inside =
      let here = setting_in call.host inside in
      let z = inside.around in
      let e = z.back (if i == 0 then 1 else 0) w in
      let t = begun i in
      let next : ℕ → Next = λ j. rest here j (code.negation 0) z off in
      comes_within _ 28 _ e (omega arith)
      (sequence_of here 28 (code.negation 0) z off w t e refl (elim (cases_eq i 0) [
        | inl eq ↦
            comes_within _ 28 _ e (omega arith)
            (chosen_comes here _ i 0 Equal (Temp 0) (Const 0) (Return (Const 1)) nothing z
            (next 1) w t e tt tt refl refl (eq-eqb i 0 eq)
            (return_comes here 0 1 (Const 1) z (next 1) w t e tt refl
            (subst (λ b. Comes 0 (z.back 1 w) (z.back (if b then 1 else 0) w)) (sym (eq-eqb i 0 eq))
            (comes_itself (z.back 1 w)))))
        | inr ne ↦
            comes_within _ 28 _ e (omega arith)
            (passed_comes here _ i 0 Equal (Temp 0) (Const 0) (Return (Const 1)) z (next 1) w t e tt tt refl refl
            (ne_eqb i 0 ne)
            (return_comes here 0 0 (Const 0) z (next 2) w t e tt refl
            (subst (λ b. Comes 0 (z.back 0 w) (z.back (if b then 1 else 0) w)) (sym (ne_eqb i 0 ne))
            (comes_itself (z.back 0 w)))))
      ]))

  pub negates : (i : ℕ) → Serves call.host 0 routine.Not (i ∷ []) w (λ back. back (if i == 0 then 1 else 0) w)
  negates i = serves call (not_entry i) 0 28 (λ back. back (if i == 0 then 1 else 0) w) (omega arith) (not_body i)

  exit_body : (i : ℕ) → BodyComes call (exit_entry i) 7 (λ back. over (Ended (Exit (signed i))) w)
  exit_body i inside =
      let here = setting_in call.host inside in
      let e : Run Ran = over (Ended (Exit (signed i))) w in
      let go : Go ℕ = λ v w1 t1. rest here 1 (code.exit 0) inside.around off w1 t1 in
      comes_within _ 7 _ e (omega arith)
      (sequence_of here _ (code.exit 0) inside.around off w (begun i) e refl
      (comes_working _ 0 _ e
      (service_comes here 0 17 i (Temp 0) inside.around go w (begun i) e tt refl (comes_itself e))))

  pub exits : (i : ℕ) → Serves call.host 0 routine.Exit (i ∷ []) w (λ back. over (Ended (Exit (signed i))) w)
  exits i = serves call (exit_entry i) 0 7 (λ back. over (Ended (Exit (signed i))) w) (omega arith) (exit_body i)

  -- a record's bytes are whole words already
  words_are : (n : ℕ) → whole_words (record_bytes n) ≡ record_bytes n
  words_are n = omega arith

  record_full : (n : ℕ) → call.host.room < length w.memory.heap + record_bytes n →
      BodyComes call (record_entry n) 23 (λ back. over (Ended HeapFull) w)
  record_full n much inside =
      let words = words_are n in
      comes_working 7 16 _ (over (Ended HeapFull) w)
      (heap_full (setting_in call.host inside) (record_bytes n) (Temp 0) inside.around
      (λ v w1 t1. inside.around.back v w1)
      w (begun (record_bytes n)) tt refl
      (lt-ltb call.host.room (length w.memory.heap + whole_words (record_bytes n)) (omega (arith, much, words))))

  record_body : (n : ℕ) → length w.memory.heap + record_bytes n ≤ call.host.room →
      BodyComes call (record_entry n) 23
      (λ back. back (heap_base + length w.memory.heap) (with_block (replicate (record_bytes n) 0) w))
  record_body n fits inside =
      let at = heap_base + length w.memory.heap in
      let e = inside.around.back at (with_block (replicate (record_bytes n) 0) w) in
      let words = words_are n in
      comes_working 7 16 _ e
      (taken_comes (setting_in call.host inside) 0 (record_bytes n) (Temp 0) inside.around
      (λ v w1 t1. inside.around.back v w1)
      w (begun (record_bytes n)) e tt refl
      (le-ltb call.host.room (length w.memory.heap + whole_words (record_bytes n)) (omega (arith, fits, words)))
      (subst (λ k. Comes 0 (inside.around.back at (grown k w)) e) (sym words) (comes_itself e)))

  pub makes_record : (n : ℕ) →
      Makes call.host 0 routine.MakeRecord (record_bytes n ∷ []) w w (replicate (record_bytes n) 0)
  makes_record n =
      makes call (record_entry n) 0 23 23 (record_bytes n) w (replicate (record_bytes n) 0) (omega arith) (omega arith)
      (length-replicate {A = ℕ} (record_bytes n) 0) (record_full n) (record_body n)
