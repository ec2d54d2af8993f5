-- `ord` and `chr`.
use Rattle.std.proofs.Common.{◌≡◌, ℕ, suc, ◌+◌, ◌<◌, ◌≤◌, List, [], ◌∷◌, length, true, false, refl, ap}
use Rattle.std.proofs.Common.{◌∙◌, arith, ne_eqb}
use Rattle.std.specs.Prelude.{not}
use Rattle.std.proofs.lemmas.Bool.{lt-ltb}
use Rattle.tg_machine_state.specs.declared.ends.RunEnd.TheVariants.{HeapFull, Break}
use Rattle.tg_base.specs.Words.{add}
use Rattle.tg_machine_state.specs.State.{heap_base}
use Rattle.tg_simulation.specs.Runs.{Run}
use Rattle.tg_simulation.specs.Ran.{Ran, Ended}
use Rattle.tg_simulation.specs.laws.Simulating.{Comes}
use Rattle.tg_simulation.proofs.Simulations.{comes_itself}
use Rattle.tg_semantics.specs.Operators.{is_below}
use Rattle.tg_tree.specs.declared.operators.Rel.TheVariants.{Equal, NotBelow}
use Rattle.tg_tree.specs.Tree.{Const, Temp, Load, LoadByte, Return, Fault}
use Rattle.tg_tree.specs.Forms.{nothing}
use Rattle.tg_tree.specs.Memory.{load_byte, string_block}
use Rattle.tg_tree.specs.FlatValue.{or_wrong}
use Rattle.tg_tree.specs.Actions.{World, Temps, set_temp, Next, over}
use Rattle.tg_tree.specs.Running.{no_temps}
use Rattle.tg_runtime.specs.declared.routines.Routine.TheVariants as routine
use Rattle.tg_runtime.specs.mirror.Routines.{minus_one, ord, chr, bytes_of, string_of_byte}
use Rattle.tg_runtime_proof.specs.Memories.{IsStringAt}
use Rattle.tg_runtime_proof.specs.Settings.{does}
use Rattle.tg_runtime_proof.specs.laws.Serving.{Serves, Makes, first_of, with_block}
use Rattle.tg_runtime_proof.proofs.Coming.{return_comes, comes_within}
use Rattle.tg_runtime_proof.proofs.Acting.{rest, sequence_of, chosen_comes, passed_comes, fault_comes}
use Rattle.tg_runtime_proof.proofs.Strings.{string_length, string_byte, string_ends}
use Rattle.tg_runtime_proof.proofs.Signs.{below_lt, not_below}
use Rattle.tg_runtime_proof.proofs.ByteStrings.{byte_string_comes, byte_string_full}
use Rattle.tg_runtime_proof.proofs.Serves.{Situation, Inside, setting_in, Entry, one_home, BodyComes, serves, makes}
use Rattle.tg_runtime_proof.proofs.Serves.{off}

-- the only parameter
abbrev begun : ℕ → Temps
begun v = set_temp 0 v no_temps

abbrev ord_entry : ℕ → Entry
ord_entry a = record {
  one = routine.Ord;
  homes = one_home;
  temps = 1;
  body = ord 0;
  words = a ∷ [];
  begun = begun a;
  found = refl;
  many = refl;
  same = λ top w. refl;
  there = refl;
}

abbrev chr_entry : ℕ → Entry
chr_entry i = record {
  one = routine.Chr;
  homes = one_home;
  temps = 2;
  body = chr 0 1;
  words = i ∷ [];
  begun = begun i;
  found = refl;
  many = refl;
  same = λ top w. refl;
  there = refl;
}

module _ (call : Situation) where
  abbrev w : World
  w = call.world

  -- The first byte of a string.

  ord_body : (a : ℕ) (x : List ℕ) → IsStringAt w.memory a x →
      BodyComes call (ord_entry a) 40 (λ back. back (first_of x) w)
  ord_body a [] s inside =
      let here = setting_in call.host inside in
      let z = inside.around in
      let e = z.back minus_one w in
      comes_within (8 + (1 + (2 + (16 + (2 + 0))))) 40 _ e (omega arith)
      (sequence_of here (8 + (1 + (2 + (16 + (2 + 0))))) (ord 0) z off w (begun a) e refl
      (chosen_comes here (16 + (2 + 0)) 0 0 Equal (Load (Temp 0)) (Const 0) (Return (Const minus_one)) nothing z
      (rest here 1 (ord 0) z off) w (begun a) e tt tt
      (ap or_wrong (string_length w.memory a [] call.memory.whole s)) refl refl
      (return_comes here 0 minus_one (Const minus_one) z (rest here 1 (ord 0) z off) w (begun a) e tt refl
      (comes_itself e))))
  ord_body a (b ∷ x) s inside =
      let here = setting_in call.host inside in
      let z = inside.around in
      let e = z.back b w in
      let ends = string_ends w.memory a (b ∷ x) call.memory.whole s in
      let sum : add a 4 ≡ a + 4 + 0 = omega (arith, ends) in
      comes_within (8 + (1 + (2 + (16 + (4 + 0))))) 40 _ e (omega arith)
      (sequence_of here (8 + (1 + (2 + (16 + (4 + 0))))) (ord 0) z off w (begun a) e refl
      (passed_comes here (16 + (4 + 0)) (suc (length x)) 0 Equal (Load (Temp 0)) (Const 0) (Return (Const minus_one)) z
      (rest here 1 (ord 0) z off) w (begun a) e tt tt
      (ap or_wrong (string_length w.memory a (b ∷ x) call.memory.whole s)) refl
      (ne_eqb (suc (length x)) 0 (omega arith))
      (return_comes here 0 b (LoadByte (bytes_of 0)) z (rest here 2 (ord 0) z off) w (begun a) e (tt, tt)
      (ap (λ u. or_wrong (load_byte w.memory u)) sum ∙
      ap or_wrong (string_byte w.memory a 0 (b ∷ x) call.memory.whole s (omega arith)))
      (comes_itself e))))

  pub gives_byte : (a : ℕ) (x : List ℕ) → IsStringAt w.memory a x →
      Serves call.host 0 routine.Ord (a ∷ []) w (λ back. back (first_of x) w)
  gives_byte a x s = serves call (ord_entry a) 0 40 (λ back. back (first_of x) w) (omega arith) (ord_body a x s)

  -- The string of a byte.

  abbrev next : Inside call.host → ℕ → Next
  next inside j = rest (setting_in call.host inside) j (chr 0 1) inside.around off

  -- a byte goes past the test
  chr_begins : (i k : ℕ) (e : Run Ran) (inside : Inside call.host) → i < 256 →
      Comes k (does (setting_in call.host inside) (string_of_byte 1 0) inside.around (next inside 2) w (begun i)) e →
      Comes (10 + k) (does (setting_in call.host inside) (chr 0 1) inside.around off w (begun i)) e
  chr_begins i k e inside lt c =
      let here = setting_in call.host inside in
      comes_within (8 + (0 + (2 + k))) (10 + k) _ e (omega arith)
      (sequence_of here (8 + (0 + (2 + k))) (chr 0 1) inside.around off w (begun i) e refl
      (passed_comes here k i 256 NotBelow (Temp 0) (Const 256) (Fault 4) inside.around (next inside 1) w
      (begun i) e tt tt
      refl refl (ap not (lt-ltb i 256 lt)) c))

  chr_full : (i : ℕ) → is_below i 256 ≡ true → call.host.room < length w.memory.heap + 8 →
      BodyComes call (chr_entry i) 44 (λ back. over (Ended HeapFull) w)
  chr_full i low much inside =
      let e : Run Ran = over (Ended HeapFull) w in
      comes_within (10 + 11) 44 _ e (omega arith)
      (chr_begins i 11 e inside (below_lt i 256 low)
      (byte_string_full (setting_in call.host inside) inside.around (next inside 2) w call.memory (begun i) much))

  chr_body : (i : ℕ) → is_below i 256 ≡ true → length w.memory.heap + 8 ≤ call.host.room →
      BodyComes call (chr_entry i) 44 (λ back. back (heap_base + length w.memory.heap)
      (with_block (string_block (i ∷ [])) w))
  chr_body i low fits inside =
      let here = setting_in call.host inside in
      let at = heap_base + length w.memory.heap in
      let made = with_block (string_block (i ∷ [])) w in
      let e = inside.around.back at made in
      let lt = below_lt i 256 low in
      comes_within (10 + (18 + (16 + (0 + 0)))) 44 _ e (omega arith)
      (chr_begins i (18 + (16 + (0 + 0))) e inside lt
      (byte_string_comes here inside.around (next inside 2) w call.memory (begun i) i (16 + (0 + 0)) e lt refl fits
      (return_comes here 0 at (Temp 1) inside.around (next inside 3) made (set_temp 1 at (begun i)) e tt refl
      (comes_itself e))))

  pub makes_byte : (i : ℕ) → is_below i 256 ≡ true →
      Makes call.host 0 routine.Chr (i ∷ []) w w (string_block (i ∷ []))
  makes_byte i low =
      makes call (chr_entry i) 0 44 44 8 w (string_block (i ∷ [])) (omega arith) (omega arith) refl
      (chr_full i low) (chr_body i low)

  chr_refuses : (i : ℕ) → is_below i 256 ≡ false → BodyComes call (chr_entry i) 13 (λ back. over (Ended (Break 4)) w)
  chr_refuses i high inside =
      let here = setting_in call.host inside in
      let e : Run Ran = over (Ended (Break 4)) w in
      comes_within _ 13 _ e (omega arith)
      (sequence_of here _ (chr 0 1) inside.around off w (begun i) e refl
      (chosen_comes here 3 i 256 NotBelow (Temp 0) (Const 256) (Fault 4) nothing inside.around (next inside 1) w
      (begun i) e
      tt tt refl refl (ap not (not_below i high)) (fault_comes here 4 inside.around (next inside 1) w (begun i))))

  pub refuses_byte : (i : ℕ) → is_below i 256 ≡ false →
      Serves call.host 0 routine.Chr (i ∷ []) w (λ back. over (Ended (Break 4)) w)
  refuses_byte i high =
      serves call (chr_entry i) 0 13 (λ back. over (Ended (Break 4)) w) (omega arith) (chr_refuses i high)
