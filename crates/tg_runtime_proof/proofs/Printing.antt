-- `print`.
use Rattle.std.proofs.Common.{◌≡◌, ℕ, ◌+◌, ◌*◌, ◌%◌, ◌<◌, List, [], ◌∷◌, length, Some, refl, sym, ap, ◌∙◌, arith, subst}
use Rattle.std.specs.Prelude.{drop, slice_index}
use Rattle.std.proofs.lemmas.List.{drop_more, drop_all}
use Rattle.tg_base.specs.Words.{add}
use Rattle.tg_simulation.specs.Runs.{Run}
use Rattle.tg_simulation.specs.Ran.{Ran}
use Rattle.tg_simulation.specs.laws.Simulating.{Comes}
use Rattle.tg_simulation.proofs.Simulations.{comes_itself}
use Rattle.tg_tree.specs.declared.operators.Bin.TheVariants.{Add}
use Rattle.tg_tree.specs.Tree.{Const, Temp, Binary, Load, LoadByte, Service, Ts, Do}
use Rattle.tg_tree.specs.Forms.{stms}
use Rattle.tg_tree.specs.Operators.{word}
use Rattle.tg_tree.specs.Memory.{load_byte}
use Rattle.tg_tree.specs.Actions.{World, Temps, set_temp, Around, Next, leaving, written}
use Rattle.tg_tree.specs.Running.{no_temps}
use Rattle.tg_runtime.specs.declared.routines.Routine.TheVariants as routine
use Rattle.tg_runtime.specs.mirror.Routines.{print, advance, bytes_of}
use Rattle.tg_runtime_proof.specs.Memories.{IsStringAt}
use Rattle.tg_runtime_proof.specs.Settings.{Setting, does}
use Rattle.tg_runtime_proof.specs.laws.Serving.{Serves}
use Rattle.tg_runtime_proof.proofs.Coming.{return_comes, move_comes, advance_comes, summed, loaded, loaded_byte}
use Rattle.tg_runtime_proof.proofs.Coming.{comes_within}
use Rattle.tg_runtime_proof.proofs.Acting.{after, behind, rest, sequence_of, write_comes}
use Rattle.tg_runtime_proof.proofs.Walking.{Walk, walk_comes}
use Rattle.tg_runtime_proof.proofs.Strings.{string_length, string_byte, string_ends}
use Rattle.tg_runtime_proof.proofs.Serves.{Situation, Inside, setting_in, Entry, one_home, serves, off}

abbrev body : Ts
body = print 0 1 2

abbrev turn : List Ts
turn = Do (Service 11 (LoadByte (Temp 1))) ∷ advance 1 1 ∷ []

abbrev entry : ℕ → Entry
entry a = record {
  one = routine.Print;
  homes = one_home;
  temps = 3;
  body = body;
  words = a ∷ [];
  begun = set_temp 0 a no_temps;
  found = refl;
  many = refl;
  same = λ top w. refl;
  there = refl;
}

-- of a string x at the address a
module _ (call : Situation) (a : ℕ) (x : List ℕ) (s : IsStringAt call.world.memory a x) where
  abbrev w : World
  w = call.world

  abbrev n : ℕ
  n = length x

  record IsPrinted (i : ℕ) (w1 : World) (t : Temps) : Type 0 where
    pub world : w1 ≡ w
    pub at : t 1 ≡ Some (a + 4 + i)
    pub end : t 2 ≡ Some (a + 4 + n)

  -- what is still to be written, after so many turns
  abbrev left : Around → ℕ → Run Ran
  left z i = written (drop i x) (z.back 0 w)

  turns : (setting : Setting) (y z : Around) (i : ℕ) → i < n → (w1 : World) (t : Temps) → IsPrinted i w1 t →
      (go : Next) (k : ℕ) →
      ((w2 : World) (t2 : Temps) → IsPrinted (i + 1) w2 t2 → Comes k (go w2 t2) (left y (i + 1))) →
      Comes (13 + k) (after setting (stms turn) z go w1 t) (left y i)
  turns setting y z i lt w1 t h go k c =
      let low = string_ends w.memory a x call.memory.whole s in
      let v = slice_index x i in
      let small = s.each i 0 lt in
      let same : v % 256 ≡ v = omega (arith, small) in
      let is : v % 256 ∷ drop (i + 1) x ≡ drop i x = ap (λ u. u ∷ drop (i + 1) x) same ∙ sym (drop_more x i 0 lt) in
      let sum : add (a + 4 + i) 1 ≡ a + 4 + (i + 1) = omega (arith, lt, low) in
      let byte : load_byte w1.memory (a + 4 + i) ≡ Some v =
      ap (λ (u : World). load_byte u.memory (a + 4 + i)) h.world ∙ string_byte w.memory a i x call.memory.whole s lt in
      subst (λ l. Comes (13 + k) (after setting (stms turn) z go w1 t) (written l (y.back 0 w))) is
      (comes_within (7 + (1 + (5 + k))) (13 + k) _ (written (v % 256 ∷ drop (i + 1) x) (y.back 0 w)) (omega arith)
      (write_comes setting (5 + k) v (LoadByte (Temp 1)) z (after setting (behind 1 (stms turn)) z go) w1 t
      (left y (i + 1)) tt
      (loaded_byte setting 1 (a + 4 + i) v z w1 t h.at byte)
      (advance_comes setting k 1 1 (a + 4 + i) (a + 4 + (i + 1)) z go w1 t (left y (i + 1)) h.at sum
      (c w1 (set_temp 1 (a + 4 + (i + 1)) t) (record { world = h.world; at = refl; end = h.end })))))

  module _ (inside : Inside call.host) where
    abbrev here : Setting
    here = setting_in call.host inside

    abbrev z : Around
    z = inside.around

    abbrev next : ℕ → Next
    next j = rest here j body z off

    abbrev prints_all : Walk here z (next 3) IsPrinted
    prints_all = record {
      at = 1;
      end = 2;
      turn = turn;
      turns = n;
      spent = 13;
      left = 18;
      address = λ i. a + 4 + i;
      gives = left z;
      apart = λ i lt same. omega (arith, lt, same);
      at_is = λ i w1 t h. h.at;
      end_is = λ i w1 t h. h.end;
      turned = λ i lt w1 t h go k le c. turns here z (record z { out = leaving (next 3) z.out }) i lt w1 t h go k c;
      rest = λ w1 t h.
          return_comes here 0 0 (Const 0) z (next 4) w1 t (left z n) tt refl
          (subst (λ l. Comes 0 (z.back 0 w1) (written l (z.back 0 w))) (sym (drop_all n x (omega arith)))
          (subst (λ (u : World). Comes 0 (z.back 0 u) (z.back 0 w)) (sym h.world) (comes_itself (z.back 0 w))));
    }

    print_body : Comes (25 * n + 38) (does here body z off w (set_temp 0 a no_temps)) (written x (z.back 0 w))
    print_body =
        let e = written x (z.back 0 w) in
        let low = string_ends w.memory a x call.memory.whole s in
        let t = set_temp 0 a no_temps in
        let t1 = set_temp 1 (a + 4) t in
        let t2 = set_temp 2 (a + 4 + n) t1 in
        let from : add a 4 ≡ a + 4 = omega (arith, low) in
        let ends : add (a + 4) n ≡ a + 4 + n = omega (arith, low) in
        let start : a + 4 ≡ a + 4 + 0 = omega arith in
        let walks : Comes ((12 + 13) * n + 11 + 18) (next 2 w t2) e =
        walk_comes here inside.steps z (next 3) IsPrinted prints_all w t2
        (record { world = refl; at = ap (λ (k : ℕ). Some k) start; end = refl }) in
        comes_within _ (25 * n + 38) _ e (omega arith)
        (sequence_of here _ body z off w t e refl
        (move_comes here _ 1 (a + 4) (bytes_of 0) z (next 1) w t e (tt, tt) (ap word from)
        (move_comes here _ 2 (a + 4 + n) (Binary Add (Temp 1) (Load (Temp 0))) z (next 2) w t1 e (tt, tt)
        (summed here (Temp 1) (Load (Temp 0)) (a + 4) n (a + 4 + n) z w t1 refl
        (loaded here 0 a n z w t1 refl (string_length w.memory a x call.memory.whole s)) ends) walks)))

  pub prints : Serves call.host n routine.Print (a ∷ []) w (λ back. written x (back 0 w))
  prints = serves call (entry a) n (25 * n + 38) (λ back. written x (back 0 w)) (omega arith) print_body
