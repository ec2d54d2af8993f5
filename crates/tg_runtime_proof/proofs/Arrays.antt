-- Creation of an array, with all its ends.
use Rattle.std.proofs.Common.{◌≡◌, ℕ, zero, suc, ◌+◌, ◌-◌, ◌*◌, ◌^◌, ◌<◌, ◌≤◌, List, [], ◌∷◌, ◌++◌, length, Some}
use Rattle.std.proofs.Common.{true, false, refl, sym, ap, ◌∙◌, arith, subst, inl, inr}
use Rattle.std.specs.Prelude.{not, replicate}
use Rattle.std.specs.Int.{to_le_bytes, w32}
use Rattle.std.proofs.lemmas.Bool.{cases_lt, lt-ltb, le-ltb}
use Rattle.std.proofs.lemmas.List.{length-append, append_assoc, append-nil}
use Rattle.tg_machine_state.specs.declared.ends.RunEnd.TheVariants.{HeapFull, Break}
use Rattle.tg_base.specs.Words.{add, is_negative, shift_left}
use Rattle.tg_machine_state.specs.Services.{whole_words}
use Rattle.tg_machine_state.specs.State.{heap_base}
use Rattle.tg_simulation.specs.Runs.{Run}
use Rattle.tg_simulation.specs.Ran.{Ran, Ended}
use Rattle.tg_simulation.specs.laws.Simulating.{Comes}
use Rattle.tg_simulation.proofs.Simulations.{comes_itself}
use Rattle.tg_tree.specs.declared.operators.Bin.TheVariants.{Add, ShiftLeft}
use Rattle.tg_tree.specs.declared.operators.Rel.TheVariants.{Less, NotBelow}
use Rattle.tg_tree.specs.Tree.{Const, Temp, Binary, Service, Ts, Store, Do, Fault}
use Rattle.tg_tree.specs.Forms.{stms, nothing}
use Rattle.tg_tree.specs.Operators.{word}
use Rattle.tg_tree.specs.Memory.{store}
use Rattle.tg_tree.specs.FlatValue.{or_wrong}
use Rattle.tg_tree.specs.Actions.{World, Temps, set_temp, Around, Next, over, leaving}
use Rattle.tg_tree.specs.Running.{no_temps}
use Rattle.tg_runtime.specs.declared.routines.Routine.TheVariants as routine
use Rattle.tg_runtime.specs.mirror.Routines.{make_array, plus, minus_one, advance}
use Rattle.tg_runtime_proof.specs.Memories.{elements_block, array_block}
use Rattle.tg_runtime_proof.specs.Settings.{Setting, does}
use Rattle.tg_runtime_proof.specs.laws.Serving.{Serves, Makes, with_block}
use Rattle.tg_runtime_proof.proofs.Coming.{return_comes, store_comes, move_comes, advance_comes, comes_within}
use Rattle.tg_runtime_proof.proofs.Acting.{after, rest, sequence_of, chosen_comes, passed_comes, fault_comes}
use Rattle.tg_runtime_proof.proofs.Acting.{take_comes, full_comes, full_done, grown}
use Rattle.tg_runtime_proof.proofs.Walking.{Walk, walk_comes}
use Rattle.tg_runtime_proof.proofs.Bytes.{word_bytes, word_bytes_are}
use Rattle.tg_runtime_proof.proofs.Memories.{blocked, store_in_block}
use Rattle.tg_runtime_proof.proofs.Serves.{Situation, Inside, setting_in, Entry, two_homes, serves, makes, off}

-- Elements, and how many bytes they take.

pub elements_more : (i v : ℕ) → v < 2 ^ 32 → elements_block (suc i) v ≡ elements_block i v ++ word_bytes v
elements_more zero v small = word_bytes_are v small
elements_more (suc i) v small =
    ap (λ l. to_le_bytes w32 v ++ l) (elements_more i v small) ∙
    sym (append_assoc (to_le_bytes w32 v) (elements_block i v) (word_bytes v))

pub elements_length : (i v : ℕ) → length (elements_block i v) ≡ 4 * i
elements_length zero v = refl
elements_length (suc i) v =
    let e = length-append (to_le_bytes w32 v) (elements_block i v) in
    let h = elements_length i v in
    omega (arith, e, h)

pub array_length : (n v : ℕ) → length (array_block n v) ≡ 4 + 4 * n
array_length n v =
    let e = length-append (to_le_bytes w32 n) (elements_block n v) in
    let h = elements_length n v in
    omega (arith, e, h)

abbrev body : Ts
body = make_array 0 1 2 3 4

abbrev begun : (n v : ℕ) → Temps
begun n v = set_temp 1 v (set_temp 0 n no_temps)

abbrev entry : (n v : ℕ) → Entry
entry n v = record {
  one = routine.MakeArray;
  homes = two_homes;
  temps = 5;
  body = body;
  words = n ∷ v ∷ [];
  begun = begun n v;
  found = refl;
  many = refl;
  same = λ top w. refl;
  there = refl;
}

-- of n elements, each of which is v
module _ (call : Situation) (n v : ℕ) where
  abbrev w : World
  w = call.world

  abbrev at : ℕ
  at = heap_base + length w.memory.heap

  -- the block after so many turns
  abbrev filled : ℕ → List ℕ
  filled i = (word_bytes n ++ elements_block i v) ++ replicate (4 * (n - i)) 0

  record IsFilled (i : ℕ) (w1 : World) (t : Temps) : Type 0 where
    pub world : w1 ≡ with_block (filled i) w
    pub here : t 3 ≡ Some (at + 4 * i)
    pub end : t 4 ≡ Some (at + 4 * n)
    pub value : t 1 ≡ Some v
    pub made : t 2 ≡ Some at

  -- a turn's store
  stored : v < 2 ^ 32 → (i : ℕ) → i < n →
      store (blocked (filled i) w.memory) (at + 4 * (i + 1)) v ≡ Some (blocked (filled (i + 1)) w.memory)
  stored v_small i lt =
      let more : 4 * (n - i) ≡ suc (suc (suc (suc (4 * (n - (i + 1)))))) = omega (arith, lt) in
      let next : i + 1 ≡ suc i = omega arith in
      let left = replicate {A = ℕ} (4 * (n - (i + 1))) 0 in
      let p = word_bytes n ++ elements_block i v in
      let front : length p ≡ 4 + length (elements_block i v) = length-append (word_bytes n) (elements_block i v) in
      let el = elements_length i v in
      let start : filled i ≡ p ++ 0 ∷ 0 ∷ 0 ∷ 0 ∷ left = ap (λ k. p ++ replicate k 0) more in
      let finish : p ++ (word_bytes v ++ left) ≡ filled (i + 1) =
      sym (append_assoc p (word_bytes v) left) ∙
      ap (λ l. l ++ left) (append_assoc (word_bytes n) (elements_block i v) (word_bytes v) ∙
      ap (λ l. word_bytes n ++ l) (sym (elements_more i v v_small) ∙ ap (λ j. elements_block j v) (sym next))) in
      ap (λ b. store (blocked b w.memory) (at + 4 * (i + 1)) v) start ∙
      (store_in_block w.memory p left 0 0 0 0 v (4 + 4 * i) (at + 4 * (i + 1)) call.memory.whole.statics
      call.memory.whole.heap_words (omega (arith, front, el)) (omega arith) (omega arith) ∙
      ap (λ b. Some (blocked b w.memory)) finish)

  turns : v < 2 ^ 32 → length w.memory.heap + (4 + 4 * n) ≤ call.host.room →
      (setting : Setting) (z : Around) (e : Run Ran) (i : ℕ) → i < n →
      (w1 : World) (t : Temps) → IsFilled i w1 t → (go : Next) (k : ℕ) →
      ((w2 : World) (t2 : Temps) → IsFilled (i + 1) w2 t2 → Comes k (go w2 t2) e) →
      Comes (6 + k) (after setting (stms (advance 3 4 ∷ Store (Temp 3) (Temp 1) ∷ [])) z go w1 t) e
  turns v_small fits setting z e i lt w1 t h go k c =
      let most = call.memory.most in
      let to = at + 4 * (i + 1) in
      let t2 = set_temp 3 to t in
      let m = blocked (filled (i + 1)) w.memory in
      let sum : add (at + 4 * i) 4 ≡ to = omega (arith, lt, fits, most) in
      let put : store w1.memory to v ≡ Some m =
      ap (λ (u : World). store u.memory to v) h.world ∙ stored v_small i lt in
      let world : record w1 { memory = m } ≡ with_block (filled (i + 1)) w =
      ap (λ (u : World). record u { memory = m }) h.world in
      comes_within (5 + (1 + (0 + (0 + k)))) (6 + k) _ e (omega arith)
      (advance_comes setting (1 + (0 + (0 + k))) 3 4 (at + 4 * i) to z
      (after setting (stms (Store (Temp 3) (Temp 1) ∷ [])) z go)
      w1 t e h.here sum
      (store_comes setting k to v (Temp 3) (Temp 1) z go w1 t2 e m tt tt refl (ap or_wrong h.value) put
      (c (record w1 { memory = m }) t2
      (record { world = world; here = refl; end = h.end; value = h.value; made = h.made }))))

  module _ (inside : Inside call.host) where
    abbrev here : Setting
    here = setting_in call.host inside

    abbrev z : Around
    z = inside.around

    abbrev next : ℕ → Next
    next j = rest here j body z off

    abbrev with_end : Temps
    with_end = set_temp 4 (4 * n) (begun n v)

    -- after the test of the size
    begins : (k : ℕ) (e : Run Ran) → is_negative n ≡ false →
        Comes k (next 1 w (begun n v)) e → Comes (10 + k) (does here body z off w (begun n v)) e
    begins k e sign c =
        comes_within (8 + (0 + (2 + k))) (10 + k) _ e (omega arith)
        (sequence_of here (8 + (0 + (2 + k))) body z off w (begun n v) e refl
        (passed_comes here k n 0 Less (Temp 0) (Const 0) (Fault 6) z (next 1) w (begun n v) e tt tt refl refl sign c))

    -- a size that heaps have asks for so many bytes
    asks : (k : ℕ) (e : Run Ran) → is_negative n ≡ false → n < 67108864 →
        Comes k (next 3 w with_end) e → Comes (25 + k) (does here body z off w (begun n v)) e
    asks k e sign few c =
        let shifted : shift_left n 2 ≡ 4 * n = omega (arith, few) in
        comes_within _ (25 + k) _ e (omega arith)
        (begins _ e sign
        (passed_comes here _ n 67108864 NotBelow (Temp 0) (Const 67108864) (Do (Service 9 (Const minus_one))) z
        (next 2) w
        (begun n v) e tt tt refl refl (ap not (lt-ltb n 67108864 few))
        (move_comes here k 4 (4 * n) (Binary ShiftLeft (Temp 0) (Const 2)) z (next 3) w (begun n v) e (tt, tt)
        (ap word shifted) c)))

    array_full : is_negative n ≡ false → n < 2 ^ 32 → call.host.room < length w.memory.heap + (4 + 4 * n) →
        Comes 70 (does here body z off w (begun n v)) (over (Ended HeapFull) w)
    array_full sign n_small much =
        let most = call.memory.most in
        let e : Run Ran = over (Ended HeapFull) w in
        let whole : whole_words (4 + 4 * n) ≡ 4 + 4 * n = omega arith in
        elim (cases_lt n 67108864) [
          | inl few ↦
              let asked : add (4 * n) 4 ≡ 4 + 4 * n = omega (arith, few) in
              comes_within _ 70 _ e (omega arith)
              (asks _ e sign few
              (full_comes here 2 (4 + 4 * n) (plus (Temp 4) 4) z (next 4) w with_end (tt, tt) (ap word asked)
              (lt-ltb call.host.room (length w.memory.heap + whole_words (4 + 4 * n)) (omega (arith, much, whole)))))
          | inr many ↦
              comes_within _ 70 _ e (omega arith)
              (begins _ e sign
              (chosen_comes here _ n 67108864 NotBelow (Temp 0) (Const 67108864)
              (Do (Service 9 (Const minus_one))) nothing z
              (next 2) w (begun n v) e tt tt refl refl (ap not (le-ltb n 67108864 many))
              (full_done here minus_one (Const minus_one) z (next 2) w (begun n v) tt refl
              (lt-ltb call.host.room (length w.memory.heap + 4294967296) (omega (arith, most))))))
        ]

    -- after the last turn
    ends : n < 2 ^ 32 → (w3 : World) (t : Temps) → IsFilled n w3 t →
        Comes 16 (next 8 w3 t) (z.back at (with_block (array_block n v) w))
    ends n_small w3 t h =
        let e = z.back at (with_block (array_block n v) w) in
        let none : 4 * (n - n) ≡ 0 = omega arith in
        let same : w3 ≡ with_block (array_block n v) w =
        h.world ∙ ap (λ b. with_block b w) (ap (λ k. (word_bytes n ++ elements_block n v) ++ replicate k 0) none ∙
        (append-nil (word_bytes n ++ elements_block n v) ∙
        ap (λ l. l ++ elements_block n v) (sym (word_bytes_are n n_small)))) in
        return_comes here 0 at (Temp 2) z (next 9) w3 t e tt (ap or_wrong h.made)
        (subst (λ (u : World). Comes 0 (z.back at u) e) (sym same) (comes_itself e))

    abbrev fills : v < 2 ^ 32 → n < 2 ^ 32 → length w.memory.heap + (4 + 4 * n) ≤ call.host.room →
        Walk here z (next 8) IsFilled
    fills v_small n_small fits =
        let e = z.back at (with_block (array_block n v) w) in
        record {
          at = 3;
          end = 4;
          turn = advance 3 4 ∷ Store (Temp 3) (Temp 1) ∷ [];
          turns = n;
          spent = 6;
          left = 16;
          address = λ i. at + 4 * i;
          gives = λ i. e;
          apart = λ i lt same. omega (arith, lt, same);
          at_is = λ i w1 t h. h.here;
          end_is = λ i w1 t h. h.end;
          turned = λ i lt w1 t h go k le c.
              turns v_small fits here (record z { out = leaving (next 8) z.out }) e i lt w1 t h go k c;
          rest = ends n_small;
        }

    array_body : v < 2 ^ 32 → n < 2 ^ 32 → is_negative n ≡ false →
        length w.memory.heap + (4 + 4 * n) ≤ call.host.room →
        Comes (18 * n + 70) (does here body z off w (begun n v)) (z.back at (with_block (array_block n v) w))
    array_body v_small n_small sign fits =
        let few = call.memory.whole.statics in
        let even = call.memory.whole.heap_words in
        let most = call.memory.most in
        let e = z.back at (with_block (array_block n v) w) in
        let t2 = set_temp 2 at with_end in
        let t3 = set_temp 3 at t2 in
        let t4 = set_temp 4 (at + 4 * n) t3 in
        let w1 = grown (whole_words (4 + 4 * n)) w in
        let w2 = with_block (word_bytes n ++ replicate (4 * n) 0) w in
        let asked : add (4 * n) 4 ≡ 4 + 4 * n = omega (arith, fits, most) in
        let sum : add (4 * n) at ≡ at + 4 * n = omega (arith, fits, most) in
        let whole : whole_words (4 + 4 * n) ≡ suc (suc (suc (suc (4 * n)))) = omega arith in
        let taken : whole_words (4 + 4 * n) ≡ 4 + 4 * n = omega arith in
        let start : at + 4 * 0 ≡ at = omega arith in
        let all : 4 * (n - 0) ≡ 4 * n = omega arith in
        let first : store w1.memory at n ≡ Some w2.memory =
        ap (λ k. store (blocked (replicate k 0) w.memory) at n) whole ∙
        store_in_block w.memory [] (replicate (4 * n) 0) 0 0 0 0 n 0 at few even refl refl (omega arith) in
        let walks : Comes ((12 + 6) * n + 11 + 16) (next 7 w2 t4) e =
        walk_comes here inside.steps z (next 8) IsFilled (fills v_small n_small fits) w2 t4 (record {
          world = ap (λ k. with_block (word_bytes n ++ replicate k 0) w) (sym all);
          here = ap (λ (k : ℕ). Some k) (sym start);
          end = refl;
          value = refl;
          made = refl;
        }) in
        comes_within _ (18 * n + 70) _ e (omega arith)
        (asks _ e sign (omega (arith, fits, most))
        (take_comes here _ 2 (4 + 4 * n) (plus (Temp 4) 4) z (next 4) w with_end e (tt, tt) (ap word asked)
        (le-ltb call.host.room (length w.memory.heap + whole_words (4 + 4 * n)) (omega (arith, fits, taken)))
        (store_comes here _ at n (Temp 2) (Temp 0) z (next 5) w1 t2 e w2.memory tt tt refl refl first
        (move_comes here _ 3 at (Temp 2) z (next 6) w2 t2 e tt refl
        (move_comes here _ 4 (at + 4 * n) (Binary Add (Temp 4) (Temp 2)) z (next 7) w2 t3 e (tt, tt) (ap word sum)
        walks)))))

    array_refused : is_negative n ≡ true → Comes 13 (does here body z off w (begun n v)) (over (Ended (Break 6)) w)
    array_refused sign =
        let e : Run Ran = over (Ended (Break 6)) w in
        comes_within _ 13 _ e (omega arith)
        (sequence_of here _ body z off w (begun n v) e refl
        (chosen_comes here 3 n 0 Less (Temp 0) (Const 0) (Fault 6) nothing z (next 1) w
        (begun n v) e tt tt refl refl sign
        (fault_comes here 6 z (next 1) w (begun n v))))

  pub makes_array : v < 2 ^ 32 → n < 2 ^ 32 → is_negative n ≡ false →
      Makes call.host n routine.MakeArray (n ∷ v ∷ []) w w (array_block n v)
  makes_array v_small n_small sign =
      makes call (entry n v) n 70 (18 * n + 70) (4 + 4 * n) w (array_block n v) (omega arith) (omega arith)
      (array_length n v)
      (λ much inside. array_full inside sign n_small much) (λ fits inside. array_body inside v_small n_small sign fits)

  pub refuses_size : is_negative n ≡ true →
      Serves call.host 0 routine.MakeArray (n ∷ v ∷ []) w (λ back. over (Ended (Break 6)) w)
  refuses_size sign =
      serves call (entry n v) 0 13 (λ back. over (Ended (Break 6)) w) (omega arith)
      (λ inside. array_refused inside sign)
