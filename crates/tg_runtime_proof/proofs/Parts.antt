-- `substring`, with all its ends.
use Rattle.std.proofs.Common.{◌≡◌, ℕ, suc, ◌+◌, ◌-◌, ◌*◌, ◌%◌, ◌^◌, ◌<◌, ◌≤◌, List, [], ◌∷◌, ◌++◌, length, Some, Bool}
use Rattle.std.proofs.Common.{true, false, refl, sym, ap, ◌∙◌, arith, subst, inl, inr}
use Rattle.std.specs.Prelude.{if◌then◌else◌, nat_lt, ◌||◌, replicate, take, drop, slice_index}
use Rattle.std.proofs.lemmas.Bool.{cases_lt, lt-ltb, le-ltb, ltb-true, ltb-false}
use Rattle.std.proofs.lemmas.List.{length-append, append_assoc, length-take-le, length-drop, get_or-take, get_or-drop}
use Rattle.std.proofs.lemmas.List.{take_more, take_all}
use Rattle.tg_machine_state.specs.declared.ends.RunEnd.TheVariants.{HeapFull, Break}
use Rattle.tg_base.specs.Words.{add, sub, is_negative, less}
use Rattle.tg_machine_state.specs.State.{heap_base}
use Rattle.tg_simulation.specs.Runs.{Run}
use Rattle.tg_simulation.specs.Ran.{Ran, Ended}
use Rattle.tg_simulation.specs.laws.Simulating.{Comes}
use Rattle.tg_simulation.proofs.Simulations.{comes_itself}
use Rattle.tg_tree.specs.declared.operators.Bin.TheVariants.{Add, Sub}
use Rattle.tg_tree.specs.declared.operators.Rel.TheVariants.{Less, Greater}
use Rattle.tg_tree.specs.Tree.{Const, Temp, Load, LoadByte, Binary, Cond, Compare, Either, Ts, StoreByte, Fault}
use Rattle.tg_tree.specs.Forms.{stms, nothing}
use Rattle.tg_tree.specs.Operators.{word, operate}
use Rattle.tg_tree.specs.Memory.{store_byte, load_byte, string_block}
use Rattle.tg_tree.specs.FlatValue.{or_wrong, onward}
use Rattle.tg_tree.specs.Actions.{World, Temps, set_temp, Around, Next, over, leaving}
use Rattle.tg_tree.specs.Running.{no_temps}
use Rattle.tg_runtime.specs.declared.routines.Routine.TheVariants as routine
use Rattle.tg_runtime.specs.mirror.Routines as code
use Rattle.tg_runtime.specs.mirror.Routines.{substring, plus, advance, take_string, bytes_of}
use Rattle.tg_runtime_proof.specs.Memories.{IsStringAt}
use Rattle.tg_runtime_proof.specs.Settings.{Setting, does}
use Rattle.tg_runtime_proof.specs.laws.Serving.{Serves, Makes, is_outside, with_block}
use Rattle.tg_runtime_proof.proofs.Coming.{return_comes, move_comes, comes_within}
use Rattle.tg_runtime_proof.proofs.Acting.{after, rest, sequence_of, fault_comes, IsTested, compare_tested}
use Rattle.tg_runtime_proof.proofs.Acting.{either_tested, tested_comes, failed_comes}
use Rattle.tg_runtime_proof.proofs.Walking.{Walk, walk_comes}
use Rattle.tg_runtime_proof.proofs.Copying.{space_of, room_comes, no_room_comes, byte_copied}
use Rattle.tg_runtime_proof.proofs.Bytes.{word_bytes}
use Rattle.tg_runtime_proof.proofs.Memories.{blocked, store_byte_in_block, block_byte_apart}
use Rattle.tg_runtime_proof.proofs.Strings.{string_length, string_byte, string_ends, block_is, block_length}
use Rattle.tg_runtime_proof.proofs.Signs.{not_negative_lt, less_small, less_than_none, neither_of}
use Rattle.tg_runtime_proof.proofs.Serves.{Situation, Inside, setting_in, Entry, three_homes, serves, makes, off}

abbrev body : Ts
body = substring 0 1 2 3 4 5 6

abbrev begun : (a first n : ℕ) → Temps
begun a first n = set_temp 2 n (set_temp 1 first (set_temp 0 a no_temps))

abbrev turn : List Ts
turn = StoreByte (Temp 6) (LoadByte (Temp 4)) ∷ advance 4 1 ∷ advance 6 1 ∷ []

abbrev taking : Ts
taking = take_string 3 (plus (Temp 2) 4) (Temp 2)

abbrev entry : (a first n : ℕ) → Entry
entry a first n = record {
  one = routine.Substring;
  homes = three_homes;
  temps = 7;
  body = body;
  words = a ∷ first ∷ n ∷ [];
  begun = begun a first n;
  found = refl;
  many = refl;
  same = λ top w. refl;
  there = refl;
}

-- what the last condition finds
abbrev greater : (long first n : ℕ) → Bool
greater long first n = less (sub long n) first

-- the conditions one by one
abbrev begins_late : Cond
begins_late = Compare Greater (Temp 1) (Binary Sub (Load (Temp 0)) (Temp 2))

-- n bytes of a string x at the address a, from the one of this index on
module _ (call : Situation) (a first n : ℕ) (x : List ℕ) (s : IsStringAt call.world.memory a x) where
  abbrev w : World
  w = call.world

  abbrev at : ℕ
  at = heap_base + length w.memory.heap

  -- what the conditions tell
  abbrev outside : Bool
  outside = is_negative first || (is_negative n || greater (length x) first n)

  -- Where the part is outside.

  outside_found : is_outside x first n ≡ true → first < 2 ^ 32 → n < 2 ^ 32 → outside ≡ true
  outside_found out first_small n_small = found (is_negative first) (is_negative n) refl refl out
    where
      found : (p q : Bool) → is_negative first ≡ p → is_negative n ≡ q →
          ((p || q) || nat_lt (length x) (first + n)) ≡ true → (p || (q || greater (length x) first n)) ≡ true
      found true q ep eq e = refl
      found false true ep eq e = refl
      found false false ep eq e =
          let more = ltb-true (length x) (first + n) e in
          let low = string_ends w.memory a x call.memory.whole s in
          let f = not_negative_lt first first_small ep in
          let c = not_negative_lt n n_small eq in
          elim (cases_lt (length x) n) [
            | inl lt ↦ less_than_none (sub (length x) n) first (omega (arith, lt, c, low)) (omega (arith, lt, c, low)) f
            | inr le ↦
                let d : sub (length x) n ≡ length x - n = omega (arith, le, low) in
                ap (λ u. less u first) d ∙
                (less_small (length x - n) first (omega (arith, low)) f ∙
                lt-ltb (length x - n) first (omega (arith, le, more)))
          ]

  -- Where it is inside.

  inside_parts : is_outside x first n ≡ false →
      (is_negative first ≡ false) × (is_negative n ≡ false) × (first + n ≤ length x)
  inside_parts out =
      let p = neither_of (is_negative first || is_negative n) (nat_lt (length x) (first + n)) out in
      let q = neither_of (is_negative first) (is_negative n) p.0 in
      (q.0, q.1, ltb-false (length x) (first + n) p.1)

  inside_found : is_outside x first n ≡ false → outside ≡ false
  inside_found out =
      let p = inside_parts out in
      let within = p.2 in
      let low = string_ends w.memory a x call.memory.whole s in
      let d : sub (length x) n ≡ length x - n = omega (arith, within, low) in
      let g : greater (length x) first n ≡ false =
      ap (λ u. less u first) d ∙
      (less_small (length x - n) first (omega (arith, low)) (omega (arith, within, low)) ∙
      le-ltb (length x - n) first (omega (arith, within))) in
      ap (λ b. b || (is_negative n || greater (length x) first n)) p.0 ∙
      (ap (λ b. b || greater (length x) first n) p.1 ∙ g)

  abbrev part : List ℕ
  part = take n (drop first x)

  abbrev space : ℕ
  space = space_of n

  -- the block after so many turns
  abbrev filled : ℕ → List ℕ
  filled i = (word_bytes n ++ take i part) ++ replicate (space - i) 0

  record IsCopied (i : ℕ) (w1 : World) (t : Temps) : Type 0 where
    pub world : w1 ≡ with_block (filled i) w
    pub from : t 4 ≡ Some (a + 4 + first + i)
    pub end : t 5 ≡ Some (a + 4 + first + n)
    pub to : t 6 ≡ Some (at + 4 + i)
    pub made : t 3 ≡ Some at

  part_length : first + n ≤ length x → length part ≡ n
  part_length within =
      let d = length-drop first x in
      length-take-le n (drop first x) (omega (arith, d, within))

  part_byte : (i : ℕ) → i < n → slice_index part i ≡ slice_index x (first + i)
  part_byte i lt = get_or-take n (drop first x) i 0 lt ∙ get_or-drop first x i 0

  read : first + n ≤ length x → (i : ℕ) → i < n →
      load_byte (blocked (filled i) w.memory) (a + 4 + first + i) ≡ Some (slice_index part i)
  read within i lt =
      let low = s.below in
      let b = block_length x in
      let sum : a + 4 + first + i ≡ a + 4 + (first + i) = omega arith in
      block_byte_apart w.memory (filled i) (a + 4 + first + i) call.memory.whole.statics
      (λ high. omega (arith, high, low, b, within, lt)) ∙
      (ap (load_byte w.memory) sum ∙
      (string_byte w.memory a (first + i) x call.memory.whole s (omega (arith, within, lt)) ∙
      ap Some (sym (part_byte i lt))))

  wrote : first + n ≤ length x → (i : ℕ) → i < n →
      store_byte (blocked (filled i) w.memory) (at + 4 + i) (slice_index part i) ≡ Some
      (blocked (filled (i + 1)) w.memory)
  wrote within i lt =
      let more : space - i ≡ suc (space - (i + 1)) = omega (arith, lt) in
      let left = replicate {A = ℕ} (space - (i + 1)) 0 in
      let v = slice_index part i in
      let p = word_bytes n ++ take i part in
      let long = part_length within in
      let taken : length (take i part) ≡ i = length-take-le i part (omega (arith, long, lt)) in
      let front : length p ≡ 4 + length (take i part) = length-append (word_bytes n) (take i part) in
      let start : filled i ≡ p ++ 0 ∷ left = ap (λ k. p ++ replicate k 0) more in
      let byte : v < 256 =
      subst (λ u. u < 256) (sym (part_byte i lt)) (s.each (first + i) 0 (omega (arith, within, lt))) in
      let same : v % 256 ≡ v = omega (arith, byte) in
      let finish : p ++ (v % 256 ∷ left) ≡ filled (i + 1) =
      ap (λ u. p ++ (u ∷ left)) same ∙ (sym (append_assoc p (v ∷ []) left) ∙
      ap (λ l. l ++ left) (append_assoc (word_bytes n) (take i part) (v ∷ []) ∙
      ap (λ l. word_bytes n ++ l) (sym (take_more part i 0 (omega (arith, long, lt)))))) in
      ap (λ b. store_byte (blocked b w.memory) (at + 4 + i) v) start ∙
      (store_byte_in_block w.memory p left 0 v (4 + i) (at + 4 + i) call.memory.whole.statics
      (omega (arith, front, taken)) (omega arith) ∙
      ap (λ b. Some (blocked b w.memory)) finish)

  turns : first + n ≤ length x → length w.memory.heap + (4 + space) ≤ call.host.room →
      (setting : Setting) (z : Around) (e : Run Ran) (i : ℕ) → i < n →
      (w1 : World) (t : Temps) → IsCopied i w1 t → (go : Next) (k : ℕ) →
      ((w2 : World) (t2 : Temps) → IsCopied (i + 1) w2 t2 → Comes k (go w2 t2) e) →
      Comes (12 + k) (after setting (stms turn) z go w1 t) e
  turns within fits setting z e i lt w1 t h go k c =
      let most = call.memory.most in
      let low = string_ends w.memory a x call.memory.whole s in
      let m = blocked (filled (i + 1)) w.memory in
      let from = a + 4 + first + (i + 1) in
      let to = at + 4 + (i + 1) in
      byte_copied setting 4 6 (a + 4 + first + i) (at + 4 + i) (slice_index part i) from to m z go w1 t k e h.from h.to
      (ap (λ (u : World). load_byte u.memory (a + 4 + first + i)) h.world ∙ read within i lt)
      (ap (λ (u : World). store_byte u.memory (at + 4 + i) (slice_index part i)) h.world ∙ wrote within i lt)
      (omega (arith, lt, within, low)) (omega (arith, lt, fits, most)) h.to
      (c (record w1 { memory = m }) (set_temp 6 to (set_temp 4 from t)) (record {
        world = ap (λ (u : World). record u { memory = m }) h.world;
        from = refl;
        end = h.end;
        to = refl;
        made = h.made;
      }))

  made_is : first + n ≤ length x → filled n ≡ string_block part
  made_is within =
      let low = string_ends w.memory a x call.memory.whole s in
      let long = part_length within in
      let left : space - n ≡ (4 - (4 + n) % 4) % 4 = omega arith in
      ap (λ k. (word_bytes n ++ take n part) ++ replicate k 0) left ∙
      (ap (λ l. (word_bytes n ++ l) ++ replicate ((4 - (4 + n) % 4) % 4) 0) (take_all n part (omega (arith, long))) ∙
      (ap (λ k. (word_bytes k ++ part) ++ replicate ((4 - (4 + k) % 4) % 4) 0) (sym long) ∙
      sym (block_is part (omega (arith, long, within, low)))))

  block_room : first + n ≤ length x → length (string_block part) ≡ 4 + space
  block_room within =
      let b = block_length part in
      let l = part_length within in
      omega (arith, b, l)

  module _ (inside : Inside call.host) where
    abbrev here : Setting
    here = setting_in call.host inside

    abbrev z : Around
    z = inside.around

    abbrev next : ℕ → Next
    next j = rest here j body z off

    outside_tested : IsTested here (code.is_outside 0 1 2) outside 46 z w (begun a first n)
    outside_tested =
        let t = begun a first n in
        let long = string_length w.memory a x call.memory.whole s in
        either_tested here (is_negative first) (is_negative n || greater (length x) first n) 6 26
        (code.is_negative (Temp 1))
        (Either (code.is_negative (Temp 2)) begins_late) z w t refl
        (compare_tested here first 0 Less (Temp 1) (Const 0) z w t tt tt refl refl) (λ e.
        either_tested here (is_negative n) (greater (length x) first n) 6 6
        (code.is_negative (Temp 2)) begins_late z w t refl
        (compare_tested here n 0 Less (Temp 2) (Const 0) z w t tt tt refl refl) (λ e2.
        compare_tested here first (sub (length x) n) Greater (Temp 1) (Binary Sub (Load (Temp 0)) (Temp 2)) z w t tt
        (tt, tt) refl
        (ap (λ o. onward (or_wrong o) (λ u. onward (word n) (λ v. operate Sub u v))) long)))

    part_refused : outside ≡ true → Comes 53 (does here body z off w (begun a first n)) (over (Ended (Break 5)) w)
    part_refused is =
        let t = begun a first n in
        let e : Run Ran = over (Ended (Break 5)) w in
        comes_within _ 53 _ e (omega arith)
        (sequence_of here _ body z off w t e refl
        (tested_comes here 3 46 outside (code.is_outside 0 1 2) (Fault 5) nothing z (next 1) w t e outside_tested
        (subst (λ b. Comes 3 ((if b then does here (Fault 5) else does here nothing) z (next 1) w t) e) (sym is)
        (fault_comes here 5 z (next 1) w t))))

    -- a part that is inside goes past the conditions
    begins : (k : ℕ) (e : Run Ran) → is_outside x first n ≡ false →
        Comes k (does here taking z (next 2) w (begun a first n)) e →
        Comes (50 + k) (does here body z off w (begun a first n)) e
    begins k e out c =
        comes_within (4 + (46 + k)) (50 + k) _ e (omega arith)
        (sequence_of here (4 + (46 + k)) body z off w (begun a first n) e refl
        (failed_comes here k 46 outside (code.is_outside 0 1 2) (Fault 5) z (next 1) w (begun a first n) e
        outside_tested (inside_found out) c))

    part_full : is_outside x first n ≡ false → call.host.room < length w.memory.heap + (4 + space) →
        Comes 104 (does here body z off w (begun a first n)) (over (Ended HeapFull) w)
    part_full out much =
        let within = (inside_parts out).2 in
        let low = string_ends w.memory a x call.memory.whole s in
        let e : Run Ran = over (Ended HeapFull) w in
        comes_within (50 + 12) 104 _ e (omega arith)
        (begins 12 e out
        (no_room_comes here z (next 2) w call.memory (begun a first n) 3 2 n refl (omega (arith, within, low)) much))

    abbrev copies : is_outside x first n ≡ false → length w.memory.heap + (4 + space) ≤ call.host.room →
        Walk here z (next 6) IsCopied
    copies out fits =
        let within = (inside_parts out).2 in
        let e = z.back at (with_block (string_block part) w) in
        record {
          at = 4;
          end = 5;
          turn = turn;
          turns = n;
          spent = 12;
          left = 16;
          address = λ i. a + 4 + first + i;
          gives = λ i. e;
          apart = λ i lt same. omega (arith, lt, same);
          at_is = λ i w1 t h. h.from;
          end_is = λ i w1 t h. h.end;
          turned = λ i lt w1 t h go k le c.
              turns within fits here (record z { out = leaving (next 6) z.out }) e i lt w1 t h go k c;
          rest = λ w1 t h.
              return_comes here 0 at (Temp 3) z (next 7) w1 t e tt (ap or_wrong h.made)
              (subst (λ (u : World). Comes 0 (z.back at u) e)
              (sym (h.world ∙ ap (λ b. with_block b w) (made_is within))) (comes_itself e));
        }

    part_body : is_outside x first n ≡ false → length w.memory.heap + (4 + space) ≤ call.host.room →
        Comes (24 * n + 104) (does here body z off w (begun a first n)) (z.back at (with_block (string_block part) w))
    part_body out fits =
        let within = (inside_parts out).2 in
        let low = string_ends w.memory a x call.memory.whole s in
        let most = call.memory.most in
        let e = z.back at (with_block (string_block part) w) in
        let t1 = set_temp 3 at (begun a first n) in
        let t2 = set_temp 4 (a + 4 + first) t1 in
        let t3 = set_temp 5 (a + 4 + first + n) t2 in
        let t4 = set_temp 6 (at + 4) t3 in
        let w2 = with_block (word_bytes n ++ replicate space 0) w in
        let begins_at : add (add a 4) first ≡ a + 4 + first = omega (arith, within, low) in
        let ends : add (a + 4 + first) n ≡ a + 4 + first + n = omega (arith, within, low) in
        let goal : add at 4 ≡ at + 4 = omega (arith, fits, most) in
        let start : a + 4 + first ≡ a + 4 + first + 0 = omega arith in
        let start2 : at + 4 ≡ at + 4 + 0 = omega arith in
        let all : space ≡ space - 0 = omega arith in
        let walks : Comes ((12 + 12) * n + 11 + 16) (next 5 w2 t4) e =
        walk_comes here inside.steps z (next 6) IsCopied (copies out fits) w2 t4 (record {
          world = ap (λ k. with_block (word_bytes n ++ replicate k 0) w) all;
          from = ap (λ (k : ℕ). Some k) start;
          end = refl;
          to = ap (λ (k : ℕ). Some k) start2;
          made = refl;
        }) in
        comes_within _ (24 * n + 104) _ e (omega arith)
        (begins _ e out
        (room_comes here z (next 2) w call.memory (begun a first n) 3 2 n refl
        (omega (arith, within, low)) _ e fits refl refl
        (move_comes here _ 4 (a + 4 + first) (Binary Add (bytes_of 0) (Temp 1)) z (next 3) w2 t1 e ((tt, tt), tt)
        (ap word begins_at)
        (move_comes here _ 5 (a + 4 + first + n) (Binary Add (Temp 4) (Temp 2)) z (next 4) w2 t2 e (tt, tt)
        (ap word ends)
        (move_comes here _ 6 (at + 4) (bytes_of 3) z (next 5) w2 t3 e (tt, tt) (ap word goal) walks)))))

  pub makes_part : is_outside x first n ≡ false →
      Makes call.host n routine.Substring (a ∷ first ∷ n ∷ []) w w (string_block part)
  makes_part out =
      makes call (entry a first n) n 104 (24 * n + 104) (4 + space) w (string_block part) (omega arith) (omega arith)
      (block_room (inside_parts out).2) (λ much inside. part_full inside out much)
      (λ fits inside. part_body inside out fits)

  pub refuses_part : is_outside x first n ≡ true → first < 2 ^ 32 → n < 2 ^ 32 →
      Serves call.host 0 routine.Substring (a ∷ first ∷ n ∷ []) w (λ back. over (Ended (Break 5)) w)
  refuses_part out first_small n_small =
      serves call (entry a first n) 0 53 (λ back. over (Ended (Break 5)) w) (omega arith) (λ inside.
      part_refused inside (outside_found out first_small n_small))
