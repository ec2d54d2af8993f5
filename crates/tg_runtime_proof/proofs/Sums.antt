-- `concat`: the words of the first string, and then the bytes of the second.
use Rattle.std.proofs.Common.{◌≡◌, ℕ, suc, ◌+◌, ◌-◌, ◌*◌, ◌%◌, ◌/◌, ◌<◌, ◌≤◌, List, [], ◌∷◌, ◌++◌, length, Some, refl}
use Rattle.std.proofs.Common.{sym, ap, ◌∙◌, arith, subst}
use Rattle.std.specs.Prelude.{replicate, take, All, slice_index}
use Rattle.std.proofs.lemmas.List.{length-append, append_assoc, append-nil, length-take-le, length-replicate}
use Rattle.std.proofs.lemmas.List.{replicate-append-replicate, take_more, take_all}
use Rattle.std.proofs.lemmas.List.Elements.{All-append, All-replicate}
use Rattle.tg_machine_state.specs.declared.ends.RunEnd.TheVariants.{HeapFull}
use Rattle.tg_base.specs.Words.{add, shift_left, shift_right}
use Rattle.tg_machine_state.specs.State.{heap_base, most_room, word_at}
use Rattle.tg_simulation.specs.Runs.{Run}
use Rattle.tg_simulation.specs.Ran.{Ran, Ended}
use Rattle.tg_simulation.specs.laws.Simulating.{Comes}
use Rattle.tg_simulation.proofs.Simulations.{comes_itself}
use Rattle.tg_tree.specs.declared.operators.Bin.TheVariants.{Add, ShiftLeft, ShiftRight}
use Rattle.tg_tree.specs.Tree.{Const, Temp, Load, LoadByte, Binary, Ts, Store, StoreByte}
use Rattle.tg_tree.specs.Forms.{stms}
use Rattle.tg_tree.specs.Operators.{word, operate}
use Rattle.tg_tree.specs.Memory.{store, store_byte, load, load_byte, string_block}
use Rattle.tg_tree.specs.FlatValue.{or_wrong, onward}
use Rattle.tg_tree.specs.Actions.{World, Temps, set_temp, Around, Next, over, leaving}
use Rattle.tg_tree.specs.Running.{no_temps}
use Rattle.tg_runtime.specs.declared.routines.Routine.TheVariants as routine
use Rattle.tg_runtime.specs.mirror.Routines as code
use Rattle.tg_runtime.specs.mirror.Routines.{concat, begin_with, append, plus, advance, take_string, bytes_of}
use Rattle.tg_runtime_proof.specs.Memories.{IsStringAt}
use Rattle.tg_runtime_proof.specs.Settings.{Setting, does}
use Rattle.tg_runtime_proof.specs.laws.Serving.{Makes, with_block}
use Rattle.tg_runtime_proof.proofs.Coming.{return_comes, move_comes, loaded, summed, is_word, comes_within}
use Rattle.tg_runtime_proof.proofs.Acting.{after, rest, sequence_of}
use Rattle.tg_runtime_proof.proofs.Walking.{Walk, walk_comes}
use Rattle.tg_runtime_proof.proofs.Copying.{space_of, room_comes, no_room_comes, byte_copied, word_copied}
use Rattle.tg_runtime_proof.proofs.Bytes.{word_bytes, word_past}
use Rattle.tg_runtime_proof.proofs.Memories.{blocked, store_in_block, store_byte_in_block, block_apart}
use Rattle.tg_runtime_proof.proofs.Memories.{block_byte_apart}
use Rattle.tg_runtime_proof.proofs.Strings.{take_word, string_length, string_byte, string_ends, block_is}
use Rattle.tg_runtime_proof.proofs.Strings.{block_length}
use Rattle.tg_runtime_proof.proofs.Serves.{Situation, Inside, setting_in, Entry, two_homes, makes, off}

abbrev body : Ts
body = concat 0 1 2 3 4 5

abbrev begun : (a b : ℕ) → Temps
begun a b = set_temp 1 b (set_temp 0 a no_temps)

abbrev words_turn : List Ts
words_turn = Store (Temp 5) (Load (Temp 3)) ∷ advance 3 4 ∷ advance 5 4 ∷ []

abbrev bytes_turn : List Ts
bytes_turn = StoreByte (Temp 5) (LoadByte (Temp 3)) ∷ advance 3 1 ∷ advance 5 1 ∷ []

abbrev taking : Ts
taking = take_string 2 (plus (Temp 4) 4) (Temp 4)

abbrev entry : (a b : ℕ) → Entry
entry a b = record {
  one = routine.Concat;
  homes = two_homes;
  temps = 6;
  body = body;
  words = a ∷ b ∷ [];
  begun = begun a b;
  found = refl;
  many = refl;
  same = λ top w. refl;
  there = refl;
}

-- of a string x at the address a and a string y at the address b
module _ (call : Situation) (a b : ℕ) (x y : List ℕ)
    (s : IsStringAt call.world.memory a x) (r : IsStringAt call.world.memory b y) where
  abbrev w : World
  w = call.world

  abbrev at : ℕ
  at = heap_base + length w.memory.heap

  -- bytes of the sum, and those that they take
  abbrev n : ℕ
  n = length x + length y

  abbrev space : ℕ
  space = space_of n

  -- words of the first string, and its padding
  abbrev m : ℕ
  m = (length x + 3) / 4

  abbrev pad : ℕ
  pad = (4 - (4 + length x) % 4) % 4

  abbrev whole : List ℕ
  whole = x ++ replicate pad 0

  whole_length : length whole ≡ 4 * m
  whole_length =
      let l = length-append x (replicate pad 0) in
      let p = length-replicate {A = ℕ} pad 0 in
      omega (arith, l, p)

  whole_small : All (λ c. c < 256) whole
  whole_small =
      All-append (λ c. c < 256) x (replicate pad 0) s.each (All-replicate (λ c. c < 256) pad 0 (omega arith))

  left_ends : a + 4 + length x ≤ heap_base + most_room
  left_ends = string_ends w.memory a x call.memory.whole s

  right_ends : b + 4 + length y ≤ heap_base + most_room
  right_ends = string_ends w.memory b y call.memory.whole r

  block_whole : string_block x ≡ word_bytes (length x) ++ whole
  block_whole = let low = left_ends in block_is x (omega (arith, low))

  -- the block after so many turns of the first loop, and of the second
  abbrev worded : ℕ → List ℕ
  worded i = (word_bytes n ++ take (4 * i) whole) ++ replicate (space - 4 * i) 0

  abbrev joining : ℕ → List ℕ
  joining i = ((word_bytes n ++ x) ++ take i y) ++ replicate (space - length x - i) 0

  record IsWorded (i : ℕ) (w1 : World) (t : Temps) : Type 0 where
    pub world : w1 ≡ with_block (worded i) w
    pub left : t 0 ≡ Some a
    pub right : t 1 ≡ Some b
    pub made : t 2 ≡ Some at
    pub from : t 3 ≡ Some (a + 4 + 4 * i)
    pub end : t 4 ≡ Some (a + 4 + 4 * m)
    pub to : t 5 ≡ Some (at + 4 + 4 * i)

  record IsJoining (i : ℕ) (w1 : World) (t : Temps) : Type 0 where
    pub world : w1 ≡ with_block (joining i) w
    pub made : t 2 ≡ Some at
    pub from : t 3 ≡ Some (b + 4 + i)
    pub end : t 4 ≡ Some (b + 4 + length y)
    pub to : t 5 ≡ Some (at + 4 + length x + i)

  -- Words.

  word_read : (i : ℕ) → i < m → load (blocked (worded i) w.memory) (a + 4 + 4 * i) ≡ Some (word_at whole (4 * i))
  word_read i lt =
      let low = s.below in
      let l = block_length x in
      let next : a + 4 + 4 * i ≡ a + 4 * (i + 1) = omega arith in
      let four : 4 * (i + 1) ≡ 4 + 4 * i = omega arith in
      block_apart w.memory (worded i) (a + 4 + 4 * i) call.memory.whole (λ high. omega (arith, high, low, l, lt)) ∙
      (ap (load w.memory) next ∙ (s.words (i + 1) (omega (arith, l, lt)) ∙
      ap Some (ap (λ j. word_at (string_block x) j) four ∙ (ap (λ q. word_at q (4 + 4 * i)) block_whole ∙
      word_past (word_bytes (length x)) whole 4 (4 * i) refl))))

  word_wrote : (i : ℕ) → i < m →
      store (blocked (worded i) w.memory) (at + 4 + 4 * i) (word_at whole (4 * i)) ≡ Some
      (blocked (worded (i + 1)) w.memory)
  word_wrote i lt =
      let more : space - 4 * i ≡ suc (suc (suc (suc (space - 4 * (i + 1))))) = omega (arith, lt) in
      let left = replicate {A = ℕ} (space - 4 * (i + 1)) 0 in
      let v = word_at whole (4 * i) in
      let p = word_bytes n ++ take (4 * i) whole in
      let long = whole_length in
      let taken : length (take (4 * i) whole) ≡ 4 * i = length-take-le (4 * i) whole (omega (arith, long, lt)) in
      let front : length p ≡ 4 + length (take (4 * i) whole) = length-append (word_bytes n) (take (4 * i) whole) in
      let start : worded i ≡ p ++ 0 ∷ 0 ∷ 0 ∷ 0 ∷ left = ap (λ k. p ++ replicate k 0) more in
      let four : 4 * i + 4 ≡ 4 * (i + 1) = omega arith in
      let finish : p ++ (word_bytes v ++ left) ≡ worded (i + 1) =
      sym (append_assoc p (word_bytes v) left) ∙
      ap (λ l. l ++ left) (append_assoc (word_bytes n) (take (4 * i) whole) (word_bytes v) ∙
      ap (λ l. word_bytes n ++ l)
      (sym (take_word whole (4 * i) whole_small (omega (arith, long, lt))) ∙ ap (λ j. take j whole) four)) in
      ap (λ q. store (blocked q w.memory) (at + 4 + 4 * i) v) start ∙
      (store_in_block w.memory p left 0 0 0 0 v (4 + 4 * i) (at + 4 + 4 * i) call.memory.whole.statics
      call.memory.whole.heap_words (omega (arith, front, taken)) (omega arith) (omega arith) ∙
      ap (λ q. Some (blocked q w.memory)) finish)

  word_turns : length w.memory.heap + (4 + space) ≤ call.host.room →
      (setting : Setting) (z : Around) (e : Run Ran) (i : ℕ) → i < m →
      (w1 : World) (t : Temps) → IsWorded i w1 t → (go : Next) (k : ℕ) →
      ((w2 : World) (t2 : Temps) → IsWorded (i + 1) w2 t2 → Comes k (go w2 t2) e) →
      Comes (12 + k) (after setting (stms words_turn) z go w1 t) e
  word_turns fits setting z e i lt w1 t h go k c =
      let most = call.memory.most in
      let low = left_ends in
      let q = blocked (worded (i + 1)) w.memory in
      let from = a + 4 + 4 * (i + 1) in
      let to = at + 4 + 4 * (i + 1) in
      word_copied setting 3 5 (a + 4 + 4 * i) (at + 4 + 4 * i) (word_at whole (4 * i)) from to q z go w1 t k e h.from
      h.to
      (ap (λ (u : World). load u.memory (a + 4 + 4 * i)) h.world ∙ word_read i lt)
      (ap (λ (u : World). store u.memory (at + 4 + 4 * i) (word_at whole (4 * i))) h.world ∙ word_wrote i lt)
      (omega (arith, lt, low)) (omega (arith, lt, fits, most)) h.to
      (c (record w1 { memory = q }) (set_temp 5 to (set_temp 3 from t)) (record {
        world = ap (λ (u : World). record u { memory = q }) h.world;
        left = h.left;
        right = h.right;
        made = h.made;
        from = refl;
        end = h.end;
        to = refl;
      }))

  -- Bytes.

  byte_read : (i : ℕ) → i < length y → load_byte (blocked (joining i) w.memory) (b + 4 + i) ≡ Some (slice_index y i)
  byte_read i lt =
      let low = r.below in
      let l = block_length y in
      block_byte_apart w.memory (joining i) (b + 4 + i) call.memory.whole.statics
      (λ high. omega (arith, high, low, l, lt)) ∙
      string_byte w.memory b i y call.memory.whole r lt

  byte_wrote : (i : ℕ) → i < length y →
      store_byte (blocked (joining i) w.memory) (at + 4 + length x + i) (slice_index y i) ≡
      Some (blocked (joining (i + 1)) w.memory)
  byte_wrote i lt =
      let more : space - length x - i ≡ suc (space - length x - (i + 1)) = omega (arith, lt) in
      let left = replicate {A = ℕ} (space - length x - (i + 1)) 0 in
      let v = slice_index y i in
      let p = (word_bytes n ++ x) ++ take i y in
      let taken : length (take i y) ≡ i = length-take-le i y (omega (arith, lt)) in
      let l1 : length (word_bytes n ++ x) ≡ 4 + length x = length-append (word_bytes n) x in
      let front : length p ≡ length (word_bytes n ++ x) + length (take i y) =
      length-append (word_bytes n ++ x) (take i y) in
      let start : joining i ≡ p ++ 0 ∷ left = ap (λ k. p ++ replicate k 0) more in
      let byte = r.each i 0 lt in
      let same : v % 256 ≡ v = omega (arith, byte) in
      let finish : p ++ (v % 256 ∷ left) ≡ joining (i + 1) =
      ap (λ u. p ++ (u ∷ left)) same ∙ (sym (append_assoc p (v ∷ []) left) ∙
      ap (λ l. l ++ left) (append_assoc (word_bytes n ++ x) (take i y) (v ∷ []) ∙
      ap (λ l. (word_bytes n ++ x) ++ l) (sym (take_more y i 0 lt)))) in
      ap (λ q. store_byte (blocked q w.memory) (at + 4 + length x + i) v) start ∙
      (store_byte_in_block w.memory p left 0 v (4 + length x + i) (at + 4 + length x + i) call.memory.whole.statics
      (omega (arith, front, taken, l1)) (omega arith) ∙
      ap (λ q. Some (blocked q w.memory)) finish)

  byte_turns : length w.memory.heap + (4 + space) ≤ call.host.room →
      (setting : Setting) (z : Around) (e : Run Ran) (i : ℕ) → i < length y →
      (w1 : World) (t : Temps) → IsJoining i w1 t → (go : Next) (k : ℕ) →
      ((w2 : World) (t2 : Temps) → IsJoining (i + 1) w2 t2 → Comes k (go w2 t2) e) →
      Comes (12 + k) (after setting (stms bytes_turn) z go w1 t) e
  byte_turns fits setting z e i lt w1 t h go k c =
      let most = call.memory.most in
      let low = right_ends in
      let q = blocked (joining (i + 1)) w.memory in
      let from = b + 4 + (i + 1) in
      let to = at + 4 + length x + (i + 1) in
      byte_copied setting 3 5 (b + 4 + i) (at + 4 + length x + i) (slice_index y i) from to q z go w1 t k e h.from h.to
      (ap (λ (u : World). load_byte u.memory (b + 4 + i)) h.world ∙ byte_read i lt)
      (ap (λ (u : World). store_byte u.memory (at + 4 + length x + i) (slice_index y i)) h.world ∙ byte_wrote i lt)
      (omega (arith, lt, low)) (omega (arith, lt, fits, most)) h.to
      (c (record w1 { memory = q }) (set_temp 5 to (set_temp 3 from t)) (record {
        world = ap (λ (u : World). record u { memory = q }) h.world;
        made = h.made;
        from = refl;
        end = h.end;
        to = refl;
      }))

  -- between the loops, and at the end
  middle : worded m ≡ joining 0
  middle =
      let long = whole_length in
      let left : pad + (space - 4 * m) ≡ space - length x - 0 = omega arith in
      ap (λ l. (word_bytes n ++ l) ++ replicate (space - 4 * m) 0) (take_all (4 * m) whole (omega (arith, long))) ∙
      (append_assoc (word_bytes n ++ x) (replicate pad 0) (replicate (space - 4 * m) 0) ∙
      (ap (λ l. (word_bytes n ++ x) ++ l)
      (replicate-append-replicate pad (space - 4 * m) 0 ∙ ap (λ k. replicate k 0) left) ∙
      ap (λ l. l ++ replicate (space - length x - 0) 0) (sym (append-nil (word_bytes n ++ x)))))

  finished : joining (length y) ≡ string_block (x ++ y)
  finished =
      let lx = left_ends in
      let ly = right_ends in
      let long : length (x ++ y) ≡ n = length-append x y in
      let left : space - length x - length y ≡ (4 - (4 + n) % 4) % 4 = omega arith in
      ap (λ l. ((word_bytes n ++ x) ++ l) ++ replicate (space - length x - length y) 0)
      (take_all (length y) y (omega arith)) ∙
      (ap (λ l. l ++ replicate (space - length x - length y) 0) (append_assoc (word_bytes n) x y) ∙
      (ap (λ k. (word_bytes n ++ (x ++ y)) ++ replicate k 0) left ∙
      (ap (λ k. (word_bytes k ++ (x ++ y)) ++ replicate ((4 - (4 + k) % 4) % 4) 0) (sym long) ∙
      sym (block_is (x ++ y) (omega (arith, long, lx, ly))))))

  sum_room : length (string_block (x ++ y)) ≡ 4 + space
  sum_room =
      let l = block_length (x ++ y) in
      let k = length-append x y in
      omega (arith, l, k)

  -- the lengths, loaded after the block
  length_left : (i : ℕ) → load (blocked (worded i) w.memory) a ≡ Some (length x)
  length_left i =
      let low = s.below in
      let l = block_length x in
      block_apart w.memory (worded i) a call.memory.whole (λ high. omega (arith, high, low, l)) ∙
      string_length w.memory a x call.memory.whole s

  length_right : (i : ℕ) → load (blocked (worded i) w.memory) b ≡ Some (length y)
  length_right i =
      let low = r.below in
      let l = block_length y in
      block_apart w.memory (worded i) b call.memory.whole (λ high. omega (arith, high, low, l)) ∙
      string_length w.memory b y call.memory.whole r

  module _ (inside : Inside call.host) where
    abbrev here : Setting
    here = setting_in call.host inside

    abbrev z : Around
    z = inside.around

    abbrev next : ℕ → Next
    next j = rest here j body z off

    -- after so many statements of the two parts
    abbrev beginning : ℕ → Next
    beginning j = rest here j (begin_with 0 2 3 4 5) z (next 3)

    abbrev appending : ℕ → Next
    appending j = rest here j (append 1 3 4 5) z (next 5)

    abbrev with_length : Temps
    with_length = set_temp 4 n (begun a b)

    -- the length of the sum
    begins : (k : ℕ) (e : Run Ran) → Comes k (does here taking z (next 2) w with_length) e →
        Comes (5 + k) (does here body z off w (begun a b)) e
    begins k e c =
        let lx = left_ends in
        let ly = right_ends in
        let t = begun a b in
        comes_within _ (5 + k) _ e (omega arith)
        (sequence_of here _ body z off w t e refl
        (move_comes here _ 4 n (Binary Add (Load (Temp 0)) (Load (Temp 1))) z (next 1) w t e (tt, tt)
        (summed here (Load (Temp 0)) (Load (Temp 1)) (length x) (length y) n z w t
        (loaded here 0 a (length x) z w t refl (string_length w.memory a x call.memory.whole s))
        (loaded here 1 b (length y) z w t refl (string_length w.memory b y call.memory.whole r))
        (omega (arith, lx, ly))) c))

    sum_full : call.host.room < length w.memory.heap + (4 + space) →
        Comes 95 (does here body z off w (begun a b)) (over (Ended HeapFull) w)
    sum_full much =
        let lx = left_ends in
        let ly = right_ends in
        let e : Run Ran = over (Ended HeapFull) w in
        comes_within (5 + 12) 95 _ e (omega arith)
        (begins 12 e (no_room_comes here z (next 2) w call.memory with_length 2 4 n refl (omega (arith, lx, ly)) much))

    abbrev joins : length w.memory.heap + (4 + space) ≤ call.host.room → Walk here z (appending 3) IsJoining
    joins fits =
        let e = z.back at (with_block (string_block (x ++ y)) w) in
        record {
          at = 3;
          end = 4;
          turn = bytes_turn;
          turns = length y;
          spent = 12;
          left = 16;
          address = λ i. b + 4 + i;
          gives = λ i. e;
          apart = λ i lt same. omega (arith, lt, same);
          at_is = λ i w1 t h. h.from;
          end_is = λ i w1 t h. h.end;
          turned = λ i lt w1 t h go k le c.
              byte_turns fits here (record z { out = leaving (appending 3) z.out }) e i lt w1 t h go k c;
          rest = λ w1 t h.
              return_comes here 0 at (Temp 2) z (next 6) w1 t e tt (ap or_wrong h.made)
              (subst (λ (u : World). Comes 0 (z.back at u) e)
              (sym (h.world ∙ ap (λ q. with_block q w) finished)) (comes_itself e));
        }

    -- after the words of the first string, the bytes of the second
    second_half : length w.memory.heap + (4 + space) ≤ call.host.room → (w3 : World) (t : Temps) → IsWorded m w3 t →
        Comes (24 * length y + 43) (beginning 4 w3 t) (z.back at (with_block (string_block (x ++ y)) w))
    second_half fits w3 t h =
        let e = z.back at (with_block (string_block (x ++ y)) w) in
        let most = call.memory.most in
        let lx = left_ends in
        let ly = right_ends in
        let t1 = set_temp 5 (at + 4 + length x) t in
        let t2 = set_temp 3 (b + 4) t1 in
        let t3 = set_temp 4 (b + 4 + length y) t2 in
        let bytes : is_word here z w3 t (bytes_of 2) (at + 4) =
        summed here (Temp 2) (Const 4) at 4 (at + 4) z w3 t (ap or_wrong h.made) refl (omega (arith, fits, most)) in
        let first : is_word here z w3 t (Load (Temp 0)) (length x) =
        loaded here 0 a (length x) z w3 t h.left (ap (λ (u : World). load u.memory a) h.world ∙ length_left m) in
        let second : is_word here z w3 t2 (Load (Temp 1)) (length y) =
        loaded here 1 b (length y) z w3 t2 h.right (ap (λ (u : World). load u.memory b) h.world ∙ length_right m) in
        let start : b + 4 ≡ b + 4 + 0 = omega arith in
        let start2 : at + 4 + length x ≡ at + 4 + length x + 0 = omega arith in
        let walks : Comes ((12 + 12) * length y + 11 + 16) (appending 2 w3 t3) e =
        walk_comes here inside.steps z (appending 3) IsJoining (joins fits) w3 t3 (record {
          world = h.world ∙ ap (λ q. with_block q w) middle;
          made = h.made;
          from = ap (λ (k : ℕ). Some k) start;
          end = refl;
          to = ap (λ (k : ℕ). Some k) start2;
        }) in
        comes_within _ (24 * length y + 43) _ e (omega arith)
        (move_comes here _ 5 (at + 4 + length x) (Binary Add (bytes_of 2) (Load (Temp 0))) z (next 4) w3 t e
        ((tt, tt), tt)
        (summed here (bytes_of 2) (Load (Temp 0)) (at + 4) (length x) (at + 4 + length x) z w3 t bytes first
        (omega (arith, fits, most)))
        (sequence_of here _ (append 1 3 4 5) z (next 5) w3 t1 e refl
        (move_comes here _ 3 (b + 4) (bytes_of 1) z (appending 1) w3 t1 e (tt, tt)
        (summed here (Temp 1) (Const 4) b 4 (b + 4) z w3 t1 (ap or_wrong h.right) refl (omega (arith, ly)))
        (move_comes here _ 4 (b + 4 + length y) (Binary Add (Temp 3) (Load (Temp 1))) z (appending 2) w3 t2 e (tt, tt)
        (summed here (Temp 3) (Load (Temp 1)) (b + 4) (length y) (b + 4 + length y) z w3 t2 refl second
        (omega (arith, ly)))
        walks))))

    abbrev words_first : length w.memory.heap + (4 + space) ≤ call.host.room → Walk here z (beginning 4) IsWorded
    words_first fits =
        let e = z.back at (with_block (string_block (x ++ y)) w) in
        record {
          at = 3;
          end = 4;
          turn = words_turn;
          turns = m;
          spent = 12;
          left = 24 * length y + 43;
          address = λ i. a + 4 + 4 * i;
          gives = λ i. e;
          apart = λ i lt same. omega (arith, lt, same);
          at_is = λ i w1 t h. h.from;
          end_is = λ i w1 t h. h.end;
          turned = λ i lt w1 t h go k le c.
              word_turns fits here (record z { out = leaving (beginning 4) z.out }) e i lt w1 t h go k c;
          rest = second_half fits;
        }

    -- the end of the first string's words
    words_end : (t : Temps) → t 0 ≡ Some a → t 3 ≡ Some (a + 4) →
        is_word here z (with_block (worded 0) w) t (code.whole_words (Binary Add (Temp 3) (Load (Temp 0))))
        (a + 4 + 4 * m)
    words_end t left from =
        let lx = left_ends in
        let aligned = s.aligned in
        let v = with_block (worded 0) w in
        let ends : shift_left (shift_right (add (add (a + 4) (length x)) 3) 2) 2 ≡ a + 4 + 4 * m =
        omega (arith, lx, aligned) in
        let sum = summed here (Temp 3) (Load (Temp 0)) (a + 4) (length x) (add (a + 4) (length x)) z v t
        (ap or_wrong from)
        (loaded here 0 a (length x) z v t left (length_left 0)) refl in
        ap (λ o. onward (onward (onward o (λ u. onward (word 3) (λ q. operate Add u q)))
        (λ u. onward (word 2) (λ q. operate ShiftRight u q))) (λ u. onward (word 2) (λ q. operate ShiftLeft u q))) sum ∙
        ap word ends

    sum_body : length w.memory.heap + (4 + space) ≤ call.host.room →
        Comes (24 * m + 24 * length y + 95) (does here body z off w (begun a b))
        (z.back at (with_block (string_block (x ++ y)) w))
    sum_body fits =
        let e = z.back at (with_block (string_block (x ++ y)) w) in
        let most = call.memory.most in
        let lx = left_ends in
        let ly = right_ends in
        let t2 = set_temp 2 at with_length in
        let t3 = set_temp 3 (a + 4) t2 in
        let t4 = set_temp 4 (a + 4 + 4 * m) t3 in
        let t5 = set_temp 5 (at + 4) t4 in
        let w2 = with_block (worded 0) w in
        let all : space ≡ space - 4 * 0 = omega arith in
        let from : add a 4 ≡ a + 4 = omega (arith, lx) in
        let to : add at 4 ≡ at + 4 = omega (arith, fits, most) in
        let start : a + 4 ≡ a + 4 + 4 * 0 = omega arith in
        let start2 : at + 4 ≡ at + 4 + 4 * 0 = omega arith in
        let walks : Comes ((12 + 12) * m + 11 + (24 * length y + 43)) (beginning 3 w2 t5) e =
        walk_comes here inside.steps z (beginning 4) IsWorded (words_first fits) w2 t5 (record {
          world = refl;
          left = refl;
          right = refl;
          made = refl;
          from = ap (λ (k : ℕ). Some k) start;
          end = refl;
          to = ap (λ (k : ℕ). Some k) start2;
        }) in
        comes_within _ (24 * m + 24 * length y + 95) _ e (omega arith)
        (begins _ e
        (room_comes here z (next 2) w call.memory with_length 2 4 n refl (omega (arith, lx, ly)) _ e fits refl refl
        (subst (λ k. Comes (24 * m + 24 * length y + 77) (next 2 (with_block (word_bytes n ++ replicate k 0) w) t2) e)
        (sym all)
        (comes_within _ (24 * m + 24 * length y + 77) _ e (omega arith)
        (sequence_of here _ (begin_with 0 2 3 4 5) z (next 3) w2 t2 e refl
        (move_comes here _ 3 (a + 4) (bytes_of 0) z (beginning 1) w2 t2 e (tt, tt) (ap word from)
        (move_comes here _ 4 (a + 4 + 4 * m) (code.whole_words (Binary Add (Temp 3) (Load (Temp 0)))) z
        (beginning 2) w2 t3 e
        ((((tt, tt), tt), tt), tt) (words_end t3 refl refl)
        (move_comes here _ 5 (at + 4) (bytes_of 2) z (beginning 3) w2 t4 e (tt, tt) (ap word to) walks))))))))

  pub makes_sum : Makes call.host n routine.Concat (a ∷ b ∷ []) w w (string_block (x ++ y))
  makes_sum =
      makes call (entry a b) n 95 (24 * m + 24 * length y + 95) (4 + space) w (string_block (x ++ y)) (omega arith)
      (omega arith)
      sum_room (λ much inside. sum_full inside much) (λ fits inside. sum_body inside fits)
